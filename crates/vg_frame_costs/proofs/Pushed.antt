-- What a call takes and pushes, and what its callee finds pushed.
use Rattle.std.specs.Prelude.{ℕ, ◌+◌, ◌≤◌, ◌<◌, ◌==◌, ◌&&◌, Bool, true, false, nat_le, if◌then◌else◌, List, [], ◌∷◌, ◌++◌, length, map, take, reverse}
use Rattle.std.proofs.Common.{◌≡◌, inl, inr, refl, sym, ap, ◌∙◌, arith}
use Rattle.std.proofs.lemmas.List.{length-append, length-map, length-reverse, length-take}
use Rattle.vg_lin.specs.declared.instr.Passed.{Passed}
use Rattle.vg_lin.specs.declared.instr.Call.{Call as Calling}
use Rattle.vg_lin.specs.Meaning.{operands}
use Rattle.vg_lin.specs.Program.{Procedure}
use Rattle.vg_templates.specs.Calls.{by_registers, sum_of}
use Rattle.vg_templates.specs.Flow.{goes_by_registers, passed_bytes, passed_widths, pushed_by_call, IsDivided}
use Rattle.vg_frame_costs.specs.Bytes.{bytes_of, pushed_bytes}
use Rattle.vg_frame_costs.proofs.Counted.{bytes_append, bytes_reversed}

passed_sum : (xs : List Passed) → sum_of (passed_widths xs) ≡ passed_bytes xs
passed_sum [] = refl
passed_sum (x ∷ xs) = ap (λ n. x.width + n) (passed_sum xs)

same_sum : (ws : List ℕ) → sum_of ws ≡ bytes_of ws
same_sum [] = refl
same_sum (w ∷ ws) = ap (λ n. w + n) (same_sum ws)

same_passed : (xs : List Passed) → map (λ (a : Passed). a.width) xs ≡ passed_widths xs
same_passed [] = refl
same_passed (x ∷ xs) = ap (λ ws. x.width ∷ ws) (same_passed xs)

too_many : (ws : List ℕ) → 4 < length ws → by_registers ws ≡ false
too_many ws h = let more : nat_le (length ws) 4 ≡ false = grind (arith, h) in ap (λ b. b && nat_le (sum_of ws) 8) more

module _ (p : Procedure) (call : Calling) (ws : List ℕ) (enough : call.pushed ≤ length ws) (divided : IsDivided call)
    (wide : take p.params p.widths ≡ reverse (take call.pushed ws) ++ map (λ (a : Passed). a.width) (operands call.registers)) where
  abbrev os : List Passed
  os = operands call.registers

  all_bytes : sum_of (take p.params p.widths) ≡ bytes_of (take call.pushed ws) + passed_bytes os
  all_bytes =
      let whole = same_sum (take p.params p.widths) ∙ ap bytes_of wide ∙ bytes_append (reverse (take call.pushed ws)) (map (λ (a : Passed). a.width) os) in
      let front = bytes_reversed (take call.pushed ws) in
      let back = ap bytes_of (same_passed os) ∙ sym (same_sum (passed_widths os)) ∙ passed_sum os in omega (arith, whole, front, back)

  all_counted : length (take p.params p.widths) ≡ call.pushed + length os
  all_counted =
      let whole = ap length wide ∙ length-append (reverse (take call.pushed ws)) (map (λ (a : Passed). a.width) os) in
      let front = length-reverse (take call.pushed ws) ∙ length-take call.pushed ws in
      let back = length-map os (λ (a : Passed). a.width) in omega (arith, whole, front, back, enough)

  -- where no argument waits, a call goes by registers as its callee does
  alike : call.pushed ≡ 0 → goes_by_registers call ≡ by_registers (take p.params p.widths)
  alike none =
      ap (λ n. (n == 0) && by_registers (passed_widths os)) none
      ∙ sym (ap by_registers (wide ∙ ap (λ n. reverse (take n ws) ++ map (λ (a : Passed). a.width) os) none ∙ same_passed os))

  by_way : (b : Bool) → by_registers (take p.params p.widths) ≡ b → (g : Bool) → goes_by_registers call ≡ g
      → bytes_of (take call.pushed ws) + pushed_by_call g os ≤ sum_of (take (if b then 0 else p.params) p.widths)
  by_way false e true h = let all = all_bytes in omega (arith, all)
  by_way false e false h = let all = all_bytes in omega (arith, all)
  by_way true e g h = in_registers divided g h
    where
      in_registers : IsDivided call → (g : Bool) → goes_by_registers call ≡ g → bytes_of (take call.pushed ws) + pushed_by_call g os ≤ 0
      in_registers (inl none) true h = let same = ap (λ n. bytes_of (take n ws)) none in omega (arith, same)
      in_registers (inl none) false h = absurd (let clash : false ≡ true = sym h ∙ alike none ∙ e in cc)
      in_registers (inr more) g h =
          let all = all_counted in
          absurd (let clash : true ≡ false = sym e ∙ too_many (take p.params p.widths) (omega (arith, all, more)) in cc)

  -- What a call takes of what waits, and pushes itself, its callee finds pushed.
  pub taken_within : bytes_of (take call.pushed ws) + pushed_by_call (goes_by_registers call) (operands call.registers) ≤ pushed_bytes p
  unfolding pushed_bytes
  taken_within = by_way (by_registers (take p.params p.widths)) refl (goes_by_registers call) refl
