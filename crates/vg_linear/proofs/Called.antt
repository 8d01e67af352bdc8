-- Each procedure is called as it wants to be.
use Rattle.std.proofs.Common.{◌≡◌, refl, sym, ap, ◌∙◌, arith, ℕ, zero, suc, ◌+◌, ◌≤◌, Bool, true, false, List, [], ◌∷◌, length, map, replicate, take}
use Rattle.std.proofs.Common.{if◌then◌else◌}
use Rattle.std.specs.List.{AllByRecursion}
use Rattle.vg_firm.specs.declared.procedure.Procedure.{Procedure}
use Rattle.vg_firm.specs.Held.{procedure_of}
use Rattle.vg_lin.specs.Sound.{IsWidth}
use Rattle.vg_flatten_shapes.specs.declared.layout.Width.TheVariants.{Four}
use Rattle.vg_flatten_shapes.specs.Widths.{bytes_of, all_bytes, result_bytes}
use Rattle.vg_flatten.specs.Flattened.{receivers, with_receiver_width, widened, IsPassing}
use Rattle.vg_linear.specs.Passing.{width_for, result_for, passing_as, passing_for}
use Rattle.vg_linear.specs.Widths.{HasWidths}

width_back : (w : ℕ) → IsWidth w → bytes_of (width_for w) ≡ w
width_back zero h = absurd (omega (arith, h.0))
width_back (suc zero) h = refl
width_back (suc (suc zero)) h = refl
width_back (suc (suc (suc zero))) h = refl
width_back (suc (suc (suc (suc zero)))) h = refl
width_back (suc (suc (suc (suc (suc w))))) h = absurd (omega (arith, h.1))

result_back : (w : ℕ) → w ≤ 4 → result_bytes (result_for w) ≡ w
result_back zero h = refl
result_back (suc zero) h = refl
result_back (suc (suc zero)) h = refl
result_back (suc (suc (suc zero))) h = refl
result_back (suc (suc (suc (suc zero)))) h = refl
result_back (suc (suc (suc (suc (suc w))))) h = absurd (omega (arith, h))

widths_back : (n : ℕ) (ws : List ℕ) → AllByRecursion IsWidth ws → all_bytes (map width_for (take n ws)) ≡ take n ws
widths_back zero ws h = refl
widths_back (suc n) [] h = refl
widths_back (suc n) (w ∷ ws) (hw, h) = ap (λ z. z ∷ all_bytes (map width_for (take n ws))) (width_back w hw) ∙ ap (λ z. w ∷ z) (widths_back n ws h)

four_each : (n : ℕ) → all_bytes (replicate n Four) ≡ replicate n 4
four_each zero = refl
four_each (suc n) = ap (λ z. 4 ∷ z) (four_each n)

widened_front : (n : ℕ) (ws : List ℕ) → n ≤ length ws → take n (widened n ws) ≡ replicate n 4
widened_front zero ws h = refl
widened_front (suc n) [] h = absurd (omega (arith, h))
widened_front (suc n) (w ∷ ws) h = ap (λ z. 4 ∷ z) (widened_front n ws (omega (arith, h)))

module _ (m : Procedure) (has : HasWidths m) where
  widths_are : (b : Bool) → all_bytes (passing_as b m).widths
      ≡ take (receivers b + m.params) (with_receiver_width b (widened (if b then m.params else 0) m.widths))
  widths_are true =
      let one : suc m.params ≡ 1 + m.params = omega arith in
      ap (λ z. 2 ∷ z) (four_each m.params ∙ sym (widened_front m.params m.widths has.params))
      ∙ ap (λ z. take z (2 ∷ widened m.params m.widths)) one
  widths_are false =
      let none : m.params ≡ 0 + m.params = omega arith in
      widths_back m.params m.widths has.widths ∙ ap (λ z. take z m.widths) none

  receives_is : (b : Bool) → (passing_as b m).receives ≡ b
  receives_is true = refl
  receives_is false = refl

  result_is : (b : Bool) → result_bytes (passing_as b m).result ≡ (if b then 4 else m.result)
  result_is true = refl
  result_is false = result_back m.result has.result

  pub is_passing : IsPassing (procedure_of m) (passing_for m)
  is_passing = record { receives = receives_is m.receives; widths = widths_are m.receives; result = result_is m.receives }
