-- What waits behind an instruction, where the newest value is the last of a list; and what is done with so many instructions.
use Rattle.std.specs.Prelude.{ℕ, zero, suc, ◌+◌, ◌-◌, ◌<◌, ◌≤◌, nat_le, Bool, true, false, List, [], ◌∷◌, ◌++◌, length, take, drop, reverse, slice_get, Option, None}
use Rattle.std.proofs.Common.{◌≡◌, refl, sym, ap, ◌∙◌, subst, arith}
use Rattle.std.proofs.lemmas.List.{reverse-append, length-reverse, take-append-drop, length-drop, append_assoc, append-nil}
use Rattle.std.proofs.Math.ListN.{drop_of_length-le}
use Rattle.std.proofs.Math.Seq.{drop-append_seam}
use Rattle.avr_instr.specs.declared.instr.Instr.{Instr as Avr}
use Rattle.avr_isa.specs.Standing.{widths}
use Rattle.avr_isa.proofs.Standing.{widths-append}
use Rattle.vg_lin.specs.declared.instr.Instr.{Instr}
use Rattle.vg_lin.specs.Program.{Program}
use Rattle.vg_lin.specs.Sound.{behind, waits_in}
use Rattle.vg_templates.specs.Layouts.{Layout}
use Rattle.vg_select.specs.Selected.{Leading}
use Rattle.vg_put_procedures.specs.Emitted.{code_of, behind_at, code_at, code_upto, place_of, places_upto}

pub newest : (xs : List ℕ) (x : ℕ) → reverse (xs ++ x ∷ []) ≡ x ∷ reverse xs
newest xs x = reverse-append xs (x ∷ [])

-- Where a list is cut, its newest values are dropped.
pub kept : (xs : List ℕ) (n : ℕ) → reverse (take (length xs - n) xs) ≡ drop n (reverse xs)
kept xs n = by_test (nat_le n (length xs)) refl
  where
    m : ℕ
    m = length xs - n

    within : (a b : ℕ) → nat_le a b ≡ true → a ≤ b
    within a b e = grind arith

    beyond : (a b : ℕ) → nat_le a b ≡ false → b < a
    beyond a b e = grind arith

    parts : reverse xs ≡ reverse (drop m xs) ++ reverse (take m xs)
    parts = ap reverse (sym (take-append-drop m xs)) ∙ reverse-append (take m xs) (drop m xs)

    front : n ≤ length xs → length (reverse (drop m xs)) ≡ n
    front h = length-reverse (drop m xs) ∙ length-drop m xs ∙ omega (arith, h)

    by_test : (b : Bool) → nat_le n (length xs) ≡ b → reverse (take m xs) ≡ drop n (reverse xs)
    by_test true e =
        let f = front (within n (length xs) e) in
        sym (drop-append_seam (reverse (drop m xs)) (reverse (take m xs))) ∙ ap (λ k. drop k (reverse (drop m xs) ++ reverse (take m xs))) f
        ∙ ap (drop n) (sym parts)
    by_test false e =
        let h = beyond n (length xs) e in
        ap (λ k. reverse (take k xs)) (let z : m ≡ 0 = omega (arith, h) in z)
        ∙ sym (drop_of_length-le (reverse xs) (subst (λ k. k ≤ n) (sym (length-reverse xs)) (omega (arith, h))))

-- One instruction more.
pub waits_next : (held : List ℕ) (is : List Instr) (k : ℕ) → k < length is → waits_in held is (suc k) ≡ behind_at (slice_get is k) (waits_in held is k)
waits_next held [] k h = absurd (omega (arith, h))
waits_next held (i ∷ is) zero h = refl
waits_next held (i ∷ is) (suc k) h = waits_next (behind i held) is k (omega (arith, h))

-- What the code so far, the places, what waits and the address are, where so many instructions are done.
pub record Done (l : Layout) (p : Program) (leads : ℕ → Leading) (is : List Instr) (start : ℕ) (before : List Avr) (old : List ℕ) (k : ℕ) (code : List Avr)
    (places ws : List ℕ) (at : ℕ) : Type 0 where
  pub code_is : code ≡ before ++ code_upto l p leads is k
  pub places_are : places ≡ old ++ places_upto l p leads is start k
  pub waits_are : ws ≡ waits_in [] is k
  pub at_is : at ≡ place_of l p leads is start k

pub done_next : (l : Layout) (p : Program) (leads : ℕ → Leading) (is : List Instr) (start : ℕ) (before : List Avr) (old : List ℕ) (k : ℕ) (code code' : List Avr)
    (places places' ws ws' : List ℕ) (at at' : ℕ) (to : Leading) → k < length is → Done l p leads is start before old k code places ws at → to ≡ leads k
    → code' ≡ code ++ code_of l p ws to (slice_get is k) → places' ≡ places ++ at ∷ [] → ws' ≡ behind_at (slice_get is k) ws
    → at' ≡ at + widths (code_of l p ws to (slice_get is k)) → Done l p leads is start before old (k + 1) code' places' ws' at'
done_next l p leads is start before old k code code' places places' ws ws' at at' to h d e ec ep ew ea =
    subst (λ n. Done l p leads is start before old n code' places' ws' at') (let z : suc k ≡ k + 1 = omega arith in z) (
    record {
      code_is = ec ∙ ap (λ x. x ++ code_of l p ws to (slice_get is k)) d.code_is
          ∙ append_assoc before (code_upto l p leads is k) (code_of l p ws to (slice_get is k)) ∙ ap (λ x. before ++ (code_upto l p leads is k ++ x)) same;
      places_are = ep ∙ ap (λ x. x ++ at ∷ []) d.places_are ∙ append_assoc old (places_upto l p leads is start k) (at ∷ [])
          ∙ ap (λ x. old ++ (places_upto l p leads is start k ++ x ∷ [])) d.at_is;
      waits_are = ew ∙ ap (behind_at (slice_get is k)) d.waits_are ∙ sym (waits_next [] is k h);
      at_is = ea ∙ ap (λ x. at + widths x) same ∙ ap (λ x. x + widths (code_at l p leads is k)) d.at_is
          ∙ (let w = widths-append (code_upto l p leads is k) (code_at l p leads is k) in omega (arith, w));
    })
  where
    same : code_of l p ws to (slice_get is k) ≡ code_at l p leads is k
    same = ap (λ x. code_of l p x to (slice_get is k)) d.waits_are ∙ ap (λ x. code_of l p (waits_in [] is k) x (slice_get is k)) e

-- Behind the last instruction nothing is put.
pub none_put : (l : Layout) (p : Program) (ws : List ℕ) (to : Leading) (o : Option Instr) (xs : List Avr) → o ≡ None → xs ≡ xs ++ code_of l p ws to o
none_put l p ws to o xs e = sym (append-nil xs) ∙ ap (λ z. xs ++ code_of l p ws to z) (sym e)

pub none_behind : (o : Option Instr) (ws : List ℕ) → o ≡ None → ws ≡ behind_at o ws
none_behind o ws e = ap (λ z. behind_at z ws) (sym e)
