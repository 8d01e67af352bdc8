-- Which procedures get a receiver.
use Rattle.std.proofs.Common.{◌≡◌, refl, ap, ◌∙◌, arith, ℕ, zero, suc, ◌+◌, ◌<◌, Bool, true, List, [], ◌∷◌, length, Some, slice_get}
use Rattle.vg_core.specs.declared.program.Method.{Method}
use Rattle.vg_core.specs.declared.program.Owner.{Owner}
use Rattle.vg_core.specs.declared.program.Owner.TheVariants.{InClass, InComponent}
use Rattle.vg_pack_code.specs.Plans.{holds}
use Rattle.vg_pack_calls.specs.Receivers.{gets, receivers_from}

-- what stands at a place of a list
pub slot_there : {A : Type 0} (xs : List A) (i : ℕ) → i < length xs → (x : A) × (slice_get xs i ≡ Some x)
slot_there [] i lt = absurd (omega (arith, lt))
slot_there (x ∷ xs) zero lt = (x, refl)
slot_there (x ∷ xs) (suc i) lt = slot_there xs i (omega (arith, lt))

module _ (bindable : List Bool) where
  gets_at : (at : ℕ) (ys : List Method) (m : ℕ) (y : Method) → slice_get ys m ≡ Some y
      → holds (slice_get (receivers_from bindable at ys) m) ≡ gets bindable (m + at) y.owner
  gets_at at [] m y e = absurd (grind (arith, e))
  gets_at at (z ∷ ys) zero y e =
      let q : z ≡ y = cc in ap (λ w. gets bindable at w.owner) q ∙ ap (λ i. gets bindable i y.owner) (omega arith)
  gets_at at (z ∷ ys) (suc m) y e = gets_at (suc at) ys m y e ∙ ap (λ i. gets bindable i y.owner) (omega arith)

  pub of_class : (ys : List Method) (m c : ℕ) (y : Method) → slice_get ys m ≡ Some y → y.owner ≡ InClass c
      → holds (slice_get (receivers_from bindable 0 ys) m) ≡ true
  of_class ys m c y e o = gets_at 0 ys m y e ∙ ap (gets bindable (m + 0)) o

  held : (m : ℕ) (o : Owner) → holds (slice_get bindable m) ≡ true → gets bindable (m + 0) o ≡ true
  held m (InClass c) h = refl
  held m (InComponent k) h = let z : m + 0 ≡ m = omega arith in ap (λ i. holds (slice_get bindable i)) z ∙ h

  pub of_bindable : (ys : List Method) (m : ℕ) → m < length ys → holds (slice_get bindable m) ≡ true
      → holds (slice_get (receivers_from bindable 0 ys) m) ≡ true
  of_bindable ys m lt h = let y = slot_there ys m lt in gets_at 0 ys m y.0 y.1 ∙ held m y.0.owner h
