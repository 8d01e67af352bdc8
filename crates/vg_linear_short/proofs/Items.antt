-- That none of the procedures is refused or too long.
use Rattle.std.specs.Prelude.{ℕ, zero, suc, ◌+◌, ◌-◌, ◌*◌, ◌<◌, ◌≤◌, List, [], ◌∷◌, length, Some, slice_get}
use Rattle.std.specs.List.{AllByRecursion, AllZip}
use Rattle.std.proofs.Common.{◌≡◌, refl, subst, arith}
use Rattle.std.proofs.lemmas.Option.{same_Some, none-some}
use Rattle.vg_base.specs.declared.refusal.Refusal.{Refusal}
use Rattle.vg_base.specs.declared.refusal.Refusal.TheVariants.{Fault as Faulty, NoMemory as OutOfMemory}
use Rattle.vg_firm.specs.Program.{Procedure as FirmProcedure}
use Rattle.vg_lin.specs.Program.{Procedure}
use Rattle.vg_flatten_shapes.specs.declared.fault.Fault.{Fault}
use Rattle.vg_flatten_shapes.specs.declared.layout.Layout.{Layout}
use Rattle.vg_flatten.specs.Flattened.{IsFlat}
use Rattle.vg_flat_sizes.specs.Weights.{flat_weight}
use Rattle.vg_flat_weights.proofs.Whole.{procedure_short}
use Rattle.vg_flat_short.proofs.Short.{only_memory}
use Rattle.vg_linear.specs.Flats.{AreAllFlat, IsOneRefused}
use Rattle.vg_linear.specs.Expanded.{IsOneTooLong}
use Rattle.vg_linear_short.specs.Short.{IsShort}

-- each of all
item_of : {A : Type 0} (P : A → Type 0) (xs : List A) (i : ℕ) (x : A) → AllByRecursion P xs → slice_get xs i ≡ Some x → P x
item_of P [] i x a e = absurd (none-some x e)
item_of P (y ∷ xs) zero x (h, a) e = subst P (same_Some y x e) h
item_of P (y ∷ xs) (suc i) x (h, a) e = item_of P xs i x a e

-- what an item was made of
made_from : {A B : Type 0} (R : A → B → Type 0) (xs : List A) (ys : List B) → AllZip R xs ys → (i : ℕ) (y : B) → slice_get ys i ≡ Some y
    → (x : A) × (slice_get xs i ≡ Some x) × R x y
made_from R xs [] a i y e = absurd (none-some y e)
made_from R [] (z ∷ ys) a i y e = absurd a
made_from R (x ∷ xs) (z ∷ ys) (h, a) zero y e = (x, refl, subst (R x) (same_Some z y e) h)
made_from R (x ∷ xs) (z ∷ ys) (h, a) (suc i) y e = made_from R xs ys a i y e

abbrev IsFaulty : Refusal Fault → Type 0
IsFaulty (Faulty why) = Unit {0}
IsFaulty OutOfMemory = ⊥

module _ (lay : Layout) (ms : List FirmProcedure) (all : AllByRecursion (IsShort lay) ms) where
  pub none_refused : (why : Fault) → IsOneRefused why lay ms → ⊥
  none_refused why r = subst IsFaulty (only_memory lay r.procedure room (Faulty why) s.typed r.cause) tt
    where
      s : IsShort lay r.procedure
      s = item_of (IsShort lay) ms r.number r.procedure all r.there

      room : length r.procedure.widths - r.procedure.params + flat_weight r.procedure.body + 1 ≤ 65519
      room = let h = s.short in omega (arith, h)

  short_by : (p : Procedure) → (m : FirmProcedure) × IsShort lay m × IsFlat lay m p → 65535 < 2 * length p.code → ⊥
  short_by p (m, s, f) long = let h = procedure_short lay m p f in let r = s.short in omega (arith, h, r, long)

  pub none_long : (flats : List Procedure) → AreAllFlat lay ms flats → IsOneTooLong flats → ⊥
  none_long flats f l = short_by l.procedure (from (made_from (IsFlat lay) ms flats f l.number l.procedure l.there)) l.long
    where
      from : (m : FirmProcedure) × (slice_get ms l.number ≡ Some m) × IsFlat lay m l.procedure
          → (m : FirmProcedure) × IsShort lay m × IsFlat lay m l.procedure
      from (m, e, g) = (m, item_of (IsShort lay) ms l.number m all e, g)
