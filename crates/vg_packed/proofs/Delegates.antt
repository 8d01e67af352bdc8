-- Delegates are of methods that are there.
use Rattle.std.proofs.Common.{◌≡◌, ◌⊎◌, refl, sym, ap, subst, ◌∙◌, arith, ℕ, zero, suc, ◌<◌, Bool, true, false, List, [], ◌∷◌, ◌++◌, length}
use Rattle.std.proofs.Common.{Option, Some, None, slice_get, if◌then◌else◌}
use Rattle.std.proofs.lemmas.Option.{slice_get_within}
use mathlib.Core.Logic.{inl, inr}
use Rattle.vg_meaning.specs.Code.{Code, Nothing, Then, Do, If, Loop, Break, Continue, Return}
use Rattle.vg_meaning.specs.Shapes.{Fits}
use Rattle.vg_core.specs.declared.types.CoreType.{CoreType}
use Rattle.vg_core.specs.declared.value.CoreValue.TheVariants.{Bound}
use Rattle.vg_core.specs.declared.heap.Heap.{Heap}
use Rattle.vg_core.specs.declared.member.Member.TheVariants.{Method}
use Rattle.vg_core.specs.declared.program.Method.{Method as TheMethod}
use Rattle.vg_core.specs.declared.program.Owner.{Owner}
use Rattle.vg_core.specs.declared.program.Tables.{Tables}
use Rattle.vg_core.specs.declared.program.Target.TheVariants.{Run}
use Rattle.vg_core.specs.declared.step.Step.{Step}
use Rattle.vg_core.specs.declared.step.Step.TheVariants.{ComponentMethod}
use Rattle.vg_core.specs.Heap.{Kind}
use Rattle.vg_core.specs.Program.{Body, Program, Signature, method_signature}
use Rattle.vg_core.specs.Tables.{has_selector, find_selector, methods_in}
use Rattle.vg_core.specs.Typing.{Takes, known, locals_of, TypedBody, WellTyped, t_component_method}
use Rattle.vg_sound.specs.Good.{TypedHeap}
use Rattle.vg_live.specs.declared.live_set.LiveSet.{LiveSet}
use Rattle.vg_live.specs.Rules.{Live}
use Rattle.vg_live.specs.Sets.{IsLiveSet}
use Rattle.vg_live.specs.Uses.{uses, steps_in}
use Rattle.vg_packed.specs.Uses.{Has, HasDelegates, of_component, of_object, held}
use Rattle.vg_packed.proofs.There.{value_typed, delegate_there}
use Rattle.vg_packed.proofs.Receivers.{slot_there}
use Rattle.vg_packed.proofs.Cells.{reason_there}

-- ---- a step of typed code is typed

one_of_both : (xs ys : List Step) (i : ℕ) (s : Step) → slice_get (xs ++ ys) i ≡ Some s
    → ((j : ℕ) × (slice_get xs j ≡ Some s)) ⊎ ((j : ℕ) × (slice_get ys j ≡ Some s))
one_of_both [] ys i s e = inr (i, e)
one_of_both (x ∷ xs) ys zero s e = inl (0, e)
one_of_both (x ∷ xs) ys (suc i) s e = by (one_of_both xs ys i s e)
  where
    by : ((j : ℕ) × (slice_get xs j ≡ Some s)) ⊎ ((j : ℕ) × (slice_get ys j ≡ Some s))
        → ((j : ℕ) × (slice_get (x ∷ xs) j ≡ Some s)) ⊎ ((j : ℕ) × (slice_get ys j ≡ Some s))
    by (inl (j, h)) = inl (suc j, h)
    by (inr h) = inr h

module _ (p : Tables) (ts : List CoreType) (o : Owner) (r : CoreType) where
  abbrev Taken : Step → Type 0
  Taken s = (x y : List CoreType) × Takes p ts o s x y

  abbrev Stands : List Step → Step → Type 0
  Stands ss s = (i : ℕ) × (slice_get ss i ≡ Some s)

  either : (s : Step) (ss us : List Step) → (Stands ss s → Taken s) → (Stands us s → Taken s) → Stands ss s ⊎ Stands us s → Taken s
  either s ss us f g (inl a) = f a
  either s ss us f g (inr b) = g b

  pub taken : (looped : Bool) (c : Code Step) (x y : List CoreType) → Fits (known p ts o r) looped c x y → (s : Step) → Stands (uses c) s → Taken s
  taken looped Nothing x y h s (i, e) = absurd (grind (arith, e))
  taken looped (Then a b) x y (z, u, v) s (i, e) =
      either s (uses a) (uses b) (taken looped a x z u s) (taken looped b z y v s) (one_of_both (uses a) (uses b) i s e)
  taken looped (Do t) x y h s (zero, e) = let q : t ≡ s = cc in (x, y, subst (λ w. Takes p ts o w x y) q h)
  taken looped (Do t) x y h s (suc i, e) = absurd (grind (arith, e))
  taken looped (If a b) x y (z, truth, u, v) s (i, e) =
      either s (uses a) (uses b) (taken looped a z y u s) (taken looped b z y v s) (one_of_both (uses a) (uses b) i s e)
  taken looped (Loop a b c) x y (ex, ey, z, u, truth, v, w) s (i, e) =
      either s (uses a ++ uses b) (uses c)
      (λ st. either s (uses a) (uses b) (taken looped a [] z u s) (taken true b [] [] v s) (one_of_both (uses a) (uses b) st.0 s st.1))
      (taken looped c [] [] w s)
      (one_of_both (uses a ++ uses b) (uses c) i s e)
  taken looped Break x y h s (i, e) = absurd (grind (arith, e))
  taken looped Continue x y h s (i, e) = absurd (grind (arith, e))
  taken looped Return x y h s (i, e) = absurd (grind (arith, e))

-- ---- methods that are there

found_there : (p : Tables) (ms : List ℕ) (s m : ℕ) → find_selector p ms s ≡ Some m → m < length p.methods
found_there p [] s m e = absurd (let clash : None ≡ Some m = e in cc)
found_there p (n ∷ ms) s m e = by (has_selector (slice_get p.methods n) s) refl e (found_there p ms s m)
  where
    there : (q : Option TheMethod) → slice_get p.methods n ≡ q → has_selector q s ≡ true → n < length p.methods
    there None h g = absurd (let clash : false ≡ true = g in cc)
    there (Some y) h g = slice_get_within p.methods n y h

    by : (b : Bool) → has_selector (slice_get p.methods n) s ≡ b → (if b then Some n else find_selector p ms s) ≡ Some m
        → (find_selector p ms s ≡ Some m → m < length p.methods) → m < length p.methods
    by true h g again = let q : n ≡ m = cc in subst (λ z. z < length p.methods) q (there (slice_get p.methods n) refl h)
    by false h g again = again g

named_there : (p : Tables) (ts : List CoreType) (o : Owner) (m : ℕ) (x y : List CoreType) → Takes p ts o (ComponentMethod m) x y → m < length p.methods
named_there p ts o m _ _ (t_component_method y e eo ef) = slice_get_within p.methods m y e

abbrev pub signature : TheMethod → Signature
signature y = record { owner = y.owner; params = y.params; result = y.result }

module _ (p : Program) (good : WellTyped p) (h : Heap) (κ : List Kind) (typed : TypedHeap p.tables κ h) (s : LiveSet) (set : IsLiveSet p h s) where
  -- a live method is there
  pub method_there : (m : ℕ) → Live p h (Some (Method m)) → (y : TheMethod) × (slice_get p.tables.methods m ≡ Some y)
  method_there m l =
      let r = set.all (Method m) l in let lt = reason_there s.methods m r.0 r.1 in let e = set.methods in
      slot_there p.tables.methods m (omega (arith, lt, e))

  -- a step of a live method is typed
  step_named : (m n : ℕ) → Has p h m (ComponentMethod n) → n < length p.tables.methods
  step_named m n has = by (method_there m has.live)
    where
      in_body : (y : TheMethod) → ((b : Body) × (slice_get p.methods m ≡ Some b) × TypedBody p.tables (signature y) b) → n < length p.tables.methods
      in_body y (b, eb, t) =
          let k = taken p.tables (locals_of (signature y) b) y.owner y.result false b.code [] [] t (ComponentMethod n)
          (has.place, sym (ap (λ o. slice_get (steps_in o) has.place) eb) ∙ has.stands) in
          named_there p.tables (locals_of (signature y) b) y.owner n k.0 k.1 k.2

      by : (y : TheMethod) × (slice_get p.tables.methods m ≡ Some y) → n < length p.tables.methods
      by (y, ey) = in_body y (good.bodies (Run m) (signature y) (ap method_signature ey))

  pub delegates_there : (m : ℕ) → HasDelegates p h m → m < length p.tables.methods
  delegates_there n (of_component m has) = step_named m n has
  delegates_there n (of_object m at c sel has finds) =
      found_there p.tables (methods_in (slice_get p.tables.classes finds.class)) sel n finds.finds
  delegates_there n (held x receiver a b e) =
      let t = value_typed p.tables good.tables κ h typed x (Bound receiver n) e in (delegate_there p.tables κ receiver n t.0 t.1).0
