-- The steps of live methods, and what they name.
use Rattle.std.proofs.Common.{◌≡◌, ◌⊎◌, refl, sym, ap, subst, ◌∙◌, arith, ℕ, zero, suc, ◌+◌, ◌==◌, ◌&&◌, nat_lt, Bool, true, false, List, [], ◌∷◌, ◌++◌}
use Rattle.std.proofs.Common.{is_some, map, option_map, Option, Some, None, slice_get, if◌then◌else◌}
use Rattle.std.proofs.lemmas.Option.{same_Some, none-some, slice_get-map}
use mathlib.Core.Logic.{inl, inr}
use Rattle.vg_codes.specs.declared.case.Case.{Case}
use Rattle.vg_core.specs.declared.program.Method.{Method}
use Rattle.vg_core.specs.declared.program.Tables.{Tables}
use Rattle.vg_core.specs.declared.step.Step.{Step}
use Rattle.vg_core.specs.Program.{Program}
use Rattle.vg_firm.specs.Session.{is_among}
use Rattle.vg_live.specs.declared.live_set.Reason.{Reason}
use Rattle.vg_live.specs.Sets.{flat}
use Rattle.vg_live.specs.Uses.{steps_of}
use Rattle.vg_number.specs.Numbering.{has_reason}
use Rattle.vg_pack_calls.specs.Asked.{steps_if, steps_from}
use Rattle.vg_pack_code.specs.declared.plan.Plan.{Plan}
use Rattle.vg_pack_code.specs.Plans.{holds, row_in}
use Rattle.vg_plan_uses.specs.Binding.{is_bound, named_by, named}
use Rattle.vg_plan_uses.specs.Calling.{delegates, called_by, called, edges_from}
use Rattle.vg_plan_uses.specs.Sets.{one_of, with_all}
use Rattle.vg_plan_laws.proofs.Among.{split, in_left, in_right, one_is, with_split}

no_clash : {A : Type 0} → false ≡ true → A
no_clash e = absurd (grind (arith, e))

-- ---- steps of live methods

-- a step among those of live methods stands in one
pub step_in : (p : Program) (m : ℕ) (rs : List (Option Reason)) (i : ℕ) (s : Step) → slice_get (steps_from p m rs) i ≡ Some s
    → (k j : ℕ) × (has_reason rs k ≡ true) × (slice_get (steps_of p (k + m)) j ≡ Some s)
step_in p m [] i s e = absurd (none-some s e)
step_in p m (r ∷ rs) i s e = by (has_reason (r ∷ rs) 0) refl (λ j q. step_in p (suc m) rs j s q) e
  where
    Rest : Type 0
    Rest = (i : ℕ) → slice_get (steps_from p (suc m) rs) i ≡ Some s
        → (k j : ℕ) × (has_reason rs k ≡ true) × (slice_get (steps_of p (k + suc m)) j ≡ Some s)

    later : Rest → (j : ℕ) → slice_get (steps_from p (suc m) rs) j ≡ Some s
        → (k j : ℕ) × (has_reason (r ∷ rs) k ≡ true) × (slice_get (steps_of p (k + m)) j ≡ Some s)
    later rest j q =
        let w = rest j q in let z : w.0 + suc m ≡ suc w.0 + m = omega arith in
        (suc w.0, w.1, w.2, ap (λ n. slice_get (steps_of p n) w.1) (sym z) ∙ w.3)

    among : (xs ys : List Step) (i : ℕ) → slice_get (xs ++ ys) i ≡ Some s
        → ((j : ℕ) × (slice_get xs j ≡ Some s)) ⊎ ((j : ℕ) × (slice_get ys j ≡ Some s))
    among [] ys i q = inr (i, q)
    among (x ∷ xs) ys zero q = inl (0, q)
    among (x ∷ xs) ys (suc i) q = next (among xs ys i q)
      where
        next : ((j : ℕ) × (slice_get xs j ≡ Some s)) ⊎ ((j : ℕ) × (slice_get ys j ≡ Some s))
            → ((j : ℕ) × (slice_get (x ∷ xs) j ≡ Some s)) ⊎ ((j : ℕ) × (slice_get ys j ≡ Some s))
        next (inl (j, w)) = inl (suc j, w)
        next (inr w) = inr w

    by : (b : Bool) → has_reason (r ∷ rs) 0 ≡ b → Rest → slice_get (steps_if p b m ++ steps_from p (suc m) rs) i ≡ Some s
        → (k j : ℕ) × (has_reason (r ∷ rs) k ≡ true) × (slice_get (steps_of p (k + m)) j ≡ Some s)
    by false q rest t = later rest i t
    by true q rest t = here (among (steps_of p m) (steps_from p (suc m) rs) i t)
      where
        here : ((j : ℕ) × (slice_get (steps_of p m) j ≡ Some s)) ⊎ ((j : ℕ) × (slice_get (steps_from p (suc m) rs) j ≡ Some s))
            → (k j : ℕ) × (has_reason (r ∷ rs) k ≡ true) × (slice_get (steps_of p (k + m)) j ≡ Some s)
        here (inl (j, w)) = let z : m ≡ 0 + m = omega arith in (0, j, q, ap (λ n. slice_get (steps_of p n) j) (sym z) ∙ w)
        here (inr (j, w)) = later rest j w

in_front : (xs ys : List Step) (j : ℕ) (s : Step) → slice_get xs j ≡ Some s → slice_get (xs ++ ys) j ≡ Some s
in_front [] ys j s e = absurd (none-some s e)
in_front (x ∷ xs) ys zero s e = e
in_front (x ∷ xs) ys (suc j) s e = in_front xs ys j s e

behind : (xs ys : List Step) (i : ℕ) (s : Step) → slice_get ys i ≡ Some s → (j : ℕ) × (slice_get (xs ++ ys) j ≡ Some s)
behind [] ys i s e = (i, e)
behind (x ∷ xs) ys i s e = let r = behind xs ys i s e in (suc r.0, r.1)

-- a step of a live method is among those of all
pub step_out : (p : Program) (m : ℕ) (rs : List (Option Reason)) (k j : ℕ) (s : Step) → has_reason rs k ≡ true → slice_get (steps_of p (k + m)) j ≡ Some s
    → (i : ℕ) × (slice_get (steps_from p m rs) i ≡ Some s)
step_out p m [] k j s l e = no_clash l
step_out p m (r ∷ rs) zero j s l e =
    let z : 0 + m ≡ m = omega arith in
    let a = in_front (steps_of p m) (steps_from p (suc m) rs) j s (subst (λ w. slice_get (steps_of p w) j ≡ Some s) z e) in
    (j, ap (λ b. slice_get (steps_if p b m ++ steps_from p (suc m) rs) j) l ∙ a)
step_out p m (r ∷ rs) (suc k) j s l e =
    let z : suc k + m ≡ k + suc m = omega arith in
    let w = step_out p (suc m) rs k j s l (subst (λ v. slice_get (steps_of p v) j ≡ Some s) z e) in
    behind (steps_if p (is_some r) m) (steps_from p (suc m) rs) w.0 s w.1

-- ---- what is named

pub named_split : (x : Plan) (ds : List (List Case)) (ss : List Step) (q : ℕ) → is_among (named x ds ss) q ≡ true
    → (i : ℕ) × (s : Step) × (slice_get ss i ≡ Some s) × (is_among (named_by x ds s) q ≡ true)
named_split x ds [] q e = no_clash e
named_split x ds (s ∷ ss) q e = by (named_split x ds ss q) (split (named_by x ds s) (named x ds ss) q e)
  where
    by : (is_among (named x ds ss) q ≡ true → (i : ℕ) × (z : Step) × (slice_get ss i ≡ Some z) × (is_among (named_by x ds z) q ≡ true))
        → (is_among (named_by x ds s) q ≡ true) ⊎ (is_among (named x ds ss) q ≡ true)
        → (i : ℕ) × (z : Step) × (slice_get (s ∷ ss) i ≡ Some z) × (is_among (named_by x ds z) q ≡ true)
    by rest (inl t) = (0, s, refl, t)
    by rest (inr t) = let r = rest t in (suc r.0, r.1, r.2, r.3)

pub named_join : (x : Plan) (ds : List (List Case)) (ss : List Step) (i : ℕ) (s : Step) (q : ℕ) → slice_get ss i ≡ Some s
    → is_among (named_by x ds s) q ≡ true → is_among (named x ds ss) q ≡ true
named_join x ds [] i s q e t = absurd (none-some s e)
named_join x ds (z ∷ ss) zero s q e t =
    in_left (named_by x ds z) (named x ds ss) q (subst (λ w. is_among (named_by x ds w) q ≡ true) (sym (same_Some z s e)) t)
named_join x ds (z ∷ ss) (suc i) s q e t = in_right (named_by x ds z) (named x ds ss) q (named_join x ds ss i s q e t)

-- a method is bindable where its procedure is in the set
pub bound_split : (room : ℕ) (qs : List ℕ) (procedures : List (Option ℕ)) (m : ℕ) → holds (slice_get (map (is_bound room qs) procedures) m) ≡ true
    → (q : ℕ) × (flat (slice_get procedures m) ≡ Some q) × (is_among qs q ≡ true)
bound_split room qs procedures m e = by (slice_get procedures m) refl (ap holds (sym (slice_get-map (is_bound room qs) procedures m)) ∙ e)
  where
    both : (x y : Bool) → (x && y) ≡ true → y ≡ true
    both true y t = t
    both false y t = no_clash t

    by : (o : Option (Option ℕ)) → slice_get procedures m ≡ o → holds (option_map (is_bound room qs) o) ≡ true
        → (q : ℕ) × (flat (slice_get procedures m) ≡ Some q) × (is_among qs q ≡ true)
    by None eo t = no_clash t
    by (Some None) eo t = no_clash t
    by (Some (Some q)) eo t = (q, ap flat eo, both (nat_lt q room) (is_among qs q) t)

-- ---- what is called

pub called_split : (p : Tables) (x : Plan) (ds : List (List Case)) (ss : List Step) (q : ℕ) → is_among (called p x ds ss) q ≡ true
    → (i : ℕ) × (s : Step) × (slice_get ss i ≡ Some s) × (is_among (called_by p x ds s) q ≡ true)
called_split p x ds [] q e = no_clash e
called_split p x ds (s ∷ ss) q e = by (called_split p x ds ss q) (split (called_by p x ds s) (called p x ds ss) q e)
  where
    by : (is_among (called p x ds ss) q ≡ true → (i : ℕ) × (z : Step) × (slice_get ss i ≡ Some z) × (is_among (called_by p x ds z) q ≡ true))
        → (is_among (called_by p x ds s) q ≡ true) ⊎ (is_among (called p x ds ss) q ≡ true)
        → (i : ℕ) × (z : Step) × (slice_get (s ∷ ss) i ≡ Some z) × (is_among (called_by p x ds z) q ≡ true)
    by rest (inl t) = (0, s, refl, t)
    by rest (inr t) = let r = rest t in (suc r.0, r.1, r.2, r.3)

-- a procedure that a method may call is one that a step of it calls, where the method is live
pub edge_split : (p : Program) (x : Plan) (ds : List (List Case)) (room : ℕ) (live : List (Option Reason)) (m : ℕ) (ms : List Method) (i q : ℕ)
    → is_among (row_in (slice_get (edges_from p x ds room live m ms) i)) q ≡ true
    → (has_reason live (i + m) ≡ true) × (is_among (called p.tables x ds (steps_of p (i + m))) q ≡ true)
edge_split p x ds room live m [] i q e = no_clash e
edge_split p x ds room live m (y ∷ ys) zero q e =
    let z : m ≡ 0 + m = omega arith in
    subst (λ w. (has_reason live w ≡ true) × (is_among (called p.tables x ds (steps_of p w)) q ≡ true)) z (by (has_reason live m) refl e)
  where
    among : (is_among [] q ≡ true) ⊎ (is_among (called p.tables x ds (steps_of p m)) q ≡ true) → is_among (called p.tables x ds (steps_of p m)) q ≡ true
    among (inl t) = no_clash t
    among (inr t) = t

    by : (b : Bool) → has_reason live m ≡ b → is_among (if b then with_all room [] (called p.tables x ds (steps_of p m)) else []) q ≡ true
        → (has_reason live m ≡ true) × (is_among (called p.tables x ds (steps_of p m)) q ≡ true)
    by true l t = (l, among (with_split room [] (called p.tables x ds (steps_of p m)) q t))
    by false l t = no_clash t
edge_split p x ds room live m (y ∷ ys) (suc i) q e =
    let z : i + suc m ≡ suc i + m = omega arith in
    subst (λ w. (has_reason live w ≡ true) × (is_among (called p.tables x ds (steps_of p w)) q ≡ true)) z (edge_split p x ds room live (suc m) ys i q e)

-- a method of a function type that delegates may be of
pub record IsDelegate (x : Plan) (t q : ℕ) (ms : List Method) (m : ℕ) : Type 0 where
  pub place : ℕ
  pub method : Method
  pub there : slice_get ms place ≡ Some method
  pub bindable : holds (slice_get x.bindable (place + m)) ≡ true
  pub type_ : method.function ≡ t
  pub procedure : flat (slice_get x.procedures (place + m)) ≡ Some q

pub delegate_split : (x : Plan) (t q m : ℕ) (ms : List Method) → is_among (delegates x t m ms) q ≡ true → IsDelegate x t q ms m
delegate_split x t q m [] e = no_clash e
delegate_split x t q m (y ∷ ys) e =
    by (delegate_split x t q (suc m) ys) (split (if holds (slice_get x.bindable m) && (y.function == t) then one_of (flat (slice_get x.procedures m)) else []) _ q e)
  where
    at_zero : m ≡ 0 + m
    at_zero = omega arith

    here : (a b : Bool) → holds (slice_get x.bindable m) ≡ a → (y.function == t) ≡ b
        → is_among (if a && b then one_of (flat (slice_get x.procedures m)) else []) q ≡ true → IsDelegate x t q (y ∷ ys) m
    here true true ea eb u = let same : y.function ≡ t = grind (arith, eb) in record {
      place = 0;
      method = y;
      there = refl;
      bindable = subst (λ w. holds (slice_get x.bindable w) ≡ true) at_zero ea;
      type_ = same;
      procedure = subst (λ w. flat (slice_get x.procedures w) ≡ Some q) at_zero (one_is (flat (slice_get x.procedures m)) q u);
    }
    here true false ea eb u = no_clash u
    here false b ea eb u = no_clash u

    by : (is_among (delegates x t (suc m) ys) q ≡ true → IsDelegate x t q ys (suc m))
        → (is_among (if holds (slice_get x.bindable m) && (y.function == t) then one_of (flat (slice_get x.procedures m)) else []) q ≡ true)
        ⊎ (is_among (delegates x t (suc m) ys) q ≡ true) → IsDelegate x t q (y ∷ ys) m
    by rest (inl u) = here (holds (slice_get x.bindable m)) (y.function == t) refl refl u
    by rest (inr u) =
        let r = rest u in
        let z : r.place + suc m ≡ suc r.place + m = omega arith in
        record {
          place = suc r.place;
          method = r.method;
          there = r.there;
          bindable = subst (λ w. holds (slice_get x.bindable w) ≡ true) z r.bindable;
          type_ = r.type_;
          procedure = subst (λ w. flat (slice_get x.procedures w) ≡ Some q) z r.procedure;
        }
