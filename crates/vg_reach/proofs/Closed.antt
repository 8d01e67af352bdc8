-- When each marked member was looked at, what is marked is what is live.
use Rattle.std.proofs.Common.{◌≡◌, ◌↔◌, ◌⊎◌, ℕ, zero, suc, ◌+◌, ◌<◌, ◌≤◌, Bool, true, false, List, [], ◌∷◌, length, replicate, get_or, Option, Some, None, slice_get, refl, sym, ap, subst, ◌∙◌, arith, if◌then◌else◌}
use Rattle.std.proofs.lemmas.Option.{same_Some, none-some, slice_get_within, slice_get-get_or}
use Rattle.std.proofs.lemmas.List.{length-replicate}
use mathlib.Core.Logic.{inl, inr}
use Rattle.vg_core.specs.declared.member.Member.{Member}
use Rattle.vg_core.specs.declared.member.Member.TheVariants.{Method, Field, Cell}
use Rattle.vg_core.specs.declared.step.Step.{Step}
use Rattle.vg_core.specs.declared.step.Step.TheVariants.{Put, Literal, This, Local, ComponentField, Register, ComponentMethod, Apply, Operate}
use Rattle.vg_core.specs.declared.step.Step.TheVariants.{CastTo, IsBelow, Field as FieldOf, Item, Length, MethodOf, CallMethod, CallValue, CallComponent}
use Rattle.vg_core.specs.declared.step.Step.TheVariants.{NewObject, NewArray, SetLocal, SetComponentField, SetRegister, SetField, SetItem, Forget, Super}
use Rattle.vg_core.specs.declared.heap.Heap.{Heap}
use Rattle.vg_core.specs.declared.program.Class.{Class}
use Rattle.vg_core.specs.declared.program.Handler.{Handler}
use Rattle.vg_core.specs.declared.program.Tables.{Tables}
use Rattle.vg_core.specs.Program.{Program}
use Rattle.vg_core.specs.Tables.{is_below, dispatch, is_in, above_in}
use Rattle.vg_core.specs.Heap.{Place, OfComponent, OfObject, OfArray, class_in}
use Rattle.vg_live.specs.declared.live_set.Reason.{Reason}
use Rattle.vg_live.specs.declared.live_set.LiveSet.{LiveSet}
use Rattle.vg_live.specs.Uses.{steps_of, component_method, Asked, asked}
use Rattle.vg_live.specs.Rules.{Rule, main, entry, of_component, of_object, component_field, class_field, in_component, in_delegate, in_object, in_array, literal, IsThere, Live, none, by, InSet, Closed}
use Rattle.vg_live.specs.Least.{least}
use Rattle.vg_live.specs.Sets.{flat, reason_of, IsIn, IsBefore, IsReason, IsLiveSet}
use Rattle.vg_reach_index.specs.Indexed.{finds}
use Rattle.vg_reach_marks.specs.Marked.{Marked, nothing}
use Rattle.vg_reach_marks.specs.Growing.{Sound, Goes, AreIn, Draws, Drawn}
use Rattle.vg_reach_marks.proofs.Marking.{stays, goes_then, drawn_still, none_past}
use Rattle.vg_reach_marks.proofs.Order.{same_or_not}
use Rattle.vg_reach_holding.specs.declared.naming.Named.{Named}
use Rattle.vg_reach_holding.specs.Done.{named_by, StepDone, to_cell, to_kept, PlaceDone}
use Rattle.vg_reach_holding.proofs.Places.{place_still}
use Rattle.vg_reach_visits.specs.declared.seen.Work.{Work}
use Rattle.vg_reach_visits.specs.declared.seen.Seen.{Seen}
use Rattle.vg_reach_visits.specs.Visited.{first_at, FoundDone, HasFirst, HasSite, IsNew, IsSeen, Ready, Works, LookedAt, VisitedAll}
use Rattle.vg_reach_visits.proofs.Sites.{looked_still, first_still, works_then}
use Rattle.vg_reach.specs.Looking.{Rooted, Looked}

component_named : (s : Step) (n : ℕ) → component_method s ≡ Some n → named_by s ≡ Some (record { member = Method n; rule = 3 })
component_named (Put v) n e = absurd (none-some n e)
component_named (Literal k) n e = absurd (none-some n e)
component_named This n e = absurd (none-some n e)
component_named (Local k) n e = absurd (none-some n e)
component_named (ComponentField f) n e = absurd (none-some n e)
component_named (Register a) n e = absurd (none-some n e)
component_named (ComponentMethod m) n e = ap (λ z. Some (record { member = Method z; rule = 3 })) (same_Some _ n e)
component_named (Apply op t) n e = absurd (none-some n e)
component_named (Operate at op t u) n e = absurd (none-some n e)
component_named (CastTo at t u) n e = absurd (none-some n e)
component_named (IsBelow c) n e = absurd (none-some n e)
component_named (FieldOf at f) n e = absurd (none-some n e)
component_named (Item at t) n e = absurd (none-some n e)
component_named (Length at t) n e = absurd (none-some n e)
component_named (MethodOf at c s) n e = absurd (none-some n e)
component_named (CallMethod at c s count) n e = absurd (none-some n e)
component_named (CallValue at count t) n e = absurd (none-some n e)
component_named (CallComponent m count) n e = ap (λ z. Some (record { member = Method z; rule = 3 })) (same_Some _ n e)
component_named (NewObject at c count) n e = absurd (none-some n e)
component_named (NewArray at t) n e = absurd (none-some n e)
component_named (SetLocal k t) n e = absurd (none-some n e)
component_named (SetComponentField f) n e = absurd (none-some n e)
component_named (SetRegister a) n e = absurd (none-some n e)
component_named (SetField at f) n e = absurd (none-some n e)
component_named (SetItem at t) n e = absurd (none-some n e)
component_named Forget n e = absurd (none-some n e)
component_named (Super c count) n e = absurd (none-some n e)

-- ---- one more member was looked at

module _ (p : Program) (h : Heap) (v w : Work) (n : ℕ) (x : Member) (q : Sound p h v.marks) (g : Works p h v w) (here : slice_get v.marks.order n ≡ Some x) (c : VisitedAll p h v w x) (d : Looked p h v n) where
  -- a member that was looked at now was marked before, and was looked at before or is the member
  drawn : (y : Member) → IsBefore w.marks.set (n + 1) (Some y) → (IsBefore v.marks.set n (Some y) ⊎ (y ≡ x)) × IsIn v.marks.set y
  drawn y (r, e, lt) = by' (q.ordered r.rank u was) (same_or_not r.rank n)
    where
      u : Member
      u = get_or v.marks.order r.rank x

      was : slice_get v.marks.order r.rank ≡ Some u
      was = let l = slice_get_within v.marks.order n x here in slice_get-get_or v.marks.order r.rank x (omega (arith, l, lt))

      uy : u ≡ y
      uy = same_Some u y (sym (g.0.1.order r.rank u was) ∙ g.0.0.ranks y r e)

      by' : (o : Reason) × (reason_of v.marks.set u ≡ Some o) × (o.rank ≡ r.rank) → (r.rank ≡ n) ⊎ ((r.rank ≡ n) → ⊥)
          → (IsBefore v.marks.set n (Some y) ⊎ (y ≡ x)) × IsIn v.marks.set y
      by' (o, f, vr) (inl rn) =
          (inr (same_Some y x (ap Some (sym uy) ∙ (sym was ∙ (ap (slice_get v.marks.order) rn ∙ here)))), (o, ap (reason_of v.marks.set) (sym uy) ∙ f))
      by' (o, f, vr) (inr ne) =
          (inl (o, ap (reason_of v.marks.set) (sym uy) ∙ f, omega (arith, vr, lt, ne)), (o, ap (reason_of v.marks.set) (sym uy) ∙ f))

  still : (y : Place) → PlaceDone p h v.marks y → PlaceDone p h w.marks y
  still y f = place_still p h v.marks w.marks y g.0 f

  steps_more : (m i : ℕ) (s : Step) → (IsBefore v.marks.set n (Some (Method m)) ⊎ (Method m ≡ x)) × IsIn v.marks.set (Method m)
      → slice_get (steps_of p m) i ≡ Some s → LookedAt p h w s
  steps_more m i s (inl b, k) e = looked_still p h v w s g (d.steps m i s b e)
  steps_more m i s (inr e, k) f = (subst (λ z. VisitedAll p h v w z) (sym e) c) i s f

  components_more : (f : ℕ) → (IsBefore v.marks.set n (Some (Field f)) ⊎ (Field f ≡ x)) × IsIn v.marks.set (Field f) → PlaceDone p h w.marks (OfComponent f)
  components_more f (inl b, k) = still (OfComponent f) (d.components f b)
  components_more f (inr e, k) = (subst (λ z. VisitedAll p h v w z) (sym e) c).0

  objects_more : (f k : ℕ) → (IsBefore v.marks.set n (Some (Field f)) ⊎ (Field f ≡ x)) × IsIn v.marks.set (Field f)
      → (IsBefore v.marks.set n (Some (Cell k)) ⊎ (Cell k ≡ x)) × IsIn v.marks.set (Cell k) → PlaceDone p h w.marks (OfObject k f)
  objects_more f k (inl b, i) (inl b2, j) = still (OfObject k f) (d.objects f k b b2)
  objects_more f k (inr e, i) (b2, j) = (subst (λ z. VisitedAll p h v w z) (sym e) c).1 k j
  objects_more f k (inl b, i) (inr e, j) = (subst (λ z. VisitedAll p h v w z) (sym e) c).1 f i

  arrays_more : (k i : ℕ) → (IsBefore v.marks.set n (Some (Cell k)) ⊎ (Cell k ≡ x)) × IsIn v.marks.set (Cell k) → PlaceDone p h w.marks (OfArray k i)
  arrays_more k i (inl b, j) = still (OfArray k i) (d.arrays k i b)
  arrays_more k i (inr e, j) = (subst (λ z. VisitedAll p h v w z) (sym e) c).2 i

  firsts_more : (k j : ℕ) → (IsBefore v.marks.set n (Some (Cell k)) ⊎ (Cell k ≡ x)) × IsIn v.marks.set (Cell k) → class_in (slice_get h.cells k) ≡ Some j
      → j < length p.tables.classes → HasFirst w.seen j
  firsts_more k j (inl b, i) e lt = first_still v.seen w.seen j g.2 (d.firsts k j b e lt)
  firsts_more k j (inr f, i) e lt = (subst (λ z. VisitedAll p h v w z) (sym f) c).0 j e lt

  pub looked_one : Works p h v w × Looked p h w (n + 1)
  looked_one = (
    g,
    record {
      steps = λ m i s b e. steps_more m i s (drawn (Method m) b) e;
      components = λ f b. components_more f (drawn (Field f) b);
      objects = λ f k b b2. objects_more f k (drawn (Field f) b) (drawn (Cell k) b2);
      arrays = λ k i b. arrays_more k i (drawn (Cell k) b);
      firsts = λ k j b e lt. firsts_more k j (drawn (Cell k) b) e lt;
    },
  )

-- nothing was looked at
pub looked_none : (p : Program) (h : Heap) (w : Work) → Looked p h w 0
looked_none p h w = record {
  steps = λ m i s (r, e, lt) f. absurd (omega (arith, lt));
  components = λ f (r, e, lt). absurd (omega (arith, lt));
  objects = λ f k (r, e, lt) b. absurd (omega (arith, lt));
  arrays = λ k i (r, e, lt). absurd (omega (arith, lt));
  firsts = λ k d (r, e, lt) f g. absurd (omega (arith, lt));
}

-- ---- the whole

-- what is marked is live: by the ranks of its premises
marked_live : (p : Program) (h : Heap) (a : Marked) → Sound p h a → (n : ℕ) (y : Option Member) → IsBefore a.set n y → Live p h y
marked_live p h a q n None b = none
marked_live p h a q zero (Some y) (r, e, lt) = absurd (omega (arith, lt))
marked_live p h a q (suc n) (Some y) (r, e, lt) =
    by z.0 (q.there y r e) (marked_live p h a q n r.from (lower r.from z.1)) (marked_live p h a q n r.also (lower r.also z.2))
  where
    z : IsReason p h a.set y r
    z = q.reasons y r e

    lower : (u : Option Member) → IsBefore a.set r.rank u → IsBefore a.set n u
    lower None b = tt
    lower (Some u) (o, eo, lo) = (o, eo, omega (arith, lo, lt))

below_class : (t : Tables) (d c : ℕ) → is_below t d c ≡ true → d < length t.classes
below_class t d c e = by' (slice_get t.classes d) refl e
  where
    by' : (o : Option Class) → slice_get t.classes d ≡ o → is_in (above_in o) c ≡ true → d < length t.classes
    by' None f g = absurd (let clash : false ≡ true = g in cc)
    by' (Some k) f g = slice_get_within t.classes d k f

module _ (p : Program) (h : Heap) (w : Work) (last : ℕ) (q : Sound p h w.marks) (seen : IsSeen p h w.marks w.seen) (r : Rooted p h w.marks) (d : Looked p h w last) (le : length w.marks.order ≤ last) where
  before : (y : Member) → IsIn w.marks.set y → IsBefore w.marks.set last (Some y)
  before y (o, e) = let l = slice_get_within w.marks.order o.rank y (q.ranks y o e) in (o, e, omega (arith, l, le))

  names : (m i : ℕ) (s : Step) (y : Named) → IsIn w.marks.set (Method m) → slice_get (steps_of p m) i ≡ Some s → named_by s ≡ Some y → Drawn p h w.marks y.member
  names m i s y k e f = (d.steps m i s (before (Method m) k) e).0 y f

  finds_all : (x : Asked) (c k j : ℕ) → HasSite w.seen x.class x.selector → HasFirst w.seen c → is_below p.tables c x.class ≡ true
      → dispatch p.tables c x.selector ≡ Some j → Drawn p h w.marks (Method j)
  finds_all x c k j (i, s, e, ec, es) (f, ef) b di =
      (subst (λ z. FoundDone p h w.marks z x.selector c) ec (subst (λ z. FoundDone p h w.marks s.class z c) es (seen.met i s c f e ef))) j
      (ap (λ z. if z then dispatch p.tables c x.selector else None) b ∙ di)

  closed : Closed p h (IsIn w.marks.set)
  closed _ _ _ _ main there a b = r.main there
  closed _ _ _ _ (entry i {e} f) there a b = r.entries i e f there
  closed _ _ _ _ (of_component i s {m} {n} e f) there a b = names m i s (record { member = Method n; rule = 3 }) a e (component_named s n f) there
  closed _ _ _ _ (of_object i s x c {m} {k} {n} e f cl be di) there a b =
      finds_all x c k n ((d.steps m i s (before (Method m) a) e).1 x f) (d.firsts k c (before (Cell k) b) cl (below_class p.tables c x.class be)) be di there
  closed _ _ _ _ (component_field i {m} {f} e) there a b = names m i (ComponentField f) (record { member = Field f; rule = 5 }) a e refl there
  closed _ _ _ _ (class_field i at {m} {f} e) there a b = names m i (FieldOf at f) (record { member = Field f; rule = 6 }) a e refl there
  closed _ _ _ _ (in_component v {f} {k} e c) there a b = d.components f (before (Field f) a) v (Cell k) e (to_cell v c) there
  closed _ _ _ _ (in_delegate (OfComponent f) v {y} e k) there a b = d.components f (before (Field f) a) v y e (to_kept k) there
  closed _ _ _ _ (in_delegate (OfObject o f) v {y} e k) there a b = d.objects f o (before (Field f) a) (before (Cell o) b) v y e (to_kept k) there
  closed _ _ _ _ (in_delegate (OfArray o i) v {y} e k) there a b = d.arrays o i (before (Cell o) a) v y e (to_kept k) there
  closed _ _ _ _ (in_object v {f} {o} {k} e c) there a b = d.objects f o (before (Field f) a) (before (Cell o) b) v (Cell k) e (to_cell v c) there
  closed _ _ _ _ (in_array i v {a} {k} e c) there from also = d.arrays a i (before (Cell a) from) v (Cell k) e (to_cell v c) there
  closed _ _ _ _ (literal i {m} {k} e) there a b = names m i (Literal k) (record { member = Cell k; rule = 11 }) a e refl there

  pub whole : IsLiveSet p h w.marks.set
  whole = record {
    methods = q.methods;
    fields = q.fields;
    cells = q.cells;
    live = λ y (o, e). marked_live p h w.marks q (o.rank + 1) (Some y) (o, e, omega arith);
    all = λ y l. least p h (IsIn w.marks.set) closed (Some y) l;
    reasons = q.reasons;
  }

-- ---- the start

pub rooted_still : (p : Program) (h : Heap) (a b : Marked) → Goes p h a b → Rooted p h a → Rooted p h b
rooted_still p h a b g r = record {
  main = drawn_still p h a b (Method p.main) g r.main;
  entries = λ i e f. drawn_still p h a b (Method e.method) g (r.entries i e f);
}

empty_get : {A : Type 0} (n i : ℕ) → flat {A = A} (slice_get (replicate n None) i) ≡ None
empty_get zero i = refl
empty_get (suc n) zero = refl
empty_get (suc n) (suc i) = empty_get n i

unmarked_all : (a b c : ℕ) (y : Member) → reason_of (nothing a b c).set y ≡ None
unmarked_all a b c (Method m) = empty_get a m
unmarked_all a b c (Field f) = empty_get b f
unmarked_all a b c (Cell k) = empty_get c k

pub sound_nothing : (p : Program) (h : Heap) (m : Marked) (a b c : ℕ) → m ≡ nothing a b c → a ≡ length p.tables.methods → b ≡ length p.tables.fields → c ≡ length h.cells
    → Sound p h m
sound_nothing p h m a b c e la lb lc = subst (Sound p h) (sym e) (record {
  reasons = λ y r f. absurd (none-some r (sym (unmarked_all a b c y) ∙ f));
  there = λ y r f. absurd (none-some r (sym (unmarked_all a b c y) ∙ f));
  ranks = λ y r f. absurd (none-some r (sym (unmarked_all a b c y) ∙ f));
  ordered = λ n y f. absurd (none-some y f);
  methods = length-replicate a None ∙ la;
  fields = length-replicate b None ∙ lb;
  cells = length-replicate c None ∙ lc;
})

pub seen_nothing : (p : Program) (h : Heap) (a : Marked) (x : Seen) (n : ℕ) → IsNew x n → n ≡ length p.tables.classes → IsSeen p h a x
seen_nothing p h a x n e l = record {
  classes = e.classes_are ∙ l;
  size = ap length e.firsts ∙ (length-replicate n None ∙ sym e.classes_are);
  firsts = λ d k f. absurd (none-some k (sym (no_first d) ∙ f));
  sites = λ i s f. absurd (none-some s (sym (ap (λ z. slice_get z i) e.sites) ∙ f));
  met = λ i s d k f g. absurd (none-some k (sym (no_first d) ∙ g));
}
  where
    no_first : (d : ℕ) → first_at x d ≡ None
    no_first d = ap (λ z. flat (slice_get z d)) e.firsts ∙ empty_get n d

pub main_marked : (p : Program) (h : Heap) (a b : Marked) → Draws a b (Method p.main) 1 None None → Sound p h a → Goes p h a b × Drawn p h b (Method p.main)
main_marked p h a b d q = d p h q main tt tt

-- the entries so far
abbrev pub EntriesSoFar : Program → Heap → List Handler → Marked → Marked → ℕ → Type 0
EntriesSoFar p h xs s a n = Goes p h s a × ((i : ℕ) (e : Handler) → i < n → slice_get xs i ≡ Some e → Drawn p h a (Method e.method))

pub entry_more : (p : Program) (h : Heap) (n : ℕ) (x : Handler) (s a b : Marked) → slice_get p.handlers n ≡ Some x → Draws a b (Method x.method) 2 None None
    → EntriesSoFar p h p.handlers s a n → EntriesSoFar p h p.handlers s b (n + 1)
entry_more p h n x s a b e d (g, f) = (goes_then p h s a b g z.0, λ i y lt k. by' i y lt k (same_or_not i n))
  where
    z : Goes p h a b × Drawn p h b (Method x.method)
    z = d p h g.0 (entry n e) tt tt

    by' : (i : ℕ) (y : Handler) → i < n + 1 → slice_get p.handlers i ≡ Some y → (i ≡ n) ⊎ ((i ≡ n) → ⊥) → Drawn p h b (Method y.method)
    by' i y lt k (inl eq) = subst (λ u. Drawn p h b (Method u.method)) (same_Some x y (sym e ∙ (ap (slice_get p.handlers) (sym eq) ∙ k))) z.1
    by' i y lt k (inr ne) = drawn_still p h a b (Method y.method) z.0 (f i y (omega (arith, lt, ne)) k)

-- the reasons of a live set tell what is live
pub dead_is : (p : Program) (h : Heap) (s : LiveSet) (y : Member) (o : Option Reason) → o ≡ reason_of s y → IsLiveSet p h s → (o ≡ None) ↔ (Live p h (Some y) → ⊥)
dead_is p h s y o e l = (λ n live. let z = l.all y live in none-some z.0 (sym (sym e ∙ n) ∙ z.1), λ dead. by' o e dead)
  where
    by' : (o : Option Reason) → o ≡ reason_of s y → (Live p h (Some y) → ⊥) → o ≡ None
    by' None e dead = refl
    by' (Some r) e dead = absurd (dead (l.live y (r, sym e)))
