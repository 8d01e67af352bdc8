-- Sites and classes: what objects find is live by a rule, and what was looked at stays.
use Rattle.std.proofs.Common.{◌≡◌, ◌⊎◌, ℕ, zero, suc, ◌+◌, ◌<◌, ◌≤◌, Bool, true, false, List, [], ◌∷◌, ◌++◌, length, Option, Some, None, slice_get, slice_set, refl, sym, ap, subst, ◌∙◌, arith, if◌then◌else◌}
use Rattle.std.proofs.lemmas.Option.{same_Some, none-some, slice_get_within}
use Rattle.std.proofs.lemmas.List.{length-set}
use mathlib.Core.Logic.{inl, inr}
use Rattle.vg_core.specs.declared.member.Member.{Member}
use Rattle.vg_core.specs.declared.member.Member.TheVariants.{Method, Field, Cell}
use Rattle.vg_core.specs.declared.heap.Cell as cells
use Rattle.vg_core.specs.declared.heap.Cell.TheVariants.{Object, Array}
use Rattle.vg_core.specs.declared.step.Step.{Step}
use Rattle.vg_core.specs.declared.heap.Heap.{Heap}
use Rattle.vg_core.specs.declared.program.Tables.{Tables}
use Rattle.vg_core.specs.declared.value.CoreValue.{CoreValue}
use Rattle.vg_core.specs.Program.{Program}
use Rattle.vg_core.specs.Tables.{is_below, dispatch}
use Rattle.vg_core.specs.Heap.{OfComponent, OfObject, OfArray, class_in, item_in, field_in}
use Rattle.vg_live.specs.Uses.{steps_of, Asked, asked}
use Rattle.vg_live.specs.Rules.{Rule, of_object}
use Rattle.vg_live.specs.Sets.{flat, IsIn}
use Rattle.vg_reach_index.specs.Indexed.{finds}
use Rattle.vg_reach_marks.specs.Marked.{Marked}
use Rattle.vg_reach_marks.specs.Growing.{Sound, Goes, Draws, Drawn}
use Rattle.vg_reach_marks.proofs.Marking.{stays, goes_then, in_still, drawn_still}
use Rattle.vg_reach_marks.proofs.Order.{get_front, get_last, get_either, get_set, get_other, same_or_not}
use Rattle.vg_reach_holding.specs.Done.{named_by, StepDone, PlaceDone}
use Rattle.vg_reach_holding.proofs.Places.{place_still}
use Rattle.vg_reach_visits.specs.declared.seen.Site.{Site}
use Rattle.vg_reach_visits.specs.declared.seen.Seen.{Seen}
use Rattle.vg_reach_visits.specs.declared.seen.Work.{Work}
use Rattle.vg_reach_visits.specs.Visited.{site_from, site_of, IsSite, FoundDone, first_at, HasFirst, HasSite, IsSeen, SeenGrows, Ready, Works, LookedAt, MethodDone, FieldDone, CellDone, PutsFirst, PutsSite}

-- ---- what is found at a site

found_parts : (t : Tables) (d c s n : ℕ) (b : Bool) → is_below t d c ≡ b → (if b then dispatch t d s else None) ≡ Some n
    → (is_below t d c ≡ true) × (dispatch t d s ≡ Some n)
found_parts t d c s n true e f = (e, f)
found_parts t d c s n false e f = absurd (none-some n f)

site_asked : (m : ℕ) (o : Option Asked) (x : Site) → site_from m o ≡ Some x → o ≡ Some (record { class = x.class; selector = x.selector })
site_asked m None x e = absurd (none-some x e)
site_asked m (Some y) x e = ap (λ z. Some (record { class = z.class; selector = z.selector })) (same_Some _ x e)

found_rule : (p : Program) (h : Heap) (x : Site) (d k n : ℕ) → IsSite p x → class_in (slice_get h.cells k) ≡ Some d
    → finds p.tables d x.class x.selector ≡ Some n → Rule p h (Method n) 4 (Some (Method x.method)) (Some (Cell k))
found_rule p h x d k n (i, s, g, e) c f =
    let z = found_parts p.tables d x.class x.selector n (is_below p.tables d x.class) refl f in
    of_object i s (record { class = x.class; selector = x.selector }) d g (site_asked x.method (asked s) x e) c z.0 z.1

pub meets_one : (p : Program) (h : Heap) (a b : Marked) (x : Site) (d k n : ℕ) → finds p.tables d x.class x.selector ≡ Some n
    → Draws a b (Method n) 4 (Some (Method x.method)) (Some (Cell k)) → Sound p h a → IsSite p x → IsIn a.set (Method x.method)
    → class_in (slice_get h.cells k) ≡ Some d → IsIn a.set (Cell k) → Goes p h a b × FoundDone p h b x.class x.selector d
meets_one p h a b x d k n f draw q is im c ik =
    let z = draw p h q (found_rule p h x d k n is c f) im ik in
    (z.0, λ j g. subst (λ u. Drawn p h b (Method u)) (same_Some n j (sym f ∙ g)) z.1)

pub meets_none : (p : Program) (h : Heap) (a : Marked) (x : Site) (d : ℕ) → finds p.tables d x.class x.selector ≡ None → Sound p h a
    → Goes p h a a × FoundDone p h a x.class x.selector d
meets_none p h a x d f q = (stays p h a q, λ j g. absurd (none-some j (sym f ∙ g)))

pub found_still : (p : Program) (h : Heap) (a b : Marked) (c s d : ℕ) → Goes p h a b → FoundDone p h a c s d → FoundDone p h b c s d
found_still p h a b c s d g f n e = drawn_still p h a b (Method n) g (f n e)

-- ---- what was looked at

pub seen_still : (p : Program) (h : Heap) (a b : Marked) (x : Seen) → Goes p h a b → IsSeen p h a x → IsSeen p h b x
seen_still p h a b x g s = record {
  classes = s.classes;
  size = s.size;
  firsts = λ d k e. ((s.firsts d k e).0, in_still p h a b (Cell k) g (s.firsts d k e).1);
  sites = λ i y e. ((s.sites i y e).0, in_still p h a b (Method y.method) g (s.sites i y e).1);
  met = λ i y d k e f. found_still p h a b y.class y.selector d g (s.met i y d k e f);
}

pub seen_same : (x : Seen) → SeenGrows x x
seen_same x = record { classes = refl; firsts = λ d k e. e; sites = λ i s e. e }

pub seen_then : (x y z : Seen) → SeenGrows x y → SeenGrows y z → SeenGrows x z
seen_then x y z g1 g2 = record {
  classes = g2.classes ∙ g1.classes;
  firsts = λ d k e. g2.firsts d k (g1.firsts d k e);
  sites = λ i s e. g2.sites i s (g1.sites i s e);
}

pub site_still : (x y : Seen) (c s : ℕ) → SeenGrows x y → HasSite x c s → HasSite y c s
site_still x y c s g (i, z, e, f1, f2) = (i, z, g.sites i z e, f1, f2)

pub first_still : (x y : Seen) (d : ℕ) → SeenGrows x y → HasFirst x d → HasFirst y d
first_still x y d g (k, e) = (k, g.firsts d k e)

-- a first object is of a class that is there
pub first_within : (p : Program) (h : Heap) (a : Marked) (x : Seen) (d k : ℕ) → IsSeen p h a x → first_at x d ≡ Some k → d < x.classes
first_within p h a x d k s e = by' (slice_get x.firsts.items d) refl e
  where
    by' : (o : Option (Option ℕ)) → slice_get x.firsts.items d ≡ o → flat o ≡ Some k → d < x.classes
    by' None g q = absurd (none-some k q)
    by' (Some o) g q = let l = slice_get_within x.firsts.items d o g in let n = s.size in omega (arith, l, n)

-- one more site
pub one_site : (p : Program) (h : Heap) (a : Marked) (x y : Seen) (s : Site) → PutsSite x y s → IsSeen p h a x → IsSite p s → IsIn a.set (Method s.method)
    → ((d k : ℕ) → first_at x d ≡ Some k → FoundDone p h a s.class s.selector d) → IsSeen p h a y × SeenGrows x y × HasSite y s.class s.selector
one_site p h a x y s put q is im all = (
  record {
    classes = put.classes ∙ q.classes;
    size = ap length put.firsts ∙ (q.size ∙ sym put.classes);
    firsts = λ d k e. q.firsts d k (old d k e);
    sites = λ i z e. site i z (get_either x.sites.items s z i (sym (ap (λ u. slice_get u i) put.sites) ∙ e));
    met = λ i z d k e f. meet i z d k (old d k f) (get_either x.sites.items s z i (sym (ap (λ u. slice_get u i) put.sites) ∙ e));
  },
  record {
    classes = put.classes;
    firsts = λ d k e. ap (λ u. flat (slice_get u d)) put.firsts ∙ e;
    sites = λ i z e. ap (λ u. slice_get u i) put.sites ∙ get_front x.sites.items s z i e;
  },
  (length x.sites.items, s, ap (λ u. slice_get u (length x.sites.items)) put.sites ∙ get_last x.sites.items s, refl, refl),
)
  where
    old : (d k : ℕ) → first_at y d ≡ Some k → first_at x d ≡ Some k
    old d k e = sym (ap (λ u. flat (slice_get u d)) put.firsts) ∙ e

    site : (i : ℕ) (z : Site) → (slice_get x.sites.items i ≡ Some z) ⊎ ((i ≡ length x.sites.items) × (s ≡ z)) → IsSite p z × IsIn a.set (Method z.method)
    site i z (inl e) = q.sites i z e
    site i z (inr (l, e)) = subst (λ u. IsSite p u × IsIn a.set (Method u.method)) e (is, im)

    meet : (i : ℕ) (z : Site) (d k : ℕ) → first_at x d ≡ Some k → (slice_get x.sites.items i ≡ Some z) ⊎ ((i ≡ length x.sites.items) × (s ≡ z))
        → FoundDone p h a z.class z.selector d
    meet i z d k f (inl e) = q.met i z d k e f
    meet i z d k f (inr (l, e)) = subst (λ u. FoundDone p h a u.class u.selector d) e (all d k f)

-- the first object of a class
pub one_first : (p : Program) (h : Heap) (a : Marked) (x y : Seen) (d k : ℕ) → PutsFirst x y d k → IsSeen p h a x → first_at x d ≡ None
    → class_in (slice_get h.cells k) ≡ Some d → IsIn a.set (Cell k)
    → ((i : ℕ) (s : Site) → slice_get x.sites.items i ≡ Some s → FoundDone p h a s.class s.selector d)
    → IsSeen p h a y × SeenGrows x y × (d < x.classes → HasFirst y d)
one_first p h a x y d k put q none c ik all = (
  record {
    classes = put.classes ∙ q.classes;
    size = ap length put.firsts ∙ (length-set x.firsts.items d (Some k) ∙ (q.size ∙ sym put.classes));
    firsts = λ e j f. first e j f (same_or_not e d);
    sites = λ i s e. q.sites i s (old i s e);
    met = λ i s e j f g. meet i s e j (old i s f) g (same_or_not e d);
  },
  record { classes = put.classes; firsts = λ e j f. kept e j f (same_or_not e d); sites = λ i s e. ap (λ u. slice_get u i) put.sites ∙ e },
  λ lt. (k, ap (λ u. flat (slice_get u d)) put.firsts ∙ ap flat (get_set x.firsts.items d (Some k) (let n = q.size in omega (arith, lt, n)))),
)
  where
    old : (i : ℕ) (s : Site) → slice_get y.sites.items i ≡ Some s → slice_get x.sites.items i ≡ Some s
    old i s e = sym (ap (λ u. slice_get u i) put.sites) ∙ e

    other : (e : ℕ) → ((e ≡ d) → ⊥) → first_at y e ≡ first_at x e
    other e ne = ap (λ u. flat (slice_get u e)) put.firsts ∙ ap flat (get_other x.firsts.items d e (Some k) ne)

    -- what is first in the class now
    now : (j : ℕ) → first_at y d ≡ Some j → k ≡ j
    now j f = by' (slice_get y.firsts.items d) refl f
      where
        by' : (o : Option (Option ℕ)) → slice_get y.firsts.items d ≡ o → flat o ≡ Some j → k ≡ j
        by' None g r = absurd (none-some j r)
        by' (Some o) g r =
            let l = slice_get_within y.firsts.items d o g in
            let n = ap length put.firsts ∙ length-set x.firsts.items d (Some k) in
            let w = get_set x.firsts.items d (Some k) (omega (arith, l, n)) in
            same_Some k j (same_Some (Some k) (Some j) (sym w ∙ (sym (ap (λ u. slice_get u d) put.firsts) ∙ (g ∙ ap Some r))))

    first : (e j : ℕ) → first_at y e ≡ Some j → (e ≡ d) ⊎ ((e ≡ d) → ⊥) → (class_in (slice_get h.cells j) ≡ Some e) × IsIn a.set (Cell j)
    first e j f (inl ed) =
        subst (λ u. (class_in (slice_get h.cells u) ≡ Some e) × IsIn a.set (Cell u)) (now j (ap (first_at y) (sym ed) ∙ f)) (c ∙ ap Some (sym ed), ik)
    first e j f (inr ne) = q.firsts e j (sym (other e ne) ∙ f)

    kept : (e j : ℕ) → first_at x e ≡ Some j → (e ≡ d) ⊎ ((e ≡ d) → ⊥) → first_at y e ≡ Some j
    kept e j f (inl ed) = absurd (none-some j (sym none ∙ (ap (first_at x) (sym ed) ∙ f)))
    kept e j f (inr ne) = other e ne ∙ f

    meet : (i : ℕ) (s : Site) (e j : ℕ) → slice_get x.sites.items i ≡ Some s → first_at y e ≡ Some j → (e ≡ d) ⊎ ((e ≡ d) → ⊥)
        → FoundDone p h a s.class s.selector e
    meet i s e j g f (inl ed) = subst (λ u. FoundDone p h a s.class s.selector u) (sym ed) (all i s g)
    meet i s e j g f (inr ne) = q.met i s e j g (sym (other e ne) ∙ f)

-- ---- sites so far

abbrev pub MetSoFar : Program → Heap → List Site → (d : ℕ) → Marked → Marked → ℕ → Type 0
MetSoFar p h xs d s a n = Goes p h s a × ((i : ℕ) (x : Site) → i < n → slice_get xs i ≡ Some x → FoundDone p h a x.class x.selector d)

met_more : (p : Program) (h : Heap) (xs : List Site) (d n : ℕ) (x : Site) (s a b : Marked) → slice_get xs n ≡ Some x → Goes p h a b × FoundDone p h b x.class x.selector d
    → MetSoFar p h xs d s a n → MetSoFar p h xs d s b (n + 1)
met_more p h xs d n x s a b e (g2, f2) (g, f) = (goes_then p h s a b g g2, λ i y lt q. by' i y lt q (same_or_not i n))
  where
    by' : (i : ℕ) (y : Site) → i < n + 1 → slice_get xs i ≡ Some y → (i ≡ n) ⊎ ((i ≡ n) → ⊥) → FoundDone p h b y.class y.selector d
    by' i y lt q (inl eq) = subst (λ u. FoundDone p h b u.class u.selector d) (same_Some x y (sym e ∙ (ap (slice_get xs) (sym eq) ∙ q))) f2
    by' i y lt q (inr ne) = found_still p h a b y.class y.selector d g2 (f i y (omega (arith, lt, ne)) q)

pub met_next : (p : Program) (h : Heap) (seen : Seen) (d k n : ℕ) (x : Site) (s a b : Marked) → slice_get seen.sites.items n ≡ Some x → IsSeen p h s seen
    → (Sound p h a → IsSite p x → IsIn a.set (Method x.method) → Goes p h a b × FoundDone p h b x.class x.selector d)
    → MetSoFar p h seen.sites.items d s a n → MetSoFar p h seen.sites.items d s b (n + 1)
met_next p h seen d k n x s a b e q go (g, f) =
    let z = q.sites n x e in
    met_more p h seen.sites.items d n x s a b e (go g.0 z.0 (in_still p h s a (Method x.method) g z.1)) (g, f)

-- ---- steps so far

pub works_then : (p : Program) (h : Heap) (u v w : Work) → Works p h u v → Works p h v w → Works p h u w
works_then p h u v w (g1, s1, e1) (g2, s2, e2) = (goes_then p h u.marks v.marks w.marks g1 g2, s2, seen_then u.seen v.seen w.seen e1 e2)

pub no_work : (p : Program) (h : Heap) (w : Work) → Ready p h w → Works p h w w
no_work p h w (q, s) = (stays p h w.marks q, s, seen_same w.seen)

pub looked_still : (p : Program) (h : Heap) (v w : Work) (s : Step) → Works p h v w → LookedAt p h v s → LookedAt p h w s
looked_still p h v w s (g, n, e) (d, f) = (λ y r. drawn_still p h v.marks w.marks y.member g (d y r), λ x r. site_still v.seen w.seen x.class x.selector e (f x r))

abbrev pub LookedSoFar : Program → Heap → List Step → Work → Work → ℕ → Type 0
LookedSoFar p h xs u v n = Works p h u v × ((i : ℕ) (s : Step) → i < n → slice_get xs i ≡ Some s → LookedAt p h v s)

pub looked_more : (p : Program) (h : Heap) (xs : List Step) (n : ℕ) (s : Step) (u v w : Work) → slice_get xs n ≡ Some s → Works p h v w × LookedAt p h w s
    → LookedSoFar p h xs u v n → LookedSoFar p h xs u w (n + 1)
looked_more p h xs n s u v w e (g2, f2) (g, f) = (works_then p h u v w g g2, λ i y lt q. by' i y lt q (same_or_not i n))
  where
    by' : (i : ℕ) (y : Step) → i < n + 1 → slice_get xs i ≡ Some y → (i ≡ n) ⊎ ((i ≡ n) → ⊥) → LookedAt p h w y
    by' i y lt q (inl eq) = subst (LookedAt p h w) (same_Some s y (sym e ∙ (ap (slice_get xs) (sym eq) ∙ q))) f2
    by' i y lt q (inr ne) = looked_still p h v w y g2 (f i y (omega (arith, lt, ne)) q)

-- marks alone grow
pub marks_work : (p : Program) (h : Heap) (v w : Work) → w.seen ≡ v.seen → Goes p h v.marks w.marks → IsSeen p h v.marks v.seen → Works p h v w
marks_work p h v w e g s =
    (g, subst (IsSeen p h w.marks) (sym e) (seen_still p h v.marks w.marks v.seen g s), subst (SeenGrows v.seen) (sym e) (seen_same v.seen))

-- a step that names a site
pub looks_site : (p : Program) (h : Heap) (u v w : Work) (m i : ℕ) (s : Step) (x : Site) → v.seen ≡ u.seen → site_of m s ≡ Some x
    → slice_get (steps_of p m) i ≡ Some s → Goes p h u.marks v.marks × StepDone p h v.marks s → Ready p h u → IsIn u.marks.set (Method m)
    → (Ready p h v → IsSite p x → IsIn v.marks.set (Method x.method) → Works p h v w × HasSite w.seen x.class x.selector)
    → Works p h u w × LookedAt p h w s
looks_site p h u v w m i s x e f at (g, d) (q, r) im go =
    (works_then p h u v w one z.0, (λ y c. drawn_still p h v.marks w.marks y.member z.0.0 (d y c), λ y c. by' y c))
  where
    one : Works p h u v
    one = marks_work p h u v e g r

    method_is : m ≡ x.method
    method_is = same (asked s) f
      where
        same : (o : Option Asked) → site_from m o ≡ Some x → m ≡ x.method
        same None c = absurd (none-some x c)
        same (Some y) c = ap (λ k. k.method) (same_Some _ x c)

    z : Works p h v w × HasSite w.seen x.class x.selector
    z = go (g.0, one.1) (i, s, subst (λ k. slice_get (steps_of p k) i ≡ Some s) method_is at, subst (λ k. site_of k s ≡ Some x) method_is f)
        (subst (λ k. IsIn v.marks.set (Method k)) method_is (in_still p h u.marks v.marks (Method m) g im))

    by' : (y : Asked) → asked s ≡ Some y → HasSite w.seen y.class y.selector
    by' y c =
        let k = same_Some _ y (sym (site_asked m (asked s) x f) ∙ c) in
        subst (λ b. HasSite w.seen b.class b.selector) k z.1

-- a step that names none
pub looks_plain : (p : Program) (h : Heap) (u v : Work) (m : ℕ) (s : Step) → v.seen ≡ u.seen → site_of m s ≡ None
    → Goes p h u.marks v.marks × StepDone p h v.marks s → Ready p h u → Works p h u v × LookedAt p h v s
looks_plain p h u v m s e f (g, d) (q, r) = (marks_work p h u v e g r, (d, λ y c. absurd (no_site (asked s) f y c)))
  where
    no_site : (o : Option Asked) → site_from m o ≡ None → (y : Asked) → o ≡ Some y → ⊥
    no_site None c y k = none-some y k
    no_site (Some x) c y k = none-some _ (sym c)

-- a field
pub field_done : (p : Program) (h : Heap) (u v w : Work) (f : ℕ) → v.seen ≡ u.seen → w.seen ≡ v.seen → Ready p h u → IsIn u.marks.set (Field f)
    → (Sound p h u.marks → IsIn u.marks.set (Field f) → Goes p h u.marks v.marks × PlaceDone p h v.marks (OfComponent f))
    → (Sound p h v.marks → IsIn v.marks.set (Field f) → Goes p h v.marks w.marks × ((k : ℕ) → IsIn v.marks.set (Cell k) → PlaceDone p h w.marks (OfObject k f)))
    → Works p h u w × FieldDone p h u w f
field_done p h u v w f e1 e2 (q, r) i one two =
    let a = one q i in
    let b = two a.0.0 (in_still p h u.marks v.marks (Field f) a.0 i) in (
      marks_work p h u w (e2 ∙ e1) (goes_then p h u.marks v.marks w.marks a.0 b.0) r,
      (place_still p h v.marks w.marks (OfComponent f) b.0 a.1, λ k g. b.1 k (in_still p h u.marks v.marks (Cell k) a.0 g)),
    )

-- an object
pub object_done : (p : Program) (h : Heap) (u v w : Work) (d k : ℕ) → w.seen ≡ v.seen → class_in (slice_get h.cells k) ≡ Some d
    → Works p h u v × (d < u.seen.classes → HasFirst v.seen d) → IsSeen p h u.marks u.seen
    → Goes p h v.marks w.marks × ((f : ℕ) → IsIn v.marks.set (Field f) → PlaceDone p h w.marks (OfObject k f))
    → Works p h u w × CellDone p h u w k
object_done p h u v w d k e c (g, first) r (g2, all) =
    (works_then p h u v w g (marks_work p h v w e g2 g.1), (λ j cj lt. by' j cj lt, λ f i. all f (in_still p h u.marks v.marks (Field f) g.0 i), λ i x y q. absurd (no_items (slice_get h.cells k) c i x q)))
  where
    by' : (j : ℕ) → class_in (slice_get h.cells k) ≡ Some j → j < length p.tables.classes → HasFirst w.seen j
    by' j cj lt =
        let same = same_Some d j (sym c ∙ cj) in
        let n = r.classes in
        subst (λ z. HasFirst w.seen z) same (subst (λ z. HasFirst z d) (sym e) (first (let l = subst (λ z. z < length p.tables.classes) (sym same) lt in omega (arith, l, n))))

    no_items : (o : Option cells.Cell) → class_in o ≡ Some d → (i : ℕ) (x : CoreValue) → item_in i o ≡ Some x → ⊥
    no_items None a i x q = none-some d a
    no_items (Some (Object b vs)) a i x q = none-some x q
    no_items (Some (Array t vs)) a i x q = none-some d a

-- an array
pub array_done : (p : Program) (h : Heap) (u w : Work) (k : ℕ) → w.seen ≡ u.seen → class_in (slice_get h.cells k) ≡ None → IsSeen p h u.marks u.seen
    → Goes p h u.marks w.marks × ((i : ℕ) → PlaceDone p h w.marks (OfArray k i)) → Works p h u w × CellDone p h u w k
array_done p h u w k e c r (g, all) =
    (marks_work p h u w e g r, (λ j cj lt. absurd (none-some j (sym c ∙ cj)), λ f i x y q. absurd (no_fields (slice_get h.cells k) c f x q), all))
  where
    no_fields : (o : Option cells.Cell) → class_in o ≡ None → (f : ℕ) (x : CoreValue) → field_in p.tables f o ≡ Some x → ⊥
    no_fields None a f x q = none-some x q
    no_fields (Some (Object b vs)) a f x q = none-some b (sym a)
    no_fields (Some (Array t vs)) a f x q = none-some x q
