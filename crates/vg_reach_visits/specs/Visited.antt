-- What is known of the members that were looked at.
use Rattle.std.specs.Prelude.{◌≡◌, ℕ, ◌<◌, List, [], ◌∷◌, ◌++◌, length, replicate, Option, Some, None, slice_get, slice_set}
use Rattle.vg_core.specs.declared.member.Member.{Member}
use Rattle.vg_core.specs.declared.member.Member.TheVariants.{Method, Field, Cell}
use Rattle.vg_core.specs.declared.step.Step.{Step}
use Rattle.vg_core.specs.declared.heap.Heap.{Heap}
use Rattle.vg_core.specs.Program.{Program}
use Rattle.vg_core.specs.Heap.{OfComponent, OfObject, OfArray, class_in}
use Rattle.vg_live.specs.Uses.{steps_of, Asked, asked}
use Rattle.vg_live.specs.Sets.{flat, IsIn}
use Rattle.vg_reach_index.specs.Indexed.{finds}
use Rattle.vg_reach_marks.specs.Marked.{Marked}
use Rattle.vg_reach_marks.specs.Growing.{Sound, Goes, Drawn}
use Rattle.vg_reach_holding.specs.Done.{StepDone, PlaceDone}
use Rattle.vg_reach_visits.specs.declared.seen.Site.{Site}
use Rattle.vg_reach_visits.specs.declared.seen.Seen.{Seen}
use Rattle.vg_reach_visits.specs.declared.seen.Work.{Work}

-- ---- sites

abbrev pub site_from : (m : ℕ) → Option Asked → Option Site
site_from m (Some x) = Some (record { method = m; class = x.class; selector = x.selector })
site_from m None = None

-- What a step of the method m calls or names as a value on an object.
abbrev pub site_of : (m : ℕ) → Step → Option Site
site_of m s = site_from m (asked s)

-- It is one of a method.
abbrev pub IsSite : Program → Site → Type 0
IsSite p x = (i : ℕ) × (s : Step) × (slice_get (steps_of p x.method) i ≡ Some s) × (site_of x.method s ≡ Some x)

-- What objects of class d find for a selector on the static class c is marked.
abbrev pub FoundDone : Program → Heap → Marked → (c s d : ℕ) → Type 0
FoundDone p h a c s d = (n : ℕ) → finds p.tables d c s ≡ Some n → Drawn p h a (Method n)

-- ---- what was looked at

-- The first object of class d.
abbrev pub first_at : Seen → (d : ℕ) → Option ℕ
first_at x d = flat (slice_get x.firsts.items d)

abbrev pub HasFirst : Seen → (d : ℕ) → Type 0
HasFirst x d = (k : ℕ) × (first_at x d ≡ Some k)

abbrev pub HasSite : Seen → (c s : ℕ) → Type 0
HasSite x c s = (i : ℕ) × (y : Site) × (slice_get x.sites.items i ≡ Some y) × (y.class ≡ c) × (y.selector ≡ s)

-- The first objects and the sites are of marked members, and what they find is marked.
pub record IsSeen (p : Program) (h : Heap) (a : Marked) (x : Seen) : Type 0 where
  pub classes : x.classes ≡ length p.tables.classes
  pub size : length x.firsts.items ≡ x.classes
  pub firsts : (d k : ℕ) → first_at x d ≡ Some k → (class_in (slice_get h.cells k) ≡ Some d) × IsIn a.set (Cell k)
  pub sites : (i : ℕ) (s : Site) → slice_get x.sites.items i ≡ Some s → IsSite p s × IsIn a.set (Method s.method)
  pub met : (i : ℕ) (s : Site) (d k : ℕ) → slice_get x.sites.items i ≡ Some s → first_at x d ≡ Some k → FoundDone p h a s.class s.selector d

-- What was looked at stays.
pub record SeenGrows (x y : Seen) : Type 0 where
  pub classes : y.classes ≡ x.classes
  pub firsts : (d k : ℕ) → first_at x d ≡ Some k → first_at y d ≡ Some k
  pub sites : (i : ℕ) (s : Site) → slice_get x.sites.items i ≡ Some s → slice_get y.sites.items i ≡ Some s

abbrev pub Ready : Program → Heap → Work → Type 0
Ready p h w = Sound p h w.marks × IsSeen p h w.marks w.seen

-- What looking at a member leaves behind.
abbrev pub Works : Program → Heap → Work → Work → Type 0
Works p h v w = Goes p h v.marks w.marks × IsSeen p h w.marks w.seen × SeenGrows v.seen w.seen

-- ---- members that were looked at

abbrev pub LookedAt : Program → Heap → Work → Step → Type 0
LookedAt p h w s = StepDone p h w.marks s × ((x : Asked) → asked s ≡ Some x → HasSite w.seen x.class x.selector)

abbrev pub MethodDone : Program → Heap → Work → (m : ℕ) → Type 0
MethodDone p h w m = (i : ℕ) (s : Step) → slice_get (steps_of p m) i ≡ Some s → LookedAt p h w s

abbrev pub FieldDone : Program → Heap → (v w : Work) → (f : ℕ) → Type 0
FieldDone p h v w f =
    PlaceDone p h w.marks (OfComponent f) × ((k : ℕ) → IsIn v.marks.set (Cell k) → PlaceDone p h w.marks (OfObject k f))

abbrev pub CellDone : Program → Heap → (v w : Work) → (k : ℕ) → Type 0
CellDone p h v w k =
    ((d : ℕ) → class_in (slice_get h.cells k) ≡ Some d → d < length p.tables.classes → HasFirst w.seen d)
    × ((f : ℕ) → IsIn v.marks.set (Field f) → PlaceDone p h w.marks (OfObject k f)) × ((i : ℕ) → PlaceDone p h w.marks (OfArray k i))

abbrev pub VisitedAll : Program → Heap → (v w : Work) → Member → Type 0
VisitedAll p h v w (Method m) = MethodDone p h w m
VisitedAll p h v w (Field f) = FieldDone p h v w f
VisitedAll p h v w (Cell k) = CellDone p h v w k

-- ---- mirrors of what changes

pub record IsNew (x : Seen) (classes : ℕ) : Type 0 where
  pub classes_are : x.classes ≡ classes
  pub firsts : x.firsts.items ≡ replicate classes None
  pub sites : x.sites.items ≡ []

pub record PutsFirst (x y : Seen) (d k : ℕ) : Type 0 where
  pub classes : y.classes ≡ x.classes
  pub firsts : y.firsts.items ≡ slice_set x.firsts.items d (Some k)
  pub sites : y.sites.items ≡ x.sites.items

pub record PutsSite (x y : Seen) (s : Site) : Type 0 where
  pub classes : y.classes ≡ x.classes
  pub firsts : y.firsts.items ≡ x.firsts.items
  pub sites : y.sites.items ≡ x.sites.items ++ s ∷ []
