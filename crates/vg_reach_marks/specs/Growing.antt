-- What the marks hold at each time, and how they grow.
use Rattle.std.specs.Prelude.{◌≡◌, ℕ, ◌+◌, ◌<◌, length, Option, Some, None, slice_get}
use Rattle.vg_core.specs.declared.member.Member.{Member}
use Rattle.vg_core.specs.declared.heap.Heap.{Heap}
use Rattle.vg_core.specs.Program.{Program}
use Rattle.vg_live.specs.declared.live_set.Reason.{Reason}
use Rattle.vg_live.specs.Rules.{Rule, IsThere}
use Rattle.vg_live.specs.Sets.{reason_of, IsIn, IsBefore, IsReason}
use Rattle.vg_reach_marks.specs.Marked.{Marked, unmarked}

-- Each reason is one; its rank is the place of its member in the order; and there is room for each member that is there.
pub record Sound (p : Program) (h : Heap) (a : Marked) : Type 0 where
  pub reasons : (y : Member) (r : Reason) → reason_of a.set y ≡ Some r → IsReason p h a.set y r
  pub there : (y : Member) (r : Reason) → reason_of a.set y ≡ Some r → IsThere p h y
  pub ranks : (y : Member) (r : Reason) → reason_of a.set y ≡ Some r → slice_get a.order r.rank ≡ Some y
  pub ordered : (n : ℕ) (y : Member) → slice_get a.order n ≡ Some y → (r : Reason) × (reason_of a.set y ≡ Some r) × (r.rank ≡ n)
  pub methods : length a.set.methods ≡ length p.tables.methods
  pub fields : length a.set.fields ≡ length p.tables.fields
  pub cells : length a.set.cells ≡ length h.cells

-- Reasons stay, and so does the order; each mark takes one from those that have none.
pub record Grows (a b : Marked) : Type 0 where
  pub kept : (y : Member) (r : Reason) → reason_of a.set y ≡ Some r → reason_of b.set y ≡ Some r
  pub order : (n : ℕ) (y : Member) → slice_get a.order n ≡ Some y → slice_get b.order n ≡ Some y
  pub left : unmarked b.set + length b.order ≡ unmarked a.set + length a.order

-- Sound marks that grew.
abbrev pub Goes : Program → Heap → Marked → Marked → Type 0
Goes p h a b = Sound p h b × Grows a b

-- A member, where one is named, is marked.
abbrev pub AreIn : Marked → Option Member → Type 0
AreIn a None = Unit {0}
AreIn a (Some y) = IsIn a.set y

-- A member is marked, if it is there.
abbrev pub Drawn : Program → Heap → Marked → Member → Type 0
Drawn p h a y = IsThere p h y → IsIn a.set y

-- A member was marked by a rule whose premises are marked.
abbrev pub Draws : (a b : Marked) → Member → (rule : ℕ) → (from also : Option Member) → Type 0
Draws a b x rule from also =
    (p : Program) (h : Heap) → Sound p h a → Rule p h x rule from also → AreIn a from → AreIn a also → Goes p h a b × Drawn p h b x
