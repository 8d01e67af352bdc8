-- The live set as data: for each member the reason that is kept, where it is live.
use Rattle.std.specs.Prelude.{◌≡◌, ℕ, ◌<◌, List, [], ◌∷◌, length, Option, Some, None, slice_get, Result, Ok, Err}
use Rattle.vg_core.specs.declared.member.Member.{Member}
use Rattle.vg_core.specs.declared.member.Member.TheVariants.{Method, Field, Cell}
use Rattle.vg_core.specs.declared.heap.Heap.{Heap}
use Rattle.vg_core.specs.Program.{Program}
use Rattle.vg_live.specs.declared.live_set.Reason.{Reason}
use Rattle.vg_live.specs.declared.live_set.LiveSet.{LiveSet}
use Rattle.vg_live.specs.Rules.{Rule, Live}

abbrev pub flat : {A : Type 0} → Option (Option A) → Option A
flat (Some o) = o
flat None = None

-- The reason that is kept for a member.
abbrev pub reason_of : LiveSet → Member → Option Reason
reason_of s (Method m) = flat (slice_get s.methods m)
reason_of s (Field f) = flat (slice_get s.fields f)
reason_of s (Cell k) = flat (slice_get s.cells k)

-- A member has a reason.
abbrev pub IsIn : LiveSet → Member → Type 0
IsIn s y = (r : Reason) × (reason_of s y ≡ Some r)

-- A member, where one is named, has a reason of a rank below n.
abbrev pub IsBefore : LiveSet → (n : ℕ) → Option Member → Type 0
IsBefore s n None = Unit {0}
IsBefore s n (Some y) = (r : Reason) × (reason_of s y ≡ Some r) × (r.rank < n)

-- A kept reason is a rule for its member, and the members that it names are kept with lower ranks.
abbrev pub IsReason : Program → Heap → LiveSet → Member → Reason → Type 0
IsReason p h s y r = Rule p h y r.rule r.from r.also × IsBefore s r.rank r.from × IsBefore s r.rank r.also

-- The set has the live members and no others, each with a reason.
pub record IsLiveSet (p : Program) (h : Heap) (s : LiveSet) : Type 0 where
  pub methods : length s.methods ≡ length p.tables.methods
  pub fields : length s.fields ≡ length p.tables.fields
  pub cells : length s.cells ≡ length h.cells
  pub live : (y : Member) → IsIn s y → Live p h (Some y)
  pub all : (y : Member) → Live p h (Some y) → IsIn s y
  pub reasons : (y : Member) (r : Reason) → reason_of s y ≡ Some r → IsReason p h s y r
