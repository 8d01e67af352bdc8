-- Whether the stack has room in RAM above what is live of a text.
use Rattle.std.specs.Prelude.{ℕ, ◌≡◌, ◌+◌, ◌-◌, ◌≤◌, ◌<◌, List, Option, unwrap_or}
use Rattle.vg_syntax.specs.Tree.{Node}
use Rattle.vg_source.specs.Values.{Heap}
use Rattle.vg_static_source.specs.Sums.{IsStatic}
use Rattle.vg_faults.specs.declared.fault.Fault.{Fault}
use Rattle.vg_faults.specs.declared.fault.Fault.TheVariants.{StackFull}
use Rattle.vg_faults.specs.Fitting.{IsFitting, HasFitFault}

-- the bytes that a stack needs: those that are asked for, or 64 where none are
abbrev pub needed : (asked : Option ℕ) → ℕ
needed asked = unwrap_or asked 64

-- a stack has room above so many static bytes
abbrev pub HasStack : (asked : Option ℕ) → (static_bytes : ℕ) → Type 0
HasStack asked static_bytes = static_bytes + needed asked ≤ 4096

-- it has none: so many bytes are needed, and so many are left
abbrev pub LacksStack : (asked : Option ℕ) → (static_bytes need left : ℕ) → Type 0
LacksStack asked static_bytes need left = (4096 < static_bytes + needed asked) × (need ≡ needed asked) × (left ≡ 4096 - static_bytes)

-- The bytes are a legal text that is initialised to a heap with this clock, whose live methods make nothing and which fits, and the stack has no room.
pub record StackFullIn (bytes : List ℕ) (asked : Option ℕ) (clock : ℕ) (need left : ℕ) : Type 0 where
  pub tree : Node
  pub heap : Heap
  pub fitting : IsFitting bytes clock tree heap
  pub static_bytes : ℕ
  pub has_static : IsStatic tree heap static_bytes
  pub lacks : LacksStack asked static_bytes need left

-- The same, and the stack has room.
pub record HasRoomIn (bytes : List ℕ) (asked : Option ℕ) (clock : ℕ) : Type 0 where
  pub tree : Node
  pub heap : Heap
  pub fitting : IsFitting bytes clock tree heap
  pub static_bytes : ℕ
  pub has_static : IsStatic tree heap static_bytes
  pub room : HasStack asked static_bytes

-- the bytes have this fault, where this stack is asked for, or none, and initialisation has this clock; what is not built, and code that is too long, is no
-- fault of theirs
abbrev pub HasRoomFault : Fault → List ℕ → (asked : Option ℕ) → (clock : ℕ) → Type 0
HasRoomFault (StackFull need left) bytes asked clock = StackFullIn bytes asked clock need left
HasRoomFault why bytes asked clock = HasFitFault why bytes clock
