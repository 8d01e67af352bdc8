-- What `build` answers to the bytes of a source text.
use Rattle.std.specs.Prelude.{ℕ, ◌≡◌, ◌<◌, ◌≤◌, ◌⊎◌, List, Option, Some, None, Result, Ok, Err}
use Rattle.vg_base.specs.declared.place.Place.{Place}
use Rattle.vg_base.specs.declared.refusal.Refusal.{Refusal}
use Rattle.vg_base.specs.declared.refusal.Refusal.TheVariants as refusal
use Rattle.vg_first_text.specs.declared.device_write.DeviceWrite.{DeviceWrite}
use Rattle.vg_first_text.specs.FirstText.{IsFirst}
use Rattle.vg_faults.specs.declared.fault.Fault.{Fault}
use Rattle.vg_faults.specs.declared.fault.Fault.TheVariants.{CodeFull, NotBuilt, StackFull}
use Rattle.vg_faults.specs.Fitting.{IsFitting}
use Rattle.vg_faults.specs.Room.{HasRoomFault, HasRoomIn, HasStack, StackFullIn}
use Rattle.vg_syntax.specs.Tree.{Node}
use Rattle.vg_source.specs.Values.{Heap}
use Rattle.vg_static_source.specs.Sums.{IsStatic}
use Rattle.vg_code_bound.specs.Nodes.{IsCodeBound}
use Rattle.vg_flash.specs.Stated.{stated}
use Rattle.vg_build.specs.declared.building.Built.{Built}
use Rattle.vg_layout.specs.declared.layout.Bound.TheVariants.{Bytes}
use Rattle.vg_build.specs.Image.{IsBuiltOf, SaysOfCalls}

-- an image with its texts, or why there is none
abbrev pub Answer : Type 0
Answer = Result Built (Refusal Fault)

-- memory sufficed
abbrev pub IsSettled : Answer → Type 0
IsSettled (Ok built) = Unit {0}
IsSettled (Err (refusal.Fault why)) = Unit {0}
IsSettled (Err refusal.NoMemory) = ⊥

-- the fault that an answer names
abbrev pub fault_in : Answer → Option Fault
fault_in (Ok built) = None
fault_in (Err (refusal.Fault why)) = Some why
fault_in (Err refusal.NoMemory) = None

-- the bytes are no program of one component whose main writes constants
abbrev pub IsNoFirst : List ℕ → Type 0
IsNoFirst bytes = (writes : List DeviceWrite) → IsFirst bytes writes → ⊥

-- the bytes are a legal text that starts with this clock, whose live methods make nothing, which fits and whose stack has room, and no program of constants; of
-- such texts alone some are not built
abbrev pub IsNotBuilt : List ℕ → (asked : Option ℕ) → (clock : ℕ) → Type 0
IsNotBuilt bytes asked clock = HasRoomIn bytes asked clock × IsNoFirst bytes

-- The bytes are a legal text that starts with this clock, whose live methods make nothing, and which fits. The bound on the words of its code, by the nodes of
-- its live methods and by its tables, is above 65,536.
pub record IsLarge (bytes : List ℕ) (clock : ℕ) : Type 0 where
  pub tree : Node
  pub heap : Heap
  pub fitting : IsFitting bytes clock tree heap
  pub large : (words : ℕ) → IsCodeBound tree heap words → 65536 < words

-- the first place of a text
abbrev pub first_place : Place
first_place = record { line = 1; col = 1 }

-- The bytes are a legal text that starts with this clock, whose live methods make nothing, which fits and whose stack has room. No cycle of its calls is reached,
-- and these need so many bytes, which are more than are stated, and at most four more than the methods of some way of calls cost. A program of constants needs
-- four.
pub record IsOverStack (bytes : List ℕ) (asked : Option ℕ) (clock need left : ℕ) : Type 0 where
  pub tree : Node
  pub heap : Heap
  pub fitting : IsFitting bytes clock tree heap
  pub static_bytes : ℕ
  pub has_static : IsStatic tree heap static_bytes
  pub room : HasStack asked static_bytes
  pub left_is : left ≡ stated asked static_bytes
  pub more : left < need
  pub calls : SaysOfCalls tree heap (Bytes need)
  pub few : (writes : List DeviceWrite) → IsFirst bytes writes → need ≡ 4

-- the bytes have this fault, where this stack is asked for, or none, and initialisation has this clock; what is not built is large and stands at the first
-- place, and code that is too long has more words than 65,535
abbrev pub HasFault : Fault → List ℕ → (asked : Option ℕ) → (clock : ℕ) → Type 0
HasFault (NotBuilt place) bytes asked clock = IsNotBuilt bytes asked clock × (place ≡ first_place) × IsLarge bytes clock
HasFault (CodeFull words) bytes asked clock = IsNotBuilt bytes asked clock × (65536 ≤ words)
HasFault (StackFull need left) bytes asked clock = StackFullIn bytes asked clock need left ⊎ IsOverStack bytes asked clock need left
HasFault why bytes asked clock = HasRoomFault why bytes asked clock

-- why nothing was built of the bytes: they have a fault, or memory was wanting
abbrev pub IsCause : Refusal Fault → List ℕ → (asked : Option ℕ) → (clock : ℕ) → Type 0
IsCause (refusal.Fault why) bytes asked clock = HasFault why bytes asked clock
IsCause refusal.NoMemory bytes asked clock = Unit {0}

-- what an answer says of the bytes
abbrev pub Answers : List ℕ → (asked : Option ℕ) → (clock : ℕ) → Answer → Type 0
Answers bytes asked clock (Ok built) = IsBuiltOf bytes asked clock built
Answers bytes asked clock (Err why) = IsCause why bytes asked clock
