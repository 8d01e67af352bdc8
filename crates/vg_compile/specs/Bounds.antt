-- How much stack is enough for an image.
use Rattle.std.specs.Prelude.{ℕ, ◌+◌, ◌≤◌, List}
use Rattle.vg_core.specs.declared.heap.Heap.{Heap}
use Rattle.vg_core.specs.Program.{Program}
use Rattle.vg_frame_costs.specs.declared.frames.Frames.{Frames}
use Rattle.vg_frame_costs.specs.Fitting.{ArePaid}
use Rattle.vg_frame_costs.specs.Noted.{HoldsAll}
use Rattle.vg_stack_bound.specs.Memory.{HoldsPeaks}
use Rattle.vg_place.specs.declared.placing.Columns.{Columns}
use Rattle.vg_linear.specs.declared.whole.Linear.{Linear}
use Rattle.vg_link.specs.declared.linked.Linked.{Linked}
pub use Rattle.vg_call_need.specs.Bounds.{BoundsCalls}
use Rattle.vg_call_need.specs.Within.{IsNeedWithin}
use Rattle.vg_call_need.specs.declared.need.Need.{Need}
use Rattle.vg_call_need.specs.declared.need.Need.TheVariants as needs
use Rattle.vg_packed.specs.declared.program.FirmProgram.{FirmProgram}
use Rattle.vg_compile.specs.Runs.{DoesInImage}
use Rattle.vg_layout.specs.declared.stack_bound.StackBound.{StackBound}
use Rattle.vg_layout.specs.declared.stack_bound.StackBound.TheVariants.{Bytes, Cycle}

-- Frames of methods within which all procedures are.
abbrev pub AreFramesOf : Linear → Frames → Type 0
AreFramesOf l frames = HoldsAll l.procedures l.start frames

-- Where calls go round, costs of methods pay for their frames, with what lies beside these, but for four bytes. Of bytes that calls need nothing is said.
abbrev pub ArePaidFor : Frames → (costs : List ℕ) → Need → Type 0
ArePaidFor frames costs (needs.Bytes need) = Unit {0}
ArePaidFor frames costs (needs.Cycle procedures) = ArePaid frames.beside 4 frames.by_method costs

-- The calls of the packed program need so many bytes or more, at least four.
abbrev pub NeedsAtLeast : FirmProgram → (costs : List ℕ) → (need : ℕ) → Type 0
NeedsAtLeast f costs need =
    (4 ≤ need) × ((extra : ℕ) × (frames : List ℕ) × (total : ℕ) × (need ≤ total) × IsNeedWithin extra f frames costs (needs.Bytes total))

-- By the frames of methods and what lies beside them the machine does in the image as the program does, or reaches below its floor where these take more of the
-- stack for the active calls than there is; and a stack of so many bytes holds what they take in each run. Of a cycle nothing is said.
abbrev pub HoldsBound : Linked → Columns → Program → Heap → StackBound → Type 0
HoldsBound linked c p h (Bytes bytes) =
    (extra : ℕ) × ((frames : List ℕ) × DoesInImage linked c extra frames p h × ((floor : ℕ) → floor + bytes ≤ 0x1100 → HoldsPeaks floor extra frames p h))
HoldsBound linked c p h (Cycle methods) = Unit {0}

-- Where calls go round, the machine does in the image as the program does by these costs with four bytes beside them, or reaches below its floor where the active
-- calls cost more than the stack. Where they do not, `HoldsBound` says what it does by frames.
abbrev pub DoesFor : Linked → Columns → (costs : List ℕ) → Program → Heap → StackBound → Type 0
DoesFor linked c costs p h (Bytes bytes) = Unit {0}
DoesFor linked c costs p h (Cycle methods) = DoesInImage linked c 4 costs p h
