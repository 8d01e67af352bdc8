-- What the bound of a layout says of the calls of a typed program.
use Rattle.std.specs.Prelude.{ℕ, ◌≡◌, ◌+◌, ◌≤◌, List, map}
use Rattle.vg_source.specs.Peak.{cost_of}
use Rattle.vg_core.specs.declared.heap.Heap.{Heap}
use Rattle.vg_core.specs.Program.{Program}
use Rattle.vg_layout.specs.declared.stack_bound.StackBound.{StackBound}
use Rattle.vg_layout.specs.declared.stack_bound.StackBound.TheVariants.{Bytes, Cycle}
use Rattle.vg_packed.specs.declared.program.FirmProgram.{FirmProgram}
use Rattle.vg_packed.specs.Uses.{Calls}
use Rattle.vg_calls_source.specs.Graphs as graph
pub use Rattle.vg_calls_packed.specs.Enough.{IsEnough}
use Rattle.vg_calls_packed.specs.Typed.{HasNoCycle, IsCallCycle, IsEntry}
use Rattle.vg_calls_packed.specs.Ways.{method_at}
use Rattle.vg_call_need.specs.declared.need.Need.{Need}
use Rattle.vg_call_need.specs.declared.need.Need.TheVariants as need

-- a need that this stack has room for
abbrev pub IsFewOf : (stack : ℕ) → Need → Type 0
IsFewOf stack (need.Bytes bytes) = bytes ≤ stack
IsFewOf stack (need.Cycle procedures) = Unit {0}

-- the bound by what calls need: the same bytes, or the methods of the procedures of a cycle
abbrev pub IsBoundOf : FirmProgram → Need → StackBound → Type 0
IsBoundOf f (need.Bytes n) (Bytes m) = m ≡ n
IsBoundOf f (need.Bytes n) (Cycle methods) = ⊥
IsBoundOf f (need.Cycle procedures) (Bytes m) = ⊥
IsBoundOf f (need.Cycle procedures) (Cycle methods) = methods ≡ map (method_at f.procedures) procedures

-- No cycle of calls is reached, and the bytes are at most four more than the methods of some way of calls cost; or these methods are a cycle that is reached.
abbrev pub BoundsCalls : (costs : List ℕ) → Program → Heap → StackBound → Type 0
BoundsCalls costs p h (Bytes need) =
    HasNoCycle p h × ((bytes : ℕ) × (need ≡ 4 + bytes) × graph.IsSpent (IsEntry p) (Calls p h) (cost_of costs) bytes)
BoundsCalls costs p h (Cycle methods) = IsCallCycle p h methods
