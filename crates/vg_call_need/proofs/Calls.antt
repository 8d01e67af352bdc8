-- What the calls of a packed program need by frames bounds the calls of its typed program by costs.
use Rattle.std.proofs.Common.{◌≡◌, sym, subst, arith, ℕ, ◌+◌, ◌-◌, ◌≤◌, List}
use Rattle.vg_source.specs.Peak.{cost_of}
use Rattle.vg_core.specs.declared.heap.Heap.{Heap}
use Rattle.vg_core.specs.Program.{Program}
use Rattle.vg_layout.specs.declared.stack_bound.StackBound.{StackBound}
use Rattle.vg_layout.specs.declared.stack_bound.StackBound.TheVariants.{Bytes, Cycle}
use Rattle.vg_live.specs.declared.live_set.LiveSet.{LiveSet}
use Rattle.vg_number.specs.declared.numbers.Numbers.{Numbers}
use Rattle.vg_place.specs.declared.placing.Columns.{Columns}
use Rattle.vg_packed.specs.declared.program.FirmProgram.{FirmProgram}
use Rattle.vg_packed.specs.Given.{IsGiven}
use Rattle.vg_packed.specs.Packed.{IsPackedFrom}
use Rattle.vg_packed.specs.Ready.{IsReady}
use Rattle.vg_packed.specs.Uses.{Calls}
use Rattle.vg_calls_source.specs.Graphs as graph
use Rattle.vg_calls_source.specs.Graphs.{sum_of}
use Rattle.vg_calls_packed.specs.Ways.{IsSpent}
use Rattle.vg_calls_packed.specs.Typed.{IsCallCycle, IsEntry}
use Rattle.vg_calls_packed.proofs.Typed.{cycle_typed, has_none, spent_typed}
use Rattle.vg_call_need.specs.Bounds.{BoundsCalls, IsBoundOf}
use Rattle.vg_call_need.specs.declared.need.Need.{Need}
use Rattle.vg_call_need.specs.declared.need.Need.TheVariants as need
use Rattle.vg_call_need.specs.Within.{IsNeedWithin}

least : (need total bytes sum : ℕ) → need ≤ total → total ≤ 4 + bytes → bytes ≤ sum → need - 4 ≤ sum
least need total bytes sum a b c = omega (arith, a, b, c)

back : (need : ℕ) → 4 ≤ need → need ≡ 4 + (need - 4)
back need h = omega (arith, h)

no_less : (a : ℕ) → a ≤ a
no_less a = omega arith

module _ (p : Program) (h : Heap) (s : LiveSet) (n : Numbers) (c : Columns) (f : FirmProgram) (given : IsGiven p h s n c) (ready : IsReady p h)
    (from : IsPackedFrom p h s n c f) (extra : ℕ) (frames costs : List ℕ) where
  spent_within : (need total bytes : ℕ) → need ≤ total → total ≤ 4 + bytes → IsSpent f costs bytes
      → graph.IsSpent (IsEntry p) (Calls p h) (cost_of costs) (need - 4)
  spent_within need total bytes most within spent =
      let (way, end, typed, sum) = spent_typed p h s n c f given ready from costs bytes spent in
      (way, end, typed, least need total bytes (sum_of (cost_of costs) way) most within sum)

  pub bounds_bytes : (bytes total : ℕ) → 4 ≤ bytes → bytes ≤ total → IsNeedWithin extra f frames costs (need.Bytes total) → BoundsCalls costs p h (Bytes bytes)
  bounds_bytes bytes total four most is =
      let (none, rest) = is.is_need in
      let (paid, within, spent) = is.spent.1 in
      (has_none p h s n c f given ready from none, (bytes - 4, back bytes four, spent_within bytes total paid most within spent))

  pub bounds_calls : (its : Need) (bound : StackBound) → IsNeedWithin extra f frames costs its → IsBoundOf f its bound → BoundsCalls costs p h bound
  bounds_calls (need.Bytes bytes) (Bytes same) is e =
      subst (λ z. BoundsCalls costs p h (Bytes z)) (sym e) (bounds_bytes bytes bytes is.spent.0 (no_less bytes) is)
  bounds_calls (need.Bytes bytes) (Cycle methods) is e = absurd e
  bounds_calls (need.Cycle procedures) (Bytes bytes) is e = absurd e
  bounds_calls (need.Cycle procedures) (Cycle methods) is e =
      subst (IsCallCycle p h) (sym e) (cycle_typed p h s n c f given ready from procedures is.is_need)
