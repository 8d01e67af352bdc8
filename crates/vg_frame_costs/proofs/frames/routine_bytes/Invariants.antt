use Rattle.std.proofs.Common.{ℕ, ◌^◌, ◌<◌, ◌≤◌, drop}
use Rattle.std.specs.List.{AllByRecursion}
use Rattle.vg_frame_costs.specs.Fitting.{IsRoutineWithin}
use Rattle.vg_frame_costs.specs.Payable.{IsRoutineShort}
use Rattle.vg_frame_costs.proofs.frames.routine_bytes.Given as goal

abbrev pub invariant-loop-routine : goal.invariant-loop-routine
invariant-loop-routine l =
    ((above : ℕ) → l.most ≤ above → AllByRecursion (IsRoutineWithin above) (drop l.routine-index l.routines)
    → AllByRecursion (IsRoutineWithin above) l.routines)
    × ((above : ℕ) → above < 2 ^ 32 → AllByRecursion (IsRoutineShort above) l.routines → l.most ≤ above)
