use Rattle.std.proofs.Common.{drop}
use Rattle.std.specs.List.{AllByRecursion}
use Rattle.vg_frame_costs.specs.Fitting.{IsOfStart}
use Rattle.vg_frame_costs.proofs.codes.are_of_start.Given as goal

abbrev pub invariant-loop-instr : goal.invariant-loop-instr
invariant-loop-instr l =
    (AllByRecursion (IsOfStart l.start) (drop l.instr-index l.code) → AllByRecursion (IsOfStart l.start) l.code)
    × (AllByRecursion (IsOfStart l.start) l.code → AllByRecursion (IsOfStart l.start) (drop l.instr-index l.code))
