use Rattle.std.proofs.Common.{drop}
use Rattle.std.specs.List.{AllByRecursion}
use Rattle.vg_frame_costs.specs.Fitting.{IsOfRoutine}
use Rattle.vg_frame_costs.proofs.codes.are_of_routine.Given as goal

abbrev pub invariant-loop-instr : goal.invariant-loop-instr
invariant-loop-instr l =
    (AllByRecursion IsOfRoutine (drop l.instr-index l.code) → AllByRecursion IsOfRoutine l.code)
    × (AllByRecursion IsOfRoutine l.code → AllByRecursion IsOfRoutine (drop l.instr-index l.code))
