use Rattle.std.proofs.Common.{drop}
use Rattle.std.specs.List.{AllByRecursion}
use Rattle.vg_frame_costs.specs.Fitting.{IsOfMethod}
use Rattle.vg_frame_costs.proofs.codes.are_of_method.Given as goal

abbrev pub invariant-loop-instr : goal.invariant-loop-instr
invariant-loop-instr l =
    (AllByRecursion (IsOfMethod l.start) (drop l.instr-index l.code) → AllByRecursion (IsOfMethod l.start) l.code)
    × (AllByRecursion (IsOfMethod l.start) l.code → AllByRecursion (IsOfMethod l.start) (drop l.instr-index l.code))
