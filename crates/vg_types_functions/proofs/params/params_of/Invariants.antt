use Rattle.vg_types_functions.proofs.Walking.{Walking}
use Rattle.vg_types_functions.proofs.params.params_of.Given as goal

abbrev pub invariant-loop-type_ : goal.invariant-loop-type_
invariant-loop-type_ l = Walking l.declared.tables l.types l.number l.params

abbrev pub decreases-loop-type_ : goal.decreases-loop-type_
decreases-loop-type_ l = l.number
