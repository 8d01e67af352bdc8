use Rattle.std.proofs.Common.{drop}
use Rattle.vg_grammar.proofs.Derivations.{Making, steps_left}
use Rattle.vg_grammar.proofs.derivation.derive.Given as goal

abbrev pub invariant-loop-mark : goal.invariant-loop-mark
invariant-loop-mark l = Making l.tokens l.at l.marks l.steps.items l.deep

abbrev pub decreases-loop-mark : goal.decreases-loop-mark
decreases-loop-mark l = steps_left l.marks (drop l.at l.tokens)
