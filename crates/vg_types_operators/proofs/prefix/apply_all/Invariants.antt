use Rattle.vg_types_operators.specs.Prefixes.{Applying}
use Rattle.vg_types_operators.proofs.prefix.apply_all.Given as goal

abbrev pub invariant-loop-count : goal.invariant-loop-count
invariant-loop-count l = Applying l.fn.names l.fn.declared l.fn.body l.fn.locals l.fn.operators l.fn.type_ l.count l.codes.items

abbrev pub decreases-loop-count : goal.decreases-loop-count
decreases-loop-count l = l.count
