use Rattle.std.proofs.Common.{◌≡◌, ◌++◌, drop}
use Rattle.vg_cases.specs.Fewer.{together}
use Rattle.vg_cases.proofs.joining.together.Given as goal

abbrev pub invariant-loop-case : goal.invariant-loop-case
invariant-loop-case l = l.row ++ together l.last (drop l.case-index l.rest) ≡ together l.fn.first l.rest
