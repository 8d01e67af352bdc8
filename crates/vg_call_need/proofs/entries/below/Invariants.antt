use Rattle.std.specs.Prelude.{◌≡◌, ◌++◌, drop}
use Rattle.vg_call_need.specs.Graph.{below}
use Rattle.vg_call_need.proofs.entries.below.Given as goal

abbrev pub invariant-loop-procedure : goal.invariant-loop-procedure
invariant-loop-procedure l = l.row ++ below l.count (drop l.procedure-index l.procedures) ≡ below l.count l.procedures
