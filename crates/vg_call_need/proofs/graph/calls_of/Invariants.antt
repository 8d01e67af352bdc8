use Rattle.std.specs.Prelude.{◌≡◌, ◌++◌, drop, length}
use Rattle.vg_call_need.specs.Graph.{calls_of, named}
use Rattle.vg_call_need.proofs.graph.calls_of.Given as goal

abbrev pub invariant-loop-procedure : goal.invariant-loop-procedure
invariant-loop-procedure l = l.rows.items ++ named (length l.all) (drop l.procedure-index l.all) ≡ calls_of l.all
