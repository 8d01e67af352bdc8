use Rattle.std.proofs.Common.{◌≡◌, [], replicate}
use Rattle.vg_bound.proofs.graph.no_calls.Given as goal

abbrev pub invariant-loop-node : goal.invariant-loop-node
invariant-loop-node l = l.rows.items ≡ replicate l._node []
