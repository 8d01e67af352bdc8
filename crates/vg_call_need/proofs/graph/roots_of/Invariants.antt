use Rattle.std.specs.Prelude.{◌≡◌, ◌++◌, drop, map}
use Rattle.vg_call_need.specs.Graph.{root}
use Rattle.vg_call_need.proofs.graph.roots_of.Given as goal

abbrev pub invariant-loop-node : goal.invariant-loop-node
invariant-loop-node l = l.roots ++ map (root l.extra) (drop l.node-index l.nodes) ≡ map (root l.extra) l.nodes
