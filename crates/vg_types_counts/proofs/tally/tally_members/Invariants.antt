use Rattle.std.proofs.Common.{drop}
use Rattle.vg_tree.specs.Held.{node_at, row_at}
use Rattle.vg_types_counts.specs.Tallies.{tally_members}
use Rattle.vg_types_counts.proofs.Tallying.{Tallying}
use Rattle.vg_types_counts.proofs.tally.tally_members.Given as goal

abbrev pub invariant-each : goal.invariant-each
invariant-each l =
    Tallying tally_members (λ texts. node_at texts l.fn.members) (λ texts. row_at texts (drop l.node-index l.nodes)) l.fn.so_far l.tally
