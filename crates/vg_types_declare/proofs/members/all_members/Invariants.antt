use Rattle.std.proofs.Common.{◌≡◌, true, ℕ, List, drop}
use Rattle.vg_tree.specs.Held.{row_at}
use Rattle.vg_types_declared.specs.Apart.{are_members}
use Rattle.vg_types_declare.proofs.members.all_members.Given as goal

abbrev pub invariant-nodes : goal.invariant-nodes
invariant-nodes l =
    (texts : List (List ℕ)) → are_members (row_at texts (drop l.node-index l.nodes)) ≡ true → are_members (row_at texts l.nodes) ≡ true
