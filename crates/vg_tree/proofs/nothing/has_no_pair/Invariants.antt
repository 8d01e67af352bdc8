use Rattle.std.proofs.Common.{◌≡◌, ℕ, List, drop}
use Rattle.vg_tree.specs.Held.{arm_row}
use Rattle.vg_tree.proofs.nothing.has_no_pair.Given as goal

abbrev pub invariant-loop-pair : goal.invariant-loop-pair
invariant-loop-pair l = (texts : List (List ℕ)) → arm_row texts (drop l.pair-index l.pairs) ≡ arm_row texts l.pairs
