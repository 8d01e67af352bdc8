use Rattle.std.proofs.Common.{drop}
use Rattle.vg_tree_walks.proofs.Classes.{Seeking}
use Rattle.vg_tree_walks.proofs.class.class_in.Given as goal

abbrev pub invariant-loop-declaration : goal.invariant-loop-declaration
invariant-loop-declaration l = Seeking l.name l.fn.declarations (drop l.declaration-index l.row) l.next
