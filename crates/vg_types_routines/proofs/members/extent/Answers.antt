use Rattle.std.proofs.Common.{◌<◌, ◌^◌, subst}
use Rattle.vg_syntax.specs.Outline.{size}
use Rattle.vg_tree_walks.proofs.Alike.{alike}
use Rattle.vg_types_routines.proofs.members.extent.Goals as goal

pub count_nodes-requires : goal.count_nodes-requires
count_nodes-requires c = subst (λ o. size o < 2 ^ 32) (alike c.args.names.now c.args.node.now) c.requires
