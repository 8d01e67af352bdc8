use Rattle.std.proofs.Common.{ap, ◌∙◌}
use Rattle.vg_tree.specs.Held.{arm_row}
use Rattle.vg_tree.proofs.ArmLists.{node_of_arms}
use Rattle.vg_tree.proofs.arms.row_of_arms.Goals as goal

pub returns : goal.returns
returns c texts = node_of_arms texts c.reverse.new.self ∙ ap (arm_row texts) c.reverse.ensures.items
