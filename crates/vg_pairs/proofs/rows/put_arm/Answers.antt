use Rattle.std.proofs.Common.{ap, ◌∙◌}
use Rattle.vg_core.specs.declared.code.Code.TheViews as views
use Rattle.vg_pairs.specs.Lists.{arms_list}
use Rattle.vg_pairs.proofs.RowLists.{arms_more}
use Rattle.vg_pairs.proofs.rows.put_arm.Goals as goal

pub returns : goal.returns
returns c =
    λ z. ap (λ y. arms_list y z) c.in_ok-push.ensures.items ∙ arms_more c.args.rows.now.items (views.Arm c.args.condition c.args.block) z
