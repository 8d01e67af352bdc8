use Rattle.std.proofs.Common.{ap, ◌∙◌}
use Rattle.vg_pairs.specs.Lists.{arms_list, codes_list}
use Rattle.vg_pairs.proofs.RowLists.{codes_more, arms_more_code}
use Rattle.vg_pairs.proofs.rows.push_one.Goals as goal

pub returns-clause-row : goal.returns-clause-row
returns-clause-row c =
    λ z. ap (λ y. codes_list y z) c.in_ok-push.ensures.items ∙ codes_more c.args.rows.now.items c.args.code z c.requires.arm

pub returns-clause-arms : goal.returns-clause-arms
returns-clause-arms c =
    λ z. ap (λ y. arms_list y z) c.in_ok-push.ensures.items ∙ arms_more_code c.args.rows.now.items c.args.code z c.requires.arm
