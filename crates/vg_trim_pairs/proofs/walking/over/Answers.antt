use Rattle.vg_trim_pairs.specs.Views.{walk_in}
use Rattle.vg_trim_pairs.proofs.Walks.{at_when, at_unless}
use Rattle.vg_trim_pairs.proofs.walking.over.Goals as goal

pub returns-in-When : goal.returns-in-When
returns-in-When c go =
    at_when go c.args.counts (walk_in c.args.walk) c.in-When.test c.in-When.to c.args.instr c.decided.result c.by_truth.result
    c.in-When.is c.decided.ensures (c.by_truth.ensures go)

pub returns-in-Unless : goal.returns-in-Unless
returns-in-Unless c go =
    at_unless go c.args.counts (walk_in c.args.walk) c.in-Unless.test c.in-Unless.to c.args.instr c.decided-in-Unless.result
    c.by_truth-in-Unless.result c.in-Unless.is c.decided-in-Unless.ensures (c.by_truth-in-Unless.ensures go)
