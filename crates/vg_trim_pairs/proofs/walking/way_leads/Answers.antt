use Rattle.vg_trim_pairs.proofs.Walks.{begins}
use Rattle.vg_trim_pairs.proofs.walking.way_leads.Goals as goal

pub returns : goal.returns
returns c h =
    begins c.args.ground.older.now c.args.ground.facts.now c.args.ground.places.now c.args.before.now c.args.sure c.args.place c.args.spent c.args.to
    c.none_set.result c.none_set.ensures (c.walks.ensures h)
