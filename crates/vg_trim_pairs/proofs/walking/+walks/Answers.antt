use Rattle.vg_trim_pairs.specs.Views.{walk_in}
use Rattle.vg_trim_pairs.proofs.Walks.{goes_on}
use Rattle.vg_trim_pairs.proofs.walking.+walks.Goals as goal

pub returns-in-Some : goal.returns-in-Some
returns-in-Some t c h =
    goes_on c.args.ground.older.now c.args.ground.facts.now c.args.ground.places.now c.args.before.now c.args.sure c.args.place c.args.most
    (walk_in c.args.walk) c.counts_at-counts.result c.instr_at.result c.further.result c.in-Some.next c.if-most-eq0.false c.counts_at-counts.ensures
    c.instr_at.ensures c.in-Some.is c.further.ensures (c.walks.ensures h)
