use Rattle.vg_reach.proofs.Closed.{dead_is}
use Rattle.vg_reach.proofs.reach.why.Goals as goal

pub returns-clause-dead : goal.returns-clause-dead
returns-clause-dead c = λ p h l. dead_is p h c.args.live.now c.args.member c.reason.result c.reason.ensures l
