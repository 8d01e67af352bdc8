use Rattle.vg_tree.specs.HeldMade.{made_at}
use Rattle.vg_read_new.proofs.OtherKids.{no_call_behind}
use Rattle.vg_read_new.proofs.fresh.level_or_suffix.Goals as goal

pub returns-in_default : goal.returns-in_default
returns-in_default c texts =
    rw (no_call_behind texts c.args.place c.args.first.now (made_at texts c.args.behind.now) c.in_default.not-Row) (c.bracketed.ensures texts)
