use Rattle.vg_reach_holding.proofs.Places.{on_ok, keeps_method, keeps_both}
use Rattle.vg_reach_holding.proofs.holding.hold_delegate.Goals as goal

pub returns-in-Some : goal.returns-in-Some
returns-in-Some c =
    on_ok c.mark-in-Some.result (keeps_both c.args.marks.now c.mark.new.self c.mark-in-Some.new.self c.args.receiver c.in-Some.cell c.args.method c.args.from c.args.also
    c.in-Some.is c.in_ok-mark.ensures) c.mark-in-Some.ensures

pub returns-in-None : goal.returns-in-None
returns-in-None c =
    keeps_method c.args.marks.now c.mark.new.self c.args.receiver c.args.method c.args.from c.args.also c.in-None.is c.in_ok-mark.ensures
