use Rattle.std.proofs.Common.{◌∙◌, subst}
use Rattle.vg_io.specs.Piece.{AppendsAll, AppendsFront}
use Rattle.vg_outlet.proofs.Puts.{puts_chunk, fails_chunk}
use Rattle.vg_outlet.proofs.outlet.Outlet.put_up_to.Goals as goal

pub returns-in-Ok-clause-puts : goal.returns-in-Ok-clause-puts
returns-in-Ok-clause-puts g c =
    puts_chunk _ _ _ _ c.args.self.now.put c.args.end c.args.events.now c.requires.order c.requires.within c.in-Ok.ensures.later c.args.self.now.failed
    c.if-self.false
    (subst (AppendsAll (g.O.Sink.told c.args.sink.now) (g.O.Sink.told c.put.new.self)) (c.as_slice.ensures.value ∙ c.in_ok-bytes.ensures) c.in-Ok.ensures.ok)

pub returns-clause-puts : goal.returns-clause-puts
returns-clause-puts g c =
    fails_chunk _ _ _ _ c.args.self.now.put c.args.end c.args.events.now c.requires.order c.requires.within c.in-Err.ensures.later c.args.self.now.failed
    c.if-self.false
    (subst (AppendsFront (g.O.Sink.told c.args.sink.now) (g.O.Sink.told c.put.new.self)) (c.as_slice.ensures.value ∙ c.in_ok-bytes.ensures) c.in-Err.ensures.failed)
    c.in-Err.ensures.cause
