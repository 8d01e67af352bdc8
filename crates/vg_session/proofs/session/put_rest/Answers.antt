use Rattle.std.specs.Prelude.{Err}
use Rattle.vg_interp_run.specs.Run.{world}
use Rattle.vg_session.proofs.Ending.{ends_by, rest_failed, rest_front, rest_whole}
use Rattle.vg_session.proofs.session.put_rest.Goals as goal

pub returns-in-Ok-clause-ended : goal.returns-in-Ok-clause-ended
returns-in-Ok-clause-ended g c = ends_by {A = Unit {0}} c.end_of.result (Err c.args.why) c.end_of.ensures

pub returns-in-Ok-clause-lines : goal.returns-in-Ok-clause-lines
returns-in-Ok-clause-lines g c =
    λ told faults is.
    rest_whole told faults _ _ c.events.result.now (world c.args.play.now.run).outside.trace c.events.ensures c.put_all.ensures.puts is {A = Unit {0}}
    c.end_of.result (Err c.args.why) c.end_of.ensures c.in-Ok.ensures.well c.in-Ok.ensures.all

pub returns-then-failed-clause-lines : goal.returns-then-failed-clause-lines
returns-then-failed-clause-lines g c =
    λ told faults is.
    rest_failed told faults _ _ c.events.result.now (world c.args.play.now.run).outside.trace c.events.ensures c.put_all.ensures.puts is c.if-failed.true

pub returns-else-failed-clause-lines : goal.returns-else-failed-clause-lines
returns-else-failed-clause-lines g c =
    λ told faults is.
    rest_front told faults _ _ c.events.result.now (world c.args.play.now.run).outside.trace c.events.ensures c.put_all.ensures.puts is
