use Rattle.vg_session.specs.Ends.{session_on}
use Rattle.vg_run.proofs.Endings.{failed_end, stopped_run}
use Rattle.vg_run.proofs.playing.play_run.Goals as goal

pub returns-in-Err-clause-plays : goal.returns-in-Err-clause-plays
returns-in-Err-clause-plays g c = stopped_run c.run.result c.in-Err.answer _ _ _ c.in-Err.ensures c.run.ensures.lines

pub returns-in-Err-put_ending-clause-plays : goal.returns-in-Err-put_ending-clause-plays
returns-in-Err-put_ending-clause-plays g c =
    failed_end c.run.result c.in-Ok.end c.end_line.result (session_on c.args.run.program.now c.args.run.heap c.args.script.now c.args.steps) _ _ _
    c.in-Ok.ensures c.run.ensures.ended c.run.ensures.lines c.end_line.ensures c.in-Err-put_ending.ensures.failed
