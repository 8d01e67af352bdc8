use Rattle.vg_run.proofs.Sessions.{played_from}
use Rattle.vg_run.proofs.playing.play.Goals as goal

pub returns-in-Ok-clause-plays : goal.returns-in-Ok-clause-plays
returns-in-Ok-clause-plays g c =
    played_from _ _ _ _ c.in-Ok.start _ _ _ _ c.in-Ok.ensures
    c.into_program_and_heap-program.ensures.program c.into_program_and_heap-program.ensures.heap c.play_script.ensures.plays
