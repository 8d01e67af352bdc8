use Rattle.std.proofs.Common.{Ok}
use Rattle.vg_drive.proofs.Tries.{trial_fails, trial_shows}
use Rattle.vg_drive.proofs.trial.tried.Goals as goal

pub returns-in-Ok-put_trial-clause-holds : goal.returns-in-Ok-put_trial-clause-holds
returns-in-Ok-put_trial-clause-holds g c = record {
  answer = Ok c.in-Ok.built;
  says = c.in-Ok.ensures;
  puts = trial_shows _ _ c.in-Ok-ready.trial c.in-Ok-put_trial.end _ _ _ c.in-Ok-ready.ensures c.in-Ok-put_trial.ensures.ended c.status_of_ending.ensures
      c.in-Ok-put_trial.ensures.hex c.in-Ok-put_trial.ensures.lines;
}

pub returns-in-Err-put_trial-clause-holds : goal.returns-in-Err-put_trial-clause-holds
returns-in-Err-put_trial-clause-holds g c = record {
  answer = Ok c.in-Ok.built;
  says = c.in-Ok.ensures;
  puts = trial_fails _ _ c.in-Ok-ready.trial _ _ c.in-Ok-ready.ensures c.in-Err-put_trial.ensures.fails;
}
