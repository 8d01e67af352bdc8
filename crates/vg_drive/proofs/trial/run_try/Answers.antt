use Rattle.vg_drive.proofs.Tries.{fetched_by, never_read}
use Rattle.vg_drive.proofs.trial.run_try.Goals as goal

pub returns-clause-fetched : goal.returns-clause-fetched
returns-clause-fetched g c = fetched_by _ _ _ _ c.tried.ensures.holds

pub returns-clause-read : goal.returns-clause-read
returns-clause-read g c = never_read _ _ _ _ c.tried.ensures.holds
