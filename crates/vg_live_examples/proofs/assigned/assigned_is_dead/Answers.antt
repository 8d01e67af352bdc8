use Rattle.vg_live_examples.specs.Assigned.{a_live, log_dead}
use Rattle.vg_live_examples.proofs.assigned.assigned_is_dead.Goals as goal

pub returns-clause-read : goal.returns-clause-read
returns-clause-read c = a_live

pub returns-clause-dead : goal.returns-clause-dead
returns-clause-dead c = log_dead
