use Rattle.vg_types.proofs.Assembling.{all_run, all_typed}
use Rattle.vg_types.proofs.assembly.bodies_assembled.Goals as goal

pub returns-clause-run : goal.returns-clause-run
returns-clause-run c = all_run

pub returns-clause-typed : goal.returns-clause-typed
returns-clause-typed c = all_typed
