use Rattle.vg_faults.proofs.Makers.{no_live_fault, one_live_fault}
use Rattle.vg_faults.proofs.laws.live_faults_exclude.Goals as goal

pub returns-clause-one : goal.returns-clause-one
returns-clause-one c = one_live_fault

pub returns-clause-none : goal.returns-clause-none
returns-clause-none c = no_live_fault
