use Rattle.vg_faults.proofs.Once.{no_start_fault, one_fault}
use Rattle.vg_faults.proofs.laws.faults_exclude.Goals as goal

pub returns-clause-one : goal.returns-clause-one
returns-clause-one c = one_fault

pub returns-clause-none : goal.returns-clause-none
returns-clause-none c = no_start_fault
