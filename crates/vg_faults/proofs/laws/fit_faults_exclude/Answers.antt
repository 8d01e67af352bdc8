use Rattle.vg_faults.proofs.Fits.{no_fit_fault, one_fit_fault}
use Rattle.vg_faults.proofs.laws.fit_faults_exclude.Goals as goal

pub returns-clause-one : goal.returns-clause-one
returns-clause-one c = one_fit_fault

pub returns-clause-none : goal.returns-clause-none
returns-clause-none c = no_fit_fault
