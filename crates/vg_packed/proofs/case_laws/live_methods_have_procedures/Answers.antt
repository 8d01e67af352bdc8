use Rattle.vg_packed.proofs.Procedures.{have, alone}
use Rattle.vg_packed.proofs.case_laws.live_methods_have_procedures.Goals as goal

pub returns-clause-have : goal.returns-clause-have
returns-clause-have c = λ live m e. have 0 live m e

pub returns-clause-alone : goal.returns-clause-alone
returns-clause-alone c = λ live m q e. alone 0 live m q e
