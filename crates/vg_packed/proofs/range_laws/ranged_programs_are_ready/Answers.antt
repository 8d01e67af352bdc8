use Rattle.vg_packed.proofs.Ready.{is_plain, is_ready}
use Rattle.vg_packed.proofs.range_laws.ranged_programs_are_ready.Goals as goal

pub returns-clause-plain : goal.returns-clause-plain
returns-clause-plain c = λ p ranges. is_plain p ranges

pub returns-clause-ready : goal.returns-clause-ready
returns-clause-ready c = λ p formed ranges clock h starts makes. is_ready p ranges formed clock h starts makes
