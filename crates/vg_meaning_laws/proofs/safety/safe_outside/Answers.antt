use Rattle.vg_meaning_laws.proofs.Safe.{safe_read, safe_write, safe_interrupt, safe_idles}
use Rattle.vg_meaning_laws.proofs.safety.safe_outside.Goals as goal

pub returns-clause-read : goal.returns-clause-read
returns-clause-read g c = λ address p touches wants k. safe_read _ _ _ _ address p touches wants k

pub returns-clause-write : goal.returns-clause-write
returns-clause-write g c = λ address value touches. safe_write _ _ _ address value touches

pub returns-clause-interrupt : goal.returns-clause-interrupt
returns-clause-interrupt g c = λ p done k. safe_interrupt _ _ _ _ p done k

pub returns-clause-idle : goal.returns-clause-idle
returns-clause-idle g c = λ n p done k. safe_idles _ _ _ n p done k
