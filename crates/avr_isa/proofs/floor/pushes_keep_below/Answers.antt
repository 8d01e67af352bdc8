use Rattle.avr_isa.proofs.LowestAddress.{push_keeps, rcall_keeps, icall_keeps, call_keeps, interrupt_keeps}
use Rattle.avr_isa.proofs.floor.pushes_keep_below.Goals as goal

pub returns-clause-push : goal.returns-clause-push
returns-clause-push c = push_keeps

pub returns-clause-rcall : goal.returns-clause-rcall
returns-clause-rcall c = rcall_keeps

pub returns-clause-icall : goal.returns-clause-icall
returns-clause-icall c = icall_keeps

pub returns-clause-call : goal.returns-clause-call
returns-clause-call c = call_keeps

pub returns-clause-interrupt : goal.returns-clause-interrupt
returns-clause-interrupt c = interrupt_keeps
