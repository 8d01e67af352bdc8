use Rattle.avr_isa.proofs.Agreeing.{within_stack}
use Rattle.avr_isa.proofs.agreement.follows_within_stack.Goals as goal

pub returns : goal.returns
returns c = within_stack
