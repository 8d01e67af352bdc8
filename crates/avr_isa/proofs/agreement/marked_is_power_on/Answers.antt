use Rattle.avr_isa.proofs.Agreeing.{is_power_on}
use Rattle.avr_isa.proofs.agreement.marked_is_power_on.Goals as goal

pub returns : goal.returns
returns c = is_power_on
