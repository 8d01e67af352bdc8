use Rattle.avr_isa.proofs.Agreeing.{above_floor}
use Rattle.avr_isa.proofs.agreement.follows_above_floor.Goals as goal

pub returns : goal.returns
returns c = above_floor
