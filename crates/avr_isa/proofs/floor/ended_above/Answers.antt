use Rattle.avr_isa.proofs.Runs.{never_lower}
use Rattle.avr_isa.proofs.floor.ended_above.Goals as goal

pub returns : goal.returns
returns c = never_lower
