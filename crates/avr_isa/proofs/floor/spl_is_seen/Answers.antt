use Rattle.avr_isa.proofs.LowestAddress.{spl_seen}
use Rattle.avr_isa.proofs.floor.spl_is_seen.Goals as goal

pub returns : goal.returns
returns c = spl_seen
