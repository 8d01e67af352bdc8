use Rattle.avr_bytes.proofs.Instructions.{change-bytes}
use Rattle.avr_bytes.proofs.keeping.instructions_keep_bytes.Goals as goal

pub returns : goal.returns
returns c = λ flash cpu i f r s. change-bytes flash f cpu s i r
