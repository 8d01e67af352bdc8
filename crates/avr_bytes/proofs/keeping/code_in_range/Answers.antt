use Rattle.avr_bytes.proofs.Runs.{stands-in_range}
use Rattle.avr_bytes.proofs.keeping.code_in_range.Goals as goal

pub returns : goal.returns
returns c = λ flash pc i f at. stands-in_range flash f pc i at
