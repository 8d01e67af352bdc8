use Rattle.avr_view.proofs.WorkedRun.{stops_so}
use Rattle.avr_view.proofs.worked.program_stops.Goals as goal

pub returns : goal.returns
returns c = stops_so
