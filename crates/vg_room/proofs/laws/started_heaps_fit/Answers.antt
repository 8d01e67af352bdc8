use Rattle.vg_room.proofs.Runs.{started_fits}
use Rattle.vg_room.proofs.laws.started_heaps_fit.Goals as goal

pub returns : goal.returns
returns c = started_fits
