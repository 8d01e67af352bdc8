use Rattle.vg_flat_frames.proofs.Openings.{opening_few}
use Rattle.vg_flat_frames.proofs.laws.openings_take_few_bytes.Goals as goal

pub returns : goal.returns
returns c = opening_few
