use Rattle.vg_flat_frames.proofs.Finding.{found_kept}
use Rattle.vg_flat_frames.proofs.laws.calls_of_finders_keep_as_much.Goals as goal

pub returns : goal.returns
returns c = found_kept
