use Rattle.vg_flat_frames.proofs.Widths.{local_bytes}
use Rattle.vg_flat_frames.proofs.laws.flattened_locals_take_few_bytes.Goals as goal

pub returns : goal.returns
returns c = local_bytes
