use Rattle.vg_flat_frames.proofs.Methods.{flat_of_method}
use Rattle.vg_flat_frames.proofs.laws.flattened_methods_stay_methods.Goals as goal

pub returns : goal.returns
returns c = flat_of_method
