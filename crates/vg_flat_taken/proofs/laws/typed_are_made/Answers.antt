use Rattle.vg_flat_taken.proofs.Whole.{is_made}
use Rattle.vg_flat_taken.proofs.laws.typed_are_made.Goals as goal

pub returns : goal.returns
returns c = is_made
