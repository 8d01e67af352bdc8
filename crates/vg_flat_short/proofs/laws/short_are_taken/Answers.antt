use Rattle.vg_flat_short.proofs.Short.{only_memory}
use Rattle.vg_flat_short.proofs.laws.short_are_taken.Goals as goal

pub returns : goal.returns
returns c = λ lay m e typed room. only_memory lay m room e typed
