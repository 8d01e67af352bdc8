use Rattle.vg_flat_taken.proofs.Whole.{pushed_closed}
use Rattle.vg_flat_taken.proofs.laws.typed_are_pushed.Goals as goal

pub returns : goal.returns
returns c = λ lay m most pushes few code takes one within. pushed_closed lay m few most pushes code takes one within
