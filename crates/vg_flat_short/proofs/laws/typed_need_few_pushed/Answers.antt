use Rattle.vg_flat_short.proofs.Pushes.{pushed_from}
use Rattle.vg_flat_short.proofs.laws.typed_need_few_pushed.Goals as goal

pub returns : goal.returns
returns c = λ lay m most few typed takes more within room. pushed_from lay m most few typed takes more within room
