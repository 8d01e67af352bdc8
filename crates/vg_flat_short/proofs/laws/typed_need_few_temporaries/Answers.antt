use Rattle.vg_flat_short.proofs.Fewest.{flat_from}
use Rattle.vg_flat_short.proofs.laws.typed_need_few_temporaries.Goals as goal

pub returns : goal.returns
returns c = λ lay m most few typed within room. flat_from lay m most few typed within room
