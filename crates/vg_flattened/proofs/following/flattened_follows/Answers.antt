use Rattle.vg_flattened.proofs.RunRight.{follows}
use Rattle.vg_flattened.proofs.following.flattened_follows.Goals as goal

pub returns : goal.returns
returns c = λ k lay f p flat. follows k lay f p flat
