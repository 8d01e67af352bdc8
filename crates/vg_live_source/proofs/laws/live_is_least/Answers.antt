use Rattle.std.specs.Prelude.{◌≡◌, true}
use Rattle.vg_live_source.specs.Least.{least}
use Rattle.vg_live_source.proofs.laws.live_is_least.Goals as goal

pub returns : goal.returns
returns c = λ p h S closed y live. least p h (λ y. S y ≡ true) closed y live
