use Rattle.std.proofs.Common.{◌≡◌, true}
use Rattle.vg_flat_each.proofs.Pushed.{each_flattened}
use Rattle.vg_flat_each.proofs.laws.flattened_code_keeps.Goals as goal

pub returns : goal.returns
returns c = λ has. each_flattened (λ i. has i ≡ true)
