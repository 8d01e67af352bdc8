use Rattle.std.proofs.Common.{◌≡◌, subst, Some, length, slice_get}
use Rattle.vg_bound.specs.Graph.{round}
use Rattle.vg_bound.proofs.laws.following_goes_round.Goals as goal

pub returns : goal.returns
returns c = λ kept once i a b e n. subst (λ z. slice_get kept (round z 0 (length kept)) ≡ Some b) (once n.0 i a n.1 e) n.2
