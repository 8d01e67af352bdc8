use Rattle.std.proofs.Common.{ℕ, ◌<◌}
use Rattle.vg_trim.specs.Looked.{IsPlaceInOrder}
use Rattle.vg_trim.proofs.looking.all_in_order.Given as goal

abbrev pub invariant-loop-at : goal.invariant-loop-at
invariant-loop-at l = (k : ℕ) → k < l.at → IsPlaceInOrder l.new l.result_width l.older l.newer k
