use Rattle.std.proofs.Common.{ℕ, ◌<◌}
use Rattle.vg_trim.specs.Looked.{IsPlaceFree}
use Rattle.vg_trim.proofs.looking.all_free.Given as goal

abbrev pub invariant-loop-at : goal.invariant-loop-at
invariant-loop-at l = (k : ℕ) → k < l.at → IsPlaceFree l.new l.result_width l.newer k
