use Rattle.std.proofs.Common.{ℕ, ◌<◌}
use Rattle.vg_trim_pairs.specs.Views.{both_in}
use Rattle.vg_trim.specs.Looked.{IsStoodFor}
use Rattle.vg_trim.proofs.looking.all_stand.Given as goal

abbrev pub invariant-loop-at : goal.invariant-loop-at
invariant-loop-at l = (k : ℕ) → k < l.at → IsStoodFor (both_in l.both) k
