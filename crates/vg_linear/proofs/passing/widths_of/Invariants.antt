use Rattle.std.proofs.Common.{◌≡◌, ◌++◌, drop, map}
use Rattle.vg_linear.specs.Passing.{width_for}
use Rattle.vg_linear.proofs.passing.widths_of.Given as goal

abbrev pub invariant-loop-count : goal.invariant-loop-count
invariant-loop-count l = l.row ++ map width_for (drop l.count-index l.bytes) ≡ map width_for l.bytes
