use Rattle.std.proofs.Common.{drop}
use Rattle.std.specs.List.{AllByRecursion}
use Rattle.vg_lin.specs.Sound.{IsWidth}
use Rattle.vg_linear.proofs.widths.are_widths.Given as goal

abbrev pub invariant-loop-width : goal.invariant-loop-width
invariant-loop-width l =
    (AllByRecursion IsWidth (drop l.width-index l.widths) → AllByRecursion IsWidth l.widths)
    × (AllByRecursion IsWidth l.widths → AllByRecursion IsWidth (drop l.width-index l.widths))
