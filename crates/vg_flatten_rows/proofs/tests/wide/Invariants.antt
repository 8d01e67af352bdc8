use Rattle.std.specs.List.{AllByRecursion}
use Rattle.vg_lin.specs.Sound.{IsWidth}
use Rattle.vg_flatten_rows.proofs.tests.wide.Given as goal

abbrev pub invariant-loop-local : goal.invariant-loop-local
invariant-loop-local l = AllByRecursion IsWidth l.widths
