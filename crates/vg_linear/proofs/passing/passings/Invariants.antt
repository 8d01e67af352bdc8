use Rattle.std.proofs.Common.{◌≡◌, ◌++◌, drop, map}
use Rattle.vg_linear.specs.Passing.{passing_for}
use Rattle.vg_linear.specs.Widths.{AllHaveWidths}
use Rattle.vg_linear.proofs.passing.passings.Given as goal

abbrev pub invariant-loop-procedure : goal.invariant-loop-procedure
invariant-loop-procedure l =
    (l.row ++ map passing_for (drop l.procedure-index l.procedures) ≡ map passing_for l.procedures) × AllHaveWidths (drop l.procedure-index l.procedures)
