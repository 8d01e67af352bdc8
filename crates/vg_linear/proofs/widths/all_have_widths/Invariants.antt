use Rattle.std.proofs.Common.{drop}
use Rattle.vg_linear.specs.Widths.{AllHaveWidths}
use Rattle.vg_linear.proofs.widths.all_have_widths.Given as goal

abbrev pub invariant-loop-procedure : goal.invariant-loop-procedure
invariant-loop-procedure l =
    (AllHaveWidths (drop l.procedure-index l.procedures) → AllHaveWidths l.procedures)
    × (AllHaveWidths l.procedures → AllHaveWidths (drop l.procedure-index l.procedures))
