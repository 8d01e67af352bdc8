use Rattle.std.proofs.Common.{map, sym, ap, ◌∙◌, subst}
use Rattle.std.specs.List.{AllByRecursion}
use Rattle.vg_first_text.specs.FirstText.{IsAssignment, FirstAssignment}
use Rattle.vg_first_text.specs.FirstViews.{assignment_view, register_view}
use Rattle.vg_scan.proofs.Rows.{row_at, holds_at}
use Rattle.vg_first_text.proofs.first_text.fits.assignment_writes.Goals as goal

pub returns-in_default-clause-not : goal.returns-in_default-clause-not
returns-in_default-clause-not c = λ _ _ h.
    let P : FirstAssignment → Type 0 = IsAssignment c.args.program.now.device.now (map register_view c.args.program.now.registers.items) in
    let row = ap (map assignment_view) (sym c.as_slice-assignment-items.ensures.value)
    ∙ row_at assignment_view c.as_slice-assignment-items.result.now c.loop-assignment.assignment-index _ c.loop-assignment-test.true in
    c.in_default.ensures.none (holds_at P _ _ _ (subst (AllByRecursion P) row h))
