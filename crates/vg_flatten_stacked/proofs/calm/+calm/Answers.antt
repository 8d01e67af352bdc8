use Rattle.std.proofs.Common.{sym, ap, ◌∙◌, arith}
use Rattle.vg_flatten_control.proofs.Along.{part_weighs}
use Rattle.vg_flatten_control.proofs.Rows.{row_same, row_weighs, arms_same, arms_weigh}
use Rattle.vg_flatten_pushed.specs.Stacked.{is_calm}
use Rattle.vg_flatten_stacked.proofs.calm.+calm.Goals as goal

pub is_calm-row_is_calm-requires : goal.is_calm-row_is_calm-requires
is_calm-row_is_calm-requires t c =
    let e = row_weighs c.args.code.now c.in-Row.codes c.as_slice.result.now c.in-Row.is c.as_slice.ensures.value in omega (arith, e)

pub is_calm-arms_are_calm-requires : goal.is_calm-arms_are_calm-requires
is_calm-arms_are_calm-requires t c =
    let e = arms_weigh c.args.code.now c.in-Arms.all c.in-Arms.last c.as_slice-in-Arms.result.now c.deref-in-Arms.result.now c.in-Arms.is
    c.as_slice-in-Arms.ensures.value c.deref-in-Arms.ensures in omega (arith, e)

pub is_calm-returns-in-Row : goal.is_calm-returns-in-Row
is_calm-returns-in-Row t c =
    c.row_is_calm.ensures ∙ ap is_calm (sym (row_same c.args.code.now c.in-Row.codes c.as_slice.result.now c.in-Row.is c.as_slice.ensures.value))

pub is_calm-returns-in-Arms : goal.is_calm-returns-in-Arms
is_calm-returns-in-Arms t c =
    c.arms_are_calm.ensures
    ∙ ap is_calm (sym (arms_same c.args.code.now c.in-Arms.all c.in-Arms.last c.as_slice-in-Arms.result.now c.deref-in-Arms.result.now c.in-Arms.is
    c.as_slice-in-Arms.ensures.value c.deref-in-Arms.ensures))

pub row_is_calm-is_calm-requires : goal.row_is_calm-is_calm-requires
row_is_calm-is_calm-requires t c =
    let e = part_weighs c.args.codes.now c.parts.part-index c.part-item.result c.parts-test.true (sym c.part-item.is) in omega (arith, e)
