use Rattle.std.proofs.Common.{ap, ◌∙◌, ◌&&◌, sym, arith}
use Rattle.vg_tree.specs.Held.{type_at}
use Rattle.vg_rules.specs.Written.{type_keeps}
use Rattle.vg_types_tables.specs.Views.{declarations_at}
use Rattle.vg_types_tables.proofs.WrittenTypes.{keeps_array, keeps_no_array, keeps_row, one_smaller, size_of_row}
use Rattle.vg_types_tables.proofs.written_type.+keeping.Goals as goal

pub all_keep-type_keeps-requires : goal.all_keep-type_keeps-requires
all_keep-type_keeps-requires t c =
    let less = one_smaller c.args.all.now c.loop-each.each-index c.each-item.result c.loop-each-test.true c.each-item.is in
    (omega (arith, less), c.requires.declares)

pub type_keeps-all_keep-requires : goal.type_keeps-all_keep-requires
type_keeps-all_keep-requires t c =
    let size = size_of_row c.args.type_.now c.in-Row.all c.as_slice.result.now c.in-Row.is c.as_slice.ensures.value in
    (omega (arith, size), c.requires.declares)

pub type_keeps-returns-then-has_levels : goal.type_keeps-returns-then-has_levels
type_keeps-returns-then-has_levels t c =
    ap (λ l. l && c.type_keeps.result) (sym c.if-has_levels.true)
    ∙ keeps_array (declarations_at c.args.names.now c.args.root.now) c.args.names.now c.args.type_.now c.in-Array.field-0 c.in-Array.element c.has_levels.result
    c.type_keeps.result c.in-Array.is (c.has_levels.ensures c.args.names.now)
    (c.type_keeps.ensures ∙ ap (λ e. type_keeps (declarations_at c.args.names.now c.args.root.now) (type_at c.args.names.now e)) c.deref.ensures)

pub type_keeps-returns-else-has_levels : goal.type_keeps-returns-else-has_levels
type_keeps-returns-else-has_levels t c =
    keeps_no_array (declarations_at c.args.names.now c.args.root.now) c.args.names.now c.args.type_.now c.in-Array.field-0 c.in-Array.element
    c.has_levels.result c.in-Array.is (c.has_levels.ensures c.args.names.now) c.if-has_levels.false

pub type_keeps-returns-in-Row : goal.type_keeps-returns-in-Row
type_keeps-returns-in-Row t c =
    keeps_row (declarations_at c.args.names.now c.args.root.now) c.args.names.now c.args.type_.now c.in-Row.all c.as_slice.result.now c.all_keep.result
    c.in-Row.is c.as_slice.ensures.value c.all_keep.ensures
