use Rattle.std.proofs.Common.{ap, ◌∙◌}
use Rattle.vg_tree.specs.Held.{type_at}
use Rattle.vg_rules.specs.Written.{type_keeps}
use Rattle.vg_types_classes.specs.Classes.{declarations_in}
use Rattle.vg_types_signatures.specs.Asked.{levels_keep}
use Rattle.vg_types_signatures.proofs.Written.{array_kept, array_broken, type_row_same}
use Rattle.vg_types_signatures.proofs.types.+type_keeps.Goals as goal

pub row-init : goal.row-init
row-init t c =
    ap (type_keeps (declarations_in c.args.names.now c.args.nodes.now))
    (type_row_same c.args.names.now c.args.type_.now c.in-Row.types c.as_slice-type_-items.result.now c.in-Row.is c.as_slice-type_-items.ensures.value)

pub returns-then-levels_keep : goal.returns-then-levels_keep
returns-then-levels_keep t c =
    array_kept (declarations_in c.args.names.now c.args.nodes.now) c.in-Array.count (type_at c.args.names.now c.args.type_.now)
    (type_at c.args.names.now c.in-Array.element.value) c.levels_keep.result c.type_keeps.result
    (ap (type_at c.args.names.now) c.in-Array.is)
    (c.levels_keep.ensures c.args.names.now ∙ ap (λ e. levels_keep c.in-Array.count (type_at c.args.names.now e)) c.deref.ensures) c.if-levels_keep.true
    (c.type_keeps.ensures
    ∙ ap (λ e. type_keeps (declarations_in c.args.names.now c.args.nodes.now) (type_at c.args.names.now e)) c.deref-then-levels_keep.ensures)

pub returns-else-levels_keep : goal.returns-else-levels_keep
returns-else-levels_keep t c =
    array_broken (declarations_in c.args.names.now c.args.nodes.now) c.in-Array.count (type_at c.args.names.now c.args.type_.now)
    (type_at c.args.names.now c.in-Array.element.value) c.levels_keep.result
    (ap (type_at c.args.names.now) c.in-Array.is)
    (c.levels_keep.ensures c.args.names.now ∙ ap (λ e. levels_keep c.in-Array.count (type_at c.args.names.now e)) c.deref.ensures) c.if-levels_keep.false
