use Rattle.std.proofs.Common.{ap, ◌∙◌, ◌++◌}
use Rattle.vg_placement.specs.Columns.{unless_empty}
use Rattle.vg_place.specs.Counting.{item_columns_by}
use Rattle.vg_place.proofs.Rows.{more_item}
use Rattle.vg_place.proofs.elements.item_columns.Goals as goal

pub loop-element-preserved : goal.loop-element-preserved
loop-element-preserved c =
    more_item c.args.types.now c.args.sizes.now c.args.order.now c.loop-element.element-index c.loop-element.rows c.push_unless_empty.new.columns
    (item_columns_by c.args.types.now c.args.sizes.now c.args.order.now) c.loop-element-test.true c.loop-element.invariant (c.in_ok-push_unless_empty.ensures
    ∙ ap (λ z. c.loop-element.rows ++ unless_empty z) c.item_column.ensures)
