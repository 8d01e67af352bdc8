use Rattle.std.proofs.Common.{rules, ◌<◌, length}
use Rattle.vg_shape.proofs.Cells.{item_put}
use Rattle.vg_shape.proofs.store.set_item_at.Goals as goal

pub returns-then-index-len : goal.returns-then-index-len
returns-then-index-len c =
    let within : c.args.k < length c.args.cells.now.items = search rules in
    item_put c.args.i c.args.value c.args.cells.now.items c.args.k _ _ _ _ within c.index_mut.ensures.value c.replace-cell.ensures.value c.with_element.ensures
