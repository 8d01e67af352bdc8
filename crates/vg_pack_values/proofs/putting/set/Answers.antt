use Rattle.std.proofs.Common.{◌<◌, length, rules}
use Rattle.vg_pack_values.proofs.Entered.{entry_is_set}
use Rattle.vg_pack_values.proofs.putting.set.Goals as goal

pub returns-then-column-len : goal.returns-then-column-len
returns-then-column-len c =
    let within : c.args.column < length c.args.rows.now.items = search rules in
    entry_is_set c.args.rows.now.items c.args.column c.args.index c.args.entry _ _ _ _ within c.index_mut.ensures.value c.replace-row.ensures.value
    c.row_with.ensures
