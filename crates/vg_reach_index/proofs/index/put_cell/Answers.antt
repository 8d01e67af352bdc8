use Rattle.std.proofs.Common.{rules, ◌≡◌, length}
use Rattle.vg_reach_index.proofs.Rows.{cell_is_put}
use Rattle.vg_reach_index.proofs.index.put_cell.Goals as goal

pub returns-in_ok-push : goal.returns-in_ok-push
returns-in_ok-push c =
    let l : c.len.result ≡ length c.args.rows.now.items = search rules in
    cell_is_put c.args.rows.now.items c.args.class c.from-place.result c.len.result c.args.cell c.index_mut.result.now c.replace-row.result c.push.new.self
    c.replace-row.new.dest c.from-place.ensures l c.if-place-len.true c.index_mut.ensures.value c.replace-row.ensures.value c.in_ok-push.ensures.ok
