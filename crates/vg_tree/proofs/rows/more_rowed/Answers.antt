use Rattle.vg_tree.proofs.KidLists.{three_kids}
use Rattle.vg_tree.proofs.rows.more_rowed.Goals as goal

pub returns-in-len3 : goal.returns-in-len3
returns-in-len3 c texts =
    rw (
      three_kids texts c.args.kids.now c.result-item.result c.result-item-then-kids-lt4.result c.result-item-then-kids-lt4-2.result c.in-len3.len_at_least
          c.in-len3.len_below,
      ← c.result-item.is,
      ← c.result-item-then-kids-lt4.is,
      ← c.result-item-then-kids-lt4-2.is,
      ← c.node_in.ensures texts,
    )
    (c.row_before.ensures texts)
