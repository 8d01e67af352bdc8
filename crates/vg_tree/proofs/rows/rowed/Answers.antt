use Rattle.vg_tree.proofs.KidLists.{two_kids}
use Rattle.vg_tree.proofs.rows.rowed.Goals as goal

pub returns-in-len2 : goal.returns-in-len2
returns-in-len2 c texts =
    rw (
      two_kids texts c.args.kids.now c.result-item.result c.result-item-then-kids-lt3.result c.in-len2.len_at_least c.in-len2.len_below,
      ← c.result-item.is,
      ← c.result-item-then-kids-lt3.is,
      ← c.node_in.ensures texts,
    )
    (c.row_before.ensures texts)
