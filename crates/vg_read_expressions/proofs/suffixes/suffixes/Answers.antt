use Rattle.vg_tree.proofs.KidLists.{two_kids}
use Rattle.vg_read_expressions.proofs.suffixes.suffixes.Goals as goal

pub returns-in_ok-suffix-in-len2 : goal.returns-in_ok-suffix-in-len2
returns-in_ok-suffix-in-len2 c texts h =
    rw (
      two_kids texts c.args.kids.now c.result-item.result c.result-item-then-kids-lt3.result c.in-len2.len_at_least c.in-len2.len_below,
      ← c.result-item.is,
      ← c.result-item-then-kids-lt3.is,
      ← c.in_ok-suffix-in-len2.ensures texts,
    ) (c.row_before.ensures texts)
