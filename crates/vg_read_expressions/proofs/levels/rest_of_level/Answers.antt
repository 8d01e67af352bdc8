use Rattle.vg_tree.proofs.KidLists.{three_kids}
use Rattle.vg_read_expressions.proofs.levels.rest_of_level.Goals as goal

pub returns-in_ok-part-in-len3 : goal.returns-in_ok-part-in-len3
returns-in_ok-part-in-len3 c texts =
    rw (
      three_kids texts c.args.kids.now c.result-item.result c.result-item-then-kids-lt4.result c.result-item-then-kids-lt4-2.result c.in-len3.len_at_least
          c.in-len3.len_below,
      ← c.result-item.is,
      ← c.result-item-then-kids-lt4.is,
      ← c.result-item-then-kids-lt4-2.is,
      ← c.kind_in.ensures texts,
      ← c.in_ok-part-in-len3.ensures texts,
    ) (c.row_before.ensures texts)
