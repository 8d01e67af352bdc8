use Rattle.std.proofs.Common.{refl}
use Rattle.vg_tree.proofs.KidLists.{two_kids, three_kids, four_kids}
use Rattle.vg_read_statements.proofs.statements.statement.Goals as goal

pub returns-in-len2 : goal.returns-in-len2
returns-in-len2 c texts h =
    rw (
      two_kids texts c.args.kids.now c.index-kids-0-then-kids-lt3.result c.index-kids-0-then-kids-lt3.result c.in-len2.len_at_least c.in-len2.len_below,
      c.statement_of_two.ensures texts,
      ← c.index-kids-0-then-kids-lt3.is,
    ) refl

pub returns-in_ok-node-in-len3 : goal.returns-in_ok-node-in-len3
returns-in_ok-node-in-len3 c texts h =
    rw (
      three_kids texts c.args.kids.now c.result-item.result c.result-item-then-kids-lt4.result c.result-item-then-kids-lt4-2.result c.in-len3.len_at_least
          c.in-len3.len_below,
      ← c.result-item.is,
      ← c.result-item-then-kids-lt4.is,
      ← c.result-item-then-kids-lt4-2.is,
      c.in_ok-node-in-len3.ensures texts,
      c.kind_in-kind.ensures texts,
    ) refl

pub returns-in_ok-longer-in-len4 : goal.returns-in_ok-longer-in-len4
returns-in_ok-longer-in-len4 c texts h =
    rw (
      four_kids texts c.args.kids.now c.result-item-then-kids-lt5.result c.result-item-then-kids-lt5-2.result c.result-item-then-kids-lt5-3.result
          c.result-item-then-kids-lt5-4.result c.in-len4.len_at_least c.in-len4.len_below,
      ← c.result-item-then-kids-lt5.is,
      ← c.result-item-then-kids-lt5-2.is,
      ← c.result-item-then-kids-lt5-3.is,
      ← c.result-item-then-kids-lt5-4.is,
      c.in_ok-longer-in-len4.ensures texts h,
      c.kind_in-word.ensures texts,
    ) refl
