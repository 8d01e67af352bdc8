use Rattle.std.proofs.Common.{refl}
use Rattle.vg_tree.proofs.KidLists.{three_kids}
use Rattle.vg_read_statements.proofs.statements.block.Goals as goal

pub returns-in_ok-statements-in-len3 : goal.returns-in_ok-statements-in-len3
returns-in_ok-statements-in-len3 c texts =
    rw (
      three_kids texts c.args.kids.now c.result-item.result c.result-item-then-kids-lt4.result c.result-item.result c.in-len3.len_at_least
          c.in-len3.len_below,
      ← c.result-item.is,
      ← c.result-item-then-kids-lt4.is,
      c.in_ok-statements-in-len3.ensures.ok,
      c.row_of.ensures texts,
      c.row_in.ensures texts,
    ) refl
