use Rattle.std.proofs.Common.{refl}
use Rattle.vg_tree.proofs.KidLists.{four_kids}
use Rattle.vg_read_statements.proofs.statements.else_arm.Goals as goal

pub returns-in_ok-arms-in-len4 : goal.returns-in_ok-arms-in-len4
returns-in_ok-arms-in-len4 c texts =
    rw (
      four_kids texts c.args.kids.now c.result-item.result c.result-item-then-kids-lt5.result c.result-item-then-kids-lt5-2.result
          c.result-item-then-kids-lt5-3.result c.in-len4.len_at_least c.in-len4.len_below,
      ← c.result-item.is,
      ← c.result-item-then-kids-lt5.is,
      ← c.result-item-then-kids-lt5-2.is,
      ← c.result-item-then-kids-lt5-3.is,
      c.in_ok-arms-in-len4.ensures texts,
      c.arms_in-further.ensures.arms texts,
      c.arms_in-further.ensures.otherwise texts,
      c.node_in-condition.ensures texts,
      c.node_in-block.ensures texts,
    ) refl
