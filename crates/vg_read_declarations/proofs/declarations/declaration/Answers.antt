use Rattle.std.proofs.Common.{refl}
use Rattle.vg_tree.proofs.KidLists.{four_kids}
use Rattle.vg_read_declarations.proofs.declarations.declaration.Goals as goal

pub returns-in_ok-class_node-in-len4 : goal.returns-in_ok-class_node-in-len4
returns-in_ok-class_node-in-len4 c texts h =
    rw (
      four_kids texts c.args.kids.now c.result-item-then-kids-lt5.result c.result-item-then-kids-lt5-2.result c.result-item-then-kids-lt5-3.result
          c.result-item-then-kids-lt5-4.result c.in-len4.len_at_least c.in-len4.len_below,
      ← c.result-item-then-kids-lt5.is,
      ← c.result-item-then-kids-lt5-2.is,
      ← c.result-item-then-kids-lt5-3.is,
      ← c.result-item-then-kids-lt5-4.is,
      c.in_ok-class_node-in-len4.ensures texts,
      c.text_in-name.ensures texts h,
      c.above_in-above.ensures texts,
    ) refl
