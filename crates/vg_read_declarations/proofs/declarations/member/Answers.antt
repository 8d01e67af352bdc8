use Rattle.std.proofs.Common.{refl}
use Rattle.vg_tree.proofs.KidLists.{four_kids, five_kids}
use Rattle.vg_read_declarations.proofs.declarations.member.Goals as goal

pub returns-in_ok-other-in-len4 : goal.returns-in_ok-other-in-len4
returns-in_ok-other-in-len4 c texts h =
    rw (
      four_kids texts c.args.kids.now c.result-item.result c.result-item-then-kids-lt5.result c.result-item-then-kids-lt5-2.result
          c.result-item-then-kids-lt5-3.result c.in-len4.len_at_least c.in-len4.len_below,
      ← c.result-item.is,
      ← c.result-item-then-kids-lt5.is,
      ← c.result-item-then-kids-lt5-2.is,
      ← c.result-item-then-kids-lt5-3.is,
      c.in_ok-other-in-len4.ensures texts h,
      c.kind_in-kind.ensures texts,
    ) refl

pub returns-in_ok-node-in-len5 : goal.returns-in_ok-node-in-len5
returns-in_ok-node-in-len5 c texts h =
    rw (
      five_kids texts c.args.kids.now c.result-item-then-kids-lt6.result c.result-item-then-kids-lt6-2.result c.result-item-then-kids-lt6-3.result
          c.result-item-then-kids-lt6-4.result c.result-item-then-kids-lt6-5.result c.in-len5.len_at_least c.in-len5.len_below,
      ← c.result-item-then-kids-lt6.is,
      ← c.result-item-then-kids-lt6-2.is,
      ← c.result-item-then-kids-lt6-3.is,
      ← c.result-item-then-kids-lt6-4.is,
      ← c.result-item-then-kids-lt6-5.is,
      c.in_ok-node-in-len5.ensures texts,
      c.text_in-name.ensures texts h,
    ) refl
