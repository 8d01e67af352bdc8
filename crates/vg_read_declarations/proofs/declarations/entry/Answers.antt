use Rattle.std.proofs.Common.{refl}
use Rattle.vg_tree.proofs.KidLists.{five_kids}
use Rattle.vg_read_declarations.proofs.declarations.entry.Goals as goal

pub returns-in-len5 : goal.returns-in-len5
returns-in-len5 c texts h =
    rw (
      five_kids texts c.args.kids.now c.result-item.result c.result-item-then-kids-lt6.result c.result-item.result c.result-item-then-kids-lt6-2.result
          c.result-item.result c.in-len5.len_at_least c.in-len5.len_below,
      ← c.result-item.is,
      ← c.result-item-then-kids-lt6.is,
      ← c.result-item-then-kids-lt6-2.is,
      c.text_in-key.ensures texts h,
      c.component_in-component.ensures texts h,
      c.method_in-method.ensures texts h,
    ) refl
