use Rattle.std.proofs.Common.{refl, append_assoc}
use Rattle.vg_arith.proofs.product.push_next.Goals as goal

pub returns : goal.returns
returns c =
    simp (
      c.in_ok-push-9.ensures.ok,
      c.add-3.ensures,
      c.in_ok-push-8.ensures.ok,
      c.product-3.ensures,
      c.in_ok-push-7.ensures.ok,
      c.byte-2.ensures,
      c.in_ok-push-6.ensures.ok,
      c.add-2.ensures,
      c.in_ok-push-5.ensures.ok,
      c.product-2.ensures,
      c.in_ok-push-4.ensures.ok,
      c.byte.ensures,
      c.in_ok-push-3.ensures.ok,
      c.add.ensures,
      c.in_ok-push-2.ensures.ok,
      c.product.ensures,
      c.in_ok-push.ensures.ok,
      c.raise.ensures,
      append_assoc,
    ) refl
