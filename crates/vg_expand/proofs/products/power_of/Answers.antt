use Rattle.std.proofs.Common.{sym, ◌∙◌, arith}
use Rattle.vg_expand.proofs.Powers.{found, passed, doubled}
use Rattle.vg_expand.proofs.products.power_of.Goals as goal

pub returns-then-power-k : goal.returns-then-power-k
returns-then-power-k c =
    sym (found c.loop-n.power c.loop-n.n c.args.k (c.loop-n.invariant.0) c.loop-n-test.true c.if-power-k.true) ∙ c.loop-n.invariant.2

pub loop-n-preserved : goal.loop-n-preserved
loop-n-preserved c = (
  doubled c.loop-n.power c.loop-n.n (c.loop-n.invariant.0),
  omega (arith, c.loop-n-test.true),
  passed c.loop-n.power c.loop-n.n c.args.k (c.loop-n.invariant.0) c.loop-n-test.true c.if-power-k.false ∙ c.loop-n.invariant.2,
)
