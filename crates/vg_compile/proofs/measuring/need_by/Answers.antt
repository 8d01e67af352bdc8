use Rattle.std.proofs.Common.{subst}
use Rattle.vg_call_need.specs.Need.{IsNeed}
use Rattle.vg_compile.proofs.Needs.{need_in}
use Rattle.vg_compile.proofs.measuring.need_by.Goals as goal

pub is_paid-requires-clause-need : goal.is_paid-requires-clause-need
is_paid-requires-clause-need c =
    subst (λ z. IsNeed c.args.frames.now.beside c.args.firm.now z c.in_ok-need.need) c.as_slice.ensures c.in_ok-need.ensures

pub returns-then-paid-clause-within : goal.returns-then-paid-clause-within
returns-then-paid-clause-within c =
    need_in c.args.frames.now.beside c.args.firm.now c.as_slice.result.now c.args.frames.now.by_method c.args.costs.now c.in_ok-need.need
    c.as_slice.ensures (c.in_ok-paid.ensures.spent c.if-paid.true) c.in_ok-need.ensures
