use Rattle.vg_compile.proofs.Measured.{paid_for, spent_by}
use Rattle.vg_compile.proofs.measuring.is_paid.Goals as goal

pub returns-then-are_paid-clause-spent : goal.returns-then-are_paid-clause-spent
returns-then-are_paid-clause-spent c = λ is.
    spent_by c.args.firm.now c.args.frames.now c.as_slice.result.now c.args.costs.now c.args.need.now c.as_slice.ensures
    (c.are_paid.ensures.0 c.if-are_paid.true) c.requires.beside c.requires.framed c.requires.need

pub returns-then-are_paid-clause-paid : goal.returns-then-are_paid-clause-paid
returns-then-are_paid-clause-paid c = λ is.
    paid_for c.args.frames.now c.as_slice.result.now c.args.costs.now c.args.need.now c.as_slice.ensures (c.are_paid.ensures.0 c.if-are_paid.true)
