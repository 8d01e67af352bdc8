use Rattle.std.proofs.Common.{refl, sym, ap, ◌∙◌, ◌+◌, ◌-◌, arith}
use Rattle.vg_lin.specs.State.{division_steps, divides}
use Rattle.vg_lin_states.proofs.Dividing.{fails_all, none_taken, one_less, all_taken}
use Rattle.vg_lin_states.proofs.plain.divide.Goals as goal

pub returns-then-not-can_divide : goal.returns-then-not-can_divide
returns-then-not-can_divide c = λ p o. (
  fails_all c.args.state.now c.args.remainder c.args.dividend c.args.divisor (sym c.can_divide.ensures ∙ c.if-not-can_divide.true) o,
  refl,
  refl,
)

pub loop-step-init : goal.loop-step-init
loop-step-init c = (
  sym c.can_divide.ensures ∙ c.if-not-can_divide.false,
  λ o. ap (λ n. divides n c.args.remainder c.args.dividend c.args.divisor c.args.state.now o) none_taken,
)

pub loop-step-preserved : goal.loop-step-preserved
loop-step-preserved c = (
  c.divide_once.ensures.still,
  λ o. c.loop-step.invariant.1 o
      ∙ ap (λ n. divides n c.args.remainder c.args.dividend c.args.divisor c.loop-step.state o)
      (one_less c.loop-step._step (omega (arith, c.loop-step-test.true)))
      ∙ c.divide_once.ensures.step (division_steps - (c.loop-step._step + 1)) o,
)

pub returns : goal.returns
returns c = λ p o. c.loop-step.invariant.1 o
    ∙ ap (λ n. divides n c.args.remainder c.args.dividend c.args.divisor c.loop-step.state o)
    (all_taken c.loop-step._step (omega (arith, c.loop-step-test.false)))
