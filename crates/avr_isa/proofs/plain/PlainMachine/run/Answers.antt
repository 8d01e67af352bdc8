use Rattle.std.proofs.Common.{◌≡◌, ℕ, suc, ◌+◌, ◌-◌, ◌<◌, List, ap, ◌∙◌, sym, arith}
use Rattle.avr_isa.specs.Machine.{State, run_from, next_state}
use Rattle.avr_isa.proofs.plain.PlainMachine.run.Goals as goal

-- one step less is left
one_less : (flash : List ℕ) (n i : ℕ) (s t : State) → i < n → t ≡ next_state flash s → run_from flash (n - (i + 1)) t ≡ run_from flash (n - i) s
one_less flash n i s t below e =
    let left : n - i ≡ suc (n - (i + 1)) = omega arith in
    ap (run_from flash (n - (i + 1))) e ∙ sym (ap (λ m. run_from flash m s) left)

pub loop-step-preserved : goal.loop-step-preserved
loop-step-preserved c =
    let below : c.loop-step._step < c.args.steps = omega arith in
    one_less c.args.flash.now c.args.steps c.loop-step._step c.loop-step.self _ below c.in_ok-step.ensures ∙ c.loop-step.invariant

pub returns : goal.returns
returns c =
    let none : c.args.steps - c.loop-step._step ≡ 0 = omega arith in
    sym (ap (λ m. run_from c.args.flash.now m c.loop-step.self) none) ∙ c.loop-step.invariant
