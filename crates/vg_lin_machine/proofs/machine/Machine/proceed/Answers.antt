use Rattle.std.proofs.Common.{◌≡◌, ◌-◌, sym, ap, ◌∙◌, arith}
use Rattle.vg_lin.specs.Steps.{steps}
use Rattle.vg_lin.specs.Meaning.{language, codes_in}
use Rattle.vg_lin_states.specs.Programs.{program_of}
use Rattle.vg_lin_machine.proofs.Stepping.{one_less, stays_ended}
use Rattle.vg_lin_machine.proofs.machine.Machine.proceed.Goals as goal

pub loop-step-preserved : goal.loop-step-preserved
loop-step-preserved c =
    one_less (language (program_of c.args.program.now)) (codes_in c.args.program.now.procedures) c.args.steps c.loop-step._step c.loop-step.self _ c.loop-step-test.true
    c.in_ok-step.ensures
    ∙ c.loop-step.invariant

pub returns-then-is_some : goal.returns-then-is_some
returns-then-is_some c =
    sym (stays_ended (language (program_of c.args.program.now)) (codes_in c.args.program.now.procedures) (c.args.steps - c.loop-step._step) c.loop-step.self c.ending.result
    c.ending.ensures (sym c.is_some.ensures ∙ c.if-is_some.true))
    ∙ c.loop-step.invariant

pub returns : goal.returns
returns c =
    let none : c.args.steps - c.loop-step._step ≡ 0 = omega arith in
    sym (ap (λ m. steps (language (program_of c.args.program.now)) (codes_in c.args.program.now.procedures) m c.loop-step.self) none) ∙ c.loop-step.invariant
