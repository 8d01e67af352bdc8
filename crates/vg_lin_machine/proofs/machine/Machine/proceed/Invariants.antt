use Rattle.std.proofs.Common.{◌≡◌, ◌-◌}
use Rattle.vg_lin.specs.Steps.{steps}
use Rattle.vg_lin.specs.Meaning.{language, codes_in}
use Rattle.vg_lin_states.specs.Programs.{program_of}
use Rattle.vg_lin_machine.proofs.machine.Machine.proceed.Given as goal

abbrev pub invariant-loop-step : goal.invariant-loop-step
invariant-loop-step l =
    let go = steps (language (program_of l.program)) (codes_in l.program.procedures) in go (l.steps - l._step) l.self ≡ go l.steps l.fn.self
