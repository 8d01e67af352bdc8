use Rattle.std.proofs.Common.{◌≡◌, ◌-◌}
use Rattle.avr_isa.specs.Machine.{run_from}
use Rattle.avr_isa.proofs.plain.PlainMachine.run.Given as goal

abbrev pub invariant-loop-step : goal.invariant-loop-step
invariant-loop-step l = run_from l.flash (l.steps - l._step) l.self ≡ run_from l.flash l.steps l.fn.self
