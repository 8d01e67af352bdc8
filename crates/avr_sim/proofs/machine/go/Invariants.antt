use Rattle.std.proofs.Common.{◌≤◌, ◌-◌}
use Rattle.avr_sim.proofs.Following.{Follows}
use Rattle.avr_sim.proofs.machine.go.Given as goal

-- the run so far follows the definition
abbrev pub invariant-loop-step : goal.invariant-loop-step
invariant-loop-step g l =
    Follows l.flash (l.budget - l._step) l.budget l.fn.running l.running (g.O.Sink.told l.fn.sink) (g.O.Sink.told l.sink)
    × (g.O.Sink.faults l.fn.sink ≤ g.O.Sink.faults l.sink)
