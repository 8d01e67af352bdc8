use Rattle.std.proofs.Common.{◌-◌, length}
use Rattle.vg_outlet.specs.Puts.{moment, PutsOf}
use Rattle.vg_outlet.proofs.outlet.Outlet.put_many.Given as goal

abbrev pub invariant-loop-end : goal.invariant-loop-end
invariant-loop-end g l =
    PutsOf (moment (g.O.Sink.told l.fn.sink) (g.O.Sink.faults l.fn.sink) l.fn.self) (moment (g.O.Sink.told l.sink) (g.O.Sink.faults l.sink) l.self) l.events

abbrev pub decreases-loop-end : goal.decreases-loop-end
decreases-loop-end g l = length l.events - l.self.put
