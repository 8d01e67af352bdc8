use Rattle.std.proofs.Common.{sym, subst}
use Rattle.vg_outlet.specs.Puts.{moment, IsPut}
use Rattle.vg_session.specs.Playing.{CanEnd, EndsBy, HasMemory, Leaves}
use Rattle.vg_session.proofs.Ending.{has_memory, leaves_failed, leaves_front}
use Rattle.vg_session.proofs.session.finish.Goals as goal

pub put_rest-requires : goal.put_rest-requires
put_rest-requires g c =
    let memory = has_memory c.lacks_memory.result c.in-Err.why c.if-lacks_memory.false c.lacks_memory.ensures in
    subst (CanEnd {A = Unit {0}}) c.in-Err.is (c.requires (subst (HasMemory {A = Unit {0}}) (sym c.in-Err.is) memory))

pub returns-then-failed-clause-lines : goal.returns-then-failed-clause-lines
returns-then-failed-clause-lines g c =
    λ told faults whole is same.
    leaves_failed told faults (moment (g.O.Sink.told c.args.sink.now) (g.O.Sink.faults c.args.sink.now) c.args.play.now.outlet) whole is c.if-failed.true

pub returns-then-lacks_memory-clause-lines : goal.returns-then-lacks_memory-clause-lines
returns-then-lacks_memory-clause-lines g c =
    λ told faults whole is same.
    leaves_front told faults (moment (g.O.Sink.told c.args.sink.now) (g.O.Sink.faults c.args.sink.now) c.args.play.now.outlet) whole is

pub returns-else-lacks_memory-clause-ended : goal.returns-else-lacks_memory-clause-ended
returns-else-lacks_memory-clause-ended g c = subst (EndsBy {A = Unit {0}} c.put_rest.result) (sym c.in-Err.is) c.put_rest.ensures.ended

pub returns-else-lacks_memory-clause-lines : goal.returns-else-lacks_memory-clause-lines
returns-else-lacks_memory-clause-lines g c =
    λ told faults whole is same.
    let memory = has_memory c.lacks_memory.result c.in-Err.why c.if-lacks_memory.false c.lacks_memory.ensures in
    let trace = same (subst (HasMemory {A = Unit {0}}) (sym c.in-Err.is) memory) in
    let before = moment (g.O.Sink.told c.args.sink.now) (g.O.Sink.faults c.args.sink.now) c.args.play.now.outlet in
    subst (Leaves c.put_rest.result told faults (g.O.Sink.told c.put_rest.new.sink) (g.O.Sink.faults c.put_rest.new.sink)) (sym trace)
    (c.put_rest.ensures.lines told faults (subst (IsPut told faults before) trace is))
