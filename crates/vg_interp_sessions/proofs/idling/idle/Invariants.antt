use Rattle.std.proofs.Common.{◌≡◌, ◌-◌}
use Rattle.vg_meaning.specs.History.{depth_alone}
use Rattle.vg_meaning.specs.Interrupts.{idles}
use Rattle.vg_core.specs.HeldProgram.{program_at}
use Rattle.vg_core.specs.Session.{handle}
use Rattle.vg_interp_run.specs.Run.{state, world}
use Rattle.vg_interp.specs.Running.{Shows}
use Rattle.vg_interp_sessions.proofs.idling.idle.Given as goal

abbrev pub invariant-loop-turn : goal.invariant-loop-turn
invariant-loop-turn g l =
    let handles = handle depth_alone (program_at l.program) in
    (idles l.count handles (state l.fn.play.run) (world l.fn.play.run) ≡ idles (l.count - l._turn) handles (state l.play.run) (world l.play.run))
    × Shows (g.O.Sink.told l.fn.out) (g.O.Sink.faults l.fn.out) l.fn.play (g.O.Sink.told l.out) (g.O.Sink.faults l.out) l.play
    (idles l.count handles (state l.fn.play.run) (world l.fn.play.run))
