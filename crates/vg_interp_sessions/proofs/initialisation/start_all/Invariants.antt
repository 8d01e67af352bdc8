use Rattle.std.proofs.Common.{◌≡◌, drop}
use Rattle.vg_meaning.specs.History.{depth_alone}
use Rattle.vg_core.specs.HeldProgram.{program_at}
use Rattle.vg_core.specs.Session.{start_all}
use Rattle.vg_interp_run.specs.Run.{state, world}
use Rattle.vg_interp_sessions.proofs.initialisation.start_all.Given as goal

abbrev pub invariant-loop-name : goal.invariant-loop-name
invariant-loop-name l =
    let p = program_at l.program in
    (l.number ≡ l._name-index)
    × (start_all depth_alone p 0 l.program.tables.components (state l.fn.play.run) (world l.fn.play.run)
    ≡ start_all depth_alone p l.number (drop l._name-index l.program.tables.components) (state l.play.run) (world l.play.run))
