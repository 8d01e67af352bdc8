use Rattle.std.proofs.Common.{◌≡◌, ◌++◌, drop}
use Rattle.vg_core.specs.HeldProgram.{program_at}
use Rattle.vg_plan_uses.specs.Calling.{edges_from}
use Rattle.vg_plan_uses.proofs.calling.edges.Given as goal

abbrev pub invariant-loop-index : goal.invariant-loop-index
invariant-loop-index l =
    l.rows ++ edges_from (program_at l.program) l.plan l.dispatches l.room l.live l.index (drop l.index l.program.tables.methods)
    ≡ edges_from (program_at l.program) l.plan l.dispatches l.room l.live 0 l.program.tables.methods
