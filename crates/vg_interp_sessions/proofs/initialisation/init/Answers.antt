use Rattle.std.proofs.Common.{rules, ◌<◌}
use Rattle.vg_source.specs.Session.{starting_world}
use Rattle.vg_core.specs.Heap.{stored_values}
use Rattle.vg_core.specs.HeldProgram.{program_at}
use Rattle.vg_core.specs.Session.{first_heap, with_heap}
use Rattle.vg_interp_sessions.proofs.Ends.{too_much}
use Rattle.vg_interp_sessions.proofs.initialisation.init.Goals as goal

pub returns-then-stored-gt60000 : goal.returns-then-stored-gt60000
returns-then-stored-gt60000 c =
    let p = program_at c.args.program.now in
    let many : 60000 < stored_values (first_heap p) = search rules in
    (with_heap (first_heap p), starting_world 0 c.args.steps, too_much p c.args.steps many)

pub returns-in-Err : goal.returns-in-Err
returns-in-Err c = let p = program_at c.args.program.now in (with_heap (first_heap p), starting_world 0 c.args.steps, tt)
