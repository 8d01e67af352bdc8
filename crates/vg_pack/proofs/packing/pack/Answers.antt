use Rattle.vg_core.specs.HeldProgram.{program_at}
use Rattle.vg_pack.proofs.Doing.{is_from, has_fitting_rows, are_typed, same}
use Rattle.vg_pack.proofs.packing.pack.Goals as goal

pub returns-clause-from : goal.returns-clause-from
returns-clause-from c =
    is_from (program_at c.args.program.now) c.args.heap.now c.args.live.now c.args.numbers.now c.args.columns.now _ c.by_plan.ensures

pub returns-clause-rows : goal.returns-clause-rows
returns-clause-rows c =
    has_fitting_rows (program_at c.args.program.now) c.args.heap.now c.args.live.now c.args.numbers.now c.args.columns.now _ c.by_plan.ensures

pub returns-clause-typed : goal.returns-clause-typed
returns-clause-typed c =
    are_typed (program_at c.args.program.now) c.args.heap.now c.args.live.now c.args.numbers.now c.args.columns.now _ c.by_plan.ensures

pub returns-clause-same : goal.returns-clause-same
returns-clause-same c =
    same (program_at c.args.program.now) c.args.heap.now c.args.live.now c.args.numbers.now c.args.columns.now c.requires _ c.by_plan.ensures
