use Rattle.vg_core.specs.HeldProgram.{program_at}
use Rattle.vg_pack_calls.specs.Asked.{steps_from}
use Rattle.vg_pack_calls.proofs.Gathering.{more_steps}
use Rattle.vg_pack_calls.proofs.asked.live_steps.Goals as goal

pub loop-index-preserved : goal.loop-index-preserved
loop-index-preserved c =
    more_steps (program_at c.args.program.now) c.args.live.now c.loop-index.index c.is_kept.result c.loop-index.steps.items c.push_steps.new.steps.items
    (steps_from (program_at c.args.program.now) 0 c.args.live.now) c.loop-index-test.true c.is_kept.ensures c.loop-index.invariant c.in_ok-push_steps.ensures
