use Rattle.std.proofs.Common.{arith}
use Rattle.vg_frame_costs.proofs.Counted.{counted}
use Rattle.vg_frame_costs.proofs.waiting.most_kept.Goals as goal

pub loop-instr-preserved : goal.loop-instr-preserved
loop-instr-preserved c =
    let few = c.loop-instr.invariant.1 in
    let more = c.in_ok-go_behind.ensures.few in (
      counted c.args.code.now c.loop-instr.instr-index c.loop-instr.waits.items c.as_slice.result.now c.go_behind.new.waits.items c.loop-instr.most
          c.larger-most.result c.kept_at.result _ _ c.loop-instr-test.true c.as_slice.ensures.value c.kept_at.ensures c.larger-most.ensures
          c.in_ok-go_behind.ensures.behind c.loop-instr.invariant.0,
      omega (arith, few, more),
    )
