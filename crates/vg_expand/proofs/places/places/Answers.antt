use Rattle.std.specs.Prelude.{get_or}
use Rattle.vg_expand.proofs.Walked.{walked}
use Rattle.vg_expand.proofs.places.places.Goals as goal

pub loop-instr-preserved : goal.loop-instr-preserved
loop-instr-preserved c =
    walked (record { first = c.args.first; widths = c.args.widths.now }) (λ to. get_or c.as_slice.result.now to 0) c.args.code.now c.loop-instr.instr-index _
    c.loop-instr.draft c.push_instr.new.code c.loop-instr.found c.push.new.self c.len-place.result c.loop-instr-test.true (c.loop-instr.invariant.0)
    (c.loop-instr.invariant.1) c.in_ok-push_instr.ensures c.in_ok-push.ensures.ok c.len-place.ensures
