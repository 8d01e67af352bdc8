use Rattle.std.proofs.lemmas.Option.{slice_get-get_or}
use Rattle.vg_core.specs.HeldProgram.{program_at}
use Rattle.vg_reach_holding.proofs.Places.{held_more, held_all}
use Rattle.vg_reach_holding.proofs.holding.hold_values.Goals as goal

pub loop-value-preserved : goal.loop-value-preserved
loop-value-preserved c =
    λ q i. held_more (program_at c.args.program.now) c.args.heap.now c.args.values.now c.args.marks.now c.loop-value.marks c.hold.new.marks c.loop-value.value-index c.args.cell _
    c.requires (slice_get-get_or c.args.values.now c.loop-value.value-index _ c.loop-value-test.true) i c.in_ok-hold.ensures (c.loop-value.invariant q i)

pub returns : goal.returns
returns c =
    λ q i. held_all (program_at c.args.program.now) c.args.heap.now c.args.values.now c.args.marks.now c.loop-value.marks c.loop-value.value-index c.args.cell c.requires
    c.loop-value-test.false (c.loop-value.invariant q i)
