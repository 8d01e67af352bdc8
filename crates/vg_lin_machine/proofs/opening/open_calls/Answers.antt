use Rattle.vg_lin.specs.Meaning.{language}
use Rattle.vg_lin_states.specs.Programs.{program_of}
use Rattle.vg_lin_machine.proofs.Named.{one_more}
use Rattle.vg_lin_machine.proofs.opening.open_calls.Goals as goal

pub loop-place-preserved : goal.loop-place-preserved
loop-place-preserved c =
    one_more (language (program_of c.args.program.now)) c.args.frames.now c.loop-place.place c.index-frames-frames.result c.loop-place.opening c.add_named.new.opening _ c.loop-place-test.true
    c.index-frames-frames.is c.in_ok-add_named.ensures c.loop-place.invariant
