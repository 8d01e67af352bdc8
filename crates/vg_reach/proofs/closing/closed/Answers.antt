use Rattle.std.proofs.Common.{arith}
use Rattle.vg_core.specs.HeldProgram.{program_at}
use Rattle.vg_reach.proofs.Closed.{seen_nothing}
use Rattle.vg_reach.proofs.closing.closed.Goals as goal

pub close-requires-clause-ready : goal.close-requires-clause-ready
close-requires-clause-ready c = (
  c.in_ok-marks.ensures.sound,
  seen_nothing (program_at c.args.program.now) c.args.heap.now c.in_ok-marks.marks c.in_ok-seen.seen c.in-Ok.classes c.in_ok-seen.ensures
      (omega (arith, c.in-Ok.ensures, c.len.ensures)),
)
