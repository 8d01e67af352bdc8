use Rattle.std.proofs.Common.{◌≡◌}
use Rattle.vg_rows_try.proofs.graphs.put_steps.Given as goal

abbrev pub invariant-loop-to : goal.invariant-loop-to
invariant-loop-to l = l.graph.frames ≡ l.fn.graph.frames
