use Rattle.std.proofs.Common.{◌≡◌}
use Rattle.vg_rows_try.proofs.graphs.put_words.Given as goal

abbrev pub invariant-loop-word : goal.invariant-loop-word
invariant-loop-word l = l.graph.frames ≡ l.fn.graph.frames
