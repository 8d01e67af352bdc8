use Rattle.std.proofs.Common.{◌≡◌, ◌≤◌, sum, take}
use Rattle.vg_rows_try.proofs.graphs.is_small.Given as goal

abbrev pub invariant-loop-bytes : goal.invariant-loop-bytes
invariant-loop-bytes l = (l.total ≡ sum (take l.bytes-index l.frames)) × (l.total ≤ 1000000000)
