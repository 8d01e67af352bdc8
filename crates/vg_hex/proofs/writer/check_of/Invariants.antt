use Rattle.std.proofs.Common.{◌≡◌, ◌%◌, take, sum}
use Rattle.vg_hex.proofs.writer.check_of.Given as goal

abbrev pub invariant-loop-b : goal.invariant-loop-b
invariant-loop-b l = l.total ≡ sum (take l.b-index l.body) % 256
