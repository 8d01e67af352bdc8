use Rattle.std.proofs.Common.{◌≡◌, ◌%◌, take, sum}
use Rattle.vg_hex.proofs.hex_record.total.Given as goal

abbrev pub invariant-loop-b : goal.invariant-loop-b
invariant-loop-b l = l.total ≡ sum (take l.b-index l.bytes) % 256
