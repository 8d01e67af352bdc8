use Rattle.std.proofs.Common.{◌≡◌, ◌++◌, ◌-◌, ◌*◌, drop}
use Rattle.vg_hex.specs.HexText.{records}
use Rattle.vg_hex.proofs.writer.put_records.Given as goal

-- the records so far and those of the rest are those of all
abbrev pub invariant-loop-k : goal.invariant-loop-k
invariant-loop-k l = l.text ++ records (l.count - l.k) (l.k * 16) (drop (l.k * 16) l.bytes) ≡ l.fn.text ++ records l.count 0 l.bytes
