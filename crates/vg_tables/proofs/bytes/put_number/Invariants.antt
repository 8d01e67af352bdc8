use Rattle.std.proofs.Common.{◌≡◌, ◌-◌, ◌++◌}
use Rattle.vg_tables.specs.Bytes.{low_bytes}
use Rattle.vg_tables.proofs.bytes.put_number.Given as goal

abbrev pub invariant-loop-place : goal.invariant-loop-place
invariant-loop-place l = l.bytes ++ low_bytes (l.width - l._place) l.rest ≡ l.fn.bytes ++ low_bytes l.width l.number
