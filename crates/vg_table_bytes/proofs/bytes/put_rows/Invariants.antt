use Rattle.std.proofs.Common.{◌≡◌, ◌++◌, drop}
use Rattle.vg_table_bytes.specs.Bytes.{rows_bytes}
use Rattle.vg_table_bytes.proofs.bytes.put_rows.Given as goal

abbrev pub invariant-loop-row : goal.invariant-loop-row
invariant-loop-row l = l.bytes ++ rows_bytes (drop l.row-index l.rows) ≡ l.fn.bytes ++ rows_bytes l.rows
