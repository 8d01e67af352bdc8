use Rattle.std.proofs.Common.{◌≡◌, ◌++◌, drop}
use Rattle.vg_table_bytes.specs.Bytes.{columns_bytes}
use Rattle.vg_table_bytes.proofs.bytes.put_columns.Given as goal

abbrev pub invariant-loop-index : goal.invariant-loop-index
invariant-loop-index l = l.bytes ++ columns_bytes l.widths l.index (drop l.index l.columns) ≡ l.fn.bytes ++ columns_bytes l.widths 0 l.columns
