use Rattle.std.proofs.Common.{◌≡◌, ◌++◌, drop}
use Rattle.vg_table_bytes.specs.Bytes.{ram_widths}
use Rattle.vg_table_bytes.proofs.bytes.widths.Given as goal

abbrev pub invariant-loop-column : goal.invariant-loop-column
invariant-loop-column l = l.row ++ ram_widths (drop l.column-index l.columns) ≡ ram_widths l.columns
