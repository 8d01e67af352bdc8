use Rattle.std.proofs.Common.{◌≡◌, ◌++◌, drop}
use Rattle.vg_pack_values.specs.Columns.{blank_rows}
use Rattle.vg_pack_values.proofs.blank.blank_columns.Given as goal

abbrev pub invariant-loop-column : goal.invariant-loop-column
invariant-loop-column l = l.rows.items ++ blank_rows (drop l.column-index l.columns) ≡ blank_rows l.columns
