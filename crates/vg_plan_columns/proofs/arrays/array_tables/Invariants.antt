use Rattle.std.proofs.Common.{◌≡◌, ◌++◌, drop}
use Rattle.vg_plan_columns.specs.Arrays.{tables_of}
use Rattle.vg_plan_columns.proofs.arrays.array_tables.Given as goal

abbrev pub invariant-loop-column : goal.invariant-loop-column
invariant-loop-column l = l.tables ++ tables_of l.rows.items (drop l.column-index l.columns) ≡ tables_of l.rows.items l.columns
