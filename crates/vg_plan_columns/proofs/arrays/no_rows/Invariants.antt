use Rattle.std.proofs.Common.{◌≡◌, ◌-◌, ◌++◌, [], replicate}
use Rattle.vg_plan_columns.proofs.arrays.no_rows.Given as goal

abbrev pub invariant-loop-row : goal.invariant-loop-row
invariant-loop-row l = l.rows.items ++ replicate (l.count - l._row) [] ≡ replicate l.count []
