use Rattle.std.proofs.Common.{◌≡◌, ◌++◌, drop}
use Rattle.vg_started_bytes.specs.Started.{table_addresses}
use Rattle.vg_linear.proofs.laying.addresses.Given as goal

abbrev pub invariant-loop-column : goal.invariant-loop-column
invariant-loop-column l = l.row ++ table_addresses (drop l.column-index l.columns) ≡ table_addresses l.columns
