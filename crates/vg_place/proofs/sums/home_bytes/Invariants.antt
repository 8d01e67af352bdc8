use Rattle.std.proofs.Common.{◌≡◌, ◌+◌, ◌*◌, ◌≤◌, drop}
use Rattle.vg_placement.specs.Columns.{home_bytes}
use Rattle.vg_place.proofs.sums.home_bytes.Given as goal

abbrev pub invariant-loop-column : goal.invariant-loop-column
invariant-loop-column l =
    (l.sum + home_bytes l.home (drop l.column-index l.rows) ≡ home_bytes l.home l.rows) × (l.sum ≤ l.column-index * 16777216)
