use Rattle.std.proofs.Common.{◌≡◌, ◌++◌, drop}
use Rattle.vg_started_bytes.specs.Started.{ram_places}
use Rattle.vg_linear.proofs.laying.places.Given as goal

abbrev pub invariant-loop-column : goal.invariant-loop-column
invariant-loop-column l = l.row ++ ram_places (drop l.column-index l.columns) ≡ ram_places l.columns
