use Rattle.std.proofs.Common.{◌≡◌, ◌++◌, drop}
use Rattle.vg_plan_columns.proofs.arrays.copy_of.Given as goal

abbrev pub invariant-loop-place : goal.invariant-loop-place
invariant-loop-place l = l.row ++ drop l.place-index l.places ≡ l.places
