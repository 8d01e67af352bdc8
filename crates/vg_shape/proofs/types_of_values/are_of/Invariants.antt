use Rattle.std.proofs.Common.{◌≡◌, drop, length}
use Rattle.vg_core.specs.State.{are_of}
use Rattle.vg_shape.proofs.types_of_values.are_of.Given as goal

abbrev pub invariant-loop-i : goal.invariant-loop-i
invariant-loop-i l = are_of l.tables l.cells (drop l.i l.types) (drop l.i l.values) ≡ are_of l.tables l.cells l.types l.values
