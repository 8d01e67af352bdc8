use Rattle.std.proofs.Common.{◌≡◌, ◌++◌, map, drop}
use Rattle.vg_number.specs.Counting.{way_in}
use Rattle.vg_number.proofs.standing.ways.Given as goal

abbrev pub invariant-loop-class : goal.invariant-loop-class
invariant-loop-class l = l.rows ++ map way_in (drop l.class-index l.tables.classes) ≡ map way_in l.tables.classes
