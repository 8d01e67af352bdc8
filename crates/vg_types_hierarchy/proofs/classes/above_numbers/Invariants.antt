use Rattle.std.proofs.Common.{◌≡◌, map, take}
use Rattle.vg_types_hierarchy.specs.Classes.{above_number}
use Rattle.vg_types_hierarchy.proofs.classes.above_numbers.Given as goal

abbrev pub invariant-above : goal.invariant-above
invariant-above l = l.row ≡ map (above_number l.names l.classes) (take l.name-index l.above)
