use Rattle.std.proofs.Common.{◌≡◌, ◌++◌, take}
use Rattle.std.specs.List.{flat_map}
use Rattle.vg_layout.specs.Text.{area_line}
use Rattle.vg_layout.proofs.text.put_areas.Given as goal

abbrev pub invariant-loop-area : goal.invariant-loop-area
invariant-loop-area l = l.text ≡ l.fn.text ++ flat_map area_line (take l.area-index l.areas)
