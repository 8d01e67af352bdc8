use Rattle.std.proofs.Common.{◌≡◌, ◌++◌, take}
use Rattle.std.specs.List.{flat_map}
use Rattle.vg_layout.specs.Text.{name_behind}
use Rattle.vg_layout.proofs.text.put_names.Given as goal

abbrev pub invariant-loop-name : goal.invariant-loop-name
invariant-loop-name l = l.text ≡ l.fn.text ++ flat_map name_behind (take l.name-index l.names)
