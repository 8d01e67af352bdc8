use Rattle.std.proofs.Common.{◌≡◌, ◌++◌, take}
use Rattle.std.specs.List.{flat_map}
use Rattle.vg_layout.specs.Text.{live_line}
use Rattle.vg_layout.proofs.text.put_all_live.Given as goal

abbrev pub invariant-loop-name : goal.invariant-loop-name
invariant-loop-name l = l.text ≡ l.fn.text ++ flat_map live_line (take l.name-index l.names)
