use Rattle.std.proofs.Common.{◌≡◌, ◌++◌, take}
use Rattle.std.specs.List.{flat_map}
use Rattle.vg_layout.specs.Text.{kept_line}
use Rattle.vg_layout.proofs.text.put_objects.Given as goal

abbrev pub invariant-loop-kept : goal.invariant-loop-kept
invariant-loop-kept l = l.text ≡ l.fn.text ++ flat_map kept_line (take l.kept-index l.objects)
