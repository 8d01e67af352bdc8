use Rattle.std.proofs.Common.{◌≡◌, ◌++◌}
use Rattle.vg_gen.specs.Generated.{lines, object_line}
use Rattle.vg_gen.proofs.generator.put_objects.Given as goal

abbrev pub invariant-loop-object : goal.invariant-loop-object
invariant-loop-object l = l.text ≡ l.fn.text ++ lines (object_line l.classes) l.object
