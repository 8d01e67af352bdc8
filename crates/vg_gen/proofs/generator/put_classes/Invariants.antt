use Rattle.std.proofs.Common.{◌≡◌, ◌++◌}
use Rattle.vg_gen.specs.Generated.{class_line, lines}
use Rattle.vg_gen.proofs.generator.put_classes.Given as goal

abbrev pub invariant-loop-class : goal.invariant-loop-class
invariant-loop-class l = l.text ≡ l.fn.text ++ lines class_line l.class
