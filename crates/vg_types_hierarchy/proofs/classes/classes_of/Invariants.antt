use Rattle.std.proofs.Common.{◌≡◌}
use Rattle.vg_types_hierarchy.specs.Classes.{first_of, the_class}
use Rattle.vg_types_hierarchy.proofs.classes.classes_of.Given as goal

abbrev pub invariant-classes : goal.invariant-classes
invariant-classes l =
    l.row ≡ first_of (the_class l.most l.parts.names.now l.parts.above.now l.parts.fields.now l.parts.methods.now l.parts.params.now) l.class
