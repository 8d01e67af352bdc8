use Rattle.std.proofs.Common.{Some, refl, ap, ◌∙◌}
use Rattle.vg_types_routines.proofs.Finding.{class_key}
use Rattle.vg_types_routines.proofs.fields.class_field.Goals as goal

pub returns-then-is_own-clause-key : goal.returns-then-is_own-clause-key
returns-then-is_own-clause-key c =
    class_key c.args.names.now c.args.root.now c.args.declared.now c.requires.declares c.args.class c.args.wanted c.in-Some-Field.number
    c.args.text.now c.class_member.result c.requires.there (c.if-is_own.ensures refl)
    (c.in-Some-Field.is ∙ ap Some c.in-Some-Field.field-0-is) c.class_member.ensures
