use Rattle.std.proofs.Common.{Some, refl, ap, ◌∙◌}
use Rattle.vg_types_routines.proofs.Finding.{component_key}
use Rattle.vg_types_routines.proofs.fields.component_field.Goals as goal

pub returns-then-is_own-clause-key : goal.returns-then-is_own-clause-key
returns-then-is_own-clause-key c =
    component_key c.args.names.now c.args.root.now c.args.declared.now c.requires.declares c.args.component c.args.wanted c.in-Some-Field.number
    c.args.text.now c.component_member.result c.requires.there (c.if-is_own.ensures refl)
    (c.in-Some-Field.is ∙ ap Some c.in-Some-Field.field-0-is) c.component_member.ensures
