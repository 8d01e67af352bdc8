use Rattle.std.proofs.Common.{Some, ap, sym, ◌∙◌}
use Rattle.vg_types_leaves.proofs.Members.{object_field, object_method, no_object_field, no_object_member}
use Rattle.vg_types_leaves.proofs.member.object_member.Goals as goal

pub returns-in-Some-clause-reached : goal.returns-in-Some-clause-reached
returns-in-Some-clause-reached c =
    object_field c.args.names.now c.args.root.now c.args.declared.now c.requires.declares c.args.locals.now c.args.class c.in-Some-Field.number c.args.id
    c.args.text.now c.requires.class.0 c.in-Some.field c.requires.class.1
    (sym (c.class_member.ensures _ c.requires.class.1) ∙ c.in-Some-Field.is ∙ ap Some c.in-Some-Field.field-0-is) (sym c.field_at.ensures ∙ c.in-Some.is)

pub returns-in-None-field_at-clause-reached : goal.returns-in-None-field_at-clause-reached
returns-in-None-field_at-clause-reached c =
    no_object_field c.args.names.now c.args.root.now c.args.declared.now c.requires.declares c.args.locals.now c.args.class c.in-Some-Field.number c.args.id
    c.args.text.now c.requires.class.0 c.requires.class.1
    (sym (c.class_member.ensures _ c.requires.class.1) ∙ c.in-Some-Field.is ∙ ap Some c.in-Some-Field.field-0-is)
    (sym c.field_at.ensures ∙ c.in-None-field_at.is)

pub returns-in-Some-Method-clause-reached : goal.returns-in-Some-Method-clause-reached
returns-in-Some-Method-clause-reached c =
    object_method c.args.names.now c.args.root.now c.args.declared.now c.requires.declares c.args.locals.now c.args.class c.in-Some-Method.number c.args.id
    c.args.text.now c.requires.class.0 c.requires.class.1
    (sym (c.class_member.ensures _ c.requires.class.1) ∙ c.in-Some-Method.is ∙ ap Some c.in-Some-Method.field-0-is)

pub returns-in-None-clause-reached : goal.returns-in-None-clause-reached
returns-in-None-clause-reached c =
    no_object_member c.args.names.now c.args.root.now c.args.declared.now c.requires.declares c.args.locals.now c.args.class c.args.id
    c.args.text.now c.requires.class.0 c.requires.class.1 (sym (c.class_member.ensures _ c.requires.class.1) ∙ c.in-None.is)
