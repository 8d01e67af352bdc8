use Rattle.std.proofs.Common.{Some, ap, sym, ◌∙◌}
use Rattle.vg_types_leaves.proofs.Members.{its_field, its_method}
use Rattle.vg_types_leaves.proofs.member.its_member.Goals as goal

pub returns-in-Some-clause-reached : goal.returns-in-Some-clause-reached
returns-in-Some-clause-reached c =
    its_field c.args.names.now c.args.root.now c.args.declared.now c.requires.declares c.args.locals.now c.args.component c.in-Some-Field.number c.args.id
    c.requires.component.0 c.args.text.now c.in-Some.field c.requires.component.1
    (sym c.component_member.ensures ∙ c.in-Some-Field.is ∙ ap Some c.in-Some-Field.field-0-is) (sym c.field_at.ensures ∙ c.in-Some.is)

pub returns-in-Some-Method-clause-reached : goal.returns-in-Some-Method-clause-reached
returns-in-Some-Method-clause-reached c =
    its_method c.args.names.now c.args.root.now c.args.declared.now c.requires.declares c.args.locals.now c.args.component c.in-Some-Method.number c.args.id
    c.requires.component.0 c.args.text.now c.requires.component.1
    (sym c.component_member.ensures ∙ c.in-Some-Method.is ∙ ap Some c.in-Some-Method.field-0-is)
