use Rattle.std.proofs.Common.{Some, is_some, sym, ap, ◌∙◌}
use Rattle.vg_types_entries.proofs.Finds.{nothing_found, field_found, method_there, method_found, method_entered, entered_if}
use Rattle.vg_types_entries.proofs.entered.entered.Goals as goal

pub plain-requires : goal.plain-requires
plain-requires c =
    method_there c.args.names.now c.args.root.now c.args.declared.now c.requires c.args.component.now c.args.method.now c.in-Some.number c.in-Some-Method.found
    c.in-Some.ensures (ap Some (sym c.in-Some-Method.field-0-is) ∙ c.in-Some-Method.ensures)

pub returns-in-Some-Method-clause-some : goal.returns-in-Some-Method-clause-some
returns-in-Some-Method-clause-some c =
    method_found c.args.names.now c.args.root.now c.args.declared.now c.requires c.args.component.now c.args.method.now c.in-Some.number c.in-Some-Method.found
    (is_some c.plain.result) c.in-Some.ensures (ap Some (sym c.in-Some-Method.field-0-is) ∙ c.in-Some-Method.ensures) c.plain.ensures.some

pub returns-in-Some-Method-clause-entered : goal.returns-in-Some-Method-clause-entered
returns-in-Some-Method-clause-entered c =
    entered_if c.args.names.now c.args.root.now c.args.declared.now c.requires c.args.component.now c.args.method.now c.in-Some-Method.found c.plain.result
    c.plain.ensures.some c.plain.ensures.same
    (method_entered c.args.names.now c.args.root.now c.args.declared.now c.requires c.args.component.now c.args.method.now c.in-Some.number
    c.in-Some-Method.found
    c.in-Some.ensures (ap Some (sym c.in-Some-Method.field-0-is) ∙ c.in-Some-Method.ensures))

pub returns-in-Some-Field-clause-some : goal.returns-in-Some-Field-clause-some
returns-in-Some-Field-clause-some c =
    field_found c.args.names.now c.args.root.now c.args.declared.now c.requires c.args.component.now c.args.method.now c.in-Some.number
    c.in-Some-Field.field-0-0
    c.in-Some.ensures (ap Some (sym c.in-Some-Field.field-0-is) ∙ c.in-Some-Field.ensures)

pub returns-in-None-component_member-clause-some : goal.returns-in-None-component_member-clause-some
returns-in-None-component_member-clause-some c =
    nothing_found c.args.names.now c.args.root.now c.args.declared.now c.requires c.args.component.now c.args.method.now c.in-Some.number
    c.in-Some.ensures c.in-None-component_member.ensures
