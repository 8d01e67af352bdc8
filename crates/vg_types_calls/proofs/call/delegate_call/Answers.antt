use Rattle.std.proofs.Common.{sym, ◌∙◌}
use Rattle.vg_types_calls.proofs.Calling.{delegate_is}
use Rattle.vg_types_calls.proofs.call.delegate_call.Goals as goal

pub returns-in-Some-type_of_number : goal.returns-in-Some-type_of_number
returns-in-Some-type_of_number c =
    delegate_is c.args.names.now c.args.root.now c.args.declared.now c.requires.declares c.args.params c.args.value c.in-Some.number c.args.count c.args.id
    c.in-Some-type_of_number.type_ c.requires.known c.in-Some.ensures (sym c.type_of_number.ensures ∙ c.in-Some-type_of_number.is)
