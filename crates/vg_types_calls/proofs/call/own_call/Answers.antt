use Rattle.vg_types_calls.proofs.Calling.{own_is}
use Rattle.vg_types_calls.proofs.call.own_call.Goals as goal

pub returns-in-Some : goal.returns-in-Some
returns-in-Some c = λ at.
    own_is c.args.names.now c.args.root.now c.args.declared.now c.requires.declares at c.args.class c.args.method c.args.count c.args.id c.in-Some.found.now
    c.requires.own c.in-Some.ensures
