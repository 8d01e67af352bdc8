use Rattle.vg_types_calls.proofs.Calling.{its_is}
use Rattle.vg_types_calls.proofs.call.its_call.Goals as goal

pub returns-in-Some : goal.returns-in-Some
returns-in-Some c =
    its_is c.args.names.now c.args.root.now c.args.declared.now c.requires.declares c.args.method c.args.count c.args.id c.in-Some.found.now
    c.requires.its c.in-Some.ensures
