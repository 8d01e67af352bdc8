use Rattle.vg_why.proofs.Members.{names_tell, ranks_fall, told_is, well_typed}
use Rattle.vg_why.proofs.telling.answer_to.Goals as goal

pub told-requires-clause-names : goal.told-requires-clause-names
told-requires-clause-names c = names_tell c.args.text.now c.args.member.now c.in-Ok.alive c.in-Ok.ensures

pub told-requires-clause-typed : goal.told-requires-clause-typed
told-requires-clause-typed c = well_typed c.args.text.now c.args.member.now c.in-Ok.alive c.in-Ok.ensures

pub told-requires-clause-ranks : goal.told-requires-clause-ranks
told-requires-clause-ranks c = ranks_fall c.args.text.now c.args.member.now c.in-Ok.alive c.in-Ok.ensures

pub returns-in-Ok : goal.returns-in-Ok
returns-in-Ok c = told_is c.args.text.now c.args.member.now c.in-Ok.alive c.in-Ok.ensures _ c.told.ensures
