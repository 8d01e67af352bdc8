use Rattle.std.proofs.Common.{refl}
use Rattle.vg_types_tables.specs.declared.judged.Head.TheVariants.{Value}
use Rattle.vg_types_tables.specs.declared.judged.Standing.{Standing}
use Rattle.vg_types_expressions.proofs.Calling.{args_lead}
use Rattle.vg_types_expressions.proofs.called.behind_arguments.Goals as goal

pub returns-clause-typed : goal.returns-clause-typed
returns-clause-typed c =
    let s : Standing = record { head = Value c.args.call.type_; code = c.in_ok-code.code; next = c.args.argued.next } in
    args_lead c.args.declared.now c.args.body c.args.locals.now c.args.head c.args.params.now c.args.argued c.args.call s c.requires.takes c.requires.puts
    refl c.in_ok-code.ensures
