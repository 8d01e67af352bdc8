use Rattle.vg_core.specs.HeldProgram.{code_of}
use Rattle.vg_types_operators.proofs.Leading.{applies}
use Rattle.vg_types_operators.proofs.prefix.prefixed.Goals as goal

pub returns-clause-typed : goal.returns-clause-typed
returns-clause-typed c =
    applies c.args.declared.now.tables c.args.body c.args.locals.now c.args.operand.type_ (code_of c.args.operand.code) (code_of c.in_ok-applied.applied)
    (code_of c.in_ok-code.code) c.in_ok-code.ensures c.requires.typed c.in_ok-applied.ensures.typed
