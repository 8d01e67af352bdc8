use Rattle.vg_core.specs.HeldProgram.{code_of}
use Rattle.vg_types_simple.proofs.Typing.{forgets}
use Rattle.vg_types_simple.proofs.simple.eval_statement.Goals as goal

pub returns-clause-typed : goal.returns-clause-typed
returns-clause-typed c =
    forgets c.args.declared.now.tables c.args.body c.args.locals.now (code_of c.in_ok-judged.judged.code) (code_of c.in_ok-code.code)
    c.in_ok-judged.judged.type_ c.in_ok-judged.ensures.typed c.in_ok-code.ensures
