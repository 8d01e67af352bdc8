use Rattle.std.proofs.Common.{refl}
use Rattle.vg_core.specs.HeldProgram.{code_of}
use Rattle.vg_types_simple.proofs.Typing.{stores_that, if_some}
use Rattle.vg_types_simple.proofs.simple.assign_statement.Goals as goal

pub returns-clause-typed : goal.returns-clause-typed
returns-clause-typed c =
    stores_that c.args.declared.now.tables c.args.body c.args.locals.now _ c.in-Some.storing c.in-Some.storing-is (code_of c.in_ok-judged.judged.code)
    (code_of c.in_ok-code.code) c.in_ok-judged.judged.type_ (if_some _ _ _ c.in-Some.is c.in_ok-aimed.ensures.typed) c.in_ok-judged.ensures.typed
    (c.if-not-fits.ensures.sub refl) c.in_ok-code.ensures
