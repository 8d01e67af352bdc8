use Rattle.std.proofs.Common.{sym, ◌∙◌}
use Rattle.vg_core.specs.HeldProgram.{code_of}
use Rattle.vg_types_operators.proofs.Leading.{where_false}
use Rattle.vg_types_operators.proofs.operand.disjunction.Goals as goal

pub returns-clause-typed : goal.returns-clause-typed
returns-clause-typed c =
    where_false c.args.declared.now.tables c.args.body c.args.locals.now c.args.left c.args.operand.type_ (code_of c.args.operand.code)
    (code_of c.in_ok-code.code) (sym c.are_bools.ensures ∙ c.if-not-are_bools.false) c.in_ok-code.ensures c.requires.typed
