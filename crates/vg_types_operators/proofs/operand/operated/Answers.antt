use Rattle.std.proofs.Common.{subst}
use Rattle.vg_core.specs.HeldProgram.{code_of}
use Rattle.vg_types_operators.specs.Operators.{Gives}
use Rattle.vg_types_operators.proofs.Leading.{operates}
use Rattle.vg_types_operators.proofs.operand.operated.Goals as goal

pub returns-in_ok-code-in-Some-clause-typed : goal.returns-in_ok-code-in-Some-clause-typed
returns-in_ok-code-in-Some-clause-typed c =
    operates c.args.declared.now.tables c.args.body c.args.locals.now c.args.id c.args.operator c.args.left c.args.operand.type_ c.in-Some.type_
    (code_of c.args.operand.code) (code_of c.in_ok-code-in-Some.code)
    (subst (Gives c.args.names.now c.args.root.now c.args.declared.now c.args.operator c.args.left c.args.operand.type_) c.in-Some.is c.in_ok-found.ensures).2
    c.in_ok-code-in-Some.ensures c.requires.typed
