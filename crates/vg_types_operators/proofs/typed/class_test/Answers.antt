use Rattle.std.proofs.Common.{sym, ◌∙◌}
use Rattle.vg_types_operators.proofs.Casting.{tests}
use Rattle.vg_types_operators.proofs.typed.class_test.Goals as goal

pub returns-in-Some-clause-typed : goal.returns-in-Some-clause-typed
returns-in-Some-clause-typed c = λ o x s.
    tests c.args.declared.now.tables c.args.locals.now.declared o c.args.head c.args.wanted c.in-Some.class x (sym c.in-Some.is ∙ c.tested.ensures)
