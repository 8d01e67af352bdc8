use Rattle.vg_core.specs.HeldProgram.{code_of}
use Rattle.vg_types_simple.proofs.Asking.{default_runs}
use Rattle.vg_types_simple.proofs.local.local_default.Goals as goal

pub returns-clause-typed : goal.returns-clause-typed
returns-clause-typed c =
    default_runs c.args.declared.now.tables c.args.body c.args.locals.now c.declared_as.new.locals (code_of c.in_ok-value.value) (code_of c.in_ok-code.code)
    c.in-Ok.wanted c.in_ok-value.ensures c.in_ok-code.ensures.types c.in_ok-code.ensures.code
