use Rattle.vg_core.specs.HeldProgram.{code_of}
use Rattle.vg_types_simple.proofs.Judging.{not_false}
use Rattle.vg_types_bodies.proofs.Initials.{super_runs}
use Rattle.vg_types_bodies.proofs.above.class_above.Goals as goal

pub returns-clause-typed : goal.returns-clause-typed
returns-clause-typed c =
    super_runs c.args.declared.now.tables c.outside.result c.args.locals.now c.params_of.result.now c.in_ok-argued.argued c.args.class c.requires.above.0
    (code_of c.in_ok-code.code) c.outside.ensures c.requires.above.1 (c.params_of.ensures.params c.requires.above.0 c.requires.above.1)
    (c.in_ok-argued.ensures.typed (not_false c.in_ok-argued.argued.fits c.if-not-argued.false)) c.in_ok-code.ensures
