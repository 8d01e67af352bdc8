use Rattle.std.proofs.Common.{refl}
use Rattle.vg_core.specs.HeldProgram.{code_of}
use Rattle.vg_types_bodies.proofs.Makings.{stored_runs_that}
use Rattle.vg_types_bodies.proofs.field.field_initialiser.Goals as goal

pub returns-in_ok-stored-in-Some-clause-typed : goal.returns-in_ok-stored-in-Some-clause-typed
returns-in_ok-stored-in-Some-clause-typed c =
    stored_runs_that c.args.declared.now.tables c.args.owner c.args.field c.args.wanted c.in-Ok.found c.in-Some.value c.in-Some.value refl
    c.in-Some.is (code_of c.in_ok-stored-in-Some.field-0) c.args.id c.requires.field c.in-Ok.ensures.typed c.in_ok-stored-in-Some.ensures
