use Rattle.std.proofs.Common.{refl}
use Rattle.vg_pack_examples.proofs.worked.steps.Goals as goal

pub returns-clause-dropped : goal.returns-clause-dropped
returns-clause-dropped c = refl

pub returns-clause-kept : goal.returns-clause-kept
returns-clause-kept c = refl

pub returns-clause-cast : goal.returns-clause-cast
returns-clause-cast c = refl

pub returns-clause-test : goal.returns-clause-test
returns-clause-test c = refl

pub returns-clause-call : goal.returns-clause-call
returns-clause-call c = refl

pub returns-clause-named : goal.returns-clause-named
returns-clause-named c = refl

pub returns-clause-widened : goal.returns-clause-widened
returns-clause-widened c = refl

pub returns-clause-cut : goal.returns-clause-cut
returns-clause-cut c = refl

pub returns-clause-opposite : goal.returns-clause-opposite
returns-clause-opposite c = refl
