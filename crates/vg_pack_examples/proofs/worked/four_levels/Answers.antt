use Rattle.std.proofs.Common.{refl}
use Rattle.vg_pack_examples.proofs.worked.four_levels.Goals as goal

pub returns-clause-all : goal.returns-clause-all
returns-clause-all c = refl

pub returns-clause-below : goal.returns-clause-below
returns-clause-below c = refl

pub returns-clause-third : goal.returns-clause-third
returns-clause-third c = refl

pub returns-clause-fourth : goal.returns-clause-fourth
returns-clause-fourth c = refl

pub returns-clause-fifth : goal.returns-clause-fifth
returns-clause-fifth c = refl
