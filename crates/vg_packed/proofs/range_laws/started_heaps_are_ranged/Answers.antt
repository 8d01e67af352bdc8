use Rattle.vg_packed.proofs.Ready.{scalars, elements}
use Rattle.vg_packed.proofs.range_laws.started_heaps_are_ranged.Goals as goal

pub returns-clause-scalars : goal.returns-clause-scalars
returns-clause-scalars c = λ p formed ranges clock h starts. scalars p ranges formed clock h starts

pub returns-clause-elements : goal.returns-clause-elements
returns-clause-elements c = λ p formed ranges clock h starts. elements p ranges formed clock h starts
