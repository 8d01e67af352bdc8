use Rattle.std.proofs.Common.{refl}
use Rattle.vg_pack_examples.proofs.worked.lists.Goals as goal

pub returns-clause-procedures : goal.returns-clause-procedures
returns-clause-procedures c = refl

pub returns-clause-asked : goal.returns-clause-asked
returns-clause-asked c = refl

pub returns-clause-bytes : goal.returns-clause-bytes
returns-clause-bytes c = refl

pub returns-clause-delegates : goal.returns-clause-delegates
returns-clause-delegates c = refl
