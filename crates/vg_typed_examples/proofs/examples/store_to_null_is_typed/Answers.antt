use Rattle.vg_typed_examples.proofs.StoreToNull.{well_typed, names_tell}
use Rattle.vg_typed_examples.proofs.examples.store_to_null_is_typed.Goals as goal

pub returns-clause-typed : goal.returns-clause-typed
returns-clause-typed c = well_typed

pub returns-clause-names : goal.returns-clause-names
returns-clause-names c = names_tell
