use Rattle.vg_types_tables.proofs.Entries.{known_entry}
use Rattle.vg_types_tables.proofs.laws.known_entry.Goals as goal

pub returns : goal.returns
returns c = λ p i t f e. known_entry p f i t e
