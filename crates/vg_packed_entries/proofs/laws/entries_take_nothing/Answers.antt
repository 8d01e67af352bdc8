use Rattle.vg_packed_entries.proofs.Entries.{entry_takes, handler_takes}
use Rattle.vg_packed_entries.proofs.laws.entries_take_nothing.Goals as goal

pub returns-clause-entries : goal.returns-clause-entries
returns-clause-entries c = λ p h s n c f given ready from. entry_takes p h s n c f from given ready

pub returns-clause-handlers : goal.returns-clause-handlers
returns-clause-handlers c = λ p h s n c f given ready from. handler_takes p h s n c f from given ready
