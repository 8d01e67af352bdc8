use Rattle.vg_plain_handlers.proofs.Handling.{can_handle}
use Rattle.vg_plain_handlers.proofs.laws.plain_handlers_receive_nothing.Goals as goal

pub returns : goal.returns
returns c = λ p h s n columns f given ready from l plain. can_handle p h s n columns f from given ready l plain
