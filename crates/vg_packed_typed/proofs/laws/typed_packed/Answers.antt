use Rattle.vg_packed_typed.proofs.Moved.{is_typed}
use Rattle.vg_packed_typed.proofs.laws.typed_packed.Goals as goal

pub returns : goal.returns
returns c = λ p l k f lay calls m g b suits params h few most counted. is_typed p l k f lay calls m g b suits params h few most counted
