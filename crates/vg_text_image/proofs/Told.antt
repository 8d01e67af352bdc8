-- That names of methods tell them apart, for those who stand on this room.
pub use Rattle.vg_calls_named.proofs.Spelled.{names_told}
