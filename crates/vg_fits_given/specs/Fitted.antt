-- What is answered to a text that fits, for those who stand on this room.
pub use Rattle.vg_fits.specs.declared.fitting.Fitted.{Fitted}
pub use Rattle.vg_fits.specs.Answer.{IsFittedOf, Start, named_start_heap}
