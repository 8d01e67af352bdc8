-- What packing is given, for those who stand on this room.
pub use Rattle.vg_packed.specs.Given.{IsGiven}
pub use Rattle.vg_packed.specs.Ready.{IsReady}
pub use Rattle.vg_text_chip.specs.Chip.{NamesChip}
