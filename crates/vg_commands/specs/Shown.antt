-- What sessions show, for those who stand on this room.
pub use Rattle.vg_run.specs.Shown.{ForSession, lines_of}
