-- That they do so, for those who stand on this room.
pub use Rattle.vg_memory.proofs.Keeping.{keeps}
pub use Rattle.vg_memory.proofs.Never.{never}
pub use Rattle.vg_memory.proofs.Peaks.{within_peak}
pub use Rattle.vg_memory.proofs.SessionsAgree.{agrees, agrees_held}
