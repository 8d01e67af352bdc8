-- What an image reaches of its stack at most, for those who stand on this room.
pub use Rattle.vg_peaks.proofs.Joining.{within_peak}
