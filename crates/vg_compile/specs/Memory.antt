-- What machines and their memory do, for those who stand on this room.
pub use Rattle.vg_stack_bound.specs.Memory.{DoesAsProgram, HoldsPeaks, KeepsMemory, with_whole}
