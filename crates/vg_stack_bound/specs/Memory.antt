-- What machines and their memory do, for those who stand on this room.
pub use Rattle.vg_memory.specs.Does.{DoesAsProgram}
pub use Rattle.vg_memory.specs.Holds.{HoldsPeaks}
pub use Rattle.vg_memory.specs.Memory.{KeepsMemory}
pub use Rattle.vg_memory.specs.Whole.{with_whole}
