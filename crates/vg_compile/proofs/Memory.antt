-- That they do so, for those who stand on this room.
pub use Rattle.vg_stack_bound.proofs.Memory.{agrees, agrees_held, keeps, never}
