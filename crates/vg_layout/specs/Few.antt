-- Bounds on the stack for which there is room.
use Rattle.std.specs.Prelude.{ℕ, ◌≤◌}
use Rattle.vg_layout.specs.declared.stack_bound.StackBound.{StackBound}
use Rattle.vg_layout.specs.declared.stack_bound.StackBound.TheVariants.{Bytes, Cycle}

-- where so many bytes are enough, this stack has as many
abbrev pub IsFew : (stack : ℕ) → StackBound → Type 0
IsFew stack (Bytes bytes) = bytes ≤ stack
IsFew stack (Cycle methods) = Unit {0}
