-- Calls of methods whose arguments a byte counts.
use Rattle.std.specs.Prelude.{◌≡◌, ◌≤◌, ℕ, Some, slice_get}
use Rattle.vg_core.specs.declared.step.Step.{Step}
use Rattle.vg_core.specs.declared.step.Step.TheVariants.{CallMethod, CallComponent}
use Rattle.vg_core.specs.Program.{Program}
use Rattle.vg_live.specs.Uses.{steps_of}

abbrev pub HasFewArguments : Step → Type 0
HasFewArguments (CallMethod at c s count) = count ≤ 255
HasFewArguments (CallComponent m count) = count ≤ 255
HasFewArguments _ = Unit {0}

-- No call of a method has more; a delegate may be called with any number.
abbrev pub HaveFewArguments : Program → Type 0
HaveFewArguments p = (m i : ℕ) (s : Step) → slice_get (steps_of p m) i ≡ Some s → HasFewArguments s
