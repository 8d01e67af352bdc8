-- Calls of methods that they name, and their arguments.
use Rattle.std.specs.Prelude.{◌≤◌}
use Rattle.vg_core.specs.declared.step.Step.{Step}
use Rattle.vg_core.specs.declared.step.Step.TheVariants.{CallMethod, CallComponent}

-- Such a call has no more arguments than a method may have parameters; of the call of a delegate nothing is said.
abbrev pub IsShortCall : Step → Type 0
IsShortCall (CallMethod at c s count) = count ≤ 60
IsShortCall (CallComponent m count) = count ≤ 60
IsShortCall _ = Unit {0}
