-- What initialisation answers.
use Rattle.std.specs.Prelude.{◌≡◌, Some, Result, Ok, Err}
use Rattle.vg_base.specs.declared.refusal.Refusal.{Refusal}
use Rattle.vg_base.specs.declared.refusal.Refusal.TheVariants.{Fault, NoMemory}
use Rattle.vg_meaning.specs.Answer as answer
use Rattle.vg_meaning.specs.Answer.{End}
use Rattle.vg_core.specs.declared.heap.Heap.{Heap}
use Rattle.vg_core.specs.Session.{Initialised, Started, Failed}
use Rattle.vg_session.specs.declared.initialisation.InitFault.{InitFault}
use Rattle.vg_session.specs.declared.initialisation.InitFault.TheVariants.{Trap, Steps, Depth, Touches, TooBig}

-- Why the run of the constructors was over.
abbrev pub why_of : InitFault → End
why_of (Trap code node) = answer.Stops code (Some node.0)
why_of Steps = answer.OutOfClock
why_of Depth = answer.OutOfDepth
why_of (Touches address) = answer.Touches address
why_of TooBig = answer.OutOfRoom

-- The heap that initialisation gives, or why there is none.
abbrev pub Initialises : Result Heap (Refusal InitFault) → Initialised → Type 0
Initialises (Ok h) i = i ≡ Started h
Initialises (Err (Fault f)) i = i ≡ Failed (why_of f)
Initialises (Err NoMemory) i = Unit {0}
