-- Mirrors of the code that runs the machine: no public clause cites them.
use Rattle.std.specs.Prelude.{List, [], ◌∷◌, Option, Some, None}
use Rattle.vg_meaning.specs.declared.event.Event.{Event}
use Rattle.avr_isa.specs.Machine.{State}

-- the event that is still to be put
abbrev pub pending : Option Event → List Event
pending None = []
pending (Some event) = event ∷ []

-- a state but for how deep its stack has reached
abbrev pub unstacked : State → State
unstacked s = record s { lowest = 0 }
