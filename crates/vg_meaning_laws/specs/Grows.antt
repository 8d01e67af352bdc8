-- The trace only grows: what was seen stays.
use Rattle.std.specs.Prelude.{◌≡◌, List, ◌++◌}
use Rattle.vg_meaning.specs.declared.event.Event.{Event}
use Rattle.vg_meaning.specs.World.{World}
use Rattle.vg_meaning.specs.Answer.{Answer, Gives, Ends, Piece}

-- The trace that an answer has.
abbrev pub trace_of : {S H : Type 0} → Answer S H → List Event
trace_of (Gives s w) = w.outside.trace
trace_of (Ends why s w) = w.outside.trace

-- The new trace begins with the old one.
abbrev pub Extends : (old new : List Event) → Type 0
Extends old new = (more : List Event) × (new ≡ old ++ more)

-- A piece only adds to the trace.
abbrev pub Grows : {S H : Type 0} → Piece S H → Type 0
Grows {S} {H} p = (s : S) (w : World H) → Extends w.outside.trace (trace_of (p s w))
