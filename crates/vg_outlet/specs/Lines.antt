-- The lines of events.
use Rattle.std.specs.Prelude.{ℕ, List}
use Rattle.std.specs.List.{flat_map}
use Rattle.vg_meaning.specs.declared.event.Event.{Event}
use Rattle.vg_script.specs.Traces.{event_line}

abbrev pub lines : List Event → List ℕ
lines events = flat_map event_line events
