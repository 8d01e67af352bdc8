-- A run of the machine, and the trace of its whole.
use Rattle.std.specs.Prelude.{List}
use Rattle.vg_meaning.specs.declared.event.Event.{Event}
use Rattle.avr_view.specs.Run.{Run}

-- the same run, of this whole trace
abbrev pub with_whole : Run → List Event → Run
with_whole e whole = record e { whole = whole }
