-- What it means that each opening of a call is noted behind a tick.
use Rattle.std.specs.Prelude.{List}
use Rattle.vg_meaning.specs.History.{Active, History}
use Rattle.vg_open_calls.specs.Noted.{IsAmong}

-- the calls that were open at an opening were open behind a tick
abbrev pub AreTicked : History → Type 0
AreTicked h = (calls : List Active) → IsAmong calls h.at_openings → IsAmong calls h.behind_ticks
