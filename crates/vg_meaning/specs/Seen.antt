-- What a session of a program shows.
use Rattle.std.specs.Prelude.{ℕ, List, Option}
use Rattle.vg_meaning.specs.declared.event.Event.{Event}
use Rattle.vg_meaning.specs.Ending.{Ending}

-- what a session shows, and what its active calls cost at most; a run that does what no legal program does has no ending
pub record Seen : Type 0 where
  pub trace : List Event
  pub ending : Option Ending
  pub peak : ℕ
