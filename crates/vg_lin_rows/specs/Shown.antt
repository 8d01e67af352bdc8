-- What a run shows, for the worked rows.
use Rattle.std.specs.Prelude.{List, Option, Some, None}
use Rattle.vg_meaning.specs.declared.event.Event.{Event}
use Rattle.vg_meaning.specs.History.{Active, History}
use Rattle.vg_meaning.specs.Answer.{End, Over, Answer, Gives, Ends}
use Rattle.vg_lin.specs.Steps.{Config}

pub record Shown : Type 0 where
  pub trace : List Event
  pub openings : List (List Active)  -- the newest first
  pub ending : Option End

abbrev pub ending_of : {S : Type 0} → Answer S History → Option End
ending_of (Ends (Over why) s w) = Some why
ending_of _ = None

-- What an answer of structured code shows.
abbrev pub shown : {S : Type 0} → Answer S History → Shown
shown (Gives s w) = record { trace = w.outside.trace; openings = w.history.at_openings; ending = None }
shown (Ends why s w) = record { trace = w.outside.trace; openings = w.history.at_openings; ending = ending_of (Ends why s w) }

-- What a configuration of linear code shows.
abbrev pub seen : {S : Type 0} → Config S → Shown
seen c = record { trace = c.outside.trace; openings = c.openings; ending = c.ending }
