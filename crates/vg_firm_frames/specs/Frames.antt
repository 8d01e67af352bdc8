-- What it means that a step leaves alone what waits below.
use Rattle.std.specs.Prelude.{◌≡◌, ℕ, List, ◌∷◌, ◌++◌}
use Rattle.vg_meaning.specs.History.{History}
use Rattle.vg_meaning.specs.World.{World}
use Rattle.vg_meaning.specs.Answer.{End, Over, Answer, Gives, Ends}
use Rattle.vg_firm.specs.Meaning.{State}

-- The same state, with more values that wait below.
abbrev pub over : List ℕ → State → State
over under s = record s { values = s.values ++ under }

-- Of two runs, one with more values that wait below: where the first goes on, so does the second, and what waits below still does; where
-- the first is over, the second is over for the same reason.
pub data Above (under : List ℕ) : Answer State History → Answer State History → Type 0 where
  gives : {s : State} {w : World History} → Above under (Gives s w) (Gives (over under s) w)
  ends : {why : End} {s t : State} {w : World History} → Above under (Ends (Over why) s w) (Ends (Over why) t w)

-- The same where a value is left above.
pub data AboveOne (under : List ℕ) : Answer State History → Answer State History → Type 0 where
  gives_one : {s : State} {v : ℕ} {vs : List ℕ} {w : World History} → s.values ≡ v ∷ vs → AboveOne under (Gives s w) (Gives (over under s) w)
  ends_one : {why : End} {s t : State} {w : World History} → AboveOne under (Ends (Over why) s w) (Ends (Over why) t w)
