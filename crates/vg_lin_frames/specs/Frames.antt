-- What it means that code leaves alone what waits below.
use Rattle.std.specs.Prelude.{List, ◌++◌}
use Rattle.vg_meaning.specs.History.{History}
use Rattle.vg_meaning.specs.World.{World}
use Rattle.vg_meaning.specs.Answer.{Wrong, Signal, Over, Answer, Gives, Ends}
use Rattle.vg_meaning.specs.Code.{Code, Then, Do, If, Loop}
use Rattle.vg_lin.specs.State.{State, Waiting}
use Rattle.vg_lin.specs.Structured.{Step, Give, Deciding}

-- The code has no loop, and gives no result back: nothing may wait where a procedure ends.
abbrev pub IsStraight : Code Step → Type 0
IsStraight (Then a b) = IsStraight a × IsStraight b
IsStraight (Do (Give width a)) = ⊥
IsStraight (If a b) = IsStraight a × IsStraight b
IsStraight (Loop c body next) = ⊥
IsStraight _ = Unit {0}

-- The same state, with more that waits below.
abbrev pub above : List Waiting → State → State
above under s = record s { waiting = s.waiting ++ under }

abbrev pub over : List Waiting → Deciding State → Deciding State
over under d = record d { state = above under d.state }

-- Of two runs, one with more that waits below: where the first goes on, so does the second, and what waits below still does; where the
-- first ends, the second ends for the same reason. Of what no code of a legal program does nothing is said.
pub data Above (under : List Waiting) : Answer (Deciding State) History → Answer (Deciding State) History → Type 0 where
  gives : {d : Deciding State} {w : World History} → Above under (Gives d w) (Gives (over under d) w)
  ends : {why : Signal} {d e : Deciding State} {w : World History} → Above under (Ends why d w) (Ends why e w)
  wrong : {d : Deciding State} {w : World History} {b : Answer (Deciding State) History} → Above under (Ends (Over Wrong) d w) b
