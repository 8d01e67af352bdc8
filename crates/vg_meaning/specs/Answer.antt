-- How a piece of a run ends, and how pieces follow one another.
use Rattle.std.specs.Prelude.{ℕ, Bool, true, false, Option, Some, None, nat_lt}
use Rattle.vg_meaning.specs.World.{World, Phase, Starting, Running}

-- Why a whole run is over.
pub data End : Type 0 where
  Stops : (code : ℕ) (at : Option ℕ) → End  -- an exception, with its node where it comes at initialisation
  Wants : (address : ℕ) → End  -- a device read, where no read is left
  Touches : (address : ℕ) → End  -- a device read or write at initialisation
  Done : End  -- the program idles, and no interrupt is left
  OutOfClock : End  -- a tick was due, and the clock was spent
  OutOfDepth : End  -- the limit on active calls was passed
  OutOfRoom : End  -- the limit on stored values was passed
  Wrong : End  -- what no legal program does

-- Why a piece of code does not go on to the next.
pub data Signal : Type 0 where
  Breaks : Signal
  Continues : Signal
  Returns : Signal  -- the value waits in the state
  Over : (why : End) → Signal

-- What a piece answers: it gives the state behind it, or it ends for a reason. S is the state of the meaning in hand.
pub data Answer (S H : Type 0) : Type 0 where
  Gives : (s : S) (w : World H) → Answer S H
  Ends : (why : Signal) (s : S) (w : World H) → Answer S H

-- A piece of a run.
abbrev pub Piece : Type 0 → Type 0 → Type 0
Piece S H = S → World H → Answer S H

-- The piece that does nothing.
abbrev pub go_on : {S H : Type 0} → Piece S H
go_on s w = Gives s w

-- The piece that ends the whole run.
abbrev pub over : {S H : Type 0} → End → Piece S H
over why s w = Ends (Over why) s w

-- One piece and then another.
abbrev pub and_then : {S H : Type 0} → Answer S H → Piece S H → Answer S H
and_then (Gives s w) go = go s w
and_then (Ends why s w) go = Ends why s w

-- The piece is reached unless the whole run is over here.
abbrev pub unless : {S H : Type 0} → Bool → End → Piece S H → Piece S H
unless true why go s w = over why s w
unless false why go s w = go s w

-- Whether a number is more than the limit, where there is one.
abbrev pub passes : Option ℕ → ℕ → Bool
passes None n = false
passes (Some most) n = nat_lt most n

-- A stop keeps its node at initialisation, and none in a run.
abbrev pub kept : Phase → ℕ → Option ℕ
kept Starting at = Some at
kept Running at = None

-- An exception of this code, at this node.
abbrev pub stops : {S H : Type 0} → ℕ → ℕ → Piece S H
stops code at s w = over (Stops code (kept w.phase at)) s w
