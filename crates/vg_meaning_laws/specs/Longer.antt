-- With more ticks a run does the same; one that was out of clock may go on.
use Rattle.std.specs.Prelude.{ℕ, ◌+◌}
use Rattle.vg_meaning.specs.World.{World}
use Rattle.vg_meaning.specs.Answer.{Signal, Over, OutOfClock, Answer, Gives, Ends, Piece}
use Rattle.vg_meaning_laws.specs.Grows.{Extends, trace_of}

-- The world with d ticks more.
abbrev pub longer : {H : Type 0} → ℕ → World H → World H
longer d w = record w { clock = w.clock + d }

-- The second answer is the first with d ticks more; or the first is out of clock, and its trace is where the second's begins.
pub data Longer {S H : Type 0} (d : ℕ) : Answer S H → Answer S H → Type 0 where
  gives : {s : S} {w : World H} → Longer d (Gives s w) (Gives s (longer d w))
  ends : {why : Signal} {s : S} {w : World H} → Longer d (Ends why s w) (Ends why s (longer d w))
  out : {s : S} {w : World H} {b : Answer S H} → Extends w.outside.trace (trace_of b) → Longer d (Ends (Over OutOfClock) s w) b

-- With d ticks more the second piece does what the first does, and goes on where that is out of clock.
abbrev pub LongerPiece : {S H : Type 0} → ℕ → Piece S H → Piece S H → Type 0
LongerPiece {S} {H} d p q = (s : S) (w : World H) → Longer d (p s w) (q s (longer d w))
