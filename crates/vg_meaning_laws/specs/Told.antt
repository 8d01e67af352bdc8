-- A run with less history follows one with more.
use Rattle.std.specs.Prelude.{◌≡◌}
use Rattle.vg_meaning.specs.History.{Active, Recorder}
use Rattle.vg_meaning.specs.World.{World}
use Rattle.vg_meaning.specs.Answer.{Signal, Answer, Gives, Ends, Piece}

-- The world with its history told by f.
abbrev pub told : {H K : Type 0} → (H → K) → World H → World K
told f w = record { phase = w.phase; deepest = w.deepest; largest = w.largest; clock = w.clock; outside = w.outside; history = f w.history }

-- The second answer is the first with its history told by f.
pub data Told {S H K : Type 0} (f : H → K) : Answer S H → Answer S K → Type 0 where
  gives : {s : S} {w : World H} → Told f (Gives s w) (Gives s (told f w))
  ends : {why : Signal} {s : S} {w : World H} → Told f (Ends why s w) (Ends why s (told f w))

-- The second piece does what the first does, with the history told by f.
abbrev pub ToldPiece : {S H K : Type 0} → (H → K) → Piece S H → Piece S K → Type 0
ToldPiece {S} {H} {K} f p q = (s : S) (w : World H) → Told f (p s w) (q s (told f w))

-- f takes the first recorder to the second.
pub record Tells {H K : Type 0} (f : H → K) (r : Recorder H) (q : Recorder K) : Type 0 where
  pub tick : (h : H) → q.tick (f h) ≡ f (r.tick h)
  pub open_call : (call : Active) (h : H) → q.open_call call (f h) ≡ f (r.open_call call h)
  pub close_call : (h : H) → q.close_call (f h) ≡ f (r.close_call h)
  pub depth : (h : H) → q.depth (f h) ≡ r.depth h
