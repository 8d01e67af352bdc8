-- The clock never rises, and a run that is out of clock has spent it all.
use Rattle.std.specs.Prelude.{◌≡◌, ℕ, ◌≤◌}
use Rattle.vg_meaning.specs.World.{World}
use Rattle.vg_meaning.specs.Answer.{Signal, Over, OutOfClock, Answer, Gives, Ends, Piece}

-- The answer has at most m ticks left, and none where it is out of clock.
pub data Spent {S H : Type 0} (m : ℕ) : Answer S H → Type 0 where
  gives : {s : S} {w : World H} → w.clock ≤ m → Spent m (Gives s w)
  ends : {why : Signal} {s : S} {w : World H} → w.clock ≤ m → (why ≡ Over OutOfClock → w.clock ≡ 0) → Spent m (Ends why s w)

-- A piece that begins with at most n ticks has no more behind it than before it, and none where it is out of clock.
abbrev pub Spends : {S H : Type 0} → ℕ → Piece S H → Type 0
Spends {S} {H} n p = (s : S) (w : World H) → w.clock ≤ n → Spent w.clock (p s w)
