-- What a run keeps of its world, and the ends that it has.
use Rattle.std.specs.Prelude.{◌≡◌, ℕ, List, Option, Some, None}
use Rattle.vg_meaning.specs.World.{World, Running}
use Rattle.vg_meaning.specs.Answer.{End, Touches, OutOfDepth, OutOfRoom, Signal, Over, Answer, Gives, Ends, Piece}

-- The world of a run: this limit on active calls, none on stored values, and these interrupts to come.
pub record InRun {H : Type 0} (deepest : Option ℕ) (interrupts : List ℕ) (w : World H) : Type 0 where
  pub phase : w.phase ≡ Running
  pub deepest_is : w.deepest ≡ deepest
  pub largest_is : w.largest ≡ None
  pub interrupts_are : w.outside.interrupts ≡ interrupts

-- A limit is there.
abbrev pub IsLimited : Option ℕ → Type 0
IsLimited (Some most) = Unit {0}
IsLimited None = ⊥

-- The ends of a run: no device is missed and no room is wanting, and it is too deep only where calls are limited.
abbrev pub IsEnd : (deepest : Option ℕ) → End → Type 0
IsEnd deepest (Touches address) = ⊥
IsEnd deepest OutOfRoom = ⊥
IsEnd deepest OutOfDepth = IsLimited deepest
IsEnd deepest _ = Unit {0}

abbrev pub IsSignal : (deepest : Option ℕ) → Signal → Type 0
IsSignal deepest (Over why) = IsEnd deepest why
IsSignal deepest _ = Unit {0}

-- An answer stays in the run, and ends as a run does.
abbrev pub StaysInRun : {S H : Type 0} → (deepest : Option ℕ) (interrupts : List ℕ) → Answer S H → Type 0
StaysInRun deepest interrupts (Gives s w) = InRun deepest interrupts w
StaysInRun deepest interrupts (Ends why s w) = InRun deepest interrupts w × IsSignal deepest why

-- All answers of a piece.
abbrev pub StaysPiece : {S H : Type 0} → (deepest : Option ℕ) (interrupts : List ℕ) → Piece S H → Type 0
StaysPiece {S} {H} deepest interrupts p = (s : S) (w : World H) → InRun deepest interrupts w → StaysInRun deepest interrupts (p s w)

-- An answer ends, and as a run does.
abbrev pub EndsRun : {S H : Type 0} → (deepest : Option ℕ) → Answer S H → Type 0
EndsRun deepest (Gives s w) = ⊥
EndsRun deepest (Ends why s w) = IsSignal deepest why
