-- Loops: each turn ticks once, so a loop makes at most as many turns as the clock has ticks.
use Rattle.std.specs.Prelude.{ℕ, zero, suc, Bool, true, false}
use Rattle.vg_meaning.specs.History.{Recorder}
use Rattle.vg_meaning.specs.Answer.{Breaks, Continues, Returns, Over, OutOfClock, Wrong, Answer, Gives, Ends, Piece, go_on, over, and_then}
use Rattle.vg_meaning.specs.Clock.{ticked}

-- What a test takes from the state: a truth value that waits, and the state without it.
pub data Test (S : Type 0) : Type 0 where
  Tested : (b : Bool) (s : S) → Test S
  Untested : Test S

-- One of two pieces, by a test.
abbrev pub choose : {S H : Type 0} → Test S → Piece S H → Piece S H → Piece S H
choose (Tested true s1) a b s w = a s1 w
choose (Tested false s1) a b s w = b s1 w
choose Untested a b s w = over Wrong s w

-- A condition, and then the piece where the condition holds.
abbrev pub where_holds : {S H : Type 0} → Piece S H → (S → Test S) → Piece S H → Piece S H
where_holds condition test go s w = and_then (condition s w) (λ s1 w1. choose (test s1) go go_on s1 w1)

-- What a loop does with the end of its body.
abbrev pub turned : {S H : Type 0} → Answer S H → Piece S H → Answer S H
turned (Gives s w) go = go s w
turned (Ends Continues s w) go = go s w
turned (Ends Breaks s w) go = Gives s w
turned (Ends Returns s w) go = Ends Returns s w
turned (Ends (Over why) s w) go = over why s w

-- A loop of at most n turns, where n is at least the ticks that are left; `next` is what a `for` does behind its body.
abbrev pub turns : {S H : Type 0} → Recorder H → ℕ → (Piece S H → Piece S H) → Piece S H → Piece S H → Piece S H
turns r zero holds body next s w = holds (over OutOfClock) s w
turns r (suc n) holds body next s w =
    holds (ticked r (λ s1 w1. turned (body s1 w1) (λ s2 w2. and_then (next s2 w2) (turns r n holds body next)))) s w

-- A loop.
abbrev pub loop : {S H : Type 0} → Recorder H → (Piece S H → Piece S H) → Piece S H → Piece S H → Piece S H
loop r holds body next s w = turns r w.clock holds body next s w
