-- A program with a loop, a call, device reads and an interrupt, and its trace by computation.
use Rattle.std.specs.Prelude.{◌≡◌, refl, ℕ, List, [], ◌∷◌}
use Rattle.vg_meaning.specs.declared.event.Event.{Event}
use Rattle.vg_meaning.specs.declared.event.Event.TheVariants.{Read as ReadEvent, Write as WriteEvent, Enter}
use Rattle.vg_toy.specs.declared.program.Step.TheVariants.{Number, Read, Write, Call}
use Rattle.vg_meaning.specs.History.{Active, Calling, History, no_history, full}
use Rattle.vg_meaning.specs.Answer.{Done, Wants, Over, Answer, Ends, Gives, Signal}
use Rattle.vg_meaning.specs.Code.{Nothing, Then, Do, Loop}
use Rattle.vg_toy.specs.Language.{Method, place_of}
use Rattle.vg_toy.specs.Session.{session}

-- while (read 0x36) { call 7 }; method 7 writes to 0x38 what it reads from 0x39; the handler of vector 2 writes 1 to 0x37
abbrev pub example : List Method
example =
    record { name = 5; body = Loop (Do (Read 0x36)) (Do (Call 7)) Nothing }
    ∷ record { name = 7; body = Then (Do (Read 0x39)) (Do (Write 0x38)) }
    ∷ record { name = 9; body = Then (Do (Number 1)) (Do (Write 0x37)) } ∷ []

-- What a run shows: its trace, the active calls behind each tick, and why it is over.
pub record Shown : Type 0 where
  pub trace : List Event
  pub behind_ticks : List (List Active)
  pub why : Signal

-- What an answer shows.
abbrev pub shown : Answer (List ℕ) History → Shown
shown (Ends why s w) = record { trace = w.outside.trace; behind_ticks = w.history.behind_ticks; why = why }
shown (Gives s w) = record { trace = w.outside.trace; behind_ticks = w.history.behind_ticks; why = Over Done }

-- Four ticks: of the first method, of a turn of its loop, of the call in it, and of the handler.
example_runs : shown (session full no_history (place_of example) example (1 ∷ 5 ∷ 0 ∷ []) (2 ∷ []) 4)
    ≡ record {
      trace = ReadEvent 0x36 1 ∷ ReadEvent 0x39 5 ∷ WriteEvent 0x38 5 ∷ ReadEvent 0x36 0 ∷ Enter 2 ∷ WriteEvent 0x37 1 ∷ [];
      behind_ticks = (Calling 2 ∷ []) ∷ (Calling 1 ∷ Calling 0 ∷ []) ∷ (Calling 0 ∷ []) ∷ (Calling 0 ∷ []) ∷ [];
      why = Over Done;
    }
example_runs = refl

-- With one tick less the interrupt is taken, and its handler is not called.
example_is_cut : (shown (session full no_history (place_of example) example (1 ∷ 5 ∷ 0 ∷ []) (2 ∷ []) 3)).trace
    ≡ ReadEvent 0x36 1 ∷ ReadEvent 0x39 5 ∷ WriteEvent 0x38 5 ∷ ReadEvent 0x36 0 ∷ Enter 2 ∷ []
example_is_cut = refl

-- Where the second read has no value the run ends at its address.
example_wants : (shown (session full no_history (place_of example) example (1 ∷ []) [] 4)).why ≡ Over (Wants 0x39)
example_wants = refl
