-- How the examples write code and say what a typed program does.
use Rattle.std.specs.Prelude.{ℕ, List, [], ◌∷◌, Option, None}
use Rattle.vg_meaning.specs.Code.{Code, Nothing, Then, Do}
use Rattle.vg_examples.specs.Writing.{Shown, shown}
use Rattle.vg_core.specs.declared.step.Step.{Step}
use Rattle.vg_core.specs.Program.{Program}
use Rattle.vg_core.specs.Session.{Initialised, Started, Failed, started, session}

-- Code as a row.
abbrev pub row : List (Code Step) → Code Step
row [] = Nothing
row (c ∷ cs) = Then c (row cs)

-- Steps as a row.
abbrev pub steps : List Step → Code Step
steps [] = Nothing
steps (s ∷ ss) = Then (Do s) (steps ss)

-- What the session behind an initialisation shows, where there is a heap.
abbrev pub shown_behind : Program → Initialised → Option ℕ → (reads interrupts : List ℕ) → (clock : ℕ) → Option Shown
shown_behind p (Started heap) deepest reads interrupts clock =
    shown (session p heap deepest reads interrupts clock).trace (session p heap deepest reads interrupts clock).ending
shown_behind p (Failed why) deepest reads interrupts clock = None

-- What a program shows that is initialised with the first clock and run with the second.
abbrev pub outcome_of : Program → ℕ → Option ℕ → (reads interrupts : List ℕ) → (clock : ℕ) → Option Shown
outcome_of p start deepest reads interrupts clock = shown_behind p (started p start) deepest reads interrupts clock
