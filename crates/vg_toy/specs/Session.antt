-- Whole runs: the first method is called, and then the interrupts are taken, each by the method at the place of its vector.
use Rattle.std.specs.Prelude.{ℕ, List, [], length, None, slice_get}
use Rattle.vg_meaning.specs.Outside.{before}
use Rattle.vg_meaning.specs.History.{Recorder}
use Rattle.vg_meaning.specs.World.{World, Running}
use Rattle.vg_meaning.specs.Answer.{Answer, Piece, go_on, and_then}
use Rattle.vg_meaning.specs.Interrupts.{idles}
use Rattle.vg_toy.specs.Language.{Method, with_method, called}

-- The handler of an interrupt, where there is one.
abbrev pub handle : {H : Type 0} → Recorder H → (ℕ → ℕ) → List Method → ℕ → Piece (List ℕ) H
handle r find methods vector s w =
    with_method (λ m. called r find methods w.clock vector) go_on (slice_get methods vector) s w

-- The world before a run, with this history.
abbrev pub world : {H : Type 0} → H → (reads interrupts : List ℕ) → (clock : ℕ) → World H
world history reads interrupts clock =
    record { phase = Running; deepest = None; largest = None; clock = clock; outside = before reads interrupts; history = history }

-- A run from this history.
abbrev pub session : {H : Type 0} → Recorder H → H → (ℕ → ℕ) → List Method → (reads interrupts : List ℕ) → (clock : ℕ) → Answer (List ℕ) H
session r history find methods reads interrupts clock =
    and_then (called r find methods clock 0 [] (world history reads interrupts clock))
    (idles (length interrupts) (handle r find methods))
