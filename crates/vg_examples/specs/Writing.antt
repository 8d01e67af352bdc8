-- How the examples write trees and say what a program does.
use Rattle.std.specs.Prelude.{ℕ, List, [], ◌∷◌, length, Option, Some, None}
use Rattle.vg_meaning.specs.declared.event.Event.{Event}
use Rattle.vg_meaning.specs.Ending.{Ending}
use Rattle.vg_syntax.specs.Tree.{TypeTree, Param, Spot, Node, Nothing, Then}
use Rattle.vg_meaning.specs.History.{no_history}
use Rattle.vg_source.specs.Names.{Name}
use Rattle.vg_source.specs.Steps.{Source}
use Rattle.vg_source.specs.Session.{Initialised, Started, Failed, started, Session, session}

-- The node of this number, at this line and column.
abbrev pub at : (id line col : ℕ) → Spot
at id line col = record { id = id; place = record { line = line; col = col } }

-- Nodes as a row.
abbrev pub row : List Node → Node
row [] = Nothing
row (a ∷ rest) = Then a (row rest)

-- A parameter.
abbrev pub param : Name → TypeTree → Param
param name type = record { name = name; type = type }

-- How many cells there are, where there is a heap.
abbrev pub cells_of : Initialised → ℕ
cells_of (Started heap) = length heap.cells
cells_of (Failed why) = 0

-- No session.
abbrev pub no_session : Session
no_session = record { trace = []; ending = None; history = no_history }

-- The session behind an initialisation, where there is a heap.
abbrev pub session_behind : Source → Initialised → Option ℕ → (reads interrupts : List ℕ) → (clock : ℕ) → Session
session_behind p (Started heap) deepest reads interrupts clock = session p heap deepest reads interrupts clock
session_behind p (Failed why) deepest reads interrupts clock = no_session

-- The session of a program that is initialised with the first clock and run with the second.
abbrev pub session_after : Source → ℕ → Option ℕ → (reads interrupts : List ℕ) → (clock : ℕ) → Session
session_after p start deepest reads interrupts clock = session_behind p (started p start) deepest reads interrupts clock

-- A trace and its ending.
pub record Shown : Type 0 where
  pub trace : List Event
  pub ending : Ending

-- The trace and the ending, where there is one.
abbrev pub shown : List Event → Option Ending → Option Shown
shown trace (Some ending) = Some (record { trace = trace; ending = ending })
shown trace None = None

-- What such a session shows.
abbrev pub outcome_of : Source → ℕ → Option ℕ → (reads interrupts : List ℕ) → (clock : ℕ) → Option Shown
outcome_of p start deepest reads interrupts clock = show_session (session_after p start deepest reads interrupts clock)
  where
    show_session : Session → Option Shown
    show_session s = shown s.trace s.ending
