-- The initialisation of a program and its runs.
use Rattle.std.specs.Prelude.{ℕ, suc, ◌==◌, List, [], ◌∷◌, length, map, Option, Some, None, if◌then◌else◌}
use Rattle.vg_meaning.specs.History.{Recorder, History, no_history, full}
use Rattle.vg_meaning.specs.Answer.{End, OutOfRoom, Wrong, Over, Answer, Gives, Ends, Piece, and_then, passes, unless}
use Rattle.vg_meaning.specs.Interrupts.{idles}
use Rattle.vg_source.specs.Session.{starting_world, running_world, ending_of, Session}
use Rattle.vg_core.specs.declared.value.CoreValue.TheVariants.{Char, Null}
use Rattle.vg_core.specs.declared.heap.Cell.{Cell}
use Rattle.vg_core.specs.declared.heap.Cell.TheVariants.{Array}
use Rattle.vg_core.specs.declared.heap.Heap.{Heap}
use Rattle.vg_core.specs.declared.program.Handler.{Handler}
use Rattle.vg_core.specs.declared.program.Target.{Target}
use Rattle.vg_core.specs.declared.program.Target.TheVariants.{Run, Start}
use Rattle.vg_core.specs.Program.{Program}
use Rattle.vg_core.specs.Heap.{stored_values}
use Rattle.vg_core.specs.State.{State}
use Rattle.vg_core.specs.Meaning.{forgetting, defaults, called}

-- A call without arguments from outside, whose value is forgotten.
abbrev pub call_alone : {H : Type 0} → Recorder H → Program → Target → Piece State H
call_alone r p t s w = forgetting (called r p w.clock t 0 Null) s w

-- ---- initialisation

-- A string literal is an array of chars.
abbrev pub literal_cell : (char_type : ℕ) → List ℕ → Cell
literal_cell t bytes = Array t (map Char bytes)

-- The heap before initialisation: the literals in order of the text, and the defaults of the fields of components.
abbrev pub first_heap : Program → Heap
first_heap p = record { cells = map (literal_cell p.tables.char_type) p.tables.literals; globals = defaults p.tables p.tables.globals }

-- The components are initialised one by one, from the component k on.
abbrev pub start_all : {H : Type 0} → Recorder H → Program → (k : ℕ) → List ℕ → Piece State H
start_all r p k [] s w = Gives s w
start_all r p k (name ∷ names) s w = and_then (call_alone r p (Start k) s w) (start_all r p (suc k) names)

-- The state in which nothing is in hand but the heap.
abbrev pub with_heap : Heap → State
with_heap h = record { values = []; locals = []; self = Null; heap = h }

-- Initialisation: the room for the literals and the fields of components is looked at before the first tick.
abbrev pub starting : {H : Type 0} → Recorder H → H → Program → ℕ → Answer State H
starting r history p clock =
    unless (passes (Some 60000) (stored_values (first_heap p))) OutOfRoom (start_all r p 0 p.tables.components)
    (with_heap (first_heap p)) (starting_world history clock)

-- ---- runs

-- The handler of a vector.
abbrev pub handler_of : List Handler → ℕ → Option ℕ
handler_of [] k = None
handler_of (h ∷ hs) k = if h.vector == k then Some h.method else handler_of hs k

-- The handler of an interrupt is called, where there is one.
abbrev pub handled : {H : Type 0} → Recorder H → Program → Option ℕ → Piece State H
handled r p (Some m) s w = call_alone r p (Run m) s w
handled r p None s w = Gives s w

-- What is done for an interrupt.
abbrev pub handle : {H : Type 0} → Recorder H → Program → ℕ → Piece State H
handle r p vector s w = handled r p (handler_of p.handlers vector) s w

-- A run from an initialised heap: main is called, and then the interrupts are taken until none is left.
abbrev pub running : {H : Type 0} → Recorder H → H → Program → Heap → (deepest : Option ℕ) → (reads interrupts : List ℕ) → (clock : ℕ) → Answer State H
running r history p heap deepest reads interrupts clock =
    and_then (call_alone r p (Run p.main) (with_heap heap) (running_world history deepest reads interrupts clock))
    (idles (length interrupts) (handle r p))

-- ---- what is shown

-- What initialisation gives: a heap, or why there is none.
pub data Initialised : Type 0 where
  Started : (heap : Heap) → Initialised
  Failed : (why : End) → Initialised

-- What an answer of initialisation gives.
abbrev pub start_of : {H : Type 0} → Answer State H → Initialised
start_of (Gives s w) = Started s.heap
start_of (Ends (Over why) s w) = Failed why
start_of (Ends _ s w) = Failed Wrong

-- The initialisation of a program with this clock.
abbrev pub started : Program → ℕ → Initialised
started p clock = start_of (starting full no_history p clock)

-- What an answer of a run shows.
abbrev pub session_of : Answer State History → Session
session_of (Gives s w) = record { trace = w.outside.trace; ending = None; history = w.history }
session_of (Ends why s w) = record { trace = w.outside.trace; ending = ending_of why; history = w.history }

-- The session of a program from its initialised heap.
abbrev pub session : Program → Heap → (deepest : Option ℕ) → (reads interrupts : List ℕ) → (clock : ℕ) → Session
session p heap deepest reads interrupts clock = session_of (running full no_history p heap deepest reads interrupts clock)
