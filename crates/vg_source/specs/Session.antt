-- Calls, the initialisation of a program, and its runs.
use Rattle.std.specs.Prelude.{ℕ, zero, suc, List, [], ◌∷◌, length, map, Option, Some, None}
use Rattle.vg_meaning.specs.declared.event.Event.{Event}
use Rattle.vg_meaning.specs.Ending.{Ending, Idle, Stop, Beyond, Deep}
use Rattle.vg_meaning.specs.Ending as outcome
use Rattle.vg_meaning.specs.Outside.{before}
use Rattle.vg_meaning.specs.History.{Active, Calling, Making, Recorder, History, no_history, full}
use Rattle.vg_meaning.specs.World.{World, Starting, Running}
use Rattle.vg_meaning.specs.Answer.{End, Stops, Wants, Done, OutOfClock, OutOfDepth, OutOfRoom, Wrong, Signal, Over, Answer, Gives, Ends, Piece, over}
use Rattle.vg_meaning.specs.Answer.{and_then, passes, unless}
use Rattle.vg_meaning.specs.Calls.{opened, returned}
use Rattle.vg_meaning.specs.Interrupts.{idles}
use Rattle.vg_source.specs.Names.{Name}
use Rattle.vg_source.specs.Types.{CharType}
use Rattle.vg_source.specs.Values.{Value, Char, Null, Heap, Cell, Array, stored_values}
use Rattle.vg_source.specs.Steps.{Source, Target, Method, Start, Routine}
use Rattle.vg_source.specs.State.{State, find_called, handler_of, entered, left}
use Rattle.vg_source.specs.Meaning.{Caller, put, taking, with_found, forgetting, meaning}

-- ---- calls

-- An active call of a target: a method by its number, or the making of an object or a component.
abbrev pub activity : Target → ℕ → Active
activity (Method c m) number = Calling number
activity _ number = Making

-- Back in the caller's state, with the value that the body leaves.
abbrev pub back_in : {H : Type 0} → ℕ → State → Piece State H
back_in count s = taking (λ v body. Gives (left count s v body))

-- The body of a routine: an end without return gives the default of the result.
abbrev pub run_routine : {H : Type 0} → Recorder H → Source → Caller H → Routine → ℕ → Value → Piece State H
run_routine r p call routine count self s w =
    and_then (returned (meaning r p call routine.body (entered routine count self s) w) (put routine.missing)) (back_in count s)

-- Calls at most n deep, where n is at least the ticks that are left. There are as many arguments as parameters.
abbrev pub called : {H : Type 0} → Recorder H → Source → ℕ → Caller H
called r p zero t count self s w = over OutOfClock s w
called r p (suc n) t count self s w =
    with_found (find_called p.routines t count)
    (λ routine. opened r (activity t routine.number) (run_routine r p (called r p n) routine count self)) s w

-- A call without arguments from outside, whose value is forgotten.
abbrev pub call_alone : {H : Type 0} → Recorder H → Source → Target → Piece State H
call_alone r p t s w = forgetting (called r p w.clock t 0 Null) s w

-- ---- initialisation

-- A string literal is an array of chars.
abbrev pub literal_cell : List ℕ → Cell
literal_cell bytes = Array CharType (map Char bytes)

-- The heap before initialisation: the literals in order of the text, and the defaults of the component fields.
abbrev pub first_heap : Source → Heap
first_heap p = record { cells = map literal_cell p.literals; globals = p.globals }

-- The components are initialised one by one.
abbrev pub start_all : {H : Type 0} → Recorder H → Source → List Name → Piece State H
start_all r p [] s w = Gives s w
start_all r p (c ∷ cs) s w = and_then (call_alone r p (Start c) s w) (start_all r p cs)

-- The state in which nothing is in hand but the heap.
abbrev pub with_heap : Heap → State
with_heap h = record { values = []; locals = []; self = Null; heap = h }

-- The world of initialisation: at most 400 active calls and 60,000 stored values.
abbrev pub starting_world : {H : Type 0} → H → ℕ → World H
starting_world history clock =
    record { phase = Starting; deepest = Some 400; largest = Some 60000; clock = clock; outside = before [] []; history = history }

-- Initialisation: the room for the literals and the component fields is looked at before the first tick.
abbrev pub starting : {H : Type 0} → Recorder H → H → Source → ℕ → Answer State H
starting r history p clock =
    unless (passes (Some 60000) (stored_values (first_heap p))) OutOfRoom (start_all r p p.components)
    (with_heap (first_heap p)) (starting_world history clock)

-- What initialisation gives: a heap, or why there is none.
pub data Initialised : Type 0 where
  Started : (heap : Heap) → Initialised
  Failed : (why : End) → Initialised

-- What an answer of initialisation gives.
abbrev pub start_of : {H : Type 0} → Answer State H → Initialised
start_of (Gives s w) = Started s.heap
start_of (Ends (Over why) s w) = Failed why
start_of (Ends _ s w) = Failed Wrong

-- The initialisation of a program with this clock.
abbrev pub started : Source → ℕ → Initialised
started p clock = start_of (starting full no_history p clock)

-- ---- runs

-- The handler of an interrupt is called, where there is one.
abbrev pub handled : {H : Type 0} → Recorder H → Source → Option Target → Piece State H
handled r p (Some t) s w = call_alone r p t s w
handled r p None s w = Gives s w

-- What is done for an interrupt.
abbrev pub handle : {H : Type 0} → Recorder H → Source → ℕ → Piece State H
handle r p vector s w = handled r p (handler_of p.handlers vector) s w

-- The world of a run.
abbrev pub running_world : {H : Type 0} → H → (deepest : Option ℕ) → (reads interrupts : List ℕ) → (clock : ℕ) → World H
running_world history deepest reads interrupts clock =
    record { phase = Running; deepest = deepest; largest = None; clock = clock; outside = before reads interrupts; history = history }

-- A run from an initialised heap: main is called, and then the interrupts are taken until none is left.
abbrev pub running : {H : Type 0} → Recorder H → H → Source → Heap → (deepest : Option ℕ) → (reads interrupts : List ℕ) → (clock : ℕ) → Answer State H
running r history p heap deepest reads interrupts clock =
    and_then (call_alone r p p.main (with_heap heap) (running_world history deepest reads interrupts clock))
    (idles (length interrupts) (handle r p))

-- How a run ended. A legal program has one of these endings.
abbrev pub ending_of : Signal → Option Ending
ending_of (Over Done) = Some Idle
ending_of (Over (Stops code at)) = Some (Stop code)
ending_of (Over (Wants address)) = Some (outcome.Wants address)
ending_of (Over OutOfClock) = Some Beyond
ending_of (Over OutOfDepth) = Some Deep
ending_of _ = None

-- A session: its trace, its ending, and the history of its active calls.
pub record Session : Type 0 where
  pub trace : List Event
  pub ending : Option Ending
  pub history : History

-- What an answer of a run shows.
abbrev pub session_of : Answer State History → Session
session_of (Gives s w) = record { trace = w.outside.trace; ending = None; history = w.history }
session_of (Ends why s w) = record { trace = w.outside.trace; ending = ending_of why; history = w.history }

-- The session of a program from its initialised heap.
abbrev pub session : Source → Heap → (deepest : Option ℕ) → (reads interrupts : List ℕ) → (clock : ℕ) → Session
session p heap deepest reads interrupts clock = session_of (running full no_history p heap deepest reads interrupts clock)
