-- How a session ends, and what a sink has of it then.
use Rattle.std.specs.Prelude.{◌≡◌, ℕ, List, Option, Some}
use Rattle.vg_io.specs.Count.{Rose}
use Rattle.vg_io.specs.Piece.{AppendsAll, AppendsFront}
use Rattle.vg_meaning.specs.declared.event.Event.{Event}
use Rattle.vg_meaning.specs.Ending as ending
use Rattle.vg_meaning.specs.Ending.{Ending}
use Rattle.vg_source.specs.Session.{Session}
use Rattle.vg_core.specs.declared.heap.Heap.{Heap}
use Rattle.vg_core.specs.declared.program.Program.{Program}
use Rattle.vg_core.specs.HeldProgram.{program_at}
use Rattle.vg_core.specs.Session.{session}
use Rattle.vg_script.specs.Script.{Lists}
use Rattle.vg_outlet.specs.Lines.{lines}
use Rattle.vg_session.specs.declared.session.SessionEnd.{SessionEnd}
use Rattle.vg_session.specs.declared.session.SessionEnd.TheVariants.{Idle, Stop, Wants, Budget, Depth, SinkFailed, NoMemory}

-- The session of a program from this heap, on a script, in so many ticks and with at most 400 active calls.
abbrev pub session_on : Program → Heap → Lists → (budget : ℕ) → Session
session_on p heap script budget = session (program_at p) heap (Some 400) script.reads script.interrupts budget

-- The session has this ending; nothing is said where a put failed or memory was wanting.
abbrev pub EndsAs : SessionEnd → Option Ending → Type 0
EndsAs Idle e = e ≡ Some ending.Idle
EndsAs (Stop code) e = e ≡ Some (ending.Stop code)
EndsAs (Wants address) e = e ≡ Some (ending.Wants address)
EndsAs Budget e = e ≡ Some ending.Beyond
EndsAs Depth e = e ≡ Some ending.Deep
EndsAs SinkFailed e = Unit {0}
EndsAs NoMemory e = Unit {0}

-- The sink has the lines of all events behind what it had, or a front of them where a put failed or memory was wanting.
abbrev pub Puts : SessionEnd → (before now : Option (List ℕ)) → List Event → Type 0
Puts SinkFailed before now events = AppendsFront before now (lines events)
Puts NoMemory before now events = AppendsFront before now (lines events)
Puts _ before now events = AppendsAll before now (lines events)

-- A put fails only where the sink's count of faults rises.
abbrev pub Causes : SessionEnd → (before now : ℕ) → Type 0
Causes SinkFailed before now = Rose before now
Causes _ before now = Unit {0}
