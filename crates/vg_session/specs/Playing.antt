-- Mirrors of the code that plays a session and puts its lines: no public clause cites one.
use Rattle.std.specs.Prelude.{◌≡◌, ℕ, ◌≤◌, Bool, true, false, List, length, Option, Some, Result, Err}
use Rattle.vg_base.specs.declared.refusal.Refusal.{Refusal}
use Rattle.vg_base.specs.declared.refusal.Refusal.TheVariants.{Fault, NoMemory as Memory}
use Rattle.vg_meaning.specs.declared.event.Event.{Event}
use Rattle.vg_meaning.specs.Answer as answer
use Rattle.vg_meaning.specs.Answer.{Answer, and_then}
use Rattle.vg_meaning.specs.History.{depth_alone}
use Rattle.vg_meaning.specs.Interrupts.{idles}
use Rattle.vg_core.specs.declared.program.Program.{Program}
use Rattle.vg_core.specs.declared.program.Target.TheVariants.{Run as OfMethod}
use Rattle.vg_core.specs.HeldProgram.{program_at}
use Rattle.vg_core.specs.Session.{call_alone, handle}
use Rattle.vg_core.specs.State.{State}
use Rattle.vg_interp_run.specs.declared.run.Run.{Run}
use Rattle.vg_interp_run.specs.declared.signal.Signal.{Signal}
use Rattle.vg_interp_run.specs.declared.signal.Signal.TheVariants as signal
use Rattle.vg_interp_run.specs.Run.{state, world}
use Rattle.vg_session.specs.declared.initialisation.InitFault.{InitFault}
use Rattle.vg_session.specs.declared.session.SessionEnd.{SessionEnd}
use Rattle.vg_session.specs.declared.session.SessionEnd.TheVariants as end
use Rattle.vg_session.specs.Ends.{Causes, Puts}
use Rattle.vg_session.specs.Initialises.{why_of}

-- ---- initialisation

-- The signals of an initialisation that fails.
abbrev pub CanFail : Signal → Type 0
CanFail (signal.Stops code at) = Unit {0}
CanFail (signal.Touches address) = Unit {0}
CanFail signal.OutOfClock = Unit {0}
CanFail signal.OutOfDepth = Unit {0}
CanFail signal.OutOfRoom = Unit {0}
CanFail signal.NoMemory = Unit {0}
CanFail _ = ⊥

-- A fault is that of its signal.
abbrev pub FailsBy : Refusal InitFault → Signal → Type 0
FailsBy (Fault f) (signal.Stops code at) = why_of f ≡ answer.Stops code (Some at)
FailsBy (Fault f) (signal.Touches address) = why_of f ≡ answer.Touches address
FailsBy (Fault f) signal.OutOfClock = why_of f ≡ answer.OutOfClock
FailsBy (Fault f) signal.OutOfDepth = why_of f ≡ answer.OutOfDepth
FailsBy (Fault f) signal.OutOfRoom = why_of f ≡ answer.OutOfRoom
FailsBy (Fault f) _ = ⊥
FailsBy Memory why = Unit {0}

-- ---- sessions

-- The signals of a session that ends, whichever memory there is.
abbrev pub CanEnd : {A : Type 0} → Result A Signal → Type 0
CanEnd (Err signal.Done) = Unit {0}
CanEnd (Err (signal.Stops code at)) = Unit {0}
CanEnd (Err (signal.Wants address)) = Unit {0}
CanEnd (Err signal.OutOfClock) = Unit {0}
CanEnd (Err signal.OutOfDepth) = Unit {0}
CanEnd _ = ⊥

-- Memory was not wanting.
abbrev pub HasMemory : {A : Type 0} → Result A Signal → Type 0
HasMemory (Err signal.NoMemory) = ⊥
HasMemory _ = Unit {0}

-- Where memory was not wanting, an answer says so.
abbrev pub Lacks : Bool → Signal → Type 0
Lacks true why = Unit {0}
Lacks false why = HasMemory {A = Unit {0}} (Err why)

-- The end of a session is that of its signal.
abbrev pub IsEndOf : {A : Type 0} → SessionEnd → Result A Signal → Type 0
IsEndOf end.Idle (Err signal.Done) = Unit {0}
IsEndOf (end.Stop code) (Err (signal.Stops of at)) = of ≡ code
IsEndOf (end.Wants address) (Err (signal.Wants of)) = of ≡ address
IsEndOf end.Budget (Err signal.OutOfClock) = Unit {0}
IsEndOf end.Depth (Err signal.OutOfDepth) = Unit {0}
IsEndOf _ _ = ⊥

-- The same, but where a put failed or memory was wanting.
abbrev pub EndsBy : {A : Type 0} → SessionEnd → Result A Signal → Type 0
EndsBy end.SinkFailed r = Unit {0}
EndsBy end.NoMemory r = Unit {0}
EndsBy e r = IsEndOf e r

-- Main, and the interrupts behind it.
abbrev pub from_main : Program → Run → Answer State ℕ
from_main p r =
    and_then (call_alone depth_alone (program_at p) (OfMethod p.main) (state r) (world r))
    (idles (length (world r).outside.interrupts) (handle depth_alone (program_at p)))

-- A session that ended so has put what it puts of a trace, since the sink had taken these bytes and had failed so often.
abbrev pub Leaves : SessionEnd → (told : Option (List ℕ)) → (faults : ℕ) → (told_now : Option (List ℕ)) → (faults_now : ℕ) → List Event → Type 0
Leaves e told faults told_now faults_now trace = Puts e told told_now trace × Causes e faults faults_now × (faults ≤ faults_now)
