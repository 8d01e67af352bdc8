-- Linear code by small steps: places, jumps, calls and interrupts. What a plain instruction does, a language says itself.
use Rattle.std.specs.Prelude.{ℕ, zero, suc, Bool, true, false, List, [], ◌∷◌, Option, Some, None, slice_get}
use Rattle.vg_meaning.specs.declared.event.Event.TheVariants.{Enter}
use Rattle.vg_meaning.specs.Outside.{Outside, with_event}
use Rattle.vg_meaning.specs.History.{Active}
use Rattle.vg_meaning.specs.Answer.{End, Stops, Wants, Done, Wrong}
use Rattle.vg_lin.specs.declared.instr.Operand.{Operand}
use Rattle.vg_lin.specs.declared.instr.Plain.{Plain as PlainInstr}
use Rattle.vg_lin.specs.declared.instr.Test.{Test}
use Rattle.vg_lin.specs.declared.instr.Call.{Call as Calling}
use Rattle.vg_lin.specs.declared.instr.Instr.{Instr}
use Rattle.vg_lin.specs.declared.instr.Instr.TheVariants.{Plain, When, Unless, Jump, Call, Return, Idle}

-- What waits for the end of a procedure: a call, or an instruction that idles.
pub data Awaits : Type 0 where
  Result : (call : Calling) → Awaits
  Interrupt : Awaits

-- A procedure that waits: the place where it waits, and its state.
pub record Frame (S : Type 0) : Type 0 where
  pub proc : ℕ
  pub pc : ℕ
  pub kept : S
  pub awaits : Awaits

-- What a plain instruction does: it goes on, or ends the run.
pub data Went (S : Type 0) : Type 0 where
  Goes : (s : S) (o : Outside) → Went S
  Raises : (code : ℕ) → Went S  -- an exception of the language
  Lacks : (address : ℕ) → Went S  -- a device read at this address, where no read is left
  Fails : Went S  -- what no code of a legal program does

-- What a call does: the procedure that it enters, the state there, and the state of the caller while it waits.
pub record Entry (S : Type 0) : Type 0 where
  pub proc : ℕ
  pub state : S
  pub kept : S

-- What a language says of its states of type S.
pub record Language (S : Type 0) : Type 0 where
  pub plain : PlainInstr → S → Outside → Went S
  pub holds : Test → S → Option Bool  -- none where an operand has no value
  pub value : (width : ℕ) → Operand → S → Option ℕ  -- of what a procedure returns
  pub enter : Calling → S → Option (Entry S)
  pub resume : Awaits → (kept returned : S) → ℕ → S  -- the caller's state behind the call, with the result
  pub handler : ℕ → Option ℕ  -- the procedure that handles an interrupt
  pub wake : ℕ → S → S  -- the state in which that procedure begins
  pub named : ℕ → Option Active  -- the active call that a procedure is, where it is one

pub record Config (S : Type 0) : Type 0 where
  pub proc : ℕ
  pub pc : ℕ
  pub state : S
  pub frames : List (Frame S)
  pub woken : Option ℕ  -- the interrupt that was taken, and whose handler is not called yet
  pub outside : Outside
  pub openings : List (List Active)  -- the open calls at each opening so far, with the call that is opened, the newest first
  pub ending : Option End

-- The open calls of a procedure and of those that wait for it.
abbrev pub with_named : Option Active → List Active → List Active
with_named None calls = calls
with_named (Some call) calls = call ∷ calls

abbrev pub open_below : {S : Type 0} → Language S → List (Frame S) → List Active
open_below l [] = []
open_below l (f ∷ fs) = with_named (l.named f.proc) (open_below l fs)

abbrev pub open_calls : {S : Type 0} → Language S → ℕ → List (Frame S) → List Active
open_calls l m fs = with_named (l.named m) (open_below l fs)

-- An opening is noted where the procedure that begins is an active call.
abbrev pub noted : Option Active → (below : List Active) → List (List Active) → List (List Active)
noted None below openings = openings
noted (Some call) below openings = (call ∷ below) ∷ openings

-- The run ends.
abbrev pub ends : {S : Type 0} → Config S → End → Config S
ends c why = record c { ending = Some why }

-- A procedure begins in this state, and the frame waits for it.
abbrev pub begins : {S : Type 0} → Language S → Config S → (proc : ℕ) → S → Frame S → Config S
begins l c m s f =
    record c {
      proc = m;
      pc = 0;
      state = s;
      frames = f ∷ c.frames;
      woken = None;
      openings = noted (l.named m) (open_below l (f ∷ c.frames)) c.openings;
    }

abbrev pub went : {S : Type 0} → Config S → Went S → Config S
went c (Goes s o) = record c { pc = suc c.pc; state = s; outside = o }
went c (Raises code) = ends c (Stops code None)
went c (Lacks address) = ends c (Wants address)
went c Fails = ends c Wrong

-- A branch that is taken where the test gives this truth value.
abbrev pub branched : {S : Type 0} → Config S → (wanted : Bool) → (to : ℕ) → Option Bool → Config S
branched c true to (Some true) = record c { pc = to }
branched c false to (Some false) = record c { pc = to }
branched c wanted to (Some b) = record c { pc = suc c.pc }
branched c wanted to None = ends c Wrong

abbrev pub calls : {S : Type 0} → Language S → Config S → Calling → Option (Entry S) → Config S
calls l c call (Some e) = begins l c e.proc e.state (record { proc = c.proc; pc = c.pc; kept = e.kept; awaits = Result call })
calls l c call None = ends c Wrong

-- The procedure of the newest frame goes on behind the place where it waits.
abbrev pub goes_back : {S : Type 0} → Language S → Config S → List (Frame S) → ℕ → Config S
goes_back l c (f ∷ fs) v =
    record c { proc = f.proc; pc = suc f.pc; state = l.resume f.awaits f.kept c.state v; frames = fs }
goes_back l c [] v = ends c Wrong

abbrev pub returns : {S : Type 0} → Language S → Config S → Option ℕ → Config S
returns l c (Some v) = goes_back l c c.frames v
returns l c None = ends c Wrong

-- The next interrupt is taken; with none left the run is done.
abbrev pub takes : {S : Type 0} → Config S → List ℕ → Config S
takes c [] = ends c Done
takes c (vector ∷ vectors) =
    record c { woken = Some vector; outside = with_event (record c.outside { interrupts = vectors }) (Enter vector) }

-- The handler of an interrupt that was taken is called, where there is one.
abbrev pub handles : {S : Type 0} → Language S → Config S → Option ℕ → Config S
handles l c None = record c { pc = suc c.pc; woken = None }
handles l c (Some m) = begins l c m (l.wake m c.state) (record { proc = c.proc; pc = c.pc; kept = c.state; awaits = Interrupt })

abbrev pub performed : {S : Type 0} → Language S → Config S → Option Instr → Config S
performed l c (Some (Plain p)) = went c (l.plain p c.state c.outside)
performed l c (Some (When test to)) = branched c true to (l.holds test c.state)
performed l c (Some (Unless test to)) = branched c false to (l.holds test c.state)
performed l c (Some (Jump to)) = record c { pc = to }
performed l c (Some (Call call)) = calls l c call (l.enter call c.state)
performed l c (Some (Return w a)) = returns l c (l.value w a c.state)
performed l c (Some Idle) = takes c c.outside.interrupts
performed l c None = ends c Wrong

-- The instruction at a place of a procedure.
abbrev pub code_of : Option (List Instr) → List Instr
code_of None = []
code_of (Some code) = code

abbrev pub fetch : List (List Instr) → (proc pc : ℕ) → Option Instr
fetch procs m pc = slice_get (code_of (slice_get procs m)) pc

-- One step. A run that has ended stays as it is.
abbrev pub stepped : {S : Type 0} → Language S → List (List Instr) → Config S → Option End → Option ℕ → Config S
stepped l procs c (Some why) woken = c
stepped l procs c None (Some vector) = handles l c (l.handler vector)
stepped l procs c None None = performed l c (fetch procs c.proc c.pc)

abbrev pub step : {S : Type 0} → Language S → List (List Instr) → Config S → Config S
step l procs c = stepped l procs c c.ending c.woken

-- So many steps.
abbrev pub steps : {S : Type 0} → Language S → List (List Instr) → ℕ → Config S → Config S
steps l procs zero c = c
steps l procs (suc n) c = steps l procs n (step l procs c)
