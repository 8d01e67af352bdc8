-- Structured code whose steps are the instructions of linear code: the form from which linear code is made.
use Rattle.std.specs.Prelude.{ℕ, zero, suc, Bool, not, Option, Some, None}
use Rattle.vg_meaning.specs.History.{History, full}
use Rattle.vg_meaning.specs.Answer.{Stops, Wants, OutOfClock, Wrong, Gives, Piece, over, and_then, go_on}
use Rattle.vg_meaning.specs.Calls.{opened, returned}
use Rattle.vg_meaning.specs.Loops.{Test as Tested', Tested, Untested}
use Rattle.vg_meaning.specs.Interrupts.{take_interrupt, idles}
use Rattle.vg_meaning.specs.Code.{Code, performed}
use Rattle.vg_lin.specs.declared.instr.Operand.{Operand}
use Rattle.vg_lin.specs.declared.instr.Plain.{Plain}
use Rattle.vg_lin.specs.declared.instr.Test.{Test}
use Rattle.vg_lin.specs.declared.instr.Call.{Call}
use Rattle.vg_lin.specs.Steps.{Awaits, Result, Interrupt, Went, Goes, Raises, Lacks, Fails, Entry, Language}

pub data Step : Type 0 where
  Here : (p : Plain) → Step
  Pick : (test : Test) → Step  -- the truth value that a test gives
  Decide : (b : Bool) → Step  -- a truth value that is known
  Flip : Step  -- the other truth value
  Give : (width : ℕ) (a : Operand) → Step  -- the result of the procedure
  To : (call : Call) → Step
  Rest : Step  -- takes an interrupt, or ends the run

-- The state of linear code, and beside it the truth value and the result that wait.
pub record Deciding (S : Type 0) : Type 0 where
  pub state : S
  pub truth : Option Bool
  pub result : ℕ

-- The state of a procedure that begins.
abbrev pub fresh : {S : Type 0} → S → Deciding S
fresh s = record { state = s; truth = None; result = 0 }

abbrev pub Doing : Type 0 → Type 0
Doing S = Piece (Deciding S) History

-- What is done with a thing, where there is one.
abbrev pub with_found : {S A : Type 0} → Option A → (A → Doing S) → Doing S
with_found (Some a) go = go a
with_found None go = over Wrong

-- A plain instruction sees the outside alone: no clock, no history.
abbrev pub lifted : {S : Type 0} → Went S → Doing S
lifted (Goes s1 o) s w = Gives (record s { state = s1 }) (record w { outside = o })
lifted (Raises code) s w = over (Stops code None) s w
lifted (Lacks address) s w = over (Wants address) s w
lifted Fails s w = over Wrong s w

abbrev pub with_truth : {S : Type 0} → Bool → Doing S
with_truth b s w = Gives (record s { truth = Some b }) w

-- The caller's state behind a call.
abbrev pub resumed : {S : Type 0} → Language S → Awaits → (kept : S) → Deciding S → Doing S
resumed l awaits kept s b w = Gives (record s { state = l.resume awaits kept b.state b.result }) w

-- A call of the procedure with this number, from the state in which it begins to that in which it returns.
abbrev pub Caller : Type 0 → Type 0
Caller S = ℕ → Doing S

abbrev pub entered : {S : Type 0} → Language S → Caller S → Call → Entry S → Doing S
entered l call c e s w = and_then (call e.proc (fresh e.state) w) (resumed l (Result c) e.kept s)

abbrev pub handled : {S : Type 0} → Language S → Caller S → ℕ → Doing S
handled l call m s w = and_then (call m (fresh (l.wake m s.state)) w) (resumed l Interrupt s.state s)

abbrev pub handle : {S : Type 0} → Language S → Caller S → Option ℕ → Doing S
handle l call (Some m) = handled l call m
handle l call None = go_on

abbrev pub step : {S : Type 0} → Language S → Caller S → Step → Doing S
step l call (Here p) s w = lifted (l.plain p s.state w.outside) s w
step l call (Pick test) s w = with_found (l.holds test s.state) with_truth s w
step l call (Decide b) s w = with_truth b s w
step l call Flip s w = with_found s.truth (λ b. with_truth (not b)) s w
step l call (Give width a) s w = with_found (l.value width a s.state) (λ v s1 w1. Gives (record s1 { result = v }) w1) s w
step l call (To c) s w = with_found (l.enter c s.state) (entered l call c) s w
step l call Rest s w = take_interrupt (λ vector. handle l call (l.handler vector)) s w

-- The truth value that waits is taken.
abbrev pub taken : {S : Type 0} → Option Bool → Deciding S → Tested' (Deciding S)
taken (Some b) s = Tested b (record s { truth = None })
taken None s = Untested

abbrev pub truth : {S : Type 0} → Deciding S → Tested' (Deciding S)
truth s = taken s.truth s

-- What a body does. One that ends without a return is no legal one.
abbrev pub body : {S : Type 0} → Language S → Caller S → Code Step → Doing S
body l call code s w = returned (performed full (step l call) truth code s w) (over Wrong)

-- A call of a procedure that is an active call: calls are at most n deep, where n is at least the ticks that are left.
abbrev pub called : {S : Type 0} → Language S → (ℕ → Code Step) → ℕ → Caller S
called l bodies zero m s w = over OutOfClock s w
called l bodies (suc n) m s w = with_found (l.named m) (λ a. opened full a (body l (called l bodies n) (bodies m))) s w

-- A whole run: a call, and then the interrupts, where n is at least their number.
abbrev pub running : {S : Type 0} → Language S → (ℕ → Code Step) → Call → (interrupts : ℕ) → Doing S
running l bodies c interrupts s w =
    and_then (step l (called l bodies w.clock) (To c) s w)
    (λ s1 w1. idles interrupts (λ vector s2 w2. handle l (called l bodies w2.clock) (l.handler vector) s2 w2) s1 w1)
