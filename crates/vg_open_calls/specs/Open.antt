-- The procedures that are open in a run of linear code: what waits in each of them, and what opened it.
use Rattle.std.specs.Prelude.{ℕ, suc, ◌≡◌, ◌<◌, List, [], ◌∷◌, ◌++◌, length, map, take, reverse, Some, slice_get}
use Rattle.vg_lin.specs.declared.instr.Callee.{Callee}
use Rattle.vg_lin.specs.declared.instr.Callee.TheVariants.{Procedure as ByNumber, Code as ByCode}
use Rattle.vg_lin.specs.declared.instr.Passed.{Passed}
use Rattle.vg_lin.specs.declared.instr.Call.{Call as Calling}
use Rattle.vg_lin.specs.declared.instr.Instr.TheVariants.{Call, Idle}
use Rattle.vg_lin.specs.Meaning.{operands, codes_in}
use Rattle.vg_lin.specs.Program.{Procedure, Program}
use Rattle.vg_lin.specs.Sound.{IsSound, waits_of}
use Rattle.vg_lin.specs.State.{Waiting, State}
use Rattle.vg_lin.specs.Steps.{Awaits, Result, Interrupt, Frame, Config, fetch}

-- Each procedure of a program is sound, and those with which a run and a handler begin are there.
pub record IsReady (p : Program) : Type 0 where
  pub sound : (m : ℕ) (procedure : Procedure) → slice_get p.procedures m ≡ Some procedure → IsSound procedure
  pub first : Procedure
  pub start : slice_get p.procedures p.start ≡ Some first
  pub handlers : (v q : ℕ) → p.handler v ≡ Some q → (procedure : Procedure) × (slice_get p.procedures q ≡ Some procedure)

abbrev pub waiting_widths : List Waiting → List ℕ
waiting_widths ws = map (λ (w : Waiting). w.width) ws

-- Procedure m is there and has this place, and what waits has the widths that its code tells there.
pub record HasWaits (p : Program) (m pc : ℕ) (s : State) : Type 0 where
  pub procedure : Procedure
  pub there : slice_get p.procedures m ≡ Some procedure
  pub within : pc < length procedure.code
  pub waits : waiting_widths s.waiting ≡ waits_of procedure pc

-- A callee is this procedure, as far as it is told before the run: that of its number, or one for which a code number stands.
abbrev pub IsAim : Program → Callee → (q : ℕ) → Type 0
IsAim p (ByNumber r) q = r ≡ q
IsAim p (ByCode a) q = (code : ℕ) × (p.codes.at_code code ≡ Some q)

-- the widths of the arguments of a call, the first one first, where values of these widths wait, the newest first
abbrev pub argument_widths : (waits : List ℕ) → Calling → List ℕ
argument_widths ws call = reverse (take call.pushed ws) ++ map (λ (a : Passed). a.width) (operands call.registers)

-- At this place of procedure m a call passes as many arguments as procedure q has parameters, and as wide.
pub record IsPassing (p : Program) (m pc : ℕ) (call : Calling) (q : ℕ) : Type 0 where
  pub caller : Procedure
  pub calls : slice_get p.procedures m ≡ Some caller
  pub callee : Procedure
  pub there : slice_get p.procedures q ≡ Some callee
  pub widths : take callee.params callee.widths ≡ argument_widths (waits_of caller pc) call

-- A frame waits for procedure q: at a call that may lead there and passes what it receives, or at an instruction that idles, where it is the handler of an
-- interrupt.
abbrev pub IsOpener : Program → (q : ℕ) → Frame State → Awaits → Type 0
IsOpener p q f (Result call) =
    (fetch (codes_in p.procedures) f.proc f.pc ≡ Some (Call call)) × IsAim p call.callee q × IsPassing p f.proc f.pc call q
IsOpener p q f Interrupt = (fetch (codes_in p.procedures) f.proc f.pc ≡ Some Idle) × ((v : ℕ) × (p.handler v ≡ Some q))

-- Procedure m is open above these frames, of which the deepest is that of the procedure with which a run begins. What waits in each of them is
-- what waits behind the place at which it waits.
abbrev pub AreOpen : Program → (m : ℕ) → List (Frame State) → Type 0
AreOpen p m [] = m ≡ p.start
AreOpen p m (f ∷ fs) = IsOpener p m f f.awaits × (HasWaits p f.proc (suc f.pc) f.kept × AreOpen p f.proc fs)

-- An interrupt was taken only at an instruction that idles.
abbrev pub IsAwake : Program → Config State → Type 0
IsAwake p c = (v : ℕ) → c.woken ≡ Some v → fetch (codes_in p.procedures) c.proc c.pc ≡ Some Idle

pub record IsOpen (p : Program) (c : Config State) : Type 0 where
  pub here : HasWaits p c.proc c.pc c.state
  pub callers : AreOpen p c.proc c.frames
  pub awake : IsAwake p c
