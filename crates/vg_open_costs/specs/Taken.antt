-- How many bytes of the stack the open procedures of a run of linear code take at most.
use Rattle.std.specs.Prelude.{ℕ, suc, ◌≡◌, ◌+◌, ◌<◌, ◌≤◌, false, List, [], ◌∷◌, Option, Some, None, slice_get}
use Rattle.vg_lin.specs.declared.instr.Call.{Call as CallTo}
use Rattle.vg_lin.specs.declared.instr.Instr.{Instr}
use Rattle.vg_lin.specs.declared.instr.Instr.TheVariants.{Plain, Call, Idle}
use Rattle.vg_lin.specs.Meaning.{operands, enter, codes_in, run}
use Rattle.vg_lin.specs.Program.{Procedure, Program}
use Rattle.vg_lin.specs.State.{State}
use Rattle.vg_lin.specs.Steps.{Awaits, Result, Interrupt, Frame, Entry, Config, fetch}
use Rattle.vg_expand.specs.Runs.{ShowsSame}
use Rattle.vg_expand.specs.Unpushed.{step_pushes, unpushed_steps}
use Rattle.vg_templates.specs.Straight.{pushed_by}
use Rattle.vg_templates.specs.Flow.{goes_by_registers, pushed_by_call, IsDivided}
use Rattle.vg_open_calls.specs.Open.{waiting_widths}
use Rattle.vg_frame_costs.specs.Bytes.{bytes_of, opening_bytes, pushed_bytes}

-- what a procedure takes when it begins
abbrev pub opening_in : Option Procedure → ℕ
opening_in (Some m) = opening_bytes m
opening_in None = 0

abbrev pub opening_of : Program → (m : ℕ) → ℕ
opening_of p m = opening_in (slice_get p.procedures m)

-- what its caller pushed
abbrev pub pushed_in : Option Procedure → ℕ
pushed_in (Some m) = pushed_bytes m
pushed_in None = 0

abbrev pub pushed_of : Program → (m : ℕ) → ℕ
pushed_of p m = pushed_in (slice_get p.procedures m)

-- its frame: both
abbrev pub frame_of : Program → (m : ℕ) → ℕ
frame_of p m = opening_of p m + pushed_of p m

-- an interrupt leaves two return addresses between what it interrupted and its handler
abbrev pub between : Awaits → ℕ
between (Result call) = 0
between Interrupt = 4

-- the procedures that wait for others, with what waits in each of them; and the one that runs as well
abbrev pub callers_take : Program → List (Frame State) → ℕ
callers_take p [] = 0
callers_take p (f ∷ fs) = between f.awaits + (bytes_of (waiting_widths f.kept.waiting) + (frame_of p f.proc + callers_take p fs))

abbrev pub stack_takes : Program → (m : ℕ) → State → List (Frame State) → ℕ
stack_takes p m s fs = bytes_of (waiting_widths s.waiting) + (frame_of p m + callers_take p fs)

-- What an instruction takes beside that: what it pushes, and what a procedure takes that it calls.
abbrev pub entry_takes : Program → Option (Entry State) → ℕ
entry_takes p (Some e) = opening_of p e.proc
entry_takes p None = 0

abbrev pub handler_takes : Program → Option ℕ → ℕ
handler_takes p (Some q) = opening_of p q
handler_takes p None = 0

abbrev pub instr_takes : Program → State → Option Instr → ℕ
instr_takes p s (Some (Plain q)) = pushed_by q
instr_takes p s (Some (Call c)) = pushed_by_call (goes_by_registers c) (operands c.registers) + entry_takes p (enter p c s)
instr_takes p s (Some Idle) = 4
instr_takes p s _ = 0

abbrev pub step_takes : Program → Config State → (woken : Option ℕ) → ℕ
step_takes p c (Some vector) = 4 + handler_takes p (p.handler vector)
step_takes p c None = instr_takes p c.state (fetch (codes_in p.procedures) c.proc c.pc)

-- all that is taken before a step and in it
abbrev pub taken : Program → Config State → ℕ
taken p c = stack_takes p c.proc c.state c.frames + step_takes p c c.woken

-- What an interrupt or a code number leads to stands before the procedure with which a run begins.
pub record LeadBefore (p : Program) : Type 0 where
  pub handlers : (v q : ℕ) → p.handler v ≡ Some q → q < p.start
  pub codes : (code q : ℕ) → p.codes.at_code code ≡ Some q → q < p.start

-- Where some of the arguments of a call wait, so many are passed that none go in registers.
abbrev pub CallsAreDivided : Program → Type 0
CallsAreDivided p = (m pc : ℕ) (c : CallTo) → fetch (codes_in p.procedures) m pc ≡ Some (Call c) → IsDivided c

-- A run of so many steps does not end within a row of pushes: its last step is none.
abbrev pub EndsUnpushed : Program → (n : ℕ) → (reads interrupts : List ℕ) → Type 0
EndsUnpushed p n reads interrupts = (m : ℕ) → suc m ≡ n → step_pushes (codes_in p.procedures) (run p m reads interrupts) ≡ false

-- A run of so many steps is cut back to before its last row of pushes: it makes at least as many steps as there were no pushes, and shows the same.
pub record IsCutBack (p : Program) (n : ℕ) (reads interrupts : List ℕ) : Type 0 where
  pub steps : ℕ
  pub unpushed : EndsUnpushed p steps reads interrupts
  pub many : unpushed_steps p n reads interrupts ≤ steps
  pub shows : ShowsSame (run p n reads interrupts) (run p steps reads interrupts)
