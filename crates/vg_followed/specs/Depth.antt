-- How many bytes of the stack a configuration of linear code takes, and how many more its next step may take.
use Rattle.std.specs.Prelude.{ℕ, ◌+◌, List, [], ◌∷◌, length, Option, Some, None}
use Rattle.vg_lin.specs.declared.instr.Instr.{Instr}
use Rattle.vg_lin.specs.declared.instr.Instr.TheVariants.{Plain, Call, Idle}
use Rattle.vg_lin.specs.Meaning.{operands, enter, codes_in}
use Rattle.vg_lin.specs.Program.{Program}
use Rattle.vg_lin.specs.State.{State}
use Rattle.vg_lin.specs.Steps.{Awaits, Result, Interrupt, Frame, Entry, Config, fetch}
use Rattle.vg_templates.specs.Frames.{Places, bytes_of}
use Rattle.vg_templates.specs.Layouts.{frame_size}
use Rattle.vg_templates.specs.Straight.{pushed_by}
use Rattle.vg_templates.specs.Flow.{goes_by_registers, pushed_by_call}

-- between a caller and its callee lie the return addresses of the SLEEP and of the call of the idle piece, or nothing
abbrev pub between_bytes : Awaits → ℕ
between_bytes (Result call) = 0
between_bytes Interrupt = 4

abbrev pub frames_bytes : Places → List (Frame State) → ℕ
frames_bytes i [] = 0
frames_bytes i (f ∷ fs) = between_bytes f.awaits + (bytes_of f.kept.waiting + (frame_size (i.layouts f.proc) + frames_bytes i fs))

abbrev pub stack_bytes : Places → (proc : ℕ) → State → List (Frame State) → ℕ
stack_bytes i m s fs = bytes_of s.waiting + (frame_size (i.layouts m) + frames_bytes i fs)

-- a procedure that begins takes its return address, the registers that it saves and its slots
abbrev pub opening_bytes : Places → (proc : ℕ) → ℕ
opening_bytes i q = 2 + length (i.layouts q).saved + (i.layouts q).slots

abbrev pub entry_bytes : Places → Option (Entry State) → ℕ
entry_bytes i (Some entered) = opening_bytes i entered.proc
entry_bytes i None = 0

abbrev pub handler_bytes : Places → Option ℕ → ℕ
handler_bytes i (Some q) = opening_bytes i q
handler_bytes i None = 0

abbrev pub instr_bytes : Places → Program → State → Option Instr → ℕ
instr_bytes i p s (Some (Plain q)) = pushed_by q
instr_bytes i p s (Some (Call c)) = pushed_by_call (goes_by_registers c) (operands c.registers) + entry_bytes i (enter p c s)
instr_bytes i p s (Some Idle) = 4
instr_bytes i p s _ = 0

abbrev pub step_bytes : Places → Program → Config State → (woken : Option ℕ) → ℕ
step_bytes i p c (Some vector) = 4 + handler_bytes i (p.handler vector)
step_bytes i p c None = instr_bytes i p c.state (fetch (codes_in p.procedures) c.proc c.pc)

-- all of them
abbrev pub depth : Places → Program → Config State → ℕ
depth i p c = stack_bytes i c.proc c.state c.frames + step_bytes i p c c.woken
