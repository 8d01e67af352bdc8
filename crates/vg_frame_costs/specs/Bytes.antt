-- How many bytes of the stack a procedure of linear code takes by its layout.
use Rattle.std.specs.Prelude.{ℕ, ◌+◌, max, List, [], ◌∷◌, drop, length}
use Rattle.vg_lin.specs.declared.instr.Instr.{Instr}
use Rattle.vg_lin.specs.declared.instr.Instr.TheVariants.{Plain, Call}
use Rattle.vg_lin.specs.declared.instr.Plain.TheVariants.{Push}
use Rattle.vg_lin.specs.Program.{Procedure}
use Rattle.vg_lin.specs.Sound.{behind}
use Rattle.vg_templates.specs.Framed.{framed}

-- the bytes of values with these widths
abbrev pub bytes_of : (widths : List ℕ) → ℕ
bytes_of [] = 0
bytes_of (w ∷ ws) = w + bytes_of ws

-- The bytes that are kept at an instruction, where values of these widths wait: all of them, but for the arguments that a call takes, which are its callee's.
-- At a push nothing is counted: what waits there waits behind it too.
abbrev pub kept_at : (waits : List ℕ) → Instr → ℕ
kept_at ws (Plain (Push w a)) = 0
kept_at ws (Call c) = bytes_of (drop c.pushed ws)
kept_at ws i = bytes_of ws

-- the most bytes that are kept at a place of code, where values of these widths wait at the first place
abbrev pub most_kept : (waits : List ℕ) → List Instr → ℕ
most_kept ws [] = 0
most_kept ws (i ∷ is) = max (kept_at ws i) (most_kept (behind i ws) is)

-- a procedure that begins takes its return address, the registers that it saves and its slots
unfoldable pub opening_bytes : Procedure → ℕ
opening_bytes p = 2 + length (framed p).saved + (framed p).slots

-- its caller pushed these bytes of its parameters
unfoldable pub pushed_bytes : Procedure → ℕ
pushed_bytes p = (framed p).pushed

-- An open procedure takes what it takes when it begins, its parameters that were pushed, and at most the most that is kept in it. So what is pushed for a call
-- is counted once, with the procedure that is called.
abbrev pub procedure_bytes : Procedure → ℕ
procedure_bytes p = opening_bytes p + pushed_bytes p + most_kept [] p.code
