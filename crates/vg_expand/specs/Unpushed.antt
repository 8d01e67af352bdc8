-- How many steps of linear code are no pushes. Between two of these only a row of pushes is left out.
use Rattle.std.specs.Prelude.{ℕ, zero, suc, Bool, true, false, not, List, Option, Some, None}
use Rattle.vg_meaning.specs.Answer.{End}
use Rattle.vg_meaning.specs.Outside.{before}
use Rattle.vg_lin.specs.declared.instr.Plain.TheVariants.{Push}
use Rattle.vg_lin.specs.declared.instr.Instr.{Instr}
use Rattle.vg_lin.specs.declared.instr.Instr.TheVariants.{Plain}
use Rattle.vg_lin.specs.Program.{Program}
use Rattle.vg_lin.specs.Meaning.{language, codes_in, at_start}
use Rattle.vg_lin.specs.Steps.{Language, Config, fetch, step}
use Rattle.vg_lin.specs.Turns.{one_more}

-- An instruction pushes an argument of a call to come.
abbrev pub is_push : Option Instr → Bool
is_push (Some (Plain (Push w a))) = true
is_push _ = false

-- The next step is a push. That of a run that has ended is none, and neither is the call of a handler.
abbrev pub next_pushes : {S : Type 0} → List (List Instr) → Config S → Option End → Option ℕ → Bool
next_pushes procs c (Some why) woken = false
next_pushes procs c None (Some vector) = false
next_pushes procs c None None = is_push (fetch procs c.proc c.pc)

abbrev pub step_pushes : {S : Type 0} → List (List Instr) → Config S → Bool
step_pushes procs c = next_pushes procs c c.ending c.woken

-- How many of the first n steps are no pushes.
abbrev pub unpushed : {S : Type 0} → Language S → List (List Instr) → (n : ℕ) → Config S → ℕ
unpushed l procs zero c = 0
unpushed l procs (suc n) c = one_more (not (step_pushes procs c)) (unpushed l procs n (step l procs c))

-- How many of so many steps of a program are none, with these device reads and interrupts to come.
abbrev pub unpushed_steps : Program → (steps' : ℕ) → (reads interrupts : List ℕ) → ℕ
unpushed_steps p n reads interrupts = unpushed (language p) (codes_in p.procedures) n (at_start p (before reads interrupts))
