-- Which steps of linear code count. A tick is a call or a turn of a loop, and a step counts that is a call, that takes an interrupt or
-- calls its handler, or that is the test of a turn.
use Rattle.std.specs.Prelude.{ℕ, zero, suc, Bool, true, false, nat_le, List, Option, Some, None, slice_get}
use Rattle.vg_meaning.specs.Answer.{End}
use Rattle.vg_lin.specs.declared.instr.Instr.{Instr}
use Rattle.vg_lin.specs.declared.instr.Instr.TheVariants.{When, Unless, Jump, Call, Idle}
use Rattle.vg_lin.specs.Steps.{Language, Config, code_of, step}

-- A jump to this place or to an earlier one.
abbrev pub jumps_back : (at : ℕ) → Option Instr → Bool
jumps_back at (Some (Jump to)) = nat_le to at
jumps_back at _ = false

-- A branch leads behind the jump back of a loop in which it stands: it is the test of a turn.
abbrev pub leaves_loop : List Instr → (at to : ℕ) → Bool
leaves_loop code at zero = false
leaves_loop code at (suc last) = jumps_back at (slice_get code last)

-- An instruction that stands at a place of code counts.
abbrev pub instr_counts : List Instr → (at : ℕ) → Option Instr → Bool
instr_counts code at (Some (When t to)) = leaves_loop code at to
instr_counts code at (Some (Unless t to)) = leaves_loop code at to
instr_counts code at (Some (Call c)) = true
instr_counts code at (Some Idle) = true
instr_counts code at _ = false

-- The instruction at a place of code counts.
abbrev pub counts_at : List Instr → (at : ℕ) → Bool
counts_at code at = instr_counts code at (slice_get code at)

-- The next step counts. A run that has ended makes none; behind an interrupt that was taken it is the call of the handler.
abbrev pub next_counts : {S : Type 0} → List (List Instr) → Config S → Option End → Option ℕ → Bool
next_counts procs c (Some why) woken = false
next_counts procs c None (Some vector) = true
next_counts procs c None None = counts_at (code_of (slice_get procs c.proc)) c.pc

abbrev pub step_counts : {S : Type 0} → List (List Instr) → Config S → Bool
step_counts procs c = next_counts procs c c.ending c.woken

abbrev pub one_more : (counts : Bool) → ℕ → ℕ
one_more true n = suc n
one_more false n = n

-- How many of the first n steps count.
abbrev pub counted : {S : Type 0} → Language S → List (List Instr) → (n : ℕ) → Config S → ℕ
counted l procs zero c = 0
counted l procs (suc n) c = one_more (step_counts procs c) (counted l procs n (step l procs c))
