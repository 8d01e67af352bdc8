-- How many instructions stand at most for code.
use Rattle.std.specs.Prelude.{ℕ, ◌+◌, ◌-◌, nat_le, length, if◌then◌else◌}
use Rattle.vg_meaning.specs.Code.{Code, Nothing, Then, Do, If, Loop, Break, Continue, Return}
use Rattle.vg_firm.specs.declared.step.Step.{Step}
use Rattle.vg_firm.specs.declared.step.Step.TheVariants.{Call, CallFor, CallValue}
use Rattle.vg_firm.specs.Program.{Procedure}
use Rattle.vg_firm_typed.specs.Steps.{takes}

-- 16 for a step, and one for each argument of a call.
abbrev pub step_size : Step → ℕ
step_size (Call q count) = 16 + count
step_size (CallFor d count) = 16 + count
step_size (CallValue count) = 16 + count
step_size p = 16

abbrev pub code_size : Code Step → ℕ
code_size Nothing = 0
code_size (Then a b) = code_size a + code_size b
code_size (Do p) = step_size p
code_size (If a b) = 12 + code_size a + code_size b
code_size (Loop c body next) = 2 + code_size c + code_size body + code_size next
code_size Break = 1
code_size Continue = 1
code_size Return = 5

-- The same where the oldest values that wait are pushed: one more for each value that a step takes, which is popped or copied up, and five for
-- the value that it leaves, which is made a number and pushed. A choice by a value that is not pushed is as large as where none is pushed.
abbrev pub step_pushed : Step → ℕ
step_pushed p = takes p + step_size p + 5

abbrev pub code_pushed : Code Step → ℕ
code_pushed Nothing = 0
code_pushed (Then a b) = code_pushed a + code_pushed b
code_pushed (Do p) = step_pushed p
code_pushed (If a b) = 12 + code_pushed a + code_pushed b
code_pushed (Loop c body next) = 3 + code_pushed c + code_pushed body + code_pushed next
code_pushed Break = 1
code_pushed Continue = 1
code_pushed Return = 2

abbrev pub larger : (a b : ℕ) → ℕ
larger a b = if nat_le a b then b else a

-- Of a whole procedure: one for each local that is no parameter, and one for the end of the body.
abbrev pub procedure_size : Procedure → ℕ
procedure_size m = length m.widths - m.params + larger (code_size m.body) (code_pushed m.body) + 1
