-- Whether procedures call one by its number.
use Rattle.std.specs.Prelude.{ℕ, Bool, false, ◌==◌, List}
use Rattle.std.specs.List.{list_any}
use Rattle.vg_lin.specs.declared.instr.Callee.{Callee}
use Rattle.vg_lin.specs.declared.instr.Callee.TheVariants.{Procedure as ByNumber, Code as ByCode}
use Rattle.vg_lin.specs.declared.instr.Instr.{Instr}
use Rattle.vg_lin.specs.declared.instr.Instr.TheVariants.{Call}
use Rattle.vg_lin.specs.Program.{Procedure}

-- What a call names as its callee is this number. A call by a code number names none.
abbrev pub is_named : (number : ℕ) → Callee → Bool
is_named number (ByNumber q) = q == number
is_named number (ByCode a) = false

abbrev pub is_call_of : (number : ℕ) → Instr → Bool
is_call_of number (Call c) = is_named number c.callee
is_call_of number i = false

abbrev pub code_calls : (number : ℕ) → List Instr → Bool
code_calls number = list_any (is_call_of number)

-- The code of one of these procedures calls the procedure with this number.
abbrev pub is_called : (number : ℕ) → List Procedure → Bool
is_called number = list_any (λ (m : Procedure). code_calls number m.code)
