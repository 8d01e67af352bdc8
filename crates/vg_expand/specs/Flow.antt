-- The calls of code, but for those of routines.
use Rattle.std.specs.Prelude.{ℕ, ◌+◌, Bool, true, not, ◌&&◌, nat_lt, nat_le, List, [], ◌∷◌, ◌++◌, if◌then◌else◌}
use Rattle.vg_lin.specs.declared.instr.Callee.{Callee}
use Rattle.vg_lin.specs.declared.instr.Callee.TheVariants.{Procedure as ByNumber, Code as ByCode}
use Rattle.vg_lin.specs.declared.instr.Call.{Call as Calling}
use Rattle.vg_lin.specs.declared.instr.Instr.{Instr}
use Rattle.vg_lin.specs.declared.instr.Instr.TheVariants.{Call}

-- One of the routines, which stand one behind the other from the first one on.
abbrev pub is_routine : (first q : ℕ) → Bool
is_routine first q = nat_le first q && nat_lt q (first + 4)

abbrev pub calls_another : (first : ℕ) → Callee → Bool
calls_another first (ByNumber q) = not (is_routine first q)
calls_another first (ByCode a) = true

abbrev pub calls_in : (first : ℕ) → Instr → List Calling
calls_in first (Call c) = if calls_another first c.callee then c ∷ [] else []
calls_in first i = []

-- In the order in which they stand.
abbrev pub calls_of : (first : ℕ) → List Instr → List Calling
calls_of first [] = []
calls_of first (i ∷ is) = calls_in first i ++ calls_of first is
