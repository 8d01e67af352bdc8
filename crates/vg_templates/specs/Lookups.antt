-- The code that reads tables in flash, and that finds the procedure of a dispatch.
use Rattle.std.specs.Prelude.{ℕ, zero, suc, ◌+◌, List, [], ◌∷◌, ◌++◌}
use Rattle.avr_instr.specs.declared.instr.Instr.{Instr}
use Rattle.avr_instr.specs.declared.instr.Instr.TheVariants.{Brbc, LpmZPlus, Movw}
use Rattle.vg_codes.specs.declared.case.Case.{Case}
use Rattle.vg_lin.specs.declared.instr.Operand.{Operand}
use Rattle.vg_lin.specs.declared.instr.Operand.TheVariants.{Local, Known}
use Rattle.vg_templates.specs.Layouts.{Layout}
use Rattle.vg_templates.specs.Transfers.{known}
use Rattle.vg_templates.specs.Held.{brings, gives}
use Rattle.vg_templates.specs.Homes.{home_of, made_in, settles}
use Rattle.vg_templates.specs.Chains.{takes_known}
use Rattle.vg_templates.specs.Pointers.{brings_z}
use Rattle.vg_templates.specs.Accesses.{plus_base}
use Rattle.vg_templates.specs.Choices.{usual, unusual}

-- Z is the address of a base with an index added
abbrev pub points_z : Layout → (base : ℕ) → Operand → List Instr
points_z l base (Known x) = known 30 2 (base + x)
points_z l base (Local k) = brings_z l (Local k) ++ plus_base 30 base

abbrev pub loads_z : (d count : ℕ) → List Instr
loads_z d zero = []
loads_z d (suc n) = LpmZPlus d ∷ loads_z (suc d) n

-- so many bytes of a table in flash go to a local
abbrev pub loads_table : Layout → (width to base : ℕ) → (index : Operand) → List Instr
loads_table l w to base index =
    let h = home_of l to w in
    points_z l base index ++ (loads_z (made_in h) w ++ settles l to h w)

-- The code number of the first case that has the number in r24 and r25 comes into r22 and r23. That of the procedure that stands for all others comes
-- first, and the cases overwrite it, the last one first: a branch leads past the two instructions that do, where the number is not one of so many from the
-- first one of the case on.
abbrev pub tries_case : (codes : ℕ → ℕ) → Case → List Instr
tries_case codes c =
    Movw 26 24 ∷ takes_known 26 2 c.first ++ (takes_known 26 2 c.count ++ Brbc 0 2 ∷ known 22 2 (codes c.procedure))

abbrev pub tries_cases : (codes : ℕ → ℕ) → (procedure : ℕ) → List Case → List Instr
tries_cases codes p [] = known 22 2 (codes p)
tries_cases codes p (c ∷ cs) = tries_cases codes p cs ++ tries_case codes c

-- the code number of the procedure that a dispatch has for the number of an object goes to a local
abbrev pub finds_procedure : Layout → (codes : ℕ → ℕ) → List Case → (to : ℕ) → Operand → List Instr
finds_procedure l codes cases to a =
    brings l a 24 2 ++ (tries_cases codes (usual cases) (unusual (usual cases) cases) ++ gives l to 22 2)
