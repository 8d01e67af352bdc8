-- The routines behind the procedures of a program, where these call them.
use Rattle.std.specs.Prelude.{◌≡◌, ℕ, ◌+◌, Bool, true, false, List, [], ◌∷◌, ◌++◌, None}
use Rattle.vg_lin.specs.declared.instr.Operand.TheVariants.{Known}
use Rattle.vg_lin.specs.declared.instr.Instr.TheVariants.{Return}
use Rattle.vg_lin.specs.Program.{Procedure}
use Rattle.vg_arith.specs.Numbers.{routine_with}
use Rattle.vg_expand.specs.Called.{is_called}

-- The procedure in place of a routine that nothing calls: it has no locals and no result, and returns at once.
abbrev pub empty : Procedure
empty = record { method = None; params = 0; result = 0; widths = []; code = Return 0 (Known 0) ∷ [] }

abbrev pub routine_or_empty : (called : Bool) → (which : ℕ) → Procedure
routine_or_empty true which = routine_with which
routine_or_empty false which = empty

-- What stands for a routine behind these procedures, where the first routine has this number.
abbrev pub standing : (first : ℕ) → List Procedure → (which : ℕ) → Procedure
standing first ps which = routine_or_empty (is_called (first + which) ps) which

-- One for each of the four routines stands behind the procedures.
abbrev pub four_for : (first : ℕ) → List Procedure → List Procedure
four_for first ps = standing first ps 0 ∷ standing first ps 1 ∷ standing first ps 2 ∷ standing first ps 3 ∷ []

abbrev pub WithRoutines : (first : ℕ) → (old new : List Procedure) → Type 0
WithRoutines first old new = new ≡ old ++ four_for first old
