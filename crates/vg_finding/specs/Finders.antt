-- Finders: procedures that look up what a dispatch has for the number of an object, and calls of them in place of look-ups.
use Rattle.std.specs.Prelude.{ℕ, List, [], ◌∷◌, map, Option, Some, None, slice_get}
use Rattle.vg_lin.specs.declared.instr.Operand.{Operand}
use Rattle.vg_lin.specs.declared.instr.Operand.TheVariants.{Local}
use Rattle.vg_lin.specs.declared.instr.Plain.{Plain as PlainInstr}
use Rattle.vg_lin.specs.declared.instr.Plain.TheVariants.{Find}
use Rattle.vg_lin.specs.declared.instr.Callee.TheVariants.{Procedure as ByNumber}
use Rattle.vg_lin.specs.declared.instr.Registers.TheVariants.{One}
use Rattle.vg_lin.specs.declared.instr.Instr.{Instr}
use Rattle.vg_lin.specs.declared.instr.Instr.TheVariants.{Plain, Call, Return}
use Rattle.vg_lin.specs.Program.{Procedure}

-- The finder of a dispatch gets the number of an object, and gives back the code number of the procedure that the dispatch has for it. It calls nothing.
abbrev pub finder : (dispatch : ℕ) → Procedure
finder d = record {
  method = None;
  params = 1;
  result = 2;
  widths = 2 ∷ 2 ∷ [];
  code = Plain (Find d 1 (Local 0)) ∷ Return 2 (Local 1) ∷ [];
}

-- The call of the procedure q that is a finder: it gets the number, and its result goes to a local.
abbrev pub call_of : (q to : ℕ) → (number : Operand) → Instr
call_of q to a =
    Call (record { callee = ByNumber q; pushed = 0; registers = One (record { width = 2; value = a }); to = Some (record { width = 2; local = to }) })

-- The procedure that is the finder of a dispatch, where it has one.
abbrev pub number_in : Option (Option ℕ) → Option ℕ
number_in (Some q) = q
number_in None = None

abbrev pub finder_in : List (Option ℕ) → (dispatch : ℕ) → Option ℕ
finder_in numbers d = number_in (slice_get numbers d)

-- What stands for an instruction: for a look-up in a dispatch with a finder a call of that, and for any other itself.
abbrev pub looked_up : Option ℕ → (dispatch to : ℕ) → Operand → Instr
looked_up (Some q) d to a = call_of q to a
looked_up None d to a = Plain (Find d to a)

abbrev pub plain_found : (numbers : List (Option ℕ)) → PlainInstr → Instr
plain_found numbers (Find d to a) = looked_up (finder_in numbers d) d to a
plain_found numbers p = Plain p

abbrev pub instr_found : (numbers : List (Option ℕ)) → Instr → Instr
instr_found numbers (Plain p) = plain_found numbers p
instr_found numbers i = i

-- One for one, so that no place changes.
abbrev pub code_found : (numbers : List (Option ℕ)) → List Instr → List Instr
code_found numbers is = map (instr_found numbers) is

abbrev pub with_finders : (numbers : List (Option ℕ)) → Procedure → Procedure
with_finders numbers m = record m { code = code_found numbers m.code }
