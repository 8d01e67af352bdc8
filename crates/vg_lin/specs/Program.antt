-- Programs of linear code.
use Rattle.std.specs.Prelude.{ℕ, List, Option}
use Rattle.vg_codes.specs.declared.case.Case.{Case}
use Rattle.vg_codes.specs.Codes.{Codes}
use Rattle.vg_lin.specs.declared.instr.Instr.{Instr}

-- A procedure: the widths of its locals in bytes, of which the first are its parameters; how many bytes its result has; and its code.
pub record Procedure : Type 0 where
  pub method : Option ℕ  -- the method that it is, by its number in the order of the text
  pub params : ℕ
  pub result : ℕ
  pub widths : List ℕ
  pub code : List Instr

pub record Program : Type 0 where
  pub procedures : List Procedure
  pub dispatches : List (List Case)
  pub codes : Codes
  pub tables : List ℕ  -- the bytes in flash, from the first address on at which tables stand
  pub ram : List ℕ  -- the bytes of the columns in RAM at the start
  pub handler : ℕ → Option ℕ  -- the procedure of an interrupt
  pub start : ℕ  -- the procedure with which a run begins
