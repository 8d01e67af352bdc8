-- Packed programs.
use Rattle.std.specs.Prelude.{ℕ, Bool, List, Option}
use Rattle.vg_meaning.specs.Code.{Code}
use Rattle.vg_codes.specs.declared.case.Case.{Case}
use Rattle.vg_firm.specs.declared.step.Step.{Step}
use Rattle.vg_firm.specs.declared.step.ArrayPlace.{ArrayPlace}

-- A procedure: a method as code over numbers.
pub record Procedure : Type 0 where
  pub method : ℕ  -- its number in the order of the text
  pub params : ℕ
  pub receives : Bool  -- whether it gets a receiver: a method of a class, or one of which delegates are made
  pub on_objects : Bool  -- whether it is called on objects alone: a method of a class
  pub widths : List ℕ  -- of its locals in bytes; the parameters come first
  pub result : ℕ  -- the width of its result, 0 where it has none
  pub calls : List ℕ  -- the procedures that it may call
  pub body : Code Step

pub record Program : Type 0 where
  pub flash : List (List ℕ)  -- the columns in flash: a constant of the program
  pub tables : List (List ArrayPlace)  -- for each array type, its arrays in the order of their numbers
  pub ram : List (List ℕ)  -- the columns in RAM at the start of a run
  pub procedures : List Procedure
  pub dispatches : List (List Case)
  pub main : ℕ
  pub handler : ℕ → Option ℕ  -- the procedure of an interrupt
