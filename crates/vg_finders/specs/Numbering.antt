-- Numbers of finders, by the dispatches that they serve.
use Rattle.std.specs.Prelude.{◌≡◌, ℕ, List, Option, Some, None}
use Rattle.vg_codes.specs.declared.case.Case.{Case}
use Rattle.vg_cases.specs.Fewer.{Covers}
use Rattle.vg_finding.specs.Finders.{finder_in}
use Rattle.vg_finding.specs.Found.{AreCasesWithin, IsFinderOf}

-- A dispatch covers another one, of which the numbers have two bytes and the procedures are among the first so many.
pub record Serves (count : ℕ) (old new : List Case) : Type 0 where
  pub covers : Covers old new
  pub within : AreCasesWithin count old

-- What stands for a dispatch is the number of a finder of it, or nothing.
abbrev pub IsNumber : (count before : ℕ) (olds news : List (List Case)) (finders : List ℕ) (d : ℕ) → Option ℕ → Type 0
IsNumber count before olds news finders d (Some q) = IsFinderOf count before olds news finders d q
IsNumber count before olds news finders d None = Unit {0}

-- Each dispatch with a number has that of a finder of it.
abbrev pub AreNumbers : (count before : ℕ) (olds news : List (List Case)) (finders : List ℕ) → List (Option ℕ) → Type 0
AreNumbers count before olds news finders numbers =
    (d q : ℕ) → finder_in numbers d ≡ Some q → IsFinderOf count before olds news finders d q
