-- What it means that procedures look up by finders what others look up themselves.
use Rattle.std.specs.Prelude.{◌≡◌, ℕ, ◌+◌, ◌<◌, ◌≤◌, List, ◌++◌, length, map, Option, Some, slice_get}
use Rattle.std.specs.List.{AllByRecursion}
use Rattle.vg_codes.specs.declared.case.Case.{Case}
use Rattle.vg_codes.specs.Dispatch.{cases_of}
use Rattle.vg_cases.specs.Fewer.{Covers, AreAllFewer}
use Rattle.vg_lin.specs.Program.{Procedure, Program}
use Rattle.vg_finding.specs.Finders.{finder, finder_in, with_finders}

-- The numbers of a case have two bytes, and its procedure is one of the first so many.
pub record IsCaseWithin (count : ℕ) (c : Case) : Type 0 where
  pub last : c.first + c.count ≤ 65536
  pub procedure : c.procedure < count

abbrev pub AreCasesWithin : (count : ℕ) → List Case → Type 0
AreCasesWithin count = AllByRecursion (IsCaseWithin count)

-- The procedure q, behind so many others, is the finder of a dispatch that covers the dispatch d, whose numbers have two bytes.
pub record IsFinderOf (count before : ℕ) (olds news : List (List Case)) (finders : List ℕ) (d q : ℕ) : Type 0 where
  pub place : ℕ
  pub number : q ≡ before + place
  pub dispatch : ℕ
  pub there : slice_get finders place ≡ Some dispatch
  pub covers : Covers (cases_of (slice_get olds d)) (cases_of (slice_get news dispatch))
  pub within : AreCasesWithin count (cases_of (slice_get olds d))

-- The newer procedures are the older ones, each with calls of finders in place of look-ups in dispatches that have one, and the finders behind them; and of
-- the dispatches fewer cases are left. The procedures of dispatches are among the first so many.
pub record AreFound (count : ℕ) (olds news : List (List Case)) (old new : List Procedure) : Type 0 where
  pub numbers : List (Option ℕ)  -- of each dispatch the procedure that is its finder, where it has one
  pub finders : List ℕ  -- the dispatches of the finders, in their order
  pub procedures : new ≡ map (with_finders numbers) old ++ map finder finders
  pub each : (d q : ℕ) → finder_in numbers d ≡ Some q → IsFinderOf count (length old) olds news finders d q
  pub fewer : AreAllFewer olds news

-- The program with these procedures and dispatches in place of its own.
abbrev pub with_dispatches : Program → List Procedure → List (List Case) → Program
with_dispatches p ms ds = record p { procedures = ms; dispatches = ds }
