-- Dispatch: objects whose class has a procedure have numbers that lie side by side.
use Rattle.std.specs.Prelude.{ℕ, ◌+◌, Bool, ◌&&◌, nat_lt, nat_le, List, [], ◌∷◌, Option, Some, None, slice_get, if◌then◌else◌}
use Rattle.vg_codes.specs.declared.case.Case.{Case}

-- A number is one of so many from the first on.
abbrev pub is_within : (first count n : ℕ) → Bool
is_within first count n = nat_le first n && nat_lt n (first + count)

-- The procedure of the first case that has the number.
abbrev pub procedure_for : List Case → ℕ → Option ℕ
procedure_for [] n = None
procedure_for (c ∷ cs) n = if is_within c.first c.count n then Some c.procedure else procedure_for cs n

abbrev pub cases_of : Option (List Case) → List Case
cases_of (Some cases) = cases
cases_of None = []

-- The procedure that the dispatch at a place has for the number of an object.
abbrev pub dispatched : List (List Case) → (place n : ℕ) → Option ℕ
dispatched dispatches place n = procedure_for (cases_of (slice_get dispatches place)) n
