-- Sets of procedures.
use Rattle.std.specs.Prelude.{◌≡◌, ℕ, ◌<◌, ◌&&◌, not, nat_lt, Bool, List, [], ◌∷◌, ◌++◌, length, Option, Some, None, slice_get, if◌then◌else◌}
use Rattle.vg_codes.specs.declared.case.Case.{Case}
use Rattle.vg_firm.specs.Session.{is_among}

pub record ProcedureSet : Type 0 where
  pub marks : List Bool  -- of each procedure of the program, whether it is in the set
  pub list : List ℕ

abbrev pub set_of : List Bool → List ℕ → ProcedureSet
set_of marks list = record { marks = marks; list = list }

-- The marks are those of the list.
pub record IsSet (s : ProcedureSet) : Type 0 where
  pub marked : (q : ℕ) → q < length s.marks → slice_get s.marks q ≡ Some (is_among s.list q)

-- One of so many procedures more, unless it is there.
abbrev pub with_procedure : (room : ℕ) → List ℕ → (procedure : ℕ) → List ℕ
with_procedure room qs q = if nat_lt q room && not (is_among qs q) then qs ++ q ∷ [] else qs

abbrev pub with_all : (room : ℕ) → List ℕ → List ℕ → List ℕ
with_all room qs [] = qs
with_all room qs (p ∷ ps) = with_all room (with_procedure room qs p) ps

abbrev pub one_of : Option ℕ → List ℕ
one_of (Some q) = q ∷ []
one_of None = []

abbrev pub procedure_in : Case → ℕ
procedure_in c = c.procedure
