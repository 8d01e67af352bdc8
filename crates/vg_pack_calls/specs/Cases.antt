-- The cases of dispatches.
use Rattle.std.specs.Prelude.{ℕ, suc, ◌==◌, ◌||◌, not, List, [], ◌∷◌, ◌++◌, get_or, Option, Some, None, slice_get, if◌then◌else◌}
use Rattle.vg_codes.specs.declared.case.Case.{Case}
use Rattle.vg_core.specs.declared.program.Class.{Class}
use Rattle.vg_core.specs.declared.program.Tables.{Tables}
use Rattle.vg_core.specs.Tables.{is_below, dispatch}
use Rattle.vg_live.specs.Sets.{flat}
use Rattle.vg_number.specs.declared.numbers.Numbers.{Numbers}
use Rattle.vg_pack_code.specs.declared.plan.Asked.{Asked}
use Rattle.vg_pack_code.specs.declared.plan.Plan.{Plan}
use Rattle.vg_pack_code.specs.Plans.{first_by}

-- The procedure of a method that was found.
abbrev pub procedure_of : Plan → Option ℕ → Option ℕ
procedure_of x (Some m) = flat (slice_get x.procedures m)
procedure_of x None = None

-- The procedure of the method that an object of a class has for a selector.
abbrev pub procedure_in : Tables → Plan → (class selector : ℕ) → Option ℕ
procedure_in p x c s = procedure_of x (dispatch p c s)

abbrev pub case_with : (first count : ℕ) → Option ℕ → List Case
case_with first count (Some q) = record { first = first; count = count; procedure = q } ∷ []
case_with first count None = []

-- The case of a class: its own kept objects, where it has some and is at or below the class that is asked for.
abbrev pub case_of : Tables → Numbers → Plan → (own : List ℕ) → Asked → (class : ℕ) → List Case
case_of p n x own a c =
    if (get_or own c 0 == 0) || not (is_below p c a.class) then [] else case_with (first_by n.spans c) (get_or own c 0) (procedure_in p x c a.selector)

-- Those of the classes from c on.
abbrev pub cases_from : Tables → Numbers → Plan → (own : List ℕ) → Asked → (c : ℕ) → List Class → List Case
cases_from p n x own a c [] = []
cases_from p n x own a c (k ∷ ks) = case_of p n x own a c ++ cases_from p n x own a (suc c) ks

-- The cases of a dispatch, in order of the classes.
abbrev pub cases_of : Tables → Numbers → Plan → (own : List ℕ) → Asked → List Case
cases_of p n x own a = cases_from p n x own a 0 p.classes
