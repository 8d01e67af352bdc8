-- The procedures that may be the values of delegates.
use Rattle.std.specs.Prelude.{ℕ, ◌&&◌, nat_lt, Bool, false, List, [], ◌∷◌, ◌++◌, map, Option, Some, None, slice_get}
use Rattle.vg_codes.specs.declared.case.Case.{Case}
use Rattle.vg_codes.specs.Dispatch.{cases_of}
use Rattle.vg_core.specs.declared.heap.Heap.{Heap}
use Rattle.vg_core.specs.declared.program.Tables.{Tables}
use Rattle.vg_core.specs.declared.step.Step.{Step}
use Rattle.vg_core.specs.declared.step.Step.TheVariants.{ComponentMethod, MethodOf}
use Rattle.vg_firm.specs.Session.{is_among}
use Rattle.vg_live.specs.declared.live_set.LiveSet.{LiveSet}
use Rattle.vg_live.specs.Sets.{flat}
use Rattle.vg_pack_code.specs.declared.plan.Plan.{Plan}
use Rattle.vg_pack_code.specs.Plans.{place_of}
use Rattle.vg_plan_uses.specs.Sets.{one_of, procedure_in, with_all}
use Rattle.vg_plan_uses.specs.Held.{in_components, in_cells}

-- What a step makes the value of a delegate.
abbrev pub named_by : Plan → List (List Case) → Step → List ℕ
named_by x ds (ComponentMethod m) = one_of (flat (slice_get x.procedures m))
named_by x ds (MethodOf at c s) = map procedure_in (cases_of (slice_get ds (place_of x.asked c s)))
named_by x ds _ = []

abbrev pub named : Plan → List (List Case) → List Step → List ℕ
named x ds [] = []
named x ds (s ∷ ss) = named_by x ds s ++ named x ds ss

-- All that these steps name and live places hold, of so many procedures.
abbrev pub bound_by : Tables → Heap → LiveSet → Plan → List (List Case) → (room : ℕ) → List Step → List ℕ
bound_by p h s x ds room steps =
    with_all room (with_all room (with_all room [] (named x ds steps)) (in_components p h s x 0 p.fields)) (in_cells p h s x 0 h.cells)

abbrev pub is_bound : (room : ℕ) → List ℕ → Option ℕ → Bool
is_bound room qs (Some q) = nat_lt q room && is_among qs q
is_bound room qs None = false
