-- The procedures that one may call.
use Rattle.std.specs.Prelude.{ℕ, suc, ◌==◌, ◌&&◌, List, [], ◌∷◌, ◌++◌, map, Option, slice_get, if◌then◌else◌}
use Rattle.vg_codes.specs.declared.case.Case.{Case}
use Rattle.vg_codes.specs.Dispatch.{cases_of}
use Rattle.vg_core.specs.declared.program.Method.{Method}
use Rattle.vg_core.specs.declared.program.Tables.{Tables}
use Rattle.vg_core.specs.declared.step.Step.{Step}
use Rattle.vg_core.specs.declared.step.Step.TheVariants.{CallComponent, CallMethod, CallValue}
use Rattle.vg_core.specs.Program.{Program}
use Rattle.vg_live.specs.declared.live_set.Reason.{Reason}
use Rattle.vg_live.specs.Sets.{flat}
use Rattle.vg_live.specs.Uses.{steps_of}
use Rattle.vg_number.specs.Numbering.{has_reason}
use Rattle.vg_pack_code.specs.declared.plan.Plan.{Plan}
use Rattle.vg_pack_code.specs.Plans.{holds, place_of}
use Rattle.vg_plan_uses.specs.Sets.{one_of, procedure_in, with_all}

-- Those of the methods from m on that are of this function type and that delegates may be of.
abbrev pub delegates : Plan → (t m : ℕ) → List Method → List ℕ
delegates x t m [] = []
delegates x t m (y ∷ ys) =
    (if holds (slice_get x.bindable m) && (y.function == t) then one_of (flat (slice_get x.procedures m)) else []) ++ delegates x t (suc m) ys

-- What a step may call.
abbrev pub called_by : Tables → Plan → List (List Case) → Step → List ℕ
called_by p x ds (CallComponent m count) = one_of (flat (slice_get x.procedures m))
called_by p x ds (CallMethod at c s count) = map procedure_in (cases_of (slice_get ds (place_of x.asked c s)))
called_by p x ds (CallValue at count t) = delegates x t 0 p.methods
called_by p x ds _ = []

abbrev pub called : Tables → Plan → List (List Case) → List Step → List ℕ
called p x ds [] = []
called p x ds (s ∷ ss) = called_by p x ds s ++ called p x ds ss

-- Of the methods from m on those that are live, of so many procedures, each once.
abbrev pub edges_from : Program → Plan → List (List Case) → (room : ℕ) → (live : List (Option Reason)) → (m : ℕ) → List Method → List (List ℕ)
edges_from p x ds room live m [] = []
edges_from p x ds room live m (y ∷ ys) =
    (if has_reason live m then with_all room [] (called p.tables x ds (steps_of p m)) else []) ∷ edges_from p x ds room live (suc m) ys
