-- The procedures of a packed program.
use Rattle.std.specs.Prelude.{◌≡◌, ℕ, suc, ◌<◌, List, [], ◌∷◌, ◌++◌, length, Option, Some, None, slice_get}
use Rattle.vg_meaning.specs.Code.{replaced}
use Rattle.vg_core.specs.declared.program.Method.{Method}
use Rattle.vg_core.specs.declared.program.Tables.{Tables}
use Rattle.vg_core.specs.Program.{Body, Signature}
use Rattle.vg_firm.specs.Program.{Procedure}
use Rattle.vg_live.specs.Sets.{flat}
use Rattle.vg_number.specs.declared.numbers.Numbers.{Numbers}
use Rattle.vg_pairs.specs.Pairs.{without_pairs}
use Rattle.vg_packing.specs.Pass.{packed}
use Rattle.vg_pack_code.specs.declared.plan.Plan.{Plan}
use Rattle.vg_pack_code.specs.Plans.{layout_by, no_codes, moved}

-- Whose a method is, the types of its parameters, and that of its result.
abbrev pub signature : Method → Signature
signature y = record { owner = y.owner; params = y.params; result = y.result }

-- What the method of a number becomes: what the pass makes of it, where calls of methods have at most 255 arguments.
abbrev pub packed_here : Tables → Numbers → Plan → (m : ℕ) → Method → Body → Procedure
packed_here p n x m y b =
    record (packed p (layout_by [] n x) no_codes m (signature y) b) { body = replaced (moved p n x) (without_pairs b.code) }

-- It is there where the method has a procedure.
abbrev pub unless_none : Option ℕ → Procedure → List Procedure
unless_none (Some q) r = r ∷ []
unless_none None r = []

abbrev pub packed_if : Tables → Numbers → Plan → (m : ℕ) → Method → Body → List Procedure
packed_if p n x m y b = unless_none (flat (slice_get x.procedures m)) (packed_here p n x m y b)

-- Where it has a body.
abbrev pub packed_at : Tables → Numbers → Plan → (m : ℕ) → Method → Option Body → List Procedure
packed_at p n x m y (Some b) = packed_if p n x m y b
packed_at p n x m y None = []

-- Those of the methods from m on, in order of the text, each with its body.
abbrev pub packed_methods : Tables → Numbers → Plan → (m : ℕ) → List Method → List Body → List Procedure
packed_methods p n x m (y ∷ ys) (b ∷ bs) = packed_if p n x m y b ++ packed_methods p n x (suc m) ys bs
packed_methods p n x m _ _ = []

-- No method has more than 60 parameters.
abbrev pub HaveFewParameters : List Method → Type 0
HaveFewParameters ys = (m : ℕ) (y : Method) → slice_get ys m ≡ Some y → length y.params < 61
