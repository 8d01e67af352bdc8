-- How the functions that look for the fewest temporaries answer: mirrors of the definitions, by cases.
use Rattle.std.specs.Prelude.{◌≡◌, ℕ, ◌≤◌, length, Option, Some, None}
use Rattle.vg_firm.specs.Program.{Procedure as FirmProcedure}
use Rattle.vg_lin.specs.Program.{Procedure}
use Rattle.vg_flatten_shapes.specs.declared.layout.Layout.{Layout}
use Rattle.vg_flatten_shapes.specs.Shapes.{empty}
use Rattle.vg_flatten_shapes.specs.Made.{Made}
use Rattle.vg_flatten_control.specs.Flat.{flat}
use Rattle.vg_flatten_pushed.specs.Stacked.{stacked}
use Rattle.vg_flatten.specs.Flattened.{own_widths, temps_for, room_with, IsFlatFrom, IsPushedFrom, IsFlat}

-- What is made of the body with so many temporaries.
abbrev pub made_with : (temps : ℕ) → Layout → FirmProcedure → Made
made_with temps lay m = flat lay (room_with temps m) m.body empty

-- Homes never do from fewer than so many temporaries on.
abbrev pub NeedsAsMany : Layout → FirmProcedure → (temps : ℕ) → Type 0
NeedsAsMany lay m temps = (most : ℕ) → IsFlatFrom lay m most → temps ≤ most

-- Homes do from no number of temporaries on.
abbrev pub HomesNeverDo : Layout → FirmProcedure → Type 0
HomesNeverDo lay m = (most : ℕ) → IsFlatFrom lay m most → ⊥

-- The best so far: it is the flattened one if it needs as many temporaries as it has; there is none only while nothing was ruled out above.
abbrev pub IsBest : Layout → FirmProcedure → (all temps : ℕ) → Option Procedure → Type 0
IsBest lay m all temps (Some p) = NeedsAsMany lay m temps → IsFlat lay m p
IsBest lay m all temps None = temps ≡ all

-- What is found is the flattened one; where nothing is, all temporaries are needed.
abbrev pub IsFound : Layout → FirmProcedure → (all : ℕ) → Option Procedure → Type 0
IsFound lay m all (Some p) = IsFlat lay m p
IsFound lay m all None = NeedsAsMany lay m all

-- What is made of the body where so many values are pushed at most.
abbrev pub pushed_as : (pushes : ℕ) → Layout → FirmProcedure → Made
pushed_as pushes lay m = stacked lay (room_with (temps_for (length (own_widths m))) m) pushes m.body empty

-- Fewer pushed values than so many never do from there on.
abbrev pub NeedsAsManyPushed : Layout → FirmProcedure → (pushes : ℕ) → Type 0
NeedsAsManyPushed lay m pushes = (most : ℕ) → IsPushedFrom lay m most → pushes ≤ most

-- The best so far: it is the flattened one if it needs as many pushed values as it has; there is none only while nothing was ruled out above.
abbrev pub IsBestPushed : Layout → FirmProcedure → (all pushes : ℕ) → Option Procedure → Type 0
IsBestPushed lay m all pushes (Some p) = NeedsAsManyPushed lay m pushes → IsFlat lay m p
IsBestPushed lay m all pushes None = pushes ≡ all

-- What is found is the flattened one; where nothing is, all may have to be pushed.
abbrev pub IsFoundPushed : Layout → FirmProcedure → (all : ℕ) → Option Procedure → Type 0
IsFoundPushed lay m all (Some p) = IsFlat lay m p
IsFoundPushed lay m all None = NeedsAsManyPushed lay m all
