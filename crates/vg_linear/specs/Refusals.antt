-- When a packed program has no linear one.
use Rattle.std.specs.Prelude.{◌≡◌, ◌⊎◌, ℕ, ◌<◌, List, length, Result, Ok, Err}
use Rattle.vg_base.specs.declared.refusal.Refusal.{Refusal}
use Rattle.vg_base.specs.declared.refusal.Refusal.TheVariants.{Fault as Faulty, NoMemory as Memory}
use Rattle.vg_finders.specs.declared.finding.Found.{Found}
use Rattle.vg_lin.specs.Program.{Procedure}
use Rattle.vg_flatten_shapes.specs.declared.fault.Fault.{Fault}
use Rattle.vg_flatten_shapes.specs.declared.fault.Fault.TheVariants.{NotTaken, TooLong}
use Rattle.vg_flatten_shapes.specs.declared.layout.Layout.{Layout}
use Rattle.vg_placement.specs.declared.column.Column.{Column}
use Rattle.vg_packed.specs.declared.program.FirmProgram.{FirmProgram}
use Rattle.vg_linear.specs.declared.whole.Linear.{Linear}
use Rattle.vg_linear.specs.Laying.{layout_of}
use Rattle.vg_linear.specs.Widths.{AllHaveWidths}
use Rattle.vg_linear.specs.Flats.{AreAllFlat, AreTyped, IsOneMadeTooLong, IsOneRefused}
use Rattle.vg_linear.specs.Expanded.{AreAllExpanded, IsOneTooLong}
use Rattle.vg_linear.specs.Whole.{packed_of}

-- All procedures are flattened, and one of the flattened ones has more than 32,767 instructions.
pub record IsFlatTooLong (lay : Layout) (f : FirmProgram) : Type 0 where
  pub flats : List Procedure
  pub are_flat : AreAllFlat lay (packed_of f) flats
  pub long : IsOneTooLong flats

abbrev pub TooMany : FirmProgram → Type 0
TooMany f = 65531 < length f.procedures

-- ---- causes

-- A procedure is refused, or the flattened ones are too long.
abbrev pub IsCauseIn : Fault → Layout → FirmProgram → Type 0
IsCauseIn why lay f = IsOneRefused why lay (packed_of f) ⊎ ((why ≡ TooLong) × IsFlatTooLong lay f)

-- A procedure has other widths, there are too many, or they are refused.
abbrev pub IsCauseOf : Fault → List Column → FirmProgram → Type 0
IsCauseOf why cs f =
    ((why ≡ NotTaken) × (AllHaveWidths f.procedures → ⊥))
    ⊎ (((why ≡ TooLong) × TooMany f) ⊎ IsCauseIn why (layout_of cs f) f)

abbrev pub AreRefused : Result Found (Refusal Fault) → Layout → FirmProgram → Type 0
AreRefused (Ok all) lay f = Unit {0}
AreRefused (Err Memory) lay f = Unit {0}
AreRefused (Err (Faulty why)) lay f = IsCauseIn why lay f

abbrev pub IsRefused : Result Linear (Refusal Fault) → List Column → FirmProgram → Type 0
IsRefused (Ok l) cs f = Unit {0}
IsRefused (Err Memory) cs f = Unit {0}
IsRefused (Err (Faulty why)) cs f = IsCauseOf why cs f

-- ---- typed programs

-- Each packed procedure has the widths that linear code asks for, and is typed where columns and tables stand so.
pub record IsTypedIn (lay : Layout) (f : FirmProgram) : Type 0 where
  pub widths : AllHaveWidths f.procedures
  pub typed : AreTyped lay (packed_of f)

-- The causes that are left of them: there are too many, or one is too long, as it is flattened or as it is expanded.
abbrev pub IsLeftIn : Fault → Layout → FirmProgram → Type 0
IsLeftIn why lay f = (why ≡ TooLong) × (IsOneMadeTooLong lay (packed_of f) ⊎ IsFlatTooLong lay f)

abbrev pub IsLeftOf : Fault → List Column → FirmProgram → Type 0
IsLeftOf why cs f = ((why ≡ TooLong) × TooMany f) ⊎ IsLeftIn why (layout_of cs f) f

abbrev pub AreTakenIn : Result Found (Refusal Fault) → Layout → FirmProgram → Type 0
AreTakenIn (Ok all) lay f = Unit {0}
AreTakenIn (Err Memory) lay f = Unit {0}
AreTakenIn (Err (Faulty why)) lay f = IsLeftIn why lay f

abbrev pub IsTakenFor : Result Linear (Refusal Fault) → List Column → FirmProgram → Type 0
IsTakenFor (Ok l) cs f = Unit {0}
IsTakenFor (Err Memory) cs f = Unit {0}
IsTakenFor (Err (Faulty why)) cs f = IsLeftOf why cs f

-- ---- the answer of a function of this crate (a mirror)

-- They are expanded, or one of them is too long.
abbrev pub IsExpandedOrTooLong : Result (List Procedure) (Refusal Fault) → (first : ℕ) → List Procedure → Type 0
IsExpandedOrTooLong (Ok new) first ms = AreAllExpanded first ms new
IsExpandedOrTooLong (Err Memory) first ms = Unit {0}
IsExpandedOrTooLong (Err (Faulty why)) first ms = (why ≡ TooLong) × IsOneTooLong ms
