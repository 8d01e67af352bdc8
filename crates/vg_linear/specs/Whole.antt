-- The linear program of a packed one.
use Rattle.std.specs.Prelude.{◌≡◌, ℕ, ◌+◌, List, [], ◌∷◌, ◌++◌, length, map, Option, Some, slice_get}
use Rattle.vg_codes.specs.declared.case.Case.{Case}
use Rattle.vg_codes.specs.Codes.{Codes}
use Rattle.vg_finding.specs.Found.{AreFound}
use Rattle.vg_firm.specs.Held.{procedure_of}
use Rattle.vg_firm.specs.Program.{Procedure as FirmProcedure}
use Rattle.vg_lin.specs.Program.{Procedure, Program}
use Rattle.vg_flatten_shapes.specs.declared.layout.Layout.{Layout}
use Rattle.vg_flatten.specs.Flattened.{start_of}
use Rattle.vg_placement.specs.declared.column.Column.{Column}
use Rattle.vg_packed.specs.declared.program.FirmProgram.{FirmProgram}
use Rattle.vg_linear.specs.declared.whole.Linear.{Linear}
use Rattle.vg_linear.specs.Laying.{layout_of}
use Rattle.vg_linear.specs.Widths.{AllHaveWidths}
use Rattle.vg_linear.specs.Flats.{AreAllFlat}
use Rattle.vg_apt.specs.Apt.{AllKeepApt}
use Rattle.vg_trimming.specs.Trimmed.{AreAllTrimmed}
use Rattle.vg_linear.specs.Expanded.{AreAllExpanded}
use Rattle.vg_linear.specs.Routines.{WithRoutines}

-- ---- programs

-- The packed procedures of a program.
abbrev pub packed_of : FirmProgram → List FirmProcedure
packed_of f = map procedure_of f.procedures

-- The number of the first routine: the routines stand behind the procedures of the packed program and the start.
abbrev pub first_routine : FirmProgram → ℕ
first_routine f = length f.procedures + 1

-- Procedures, and the start behind them, which calls main.
pub record IsWithStart (f : FirmProgram) (old new : List Procedure) : Type 0 where
  pub main : FirmProcedure
  pub is_main : slice_get (packed_of f) f.main ≡ Some main
  pub behind : new ≡ old ++ start_of f.main main.receives ∷ []

pub record AreAllMade (lay : Layout) (f : FirmProgram) (dispatches : List (List Case)) (all : List Procedure) : Type 0 where
  -- the procedures of the packed program, flattened
  pub flats : List Procedure
  pub are_flat : AreAllFlat lay (packed_of f) flats
  -- with the start behind them
  pub begun : List Procedure
  pub with_start : IsWithStart f flats begun
  -- all trimmed
  pub trimmed : List Procedure
  pub are_trimmed : AreAllTrimmed begun trimmed
  pub keep_apt : AllKeepApt begun trimmed
  -- all expanded, with the routines that they call behind these
  pub expanded : List Procedure
  pub are_expanded : AreAllExpanded (first_routine f) trimmed expanded
  pub routined : List Procedure
  pub routines : WithRoutines (first_routine f) expanded routined
  -- with finders, where look-ups are calls of these, and with fewer cases in dispatches
  pub found : AreFound (length f.procedures) f.dispatches dispatches routined all

pub record IsLinear (cs : List Column) (f : FirmProgram) (l : Linear) : Type 0 where
  pub widths : AllHaveWidths f.procedures
  pub layout : l.layout ≡ layout_of cs f
  pub made : AreAllMade l.layout f l.dispatches l.procedures
  pub start : l.start ≡ length f.procedures

-- The procedures of a linear program are flattened and expanded, and none of them is trimmed.
pub record IsPlain (cs : List Column) (f : FirmProgram) (l : Linear) : Type 0 where
  pub layout : l.layout ≡ layout_of cs f
  -- the procedures of the packed program, flattened
  pub flats : List Procedure
  pub are_flat : AreAllFlat l.layout (packed_of f) flats
  -- with the start behind them
  pub begun : List Procedure
  pub with_start : IsWithStart f flats begun
  -- all expanded, with the routines that they call behind these
  pub expanded : List Procedure
  pub are_expanded : AreAllExpanded (first_routine f) begun expanded
  pub routined : List Procedure
  pub routines : WithRoutines (first_routine f) expanded routined
  -- with finders, where look-ups are calls of these, and with fewer cases in dispatches
  pub found : AreFound (length f.procedures) f.dispatches l.dispatches routined l.procedures
  pub start : l.start ≡ length f.procedures

-- The program of these procedures, by the code numbers of the packed ones, the bytes of both memories at the start, and the handlers.
abbrev pub linear_program : Codes → FirmProgram → Linear → (tables ram : List ℕ) → (handler : ℕ → Option ℕ) → Program
linear_program k f l tables ram handler = record {
  procedures = l.procedures;
  dispatches = l.dispatches;
  codes = k;
  tables = tables;
  ram = ram;
  handler = handler;
  start = l.start;
}

-- ---- the answer of a function of this crate (a mirror)

-- A linear program with these dispatches and procedures is plain.
abbrev pub ArePlain : Layout → FirmProgram → List (List Case) → List Procedure → Type 0
ArePlain lay f ds all =
    (cs : List Column) (l : Linear) → lay ≡ layout_of cs f → l.layout ≡ lay → l.dispatches ≡ ds → l.procedures ≡ all → l.start ≡ length f.procedures
    → IsPlain cs f l
