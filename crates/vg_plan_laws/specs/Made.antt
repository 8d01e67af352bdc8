-- What the columns and the tables of a packed program are made of.
use Rattle.std.specs.Prelude.{◌≡◌, List, length}
use Rattle.vg_codes.specs.Codes.{Codes}
use Rattle.vg_core.specs.declared.heap.Heap.{Heap}
use Rattle.vg_core.specs.Program.{Program}
use Rattle.vg_firm.specs.declared.step.ArrayPlace.{ArrayPlace}
use Rattle.vg_live.specs.declared.live_set.LiveSet.{LiveSet}
use Rattle.vg_number.specs.declared.numbers.Numbers.{Numbers}
use Rattle.vg_number.specs.Numbering.{kept_in, kinds_of}
use Rattle.vg_place.specs.declared.placing.Columns.{Columns}
use Rattle.vg_pack_code.specs.declared.plan.Plan.{Plan}
use Rattle.vg_pack_values.specs.Columns.{blank_rows, numbers_in}
use Rattle.vg_pack_values.specs.Places.{all_places, with_places}
use Rattle.vg_plan_columns.specs.Arrays.{AreRows, Fit, tables_of}
use Rattle.vg_packed.specs.declared.program.FirmProgram.{FirmProgram}
use Rattle.vg_packed.specs.Plans.{planned}

pub record IsMade (p : Program) (h : Heap) (s : LiveSet) (n : Numbers) (c : Columns) (x : Plan) (f : FirmProgram) : Type 0 where
  -- the columns in RAM have the numbers of the values that the heap has in the places which stand there, and 0 for all others
  pub columns : (k : Codes) → numbers_in k f.columns
      ≡ with_places p.tables h (planned h n x) k (all_places p.tables h n) (numbers_in k (blank_rows c.list))
  -- a table has the places of the kept arrays of its type, whose addresses and lengths have two bytes
  pub rows : List (List ArrayPlace)
  pub are_rows : AreRows (kinds_of h) (kept_in s) x.items (length (kinds_of h)) rows
  pub types : length x.items ≡ length p.tables.types
  pub fit : Fit (kinds_of h) (kept_in s) x.items
  pub tables : f.tables ≡ tables_of rows c.list
