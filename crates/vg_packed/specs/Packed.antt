-- A packed program is one of a typed program, its heap and what is live in them.
use Rattle.std.specs.Prelude.{◌≡◌, ℕ, List, [], ◌∷◌, length, map, Some}
use Rattle.vg_codes.specs.Codes.{Codes}
use Rattle.vg_core.specs.declared.heap.Heap.{Heap}
use Rattle.vg_core.specs.declared.value.CoreValue.{CoreValue}
use Rattle.vg_core.specs.Heap.{Place, value_at}
use Rattle.vg_core.specs.Program.{Program}
use Rattle.vg_core.specs.Session.{handler_of}
use Rattle.vg_firm.specs.declared.step.Home.{Home}
use Rattle.vg_firm.specs.declared.step.Home.TheVariants.{Ram, Flash}
use Rattle.vg_firm.specs.Held.{procedure_of}
use Rattle.vg_coded.specs.Numbers.{coded}
use Rattle.vg_live.specs.declared.live_set.LiveSet.{LiveSet}
use Rattle.vg_number.specs.declared.numbers.Numbers.{Numbers}
use Rattle.vg_number.specs.Counting.{AreOwn}
use Rattle.vg_number.specs.Numbering.{kept_in, kinds_of}
use Rattle.vg_packing.specs.Layout.{Spot, spot}
use Rattle.vg_packing.specs.Allowed.{IsArray}
use Rattle.vg_packing.specs.Laid.{SameEntry, IsTabled}
use Rattle.vg_packing.specs.Packs.{IsKeptPlace, entry_at}
use Rattle.vg_placement.specs.declared.column.Column.{Column}
use Rattle.vg_place.specs.declared.placing.Columns.{Columns}
use Rattle.vg_pack_code.specs.declared.plan.Plan.{Plan}
use Rattle.vg_pack_bodies.specs.Procedures.{packed_methods}
use Rattle.vg_pack_calls.specs.Cases.{cases_of}
use Rattle.vg_packed.specs.declared.program.FirmProgram.{FirmProgram}
use Rattle.vg_packed.specs.Plans.{IsPlan, planned}
use Rattle.vg_packed.specs.Programs.{handler_in, program_of}

-- The columns in RAM, in their order.
abbrev pub if_ram : Home → Column → List Column → List Column
if_ram Ram c cs = c ∷ cs
if_ram Flash c cs = cs

abbrev pub ram_columns : List Column → List Column
ram_columns [] = []
ram_columns (c ∷ cs) = if_ram c.home c (ram_columns cs)

abbrev pub count_of : Column → ℕ
count_of c = c.count

pub record IsPackedFrom (p : Program) (h : Heap) (s : LiveSet) (n : Numbers) (c : Columns) (f : FirmProgram) : Type 0 where
  -- by this plan, where each class has so many kept objects of its own
  pub plan : Plan
  pub is_plan : IsPlan p h s n c plan
  pub own : List ℕ
  pub are_own : AreOwn (kinds_of h) (kept_in s) (length p.tables.classes) own
  -- the procedures are those of the live methods, and dispatches have a case for each class with kept objects of its own
  pub procedures : map procedure_of f.procedures ≡ packed_methods p.tables n plan 0 p.tables.methods p.methods
  pub dispatches : f.dispatches ≡ map (cases_of p.tables n plan own) plan.asked
  -- entries have the procedures of their methods
  pub main : (planned h n plan).numbering.procedure p.main ≡ Some f.main
  pub handlers : (v : ℕ) → SameEntry (planned h n plan) (handler_of p.handlers v) (handler_in f.handlers v)
  -- each kept array stands in the table of its type
  pub tables : (k : Codes) (j t size : ℕ) → IsArray (planned h n plan) j t size → IsTabled (planned h n plan) (program_of k f) j t size
  -- columns begin with the numbers of the values that the heap has in their places
  pub lengths : map length f.columns ≡ map count_of (ram_columns c.list)
  pub values : (k : Codes) (x : Place) (o : Spot) (v : CoreValue) → IsKeptPlace (planned h n plan) x → spot p.tables (planned h n plan) x ≡ Some o
      → value_at p.tables h x ≡ Some v → entry_at (program_of k f) (program_of k f).ram o ≡ Some (coded (planned h n plan).numbering k v)
