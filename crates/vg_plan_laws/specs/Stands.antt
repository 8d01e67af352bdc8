-- Where fields, elements and arrays stand by a plan: parts of what a plan and a packed program owe.
use Rattle.std.specs.Prelude.{◌≡◌, ℕ, ◌+◌, ◌-◌, ◌*◌, ◌<◌, ◌^◌, List, length, Some, slice_get}
use Rattle.vg_core.specs.declared.heap.Heap.{Heap}
use Rattle.vg_core.specs.declared.types.CoreType.{CoreType}
use Rattle.vg_core.specs.Program.{Program}
use Rattle.vg_firm.specs.declared.step.ArrayPlace.{ArrayPlace}
use Rattle.vg_firm.specs.declared.step.Home.TheVariants.{Ram}
use Rattle.vg_firm.specs.Meaning.{arrays_of}
use Rattle.vg_live.specs.declared.live_set.LiveSet.{LiveSet}
use Rattle.vg_number.specs.declared.numbers.Numbers.{Numbers}
use Rattle.vg_number.specs.Numbering.{kept_in}
use Rattle.vg_packing.specs.Allowed.{IsArray}
use Rattle.vg_packing.specs.Layout.{Column}
use Rattle.vg_placement.specs.declared.column.Column as placement
use Rattle.vg_placement.specs.declared.column.Held.TheVariants.{Field as TheField}
use Rattle.vg_placement.specs.Columns.{column_width}
use Rattle.vg_place.specs.declared.placing.Columns.{Columns}
use Rattle.vg_packed.specs.Apart.{HasColumns}
use Rattle.vg_packed.specs.Counted.{IsCounted}
use Rattle.vg_pack_code.specs.declared.plan.Plan.{Plan}
use Rattle.vg_packed.specs.Plans.{planned}

pub record StandsIn (p : Program) (h : Heap) (s : LiveSet) (n : Numbers) (c : Columns) (x : Plan) : Type 0 where
  pub counted : IsCounted p.tables (planned h n x) (kept_in s)
  pub has_columns : HasColumns (planned h n x) (kept_in s) c.list
  pub field_columns : (f i : ℕ) (a : placement.Column) → f < length p.tables.fields → slice_get c.list i ≡ Some a → a.what ≡ TheField f
      → (b : Column) × ((planned h n x).column f ≡ Some b)
  pub field_homes : (f : ℕ) (b : Column) → (planned h n x).column f ≡ Some b → b.home ≡ Ram
  pub item_homes : (t : ℕ) → ((planned h n x).items t).home ≡ Ram
  pub item_widths : (t : ℕ) (e : CoreType) → slice_get p.tables.types t ≡ Some e → ((planned h n x).items t).width ≡ column_width e

-- The tables say of each kept array where it stands.
pub record IsTabledIn (h : Heap) (n : Numbers) (x : Plan) (tables : List (List ArrayPlace)) (j t size : ℕ) : Type 0 where
  pub place : ArrayPlace
  pub there : slice_get (arrays_of (slice_get tables ((planned h n x).items t).table)) ((planned h n x).numbering.number j - 1) ≡ Some place
  pub length_is : place.length ≡ size
  pub short : size < 2 ^ 31
  pub wide : 0 < size → 0 < ((planned h n x).items t).width
  pub stands : 0 < size → place.address ≡ ((planned h n x).items t).address + ((planned h n x).items t).width * (planned h n x).start j

abbrev pub AreTabled : Heap → Numbers → Plan → List (List ArrayPlace) → Type 0
AreTabled h n x tables = (j t size : ℕ) → IsArray (planned h n x) j t size → IsTabledIn h n x tables j t size
