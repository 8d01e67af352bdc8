-- That the columns and tables of a packed program stand as it says.
use Rattle.std.specs.Prelude.{◌≡◌, ◌⊎◌, ℕ, ◌+◌, ◌^◌, ◌<◌, length, Some, slice_get}
use Rattle.vg_codes.specs.Codes.{Codes}
use Rattle.vg_core.specs.declared.program.Method.{Method}
use Rattle.vg_core.specs.declared.program.Tables.{Tables}
use Rattle.vg_core.specs.declared.types.CoreType.{CoreType}
use Rattle.vg_core.specs.declared.value.CoreValue.{CoreValue}
use Rattle.vg_core.specs.Tables.{field_type}
use Rattle.vg_firm.specs.declared.step.Home.TheVariants.{Ram}
use Rattle.vg_flatten_shapes.specs.declared.layout.Layout.{Layout as Placed}
use Rattle.vg_firm_typed.specs.Steps.{columns_of, HasColumn, HasWidth, HasTable, HasElements, LacksTable, LacksColumn}
use Rattle.vg_coded.specs.Numbers.{coded}
use Rattle.vg_coded.specs.Kept.{IsKept}
use Rattle.vg_packing.specs.Layout.{Column, Layout}
use Rattle.vg_packing.specs.Pass.{width_in}

-- No method has more than 60 parameters.
abbrev pub HaveFewParameters : Tables → Type 0
HaveFewParameters p = (m : ℕ) (y : Method) → slice_get p.methods m ≡ Some y → length y.params < 61

pub record Suits (p : Tables) (l : Layout) (k : Codes) (lay : Placed) : Type 0 where
  -- numbers have at most 32 bits
  pub values : (v : CoreValue) → IsKept l.numbering v → coded l.numbering k v < 2 ^ 32
  pub cells : (cell : ℕ) → l.numbering.number cell < 2 ^ 32
  pub classes : (c : ℕ) → l.first c + l.count c < 2 ^ 32
  -- the column of a field is there, and one in RAM has entries of the bytes of the field
  pub columns : (f : ℕ) (c : Column) → l.column f ≡ Some c → HasColumn (columns_of lay c.home) c.column
  pub fields : (f : ℕ) (c : Column) → l.column f ≡ Some c → c.home ≡ Ram → HasWidth lay.ram c.column (width_in l (field_type p f))
  -- the elements of each type of arrays, and its table, where arrays of the type are kept; without elements there is no column
  pub items : (t : ℕ) (e : CoreType) → slice_get p.types t ≡ Some e
      → HasElements lay (columns_of lay (l.items t).home) (l.items t)
      ⊎ (LacksTable lay (l.items t).table ⊎ LacksColumn lay (columns_of lay (l.items t).home) (l.items t))
  pub tables : (t : ℕ) → HasTable lay (l.items t).table ⊎ LacksTable lay (l.items t).table
