-- What is known where a program is packed: numbers of cells and classes, columns, procedures.
use Rattle.std.specs.Prelude.{ℕ, Bool, ◌+◌, ◌-◌, List, Option, Some, None, slice_get}
use Rattle.vg_core.specs.declared.types.CoreType.{CoreType}
use Rattle.vg_core.specs.declared.program.Field.{Field}
use Rattle.vg_core.specs.declared.program.Owner.{Owner}
use Rattle.vg_core.specs.declared.program.Owner.TheVariants.{InClass, InComponent}
use Rattle.vg_core.specs.declared.program.Tables.{Tables}
use Rattle.vg_core.specs.Heap.{Kind, ArrayOf, Place, OfComponent, OfObject, OfArray}
use Rattle.vg_firm.specs.declared.step.Home.{Home}
use Rattle.vg_firm.specs.declared.step.Elements.{Elements}
use Rattle.vg_coded.specs.Numbers.{Numbering}

pub record Column : Type 0 where
  pub home : Home
  pub column : ℕ  -- its place among the columns of its home

pub record Layout : Type 0 where
  pub numbering : Numbering  -- the numbers of cells, and the procedures of methods
  pub kinds : List Kind  -- of the cells, which no run changes
  pub first : ℕ → ℕ  -- the first number of a class with all below it
  pub count : ℕ → ℕ  -- and how many there are
  pub column : ℕ → Option Column  -- of a field, where it has one
  pub width : CoreType → ℕ  -- the bytes of a value of this type in a column
  pub items : ℕ → Elements  -- of the arrays of elements of the type of this number
  pub start : ℕ → ℕ  -- how many elements stand in the column of its type before those of the array in a cell
  pub dispatch : (class selector : ℕ) → ℕ  -- the dispatch of a static class and a selector
  pub receives : ℕ → Bool  -- the procedure of a method gets a receiver
  pub edges : ℕ → List ℕ  -- the procedures that the procedure of a method may call

-- The number of the first object that has what this owner declares.
abbrev pub first_of_owner : Layout → Owner → ℕ
first_of_owner l (InClass c) = l.first c
first_of_owner l (InComponent k) = 0

abbrev pub first_in : Layout → Option Field → ℕ
first_in l (Some y) = first_of_owner l y.owner
first_in l None = 0

-- The number of the first object that has the field f.
abbrev pub first_with : Tables → Layout → (f : ℕ) → ℕ
first_with p l f = first_in l (slice_get p.fields f)

-- ---- spots

-- Where the value of a place stands.
pub record Spot : Type 0 where
  pub home : Home
  pub column : ℕ
  pub index : ℕ

abbrev pub spot_in : Option Column → ℕ → Option Spot
spot_in (Some c) i = Some (record { home = c.home; column = c.column; index = i })
spot_in None i = None

abbrev pub item_spot : Layout → ℕ → Option Kind → Option Spot
item_spot l i (Some (ArrayOf t n)) = Some (record { home = (l.items t).home; column = (l.items t).column; index = i })
item_spot l i _ = None

-- A field of a component is the one value of its column; that of an object stands by the object's number; elements stand one array
-- behind another.
abbrev pub spot : Tables → Layout → Place → Option Spot
spot p l (OfComponent f) = spot_in (l.column f) 0
spot p l (OfObject k f) = spot_in (l.column f) (l.numbering.number k - first_with p l f)
spot p l (OfArray k i) = item_spot l (l.start k + i) (slice_get l.kinds k)
