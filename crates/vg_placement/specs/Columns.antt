-- The columns of a program. A column holds one field, for all kept objects that have it, or the elements of all kept arrays of one type, one
-- array behind another. Tables in flash say with which bytes the columns in RAM begin, and where each array stands.
use Rattle.std.specs.Prelude.{ℕ, zero, suc, ◌+◌, ◌*◌, ◌==◌, Bool, true, false, not, ◌&&◌, List, [], ◌∷◌, ◌++◌, length, map, nat_lt}
use Rattle.std.specs.Prelude.{Option, Some, None, slice_get, if◌then◌else◌}
use Rattle.vg_core.specs.declared.types.CoreType.{CoreType}
use Rattle.vg_core.specs.declared.program.Field.{Field}
use Rattle.vg_core.specs.declared.program.Owner.{Owner}
use Rattle.vg_core.specs.declared.program.Owner.TheVariants.{InClass, InComponent}
use Rattle.vg_core.specs.declared.program.Tables.{Tables}
use Rattle.vg_core.specs.Heap.{Kind, ObjectOf, ArrayOf}
use Rattle.vg_core.specs.Tables.{is_in}
use Rattle.vg_firm.specs.declared.step.Home.{Home}
use Rattle.vg_firm.specs.declared.step.Home.TheVariants.{Ram, Flash}
use Rattle.vg_coded.specs.Widths.{width_of}
use Rattle.vg_numbers.specs.Numbers.{arrays_before}
use Rattle.vg_placement.specs.declared.column.Held.TheVariants.{Initial, Field as TheField, Elements as TheItems, Table as TheTable}
use Rattle.vg_placement.specs.declared.column.Column.{Column}

abbrev pub bytes_of : Column → ℕ
bytes_of c = c.width * c.count

-- ---- how many values

-- A cell adds its elements to those of its type, where it is kept.
abbrev pub elements : (kept : Bool) → (t : ℕ) → Kind → ℕ
elements true t (ArrayOf u size) = if u == t then size else 0
elements true t (ObjectOf c) = 0
elements false t a = 0

-- The elements of the kept arrays of a type among the first cells.
abbrev pub start_of : (kept : ℕ → Bool) → (t : ℕ) → (at : ℕ) → List Kind → (count : ℕ) → ℕ
start_of kept t at [] n = 0
start_of kept t at (a ∷ κ) zero = 0
start_of kept t at (a ∷ κ) (suc n) = elements (kept at) t a + start_of kept t (suc at) κ n

-- The elements of all kept arrays of a type.
abbrev pub items_count : (kept : ℕ → Bool) → (t : ℕ) → List Kind → ℕ
items_count kept t κ = start_of kept t 0 κ (length κ)

-- A field of a component has one value, that of a class one for each kept object of the class or below it.
abbrev pub owner_count : (count : ℕ → ℕ) → Owner → ℕ
owner_count count (InClass c) = count c
owner_count count (InComponent k) = 1

-- ---- the plain layout

-- Where a column stands, by whether a live method writes to it. All stand in RAM.
abbrev pub home_of : (written : Bool) → Home
home_of written = Ram

-- The bytes of a value of a type in its column. A reference takes two.
abbrev pub column_width : CoreType → ℕ
column_width t = width_of t

-- ---- the list of columns

-- What the layout of columns is made of: which fields are live, which fields and which elements a live method writes, which cells are kept,
-- and how many kept objects there are of a class or below it.
pub record Needs : Type 0 where
  pub live : ℕ → Bool
  pub written : ℕ → Bool
  pub items_written : ℕ → Bool
  pub kept : ℕ → Bool
  pub count : ℕ → ℕ

-- A column without bytes is dropped.
abbrev pub unless_empty : Column → List Column
unless_empty c = if nat_lt 0 (bytes_of c) then c ∷ [] else []

abbrev pub field_column : Needs → (f : ℕ) → Field → Column
field_column n f y =
    record { what = TheField f; home = home_of (n.written f); at = 0; width = column_width y.type_; count = owner_count n.count y.owner }

-- The columns of the live fields, in order of the text, from the field f on.
abbrev pub field_columns : Needs → (f : ℕ) → List Field → List Column
field_columns n f [] = []
field_columns n f (y ∷ ys) = (if n.live f then unless_empty (field_column n f y) else []) ++ field_columns n (suc f) ys

-- The types of the kept arrays, in order of the first array of each, but for those that were seen.
abbrev pub array_types : (kept : ℕ → Bool) → (seen : List ℕ) → (at : ℕ) → List Kind → List ℕ
array_types kept seen at [] = []
array_types kept seen at (ObjectOf c ∷ κ) = array_types kept seen (suc at) κ
array_types kept seen at (ArrayOf t size ∷ κ) =
    if kept at && not (is_in seen t) then t ∷ array_types kept (t ∷ seen) (suc at) κ else array_types kept seen (suc at) κ

abbrev pub item_width : Option CoreType → ℕ
item_width (Some t) = column_width t
item_width None = 0

abbrev pub item_columns : Tables → Needs → List Kind → List ℕ → List Column
item_columns p n κ [] = []
item_columns p n κ (t ∷ ts) =
    unless_empty (record {
      what = TheItems t;
      home = home_of (n.items_written t);
      at = 0;
      width = item_width (slice_get p.types t);
      count = items_count n.kept t κ;
    }) ++ item_columns p n κ ts

-- The columns, those of fields before those of elements, not yet placed.
abbrev pub columns : Tables → Needs → List Kind → List Column
columns p n κ = field_columns n 0 p.fields ++ item_columns p n κ (array_types n.kept [] 0 κ)

-- ---- tables

-- The bytes with which the columns in RAM begin. It is there also where they have none.
abbrev pub initial_copy : (bytes : ℕ) → Column
initial_copy bytes = record { what = Initial; home = Flash; at = 0; width = 1; count = bytes }

-- Each kept array has four bytes in the table of its type: its place and its length. The table is there also where the elements were dropped.
abbrev pub table_of : (kept : ℕ → Bool) → List Kind → (t : ℕ) → Column
table_of kept κ t = record { what = TheTable t; home = Flash; at = 0; width = 4; count = arrays_before t kept 0 κ (length κ) }

abbrev pub table_columns : Needs → List Kind → List Column
table_columns n κ = map (table_of n.kept κ) (array_types n.kept [] 0 κ)

-- ---- addresses

-- The address for a column of this home, of one in RAM and one in flash.
abbrev pub address_for : Home → (ram flash : ℕ) → ℕ
address_for Ram ram flash = ram
address_for Flash ram flash = flash

-- A column moves the next one of its home behind its bytes.
abbrev pub ram_behind : Home → (ram bytes : ℕ) → ℕ
ram_behind Ram ram bytes = ram + bytes
ram_behind Flash ram bytes = ram

abbrev pub flash_behind : Home → (flash bytes : ℕ) → ℕ
flash_behind Ram flash bytes = flash
flash_behind Flash flash bytes = flash + bytes

-- Columns stand one behind another in their homes, from an address in RAM and one in flash.
abbrev pub placed : (ram flash : ℕ) → List Column → List Column
placed ram flash [] = []
placed ram flash (c ∷ cs) =
    record { what = c.what; home = c.home; at = address_for c.home ram flash; width = c.width; count = c.count }
    ∷ placed (ram_behind c.home ram (bytes_of c)) (flash_behind c.home flash (bytes_of c)) cs

-- ---- sums

abbrev pub bytes_where : Home → Home → (bytes : ℕ) → ℕ
bytes_where Ram Ram bytes = bytes
bytes_where Flash Flash bytes = bytes
bytes_where _ _ bytes = 0

-- The bytes of the columns of a home.
abbrev pub home_bytes : Home → List Column → ℕ
home_bytes h [] = 0
home_bytes h (c ∷ cs) = bytes_where h c.home (bytes_of c) + home_bytes h cs

-- All columns: the initial copy, then those that hold values, and the tables behind them.
abbrev pub with_tables : (columns tables : List Column) → List Column
with_tables cs ts = initial_copy (home_bytes Ram cs) ∷ cs ++ ts

abbrev pub all_columns : Tables → Needs → List Kind → List Column
all_columns p n κ = with_tables (columns p n κ) (table_columns n κ)

-- The static bytes: the sum of the columns in RAM.
abbrev pub static_bytes : Tables → Needs → List Kind → ℕ
static_bytes p n κ = home_bytes Ram (all_columns p n κ)

-- The table bytes: the sum of all columns in flash.
abbrev pub table_bytes : Tables → Needs → List Kind → ℕ
table_bytes p n κ = home_bytes Flash (all_columns p n κ)

-- RAM begins at the data address 0x0100, and the tables at the byte 0x008C, behind the vectors.
abbrev pub placed_columns : Tables → Needs → List Kind → List Column
placed_columns p n κ = placed 0x0100 0x008C (all_columns p n κ)
