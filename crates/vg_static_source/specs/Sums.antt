-- How many bytes of RAM and of flash the values take that are kept of a text, once its constructors left a heap: the values of live fields and the elements
-- of live arrays. All of them stand in RAM, and a reference takes two bytes.
use Rattle.std.specs.Prelude.{◌≡◌, ◌↔◌, ℕ, suc, ◌+◌, ◌*◌, ◌/◌, Bool, true, false, List, [], ◌∷◌, length, Some}
use Rattle.vg_syntax.specs.Tree.{Node}
use Rattle.vg_source.specs.Names.{Name}
use Rattle.vg_source.specs.Types.{StaticType, IntType, BoolType, CharType, RawType, NullType, ClassType, ArrayType, FunctionType}
use Rattle.vg_source.specs.Values as heap
use Rattle.vg_source.specs.Values.{Heap}
use Rattle.vg_source.specs.Steps.{Source}
use Rattle.vg_source.specs.State.{is_below}
use Rattle.vg_source.specs.Resolved.{Owner, InClass, InComponent, NoOwner}
use Rattle.vg_source.specs.Program.{source_of}
use Rattle.vg_live_source.specs.Members.{Member, Field, Cell}
use Rattle.vg_live_source.specs.Rules.{Live}
use Rattle.vg_static_source.specs.Fields.{DeclaredField, fields_of}

-- ---- what is live

-- A test of members tells which of them are live. Each such test gives the same sums.
abbrev pub Tells : Source → Heap → (live : Member → Bool) → Type 0
Tells p h live = (y : Member) → (live y ≡ true) ↔ Live p h (Some y)

-- So many, where it is live.
abbrev pub if_live : Bool → ℕ → ℕ
if_live true n = n
if_live false n = 0

-- The sum of what the live cells count, from the cell k on.
abbrev pub over_live : (live : Member → Bool) → (heap.Cell → ℕ) → (k : ℕ) → List heap.Cell → ℕ
over_live live counts k [] = 0
over_live live counts k (x ∷ xs) = if_live (live (Cell k)) (counts x) + over_live live counts (suc k) xs

-- ---- values

-- The bytes of a value of a type: of a bit string the least number that holds it, of a reference two, of a delegate four.
abbrev pub width_of : StaticType → ℕ
width_of IntType = 4
width_of BoolType = 1
width_of CharType = 1
width_of (RawType bits) = (bits + 7) / 8
width_of NullType = 2
width_of (ClassType c) = 2
width_of (ArrayType t) = 2
width_of (FunctionType params result) = 4
width_of _ = 0

-- 1, where this holds.
abbrev pub one_if : Bool → ℕ
one_if true = 1
one_if false = 0

-- An object of a class or below it counts 1.
abbrev pub one_object : Source → (c : Name) → heap.Cell → ℕ
one_object p c (heap.Object d fields) = one_if (is_below p d c)
one_object p c (heap.Array t items) = 0

-- The values of a field: one for each live object of the class that declares it or below it; of a component one.
abbrev pub values_of : Source → Heap → (live : Member → Bool) → Owner → ℕ
values_of p h live (InClass c) = over_live live (one_object p c) 0 h.cells
values_of p h live (InComponent c) = 1
values_of p h live NoOwner = 0

-- The name of the class or component that declares a field.
abbrev pub name_of : Owner → Name
name_of (InClass c) = c
name_of (InComponent c) = c
name_of NoOwner = []

-- The bytes of all values of a field, where it is live.
abbrev pub field_bytes : Source → Heap → (live : Member → Bool) → DeclaredField → ℕ
field_bytes p h live f = if_live (live (Field (name_of f.owner) f.name)) (width_of f.type * values_of p h live f.owner)

-- Those of fields.
abbrev pub fields_bytes : Source → Heap → (live : Member → Bool) → List DeclaredField → ℕ
fields_bytes p h live [] = 0
fields_bytes p h live (f ∷ fs) = field_bytes p h live f + fields_bytes p h live fs

-- The bytes of the elements of an array.
abbrev pub array_bytes : heap.Cell → ℕ
array_bytes (heap.Object d fields) = 0
array_bytes (heap.Array t items) = width_of t * length items

-- An array has four bytes in the table of its type: its place and its length.
abbrev pub row_bytes : heap.Cell → ℕ
row_bytes (heap.Object d fields) = 0
row_bytes (heap.Array t items) = 4

-- ---- the sums

-- The bytes of RAM: the values of the live fields, and the elements of the live arrays.
abbrev pub static_sum : Node → Heap → (live : Member → Bool) → ℕ
static_sum text h live = fields_bytes (source_of text) h live (fields_of text) + over_live live array_bytes 0 h.cells

-- The bytes of tables in flash: as many as RAM begins with, and the rows of the live arrays.
abbrev pub table_sum : Node → Heap → (live : Member → Bool) → ℕ
table_sum text h live = static_sum text h live + over_live live row_bytes 0 h.cells

-- A text and its heap need so many bytes of RAM.
abbrev pub IsStatic : Node → Heap → ℕ → Type 0
IsStatic text h bytes = (live : Member → Bool) × Tells (source_of text) h live × (bytes ≡ static_sum text h live)

-- And so many bytes of tables.
abbrev pub AreTables : Node → Heap → ℕ → Type 0
AreTables text h bytes = (live : Member → Bool) × Tells (source_of text) h live × (bytes ≡ table_sum text h live)
