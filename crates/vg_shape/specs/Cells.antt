-- The heap by its cells and the fields of components.
use Rattle.std.specs.Prelude.{ℕ, ◌==◌, List, [], ◌∷◌, ◌++◌, length, Option, Some, None, if◌then◌else◌, slice_set}
use Rattle.vg_core.specs.declared.value.CoreValue.{CoreValue}
use Rattle.vg_core.specs.declared.heap.Cell.{Cell}
use Rattle.vg_core.specs.declared.heap.Cell.TheVariants.{Object, Array}
use Rattle.vg_core.specs.declared.heap.Heap.{Heap}
use Rattle.vg_core.specs.declared.program.Tables.{Tables}
use Rattle.vg_core.specs.Tables.{slot_of}
use Rattle.vg_core.specs.Heap.{with_value}

-- A heap of these cells and these values of fields of components.
abbrev pub heap_of : List Cell → List CoreValue → Heap
heap_of cells globals = record { cells = cells; globals = globals }

-- The length of an array of elements of the type of this number.
abbrev pub array_length : (t : ℕ) → Option Cell → Option ℕ
array_length t (Some (Array u vs)) = if u == t then Some (length vs) else None
array_length t _ = None

-- The heap with one cell more.
abbrev pub with_cell : Heap → Cell → Heap
with_cell h cell = heap_of (h.cells ++ cell ∷ []) h.globals

-- A cell with another value in the field f, where it is an object that has it.
abbrev pub cell_with_field : Tables → (f : ℕ) → CoreValue → Cell → Cell
cell_with_field p f v (Object c vs) = Object c (with_value (slot_of p c f) v vs)
cell_with_field p f v (Array t vs) = Array t vs

-- A cell with another element, where it is an array that has it.
abbrev pub cell_with_item : (i : ℕ) → CoreValue → Cell → Cell
cell_with_item i v (Object c vs) = Object c vs
cell_with_item i v (Array t vs) = Array t (slice_set vs i v)
