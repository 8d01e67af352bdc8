-- The places of the heap, and their values in columns.
use Rattle.std.specs.Prelude.{ℕ, suc, ◌==◌, List, [], ◌∷◌, ◌++◌, map, get_or, Option, Some, slice_get, if◌then◌else◌}
use Rattle.vg_codes.specs.Codes.{Codes}
use Rattle.vg_core.specs.declared.heap.Cell.{Cell}
use Rattle.vg_core.specs.declared.heap.Cell.TheVariants.{Object, Array}
use Rattle.vg_core.specs.declared.heap.Heap.{Heap}
use Rattle.vg_core.specs.declared.program.Field.{Field}
use Rattle.vg_core.specs.declared.program.Tables.{Tables}
use Rattle.vg_core.specs.declared.value.CoreValue.{CoreValue}
use Rattle.vg_core.specs.Heap.{Place, OfComponent, OfObject, OfArray, value_at}
use Rattle.vg_core.specs.Tables.{fields_in}
use Rattle.vg_coded.specs.Numbers.{coded}
use Rattle.vg_number.specs.declared.numbers.Numbers.{Numbers}
use Rattle.vg_packing.specs.Layout.{Layout, Spot, spot}
use Rattle.vg_pack_values.specs.Columns.{with_number}

-- ---- places in an order

-- The fields of components among these, whose numbers go on from f; those of classes have no value there.
abbrev pub components_from : (f : ℕ) → List Field → List Place
components_from f [] = []
components_from f (y ∷ ys) = OfComponent f ∷ components_from (suc f) ys

abbrev pub object_places : (k : ℕ) → (fields : List ℕ) → List Place
object_places k fs = map (OfObject k) fs

abbrev pub items_from : (k i : ℕ) → List CoreValue → List Place
items_from k i [] = []
items_from k i (v ∷ vs) = OfArray k i ∷ items_from k (suc i) vs

abbrev pub cell_places : Tables → (k : ℕ) → Cell → List Place
cell_places p k (Object c vs) = object_places k (fields_in (slice_get p.classes c))
cell_places p k (Array t vs) = items_from k 0 vs

-- Those of a cell, if it has a number.
abbrev pub kept_places : Tables → Numbers → (k : ℕ) → Cell → List Place
kept_places p n k c = if get_or n.of_cell k 0 == 0 then [] else cell_places p k c

abbrev pub cells_from : Tables → Numbers → (k : ℕ) → List Cell → List Place
cells_from p n k [] = []
cells_from p n k (c ∷ cs) = kept_places p n k c ++ cells_from p n (suc k) cs

abbrev pub all_places : Tables → Heap → Numbers → List Place
all_places p h n = components_from 0 p.fields ++ cells_from p n 0 h.cells

-- ---- values in columns

module _ (p : Tables) (h : Heap) (l : Layout) (k : Codes) where
  abbrev pub with_value : Option Spot → Option CoreValue → List (List ℕ) → List (List ℕ)
  with_value (Some o) (Some v) cols = with_number o.home o.column o.index (coded l.numbering k v) cols
  with_value _ _ cols = cols

  -- The columns with the value of a place at its spot.
  abbrev pub with_place : Place → List (List ℕ) → List (List ℕ)
  with_place x cols = with_value (spot p l x) (value_at p h x) cols

  abbrev pub with_places : List Place → List (List ℕ) → List (List ℕ)
  with_places [] cols = cols
  with_places (x ∷ xs) cols = with_places xs (with_place x cols)
