-- Places of a ranged heap.
use Rattle.std.proofs.Common.{◌≡◌, refl, arith, ℕ, List, Option, Some, None, slice_get, slice_set}
use Rattle.std.proofs.lemmas.List.{length-set}
use Rattle.vg_core.specs.declared.value.CoreValue.{CoreValue}
use Rattle.vg_core.specs.declared.heap.Cell.{Cell}
use Rattle.vg_core.specs.declared.heap.Cell.TheVariants.{Object, Array}
use Rattle.vg_core.specs.declared.heap.Heap.{Heap}
use Rattle.vg_core.specs.declared.program.Tables.{Tables}
use Rattle.vg_core.specs.Heap.{Place, OfComponent, OfObject, OfArray, value_in, with_value, field_in, item_in, value_at, with_field, with_item, set_at}
use Rattle.vg_core.specs.Tables.{slot_of, global_slot}
use Rattle.vg_packed.specs.Plain.{IsRanged}
use Rattle.vg_packed.proofs.Ranged.{AllRanged, RangedCells, ranged_get, ranged_set, ranged_with, cell_get, cell_set}

none_some : {A B : Type 0} (a : A) → None ≡ Some a → B
none_some a e = absurd cc

module _ (p : Tables) where
  in_values : (o : Option ℕ) (vs : List CoreValue) (v : CoreValue) → AllRanged vs → value_in o vs ≡ Some v → IsRanged v
  in_values None vs v h e = none_some v e
  in_values (Some i) vs v h e = ranged_get vs i v h e

  in_field : (cells : List Cell) (k f : ℕ) (v : CoreValue) → RangedCells p cells → (o : Option Cell) → slice_get cells k ≡ o → field_in p f o ≡ Some v
      → IsRanged v
  in_field cells k f v h None ec e = none_some v e
  in_field cells k f v h (Some (Object c vs)) ec e = in_values (slot_of p c f) vs v (cell_get p cells k (Object c vs) h ec) e
  in_field cells k f v h (Some (Array t vs)) ec e = none_some v e

  in_item : (cells : List Cell) (k i : ℕ) (v : CoreValue) → RangedCells p cells → (o : Option Cell) → slice_get cells k ≡ o → item_in i o ≡ Some v
      → IsRanged v
  in_item cells k i v h None ec e = none_some v e
  in_item cells k i v h (Some (Object c vs)) ec e = none_some v e
  in_item cells k i v h (Some (Array t vs)) ec e = ranged_get vs i v (cell_get p cells k (Array t vs) h ec).0 e

  -- what stands at a place is ranged
  pub place_ranged : (h : Heap) → RangedCells p h.cells → AllRanged h.globals → (x : Place) (v : CoreValue) → value_at p h x ≡ Some v → IsRanged v
  place_ranged h hc hg (OfComponent f) v e = in_values (global_slot p f) h.globals v hg e
  place_ranged h hc hg (OfObject k f) v e = in_field h.cells k f v hc (slice_get h.cells k) refl e
  place_ranged h hc hg (OfArray k i) v e = in_item h.cells k i v hc (slice_get h.cells k) refl e

  module _ (v : CoreValue) (a : IsRanged v) where
    set_field : (f k : ℕ) (cells : List Cell) → RangedCells p cells → (o : Option Cell) → slice_get cells k ≡ o
        → RangedCells p (with_field p f v o cells k)
    set_field f k cells h None e = h
    set_field f k cells h (Some (Object c vs)) e =
        cell_set p cells k (Object c (with_value (slot_of p c f) v vs)) h
        (ranged_with (slot_of p c f) v vs (cell_get p cells k (Object c vs) h e) a)
    set_field f k cells h (Some (Array t vs)) e = h

    set_item : (i k : ℕ) (cells : List Cell) → RangedCells p cells → (o : Option Cell) → slice_get cells k ≡ o
        → RangedCells p (with_item i v o cells k)
    set_item i k cells h None e = h
    set_item i k cells h (Some (Object c vs)) e = h
    set_item i k cells h (Some (Array t vs)) e =
        let q = cell_get p cells k (Array t vs) h e in
        cell_set p cells k (Array t (slice_set vs i v)) h (
          ranged_set vs i v q.0 a,
          (let l = length-set vs i v in let b = q.1 in omega (arith, l, b)),
          q.2,
        )

    pub cells_set : (h : Heap) → RangedCells p h.cells → (x : Place) → RangedCells p (set_at p x v h).cells
    cells_set h hc (OfComponent f) = hc
    cells_set h hc (OfObject k f) = set_field f k h.cells hc (slice_get h.cells k) refl
    cells_set h hc (OfArray k i) = set_item i k h.cells hc (slice_get h.cells k) refl

    pub globals_set : (h : Heap) → AllRanged h.globals → (x : Place) → AllRanged (set_at p x v h).globals
    globals_set h hg (OfComponent f) = ranged_with (global_slot p f) v h.globals hg a
    globals_set h hg (OfObject k f) = hg
    globals_set h hg (OfArray k i) = hg
