-- The procedures of the delegates that live places hold.
use Rattle.std.specs.Prelude.{ℕ, suc, List, [], ◌∷◌, ◌++◌, Option, Some, None, slice_get, if◌then◌else◌}
use Rattle.vg_core.specs.declared.heap.Cell.{Cell}
use Rattle.vg_core.specs.declared.heap.Cell.TheVariants.{Object, Array}
use Rattle.vg_core.specs.declared.heap.Heap.{Heap}
use Rattle.vg_core.specs.declared.program.Field.{Field}
use Rattle.vg_core.specs.declared.program.Tables.{Tables}
use Rattle.vg_core.specs.declared.value.CoreValue.{CoreValue}
use Rattle.vg_core.specs.declared.value.CoreValue.TheVariants.{Int, Bool as Truth, Char, Raw, Null, Obj, Arr, Bound}
use Rattle.vg_core.specs.Heap.{OfComponent, OfObject, value_at}
use Rattle.vg_core.specs.Tables.{fields_in}
use Rattle.vg_live.specs.declared.live_set.LiveSet.{LiveSet}
use Rattle.vg_live.specs.Sets.{flat}
use Rattle.vg_number.specs.Numbering.{has_reason}
use Rattle.vg_pack_code.specs.declared.plan.Plan.{Plan}
use Rattle.vg_plan_uses.specs.Sets.{one_of}

-- The procedure of the method of a delegate.
abbrev pub in_value : Plan → CoreValue → List ℕ
in_value x (Bound receiver m) = one_of (flat (slice_get x.procedures m))
in_value x (Int z) = []
in_value x (Truth b) = []
in_value x (Char c) = []
in_value x (Raw width bits) = []
in_value x Null = []
in_value x (Obj k) = []
in_value x (Arr k) = []

abbrev pub in_option : Plan → Option CoreValue → List ℕ
in_option x (Some v) = in_value x v
in_option x None = []

-- The elements of an array.
abbrev pub in_items : Plan → List CoreValue → List ℕ
in_items x [] = []
in_items x (v ∷ vs) = in_value x v ++ in_items x vs

module _ (p : Tables) (h : Heap) (s : LiveSet) (x : Plan) where
  -- The live ones of these fields, whose numbers go on from f, where they are of components.
  abbrev pub in_components : (f : ℕ) → List Field → List ℕ
  in_components f [] = []
  in_components f (y ∷ ys) = (if has_reason s.fields f then in_option x (value_at p h (OfComponent f)) else []) ++ in_components (suc f) ys

  -- The live ones of these fields, in the object of the cell k.
  abbrev pub in_object : (k : ℕ) → (fields : List ℕ) → List ℕ
  in_object k [] = []
  in_object k (f ∷ fs) = (if has_reason s.fields f then in_option x (value_at p h (OfObject k f)) else []) ++ in_object k fs

  abbrev pub in_cell : (k : ℕ) → Cell → List ℕ
  in_cell k (Object c vs) = in_object k (fields_in (slice_get p.classes c))
  in_cell k (Array t vs) = in_items x vs

  -- The live ones of these cells, whose numbers go on from k.
  abbrev pub in_cells : (k : ℕ) → List Cell → List ℕ
  in_cells k [] = []
  in_cells k (c ∷ cs) = (if has_reason s.cells k then in_cell k c else []) ++ in_cells (suc k) cs
