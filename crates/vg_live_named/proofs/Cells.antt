-- What stands in a typed heap.
use Rattle.std.proofs.Common.{◌≡◌, ℕ, zero, suc, List, [], ◌∷◌, length, Option, Some, None, slice_get}
use Rattle.std.proofs.Common.{refl, subst}
use Rattle.std.specs.Prelude.{◌<◌}
use Rattle.std.proofs.lemmas.Option.{slice_get_within}
use Rattle.vg_core.specs.declared.types.CoreType.{CoreType}
use Rattle.vg_core.specs.declared.value.CoreValue.{CoreValue}
use Rattle.vg_core.specs.declared.heap.Cell.{Cell}
use Rattle.vg_core.specs.declared.heap.Cell.TheVariants.{Object, Array}
use Rattle.vg_core.specs.declared.heap.Heap.{Heap}
use Rattle.vg_core.specs.declared.program.Class.{Class}
use Rattle.vg_core.specs.declared.program.Tables.{Tables}
use Rattle.vg_core.specs.Tables.{slot_of, global_slot}
use Rattle.vg_core.specs.Heap.{Kind, ObjectOf, ArrayOf, Place, OfComponent, OfObject, OfArray, value_in, field_in, item_in, value_at}
use Rattle.vg_core.specs.Types.{IsObject, HasType, HasFields, AllHave, IsKind, AreKinds}
use Rattle.vg_sound.specs.Good.{TypedHeap}
use Rattle.vg_sound.proofs.Values.{the_same, none_some, item_get}
use Rattle.vg_sound.proofs.Cells.{object, array}

module _ (p : Tables) where
  -- the kind of a cell
  pub kind_at : (κ0 κ : List Kind) (cells : List Cell) (k : ℕ) (c : Cell) → AreKinds p κ0 cells κ → slice_get cells k ≡ Some c
      → (a : Kind) × (slice_get κ k ≡ Some a) × IsKind p κ0 c a
  kind_at κ0 [] [] k c h e = none_some c e
  kind_at κ0 (a ∷ κ) (d ∷ cells) zero c (b, h) e = (a, refl, subst (λ z. IsKind p κ0 z a) (the_same _ _ e) b)
  kind_at κ0 (a ∷ κ) (d ∷ cells) (suc k) c (b, h) e = kind_at κ0 κ cells k c h e
  kind_at κ0 [] (d ∷ cells) k c h e = absurd h
  kind_at κ0 (a ∷ κ) [] k c h e = absurd h

  -- the class of an object, and its fields
  pub object_at : (κ : List Kind) (h : Heap) → TypedHeap p κ h → (k c : ℕ) (vs : List CoreValue) → slice_get h.cells k ≡ Some (Object c vs)
      → (x : Class) × (slice_get p.classes c ≡ Some x) × HasFields p κ x.fields vs
  object_at κ h typed k c vs e = by (kind_at κ κ h.cells k _ typed.cells e)
    where
      of_kind : (a : Kind) → IsKind p κ (Object c vs) a → (x : Class) × (slice_get p.classes c ≡ Some x) × HasFields p κ x.fields vs
      of_kind (ObjectOf d) (q, x, ex, f) = (x, ex, f)
      of_kind (ArrayOf t n) f = absurd f

      by : ((a : Kind) × (slice_get κ k ≡ Some a) × IsKind p κ (Object c vs) a) → (x : Class) × (slice_get p.classes c ≡ Some x) × HasFields p κ x.fields vs
      by (a, ea, f) = of_kind a f

  -- the type of the elements of an array
  pub array_at : (κ : List Kind) (h : Heap) → TypedHeap p κ h → (k t : ℕ) (vs : List CoreValue) → slice_get h.cells k ≡ Some (Array t vs)
      → (e : CoreType) × AllHave p κ e vs
  array_at κ h typed k t vs e = by (kind_at κ κ h.cells k _ typed.cells e)
    where
      of_kind : (a : Kind) → IsKind p κ (Array t vs) a → (e : CoreType) × AllHave p κ e vs
      of_kind (ArrayOf u n) (q, l, x, ex, f) = (x, f)
      of_kind (ObjectOf d) f = absurd f

      by : ((a : Kind) × (slice_get κ k ≡ Some a) × IsKind p κ (Array t vs) a) → (e : CoreType) × AllHave p κ e vs
      by (a, ea, f) = of_kind a f

  -- ---- values

  -- a value among those of fields is of some type
  among_fields : (κ : List Kind) (fs : List ℕ) (vs : List CoreValue) (i : ℕ) (v : CoreValue) → HasFields p κ fs vs → slice_get vs i ≡ Some v
      → (t : CoreType) × HasType p κ v t
  among_fields κ [] [] i v h e = none_some v e
  among_fields κ (f ∷ fs) (u ∷ vs) zero v ((x, ex, a), h) e = (x.type_, subst (λ z. HasType p κ z x.type_) (the_same _ _ e) a)
  among_fields κ (f ∷ fs) (u ∷ vs) (suc i) v (a, h) e = among_fields κ fs vs i v h e
  among_fields κ [] (u ∷ vs) i v h e = absurd h
  among_fields κ (f ∷ fs) [] i v h e = absurd h

  in_place : (κ : List Kind) (fs : List ℕ) (vs : List CoreValue) (o : Option ℕ) (v : CoreValue) → HasFields p κ fs vs → value_in o vs ≡ Some v
      → (t : CoreType) × HasType p κ v t
  in_place κ fs vs None v h e = none_some v e
  in_place κ fs vs (Some i) v h e = among_fields κ fs vs i v h e

  -- a value in the heap is of some type
  pub value_typed : (κ : List Kind) (h : Heap) → TypedHeap p κ h → (x : Place) (v : CoreValue) → value_at p h x ≡ Some v → (t : CoreType) × HasType p κ v t
  value_typed κ h typed (OfComponent f) v e = in_place κ p.globals h.globals (global_slot p f) v typed.globals e
  value_typed κ h typed (OfObject k f) v e = by (slice_get h.cells k) refl e
    where
      of_class : (c : ℕ) (vs : List CoreValue) → value_in (slot_of p c f) vs ≡ Some v
          → ((x : Class) × (slice_get p.classes c ≡ Some x) × HasFields p κ x.fields vs)
          → (t : CoreType) × HasType p κ v t
      of_class c vs q (x, ex, a) = in_place κ x.fields vs (slot_of p c f) v a q

      by : (o : Option Cell) → slice_get h.cells k ≡ o → field_in p f o ≡ Some v → (t : CoreType) × HasType p κ v t
      by (Some (Object c vs)) ec q = of_class c vs q (object_at κ h typed k c vs ec)
      by (Some (Array t vs)) ec q = none_some v q
      by None ec q = none_some v q
  value_typed κ h typed (OfArray k i) v e = by (slice_get h.cells k) refl e
    where
      of_type : (vs : List CoreValue) → slice_get vs i ≡ Some v → ((t : CoreType) × AllHave p κ t vs) → (t : CoreType) × HasType p κ v t
      of_type vs q (t, a) = (t, item_get p κ t vs i v a q)

      by : (o : Option Cell) → slice_get h.cells k ≡ o → item_in i o ≡ Some v → (t : CoreType) × HasType p κ v t
      by (Some (Array t vs)) ec q = of_type vs q (array_at κ h typed k t vs ec)
      by (Some (Object c vs)) ec q = none_some v q
      by None ec q = none_some v q

  -- ---- cells that are there

  pub object_there : (κ : List Kind) (h : Heap) → TypedHeap p κ h → (k d : ℕ) → IsObject p κ k d → k < length h.cells
  object_there κ h typed k d (c, e, b) = by (object p κ κ h.cells k c typed.cells e)
    where
      by : ((vs : List CoreValue) × (x : Class) × (slice_get h.cells k ≡ Some (Object c vs)) × (slice_get p.classes c ≡ Some x) × HasFields p κ x.fields vs)
          → k < length h.cells
      by (vs, x, ec, ex, f) = slice_get_within h.cells k _ ec

  pub array_there : (κ : List Kind) (h : Heap) → TypedHeap p κ h → (k t n : ℕ) → slice_get κ k ≡ Some (ArrayOf t n) → k < length h.cells
  array_there κ h typed k t n e = by (array p κ κ h.cells k t n typed.cells e)
    where
      by : ((vs : List CoreValue) × (x : CoreType) × (slice_get h.cells k ≡ Some (Array t vs)) × (length vs ≡ n) × (slice_get p.types t ≡ Some x)
          × AllHave p κ x vs)
          → k < length h.cells
      by (vs, x, ec, l, ex, a) = slice_get_within h.cells k _ ec
