-- What a typed heap refers to is there.
use Rattle.std.proofs.Common.{◌≡◌, refl, sym, ap, subst, ◌∙◌, ℕ, ◌<◌, List, length, Option, Some, None, option_map, slice_get}
use Rattle.std.proofs.lemmas.Option.{slice_get-map, slice_get_within}
use Rattle.vg_core.specs.declared.types.CoreType.{CoreType}
use Rattle.vg_core.specs.declared.types.CoreType.TheVariants.{IntType, BoolType, CharType, RawType, NullType, ClassType, ArrayType, FunctionType, NoType}
use Rattle.vg_core.specs.declared.types.CoreType.TheVariants.{MoreTypes}
use Rattle.vg_core.specs.declared.value.CoreValue.{CoreValue}
use Rattle.vg_core.specs.declared.value.CoreValue.TheVariants.{Int, Bool as Truth, Char, Raw, Null, Obj, Arr, Bound}
use Rattle.vg_core.specs.declared.heap.Cell.{Cell}
use Rattle.vg_core.specs.declared.heap.Cell.TheVariants.{Object, Array}
use Rattle.vg_core.specs.declared.heap.Heap.{Heap}
use Rattle.vg_core.specs.declared.program.Class.{Class}
use Rattle.vg_core.specs.declared.program.Owner.{Owner}
use Rattle.vg_core.specs.declared.program.Owner.TheVariants.{InClass, InComponent}
use Rattle.vg_core.specs.declared.program.Tables.{Tables}
use Rattle.vg_core.specs.Heap.{Kind, ObjectOf, ArrayOf, kind_of, Place, OfComponent, OfObject, OfArray, class_in, value_in, field_in, item_in, value_at}
use Rattle.vg_core.specs.Tables.{slot_of, global_slot}
use Rattle.vg_core.specs.Types.{HasType, HasFieldType, HasFields, AllHave, ReceiverOf}
use Rattle.vg_core.specs.Typing.{WellFormed}
use Rattle.vg_sound.specs.Good.{TypedHeap}
use Rattle.vg_sound.proofs.Values.{the_same, none_some, field_get, item_get}
use Rattle.vg_sound.proofs.Cells.{object, array}
use Rattle.vg_sound.proofs.Runs.{kinds_of_heap}
use Rattle.vg_live.specs.Rules.{cell_in}

-- a cell of a class holds an object of it
pub class_of_kind : (o : Option Cell) (d : ℕ) → option_map kind_of o ≡ Some (ObjectOf d) → class_in o ≡ Some d
class_of_kind None d e = none_some (ObjectOf d) e
class_of_kind (Some (Object c vs)) d e = ap Some (class_is (the_same _ _ e))
  where
    class_is : ObjectOf c ≡ ObjectOf d → c ≡ d
    class_is q = cc
class_of_kind (Some (Array t vs)) d e = absurd (let clash : Some (ArrayOf t (length vs)) ≡ Some (ObjectOf d) = e in cc)

module _ (p : Tables) where
  -- a cell to which a typed value refers is there
  pub cell_there : (κ : List Kind) (v : CoreValue) (t : CoreType) (j : ℕ) → HasType p κ v t → cell_in v ≡ Some j → j < length κ
  cell_there κ (Int n) t j h e = none_some j e
  cell_there κ (Truth n) t j h e = none_some j e
  cell_there κ (Char n) t j h e = none_some j e
  cell_there κ (Raw w n) t j h e = none_some j e
  cell_there κ Null t j h e = none_some j e
  cell_there κ (Bound r m) t j h e = none_some j e
  cell_there κ (Obj i) (ClassType d) j (c, ek, eb) e = subst (λ z. z < length κ) (the_same _ _ e) (slice_get_within κ i _ ek)
  cell_there κ (Obj i) IntType j h e = absurd h
  cell_there κ (Obj i) BoolType j h e = absurd h
  cell_there κ (Obj i) CharType j h e = absurd h
  cell_there κ (Obj i) (RawType w) j h e = absurd h
  cell_there κ (Obj i) NullType j h e = absurd h
  cell_there κ (Obj i) (ArrayType t) j h e = absurd h
  cell_there κ (Obj i) (FunctionType ps r) j h e = absurd h
  cell_there κ (Obj i) NoType j h e = absurd h
  cell_there κ (Obj i) (MoreTypes a b) j h e = absurd h
  cell_there κ (Arr i) (ArrayType t) j (n, ek) e = subst (λ z. z < length κ) (the_same _ _ e) (slice_get_within κ i _ ek)
  cell_there κ (Arr i) IntType j h e = absurd h
  cell_there κ (Arr i) BoolType j h e = absurd h
  cell_there κ (Arr i) CharType j h e = absurd h
  cell_there κ (Arr i) (RawType w) j h e = absurd h
  cell_there κ (Arr i) NullType j h e = absurd h
  cell_there κ (Arr i) (ClassType d) j h e = absurd h
  cell_there κ (Arr i) (FunctionType ps r) j h e = absurd h
  cell_there κ (Arr i) NoType j h e = absurd h
  cell_there κ (Arr i) (MoreTypes a b) j h e = absurd h

  -- a typed delegate is of a method that is there, and so is the cell of its receiver
  abbrev pub IsThereIn : List Kind → Option ℕ → (m : ℕ) → Type 0
  IsThereIn κ r m = (m < length p.methods) × ((j : ℕ) → r ≡ Some j → j < length κ)

  receiver_there : (κ : List Kind) (r : Option ℕ) (o : Owner) (j : ℕ) → ReceiverOf p κ r o → r ≡ Some j → j < length κ
  receiver_there κ None o j h e = none_some j e
  receiver_there κ (Some i) (InClass d) j (c, ek, eb) e = subst (λ z. z < length κ) (the_same _ _ e) (slice_get_within κ i _ ek)
  receiver_there κ (Some i) (InComponent k) j h e = absurd h

  pub delegate_there : (κ : List Kind) (r : Option ℕ) (m : ℕ) (t : CoreType) → HasType p κ (Bound r m) t → IsThereIn κ r m
  delegate_there κ r m (FunctionType ps q) (x, ex, ef, h) = (slice_get_within p.methods m _ ex, λ j e. receiver_there κ r x.owner j h e)
  delegate_there κ r m IntType h = absurd h
  delegate_there κ r m BoolType h = absurd h
  delegate_there κ r m CharType h = absurd h
  delegate_there κ r m (RawType w) h = absurd h
  delegate_there κ r m NullType h = absurd h
  delegate_there κ r m (ClassType d) h = absurd h
  delegate_there κ r m (ArrayType t) h = absurd h
  delegate_there κ r m NoType h = absurd h
  delegate_there κ r m (MoreTypes a b) h = absurd h

  -- each value of a typed heap has a type
  module _ (formed : WellFormed p) (κ : List Kind) (h : Heap) (typed : TypedHeap p κ h) where
    abbrev Typed : CoreValue → Type 0
    Typed v = (t : CoreType) × HasType p κ v t

    kind_at : (j : ℕ) (c : Cell) → slice_get h.cells j ≡ Some c → slice_get κ j ≡ Some (kind_of c)
    kind_at j c e = ap (λ z. slice_get z j) (kinds_of_heap p κ h typed) ∙ (slice_get-map kind_of h.cells j ∙ ap (option_map kind_of) e)

    of_field : (v u : CoreValue) (f : ℕ) → u ≡ v → HasFieldType p κ u f → Typed v
    of_field v u f e (y, ey, a) = (y.type_, subst (λ z. HasType p κ z y.type_) e a)

    in_component : (f : ℕ) (v : CoreValue) (s : Option ℕ) → global_slot p f ≡ s → value_in s h.globals ≡ Some v → Typed v
    in_component f v None es e = none_some v e
    in_component f v (Some i) es e = by (field_get p κ p.globals h.globals i f typed.globals ((formed.global_slots i f).1 es))
      where
        by : ((u : CoreValue) × (slice_get h.globals i ≡ Some u) × HasFieldType p κ u f) → Typed v
        by (u, eu, a) = of_field v u f (the_same _ _ (sym eu ∙ e)) a

    in_object : (j f : ℕ) (v : CoreValue) (c : ℕ) (vs : List CoreValue) → slice_get h.cells j ≡ Some (Object c vs) → (s : Option ℕ) → slot_of p c f ≡ s
        → value_in s vs ≡ Some v → Typed v
    in_object j f v c vs ec None es e = none_some v e
    in_object j f v c vs ec (Some i) es e = by (object p κ κ h.cells j c typed.cells (kind_at j (Object c vs) ec))
      where
        values_of : (us : List CoreValue) → Object c us ≡ Object c vs → us ≡ vs
        values_of us q = cc

        at : (us : List CoreValue) → us ≡ vs → ((u : CoreValue) × (slice_get us i ≡ Some u) × HasFieldType p κ u f) → Typed v
        at us q (u, eu, a) = of_field v u f (the_same _ _ (sym eu ∙ (ap (λ z. slice_get z i) q ∙ e))) a

        by : ((us : List CoreValue) × (x : Class) × (slice_get h.cells j ≡ Some (Object c us)) × (slice_get p.classes c ≡ Some x) × HasFields p κ x.fields us)
            → Typed v
        by (us, x, eu, ex, a) = at us (values_of us (the_same _ _ (sym eu ∙ ec))) (field_get p κ x.fields us i f a ((formed.slots c i f x ex).1 es))

    in_array : (j i : ℕ) (v : CoreValue) (t : ℕ) (vs : List CoreValue) → slice_get h.cells j ≡ Some (Array t vs) → slice_get vs i ≡ Some v → Typed v
    in_array j i v t vs ec e = by (array p κ κ h.cells j t (length vs) typed.cells (kind_at j (Array t vs) ec))
      where
        values_of : (us : List CoreValue) → Array t us ≡ Array t vs → us ≡ vs
        values_of us q = cc

        by : ((us : List CoreValue) × (x : CoreType) × (slice_get h.cells j ≡ Some (Array t us)) × (length us ≡ length vs) × (slice_get p.types t ≡ Some x)
            × AllHave p κ x us)
            → Typed v
        by (us, x, eu, l, ex, a) = (x, item_get p κ x us i v a (ap (λ z. slice_get z i) (values_of us (the_same _ _ (sym eu ∙ ec))) ∙ e))

    in_cell_field : (j f : ℕ) (v : CoreValue) (o : Option Cell) → slice_get h.cells j ≡ o → field_in p f o ≡ Some v → Typed v
    in_cell_field j f v None ec e = none_some v e
    in_cell_field j f v (Some (Object c vs)) ec e = in_object j f v c vs ec (slot_of p c f) refl e
    in_cell_field j f v (Some (Array t vs)) ec e = none_some v e

    in_cell_item : (j i : ℕ) (v : CoreValue) (o : Option Cell) → slice_get h.cells j ≡ o → item_in i o ≡ Some v → Typed v
    in_cell_item j i v None ec e = none_some v e
    in_cell_item j i v (Some (Array t vs)) ec e = in_array j i v t vs ec e
    in_cell_item j i v (Some (Object c vs)) ec e = none_some v e

    pub value_typed : (x : Place) (v : CoreValue) → value_at p h x ≡ Some v → Typed v
    value_typed (OfComponent f) v e = in_component f v (global_slot p f) refl e
    value_typed (OfObject j f) v e = in_cell_field j f v (slice_get h.cells j) refl e
    value_typed (OfArray j i) v e = in_cell_item j i v (slice_get h.cells j) refl e
