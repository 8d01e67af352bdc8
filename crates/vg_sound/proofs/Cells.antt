-- The cells of a typed heap.
use Rattle.std.proofs.Common.{◌≡◌, ℕ, zero, suc, ◌==◌, true, List, [], ◌∷◌, ◌++◌, length, Some, slice_get, slice_set}
use Rattle.std.proofs.Common.{refl, sym, ap, ◌∙◌, subst}
use Rattle.std.proofs.lemmas.List.{length-set}
use Rattle.std.proofs.lemmas.Option.{slice_get-get_or}
use Rattle.std.specs.Prelude.{◌<◌, get_or}
use Rattle.vg_core.specs.declared.types.CoreType.{CoreType}
use Rattle.vg_core.specs.declared.types.CoreType.TheVariants.{IntType, BoolType, CharType, RawType, NullType, ClassType, ArrayType, FunctionType, NoType}
use Rattle.vg_core.specs.declared.types.CoreType.TheVariants.{MoreTypes}
use Rattle.vg_core.specs.declared.value.CoreValue.{CoreValue}
use Rattle.vg_core.specs.declared.value.CoreValue.TheVariants.{Int, Bool as Truth, Char, Raw, Null, Obj, Arr, Bound}
use Rattle.vg_core.specs.declared.heap.Cell.{Cell}
use Rattle.vg_core.specs.declared.heap.Cell.TheVariants.{Object, Array}
use Rattle.vg_core.specs.declared.heap.Heap.{Heap}
use Rattle.vg_core.specs.declared.program.Owner.TheVariants.{InClass, InComponent}
use Rattle.vg_core.specs.declared.program.Field.{Field}
use Rattle.vg_core.specs.declared.program.Class.{Class}
use Rattle.vg_core.specs.declared.program.Tables.{Tables}
use Rattle.vg_core.specs.Tables.{is_below, slot_where, has_fields_of, is_component, slot_in, slot_of, global_slot_in, global_slot, type_in, field_type}
use Rattle.vg_core.specs.Heap.{Kind, ObjectOf, ArrayOf, Place, OfComponent, OfObject, OfArray, value_in, with_value, field_in, item_in, value_at, with_field}
use Rattle.vg_core.specs.Heap.{with_item, set_at}
use Rattle.vg_core.specs.State.{is_object, is_array, is_function, is_delegate, is_of, are_of}
use Rattle.vg_core.specs.Meaning.{default_in, defaults}
use Rattle.vg_core.specs.Types.{Extends, IsObject, HasType, HasTypes, HasFieldType, HasFields, AllHave, IsKind, AreKinds}
use Rattle.vg_core.specs.Typing.{WellFormed}
use Rattle.vg_sound.specs.Good.{TypedHeap}
use Rattle.vg_sound.proofs.Values.{the_same, none_some, eq_refl, eq_true, both, fields_more, items_more, default_typed, field_get, field_set, item_get}
use Rattle.vg_sound.proofs.Values.{item_set}

module _ (p : Tables) where
  -- ---- what lies in a cell of a kind

  pub object : (κ0 κ : List Kind) (cells : List Cell) (k c : ℕ) → AreKinds p κ0 cells κ → slice_get κ k ≡ Some (ObjectOf c)
      → (vs : List CoreValue) × (x : Class) × (slice_get cells k ≡ Some (Object c vs)) × (slice_get p.classes c ≡ Some x) × HasFields p κ0 x.fields vs
  object κ0 [] [] k c h e = none_some (ObjectOf c) e
  object κ0 (a ∷ κ) (y ∷ cells) (suc k) c (b, h) e = object κ0 κ cells k c h e
  object κ0 (ObjectOf d ∷ κ) (Object c' vs ∷ cells) zero c ((e', x, ex, g), h) e =
      let that : c' ≡ c = e' ∙ class_of (the_same _ _ e) in
      (vs, x, ap (λ z. Some (Object z vs)) that, subst (λ z. slice_get p.classes z ≡ Some x) that ex, g)
    where
      class_of : ObjectOf d ≡ ObjectOf c → d ≡ c
      class_of q = cc
  object κ0 (ObjectOf d ∷ κ) (Array t vs ∷ cells) zero c (b, h) e = absurd b
  object κ0 (ArrayOf t n ∷ κ) (y ∷ cells) zero c (b, h) e = absurd (let clash : Some (ArrayOf t n) ≡ Some (ObjectOf c) = e in cc)
  object κ0 [] (y ∷ cells) k c h e = absurd h
  object κ0 (a ∷ κ) [] k c h e = absurd h

  pub array : (κ0 κ : List Kind) (cells : List Cell) (k t n : ℕ) → AreKinds p κ0 cells κ → slice_get κ k ≡ Some (ArrayOf t n)
      → (vs : List CoreValue) × (x : CoreType) × (slice_get cells k ≡ Some (Array t vs)) × (length vs ≡ n) × (slice_get p.types t ≡ Some x) × AllHave p κ0 x vs
  array κ0 [] [] k t n h e = none_some (ArrayOf t n) e
  array κ0 (a ∷ κ) (y ∷ cells) (suc k) t n (b, h) e = array κ0 κ cells k t n h e
  array κ0 (ArrayOf u m ∷ κ) (Array t' vs ∷ cells) zero t n ((e', l, x, ex, g), h) e =
      let that : t' ≡ t = e' ∙ type_of (the_same _ _ e) in
      (vs, x, ap (λ z. Some (Array z vs)) that, l ∙ size_of (the_same _ _ e), subst (λ z. slice_get p.types z ≡ Some x) that ex, g)
    where
      type_of : ArrayOf u m ≡ ArrayOf t n → u ≡ t
      type_of q = cc

      size_of : ArrayOf u m ≡ ArrayOf t n → m ≡ n
      size_of q = cc
  array κ0 (ArrayOf u m ∷ κ) (Object c vs ∷ cells) zero t n (b, h) e = absurd b
  array κ0 (ObjectOf c ∷ κ) (y ∷ cells) zero t n (b, h) e = absurd (let clash : Some (ObjectOf c) ≡ Some (ArrayOf t n) = e in cc)
  array κ0 [] (y ∷ cells) k t n h e = absurd h
  array κ0 (a ∷ κ) [] k t n h e = absurd h

  -- another cell of the same kind
  pub set_cell : (κ0 κ : List Kind) (cells : List Cell) (k : ℕ) (a : Kind) (c : Cell) → AreKinds p κ0 cells κ → slice_get κ k ≡ Some a
      → IsKind p κ0 c a → AreKinds p κ0 (slice_set cells k c) κ
  set_cell κ0 [] [] k a c h e f = tt
  set_cell κ0 (b ∷ κ) (d ∷ cells) zero a c (q, h) e f = (subst (IsKind p κ0 c) (sym (the_same _ _ e)) f, h)
  set_cell κ0 (b ∷ κ) (d ∷ cells) (suc k) a c (q, h) e f = (q, set_cell κ0 κ cells k a c h e f)
  set_cell κ0 [] (d ∷ cells) k a c h e f = absurd h
  set_cell κ0 (b ∷ κ) [] k a c h e f = absurd h

  -- ---- new cells

  abbrev pub longer : List Kind → Kind → List Kind
  longer κ a = κ ++ a ∷ []

  pub grows : (κ : List Kind) (a : Kind) → Extends κ (longer κ a)
  grows [] a k b e = none_some b e
  grows (c ∷ κ) a zero b e = e
  grows (c ∷ κ) a (suc k) b e = grows κ a k b e

  cell_more : (κ κ' : List Kind) → Extends κ κ' → (c : Cell) (a : Kind) → IsKind p κ c a → IsKind p κ' c a
  cell_more κ κ' e (Object c vs) (ObjectOf d) (q, y, ey, h) = (q, y, ey, fields_more p κ κ' e y.fields vs h)
  cell_more κ κ' e (Array t vs) (ArrayOf u n) (q, l, x, ex, h) = (q, l, x, ex, items_more p κ κ' e x vs h)
  cell_more κ κ' e (Object c vs) (ArrayOf u n) h = absurd h
  cell_more κ κ' e (Array t vs) (ObjectOf d) h = absurd h

  pub cells_more : (κ0 κ0' : List Kind) → Extends κ0 κ0' → (κ : List Kind) (cells : List Cell) (a : Kind) (c : Cell) → AreKinds p κ0 cells κ
      → IsKind p κ0' c a → AreKinds p κ0' (cells ++ c ∷ []) (longer κ a)
  cells_more κ0 κ0' e [] [] a c h b = (b, tt)
  cells_more κ0 κ0' e (k ∷ κ) (d ∷ cells) a c (q, h) b = (cell_more κ0 κ0' e d k q, cells_more κ0 κ0' e κ cells a c h b)
  cells_more κ0 κ0' e [] (d ∷ cells) a c h b = absurd h
  cells_more κ0 κ0' e (k ∷ κ) [] a c h b = absurd h

  pub last_cell : (κ0 κ : List Kind) (cells : List Cell) (a : Kind) → AreKinds p κ0 cells κ → slice_get (longer κ a) (length cells) ≡ Some a
  last_cell κ0 [] [] a h = refl
  last_cell κ0 (k ∷ κ) (d ∷ cells) a (q, h) = last_cell κ0 κ cells a h
  last_cell κ0 [] (d ∷ cells) a h = absurd h
  last_cell κ0 (k ∷ κ) [] a h = absurd h

  -- a heap with one more cell
  pub one_more_cell : (κ : List Kind) (h : Heap) (a : Kind) (c : Cell) → TypedHeap p κ h → IsKind p (longer κ a) c a
      → TypedHeap p (longer κ a) (record h { cells = h.cells ++ c ∷ [] })
  one_more_cell κ h a c g b = record {
    cells = cells_more κ (longer κ a) (grows κ a) κ h.cells a c g.cells b;
    globals = fields_more p κ (longer κ a) (grows κ a) p.globals h.globals g.globals;
    literals = λ k bytes e. grows κ a k _ (g.literals k bytes e);
  }

  -- ---- the check of a type

  pub is_typed : (κ : List Kind) (cells : List Cell) (v : CoreValue) (t : CoreType) → AreKinds p κ cells κ → HasType p κ v t → is_of p cells t v ≡ true
  is_typed κ cells (Int n) IntType h a = refl
  is_typed κ cells (Truth b) BoolType h a = refl
  is_typed κ cells (Char c) CharType h a = refl
  is_typed κ cells (Raw j x) (RawType k) h a = eq_true j k a
  is_typed κ cells (Obj k) (ClassType d) h (c, ek, eb) = by (object κ κ cells k c h ek)
    where
      by : ((vs : List CoreValue) × (x : Class) × (slice_get cells k ≡ Some (Object c vs)) × (slice_get p.classes c ≡ Some x) × HasFields p κ x.fields vs)
          → is_object p d (slice_get cells k) ≡ true
      by (vs, x, ec, ex, f) = ap (is_object p d) ec ∙ eb
  is_typed κ cells (Arr k) (ArrayType t) h (n, ek) = by (array κ κ cells k t n h ek)
    where
      by : ((vs : List CoreValue) × (x : CoreType) × (slice_get cells k ≡ Some (Array t vs)) × (length vs ≡ n) × (slice_get p.types t ≡ Some x)
          × AllHave p κ x vs)
          → is_array t (slice_get cells k) ≡ true
      by (vs, x, ec, l, ex, f) = ap (is_array t) ec ∙ eq_refl t
  is_typed κ cells (Bound r m) (FunctionType ps t) h (x, ex, ef, f) =
      ap (is_delegate p ps t) ex ∙ (ap (is_function ps t) ef ∙ both (ps == ps) (t == t) (eq_refl ps) (eq_refl t))
  is_typed κ cells Null NullType h a = refl
  is_typed κ cells Null (ClassType d) h a = refl
  is_typed κ cells Null (ArrayType t) h a = refl
  is_typed κ cells Null (FunctionType ps r) h a = refl
  is_typed κ cells Null NoType h a = refl
  is_typed κ cells Null (MoreTypes t ts) h a = refl
  is_typed κ cells _ _ h a = absurd a

  pub are_typed : (κ : List Kind) (cells : List Cell) (vs : List CoreValue) (ts : List CoreType) → AreKinds p κ cells κ → HasTypes p κ vs ts
      → are_of p cells ts vs ≡ true
  are_typed κ cells [] [] h a = refl
  are_typed κ cells (v ∷ vs) (t ∷ ts) h (a, b) = both _ _ (is_typed κ cells v t h a) (are_typed κ cells vs ts h b)
  are_typed κ cells [] (t ∷ ts) h a = absurd a
  are_typed κ cells (v ∷ vs) [] h a = absurd a

  -- ---- places

  -- a place of this type
  pub data PlaceOf (κ : List Kind) : Place → CoreType → Type 0 where
    component_place : {f k : ℕ} (y : Field) → slice_get p.fields f ≡ Some y → y.owner ≡ InComponent k → PlaceOf κ (OfComponent f) y.type_
    object_place : {k f e : ℕ} (y : Field) → slice_get p.fields f ≡ Some y → y.owner ≡ InClass e → IsObject p κ k e → PlaceOf κ (OfObject k f) y.type_
    array_place : {k i : ℕ} {t : CoreType} (u size : ℕ) → slice_get κ k ≡ Some (ArrayOf u size) → slice_get p.types u ≡ Some t → i < size
        → PlaceOf κ (OfArray k i) t

  -- the value there, and its type
  abbrev pub ValueAt : List Kind → Heap → Place → CoreType → Type 0
  ValueAt κ h x t = (v : CoreValue) × (value_at p h x ≡ Some v) × HasType p κ v t

  within : (vs : List CoreValue) (i : ℕ) → i < length vs → (v : CoreValue) × (slice_get vs i ≡ Some v)
  within vs i l = (get_or vs i Null, slice_get-get_or vs i Null l)

  module _ (formed : WellFormed p) where
    global_slot_is : (f k : ℕ) (y : Field) → slice_get p.fields f ≡ Some y → y.owner ≡ InComponent k → global_slot p f ≡ Some y.slot
    global_slot_is f k y ey eo = ap global_slot_in ey ∙ ap (λ o. slot_where (is_component o) y) eo

    slot_is : (c f e : ℕ) (y : Field) → slice_get p.fields f ≡ Some y → y.owner ≡ InClass e → is_below p c e ≡ true → slot_of p c f ≡ Some y.slot
    slot_is c f e y ey eo eb = ap (slot_in p c) ey ∙ (ap (λ o. slot_where (has_fields_of p c o) y) eo ∙ ap (λ b. slot_where b y) eb)

    of_field : (κ : List Kind) (v : CoreValue) (f : ℕ) (y : Field) → slice_get p.fields f ≡ Some y → HasFieldType p κ v f → HasType p κ v y.type_
    of_field κ v f y ey (z, ez, a) = subst (λ q. HasType p κ v q.type_) (the_same _ _ (sym ez ∙ ey)) a

    pub get_typed : (κ : List Kind) (h : Heap) → TypedHeap p κ h → (x : Place) (t : CoreType) → PlaceOf κ x t → ValueAt κ h x t
    get_typed κ h g _ _ (component_place {f = f} {k = k} y ey eo) = by (field_get p κ p.globals h.globals y.slot f g.globals
        ((formed.global_slots y.slot f).1 (global_slot_is f k y ey eo)))
      where
        by : ((v : CoreValue) × (slice_get h.globals y.slot ≡ Some v) × HasFieldType p κ v f) → ValueAt κ h (OfComponent f) y.type_
        by (v, ev, a) = (v, ap (λ o. value_in o h.globals) (global_slot_is f k y ey eo) ∙ ev, of_field κ v f y ey a)
    get_typed κ h g _ _ (object_place {k = k} {f = f} {e = e} y ey eo (c, ek, eb)) = by (object κ κ h.cells k c g.cells ek)
      where
        at : (vs : List CoreValue) → slice_get h.cells k ≡ Some (Object c vs) → ((v : CoreValue) × (slice_get vs y.slot ≡ Some v) × HasFieldType p κ v f)
            → ValueAt κ h (OfObject k f) y.type_
        at vs ec (v, ev, a) = (v, ap (field_in p f) ec ∙ (ap (λ o. value_in o vs) (slot_is c f e y ey eo eb) ∙ ev), of_field κ v f y ey a)

        by : ((vs : List CoreValue) × (x : Class) × (slice_get h.cells k ≡ Some (Object c vs)) × (slice_get p.classes c ≡ Some x) × HasFields p κ x.fields vs)
            → ValueAt κ h (OfObject k f) y.type_
        by (vs, x, ec, ex, a) = at vs ec (field_get p κ x.fields vs y.slot f a ((formed.slots c y.slot f x ex).1 (slot_is c f e y ey eo eb)))
    get_typed κ h g _ _ (array_place {k = k} {i = i} {t = t} u size ek et l) = by (array κ κ h.cells k u size g.cells ek)
      where
        at : (vs : List CoreValue) (z : CoreType) → slice_get h.cells k ≡ Some (Array u vs) → slice_get p.types u ≡ Some z → AllHave p κ z vs
            → ((v : CoreValue) × (slice_get vs i ≡ Some v)) → ValueAt κ h (OfArray k i) t
        at vs z ec ez a (v, ev) =
            (v, ap (item_in i) ec ∙ ev, subst (HasType p κ v) (the_same _ _ (sym ez ∙ et)) (item_get p κ z vs i v a ev))

        by : ((vs : List CoreValue) × (z : CoreType) × (slice_get h.cells k ≡ Some (Array u vs)) × (length vs ≡ size) × (slice_get p.types u ≡ Some z)
            × AllHave p κ z vs)
            → ValueAt κ h (OfArray k i) t
        by (vs, z, ec, ln, ez, a) = at vs z ec ez a (within vs i (subst (λ n. i < n) (sym ln) l))

    -- a store of a value of the place's type
    pub set_typed : (κ : List Kind) (h : Heap) → TypedHeap p κ h → (x : Place) (t : CoreType) → PlaceOf κ x t → (v : CoreValue) → HasType p κ v t
        → TypedHeap p κ (set_at p x v h)
    set_typed κ h g _ _ (component_place {f = f} {k = k} y ey eo) v a = record {
      cells = g.cells;
      literals = g.literals;
      globals = subst (λ o. HasFields p κ p.globals (with_value o v h.globals)) (sym (global_slot_is f k y ey eo))
          (field_set p κ p.globals h.globals y.slot f v g.globals ((formed.global_slots y.slot f).1 (global_slot_is f k y ey eo)) (y, ey, a));
    }
    set_typed κ h g _ _ (object_place {k = k} {f = f} {e = e} y ey eo (c, ek, eb)) v a =
        record { cells = by (object κ κ h.cells k c g.cells ek); literals = g.literals; globals = g.globals }
      where
        by : ((vs : List CoreValue) × (x : Class) × (slice_get h.cells k ≡ Some (Object c vs)) × (slice_get p.classes c ≡ Some x) × HasFields p κ x.fields vs)
            → AreKinds p κ (with_field p f v (slice_get h.cells k) h.cells k) κ
        by (vs, x, ec, ex, b) =
            subst (λ z. AreKinds p κ (with_field p f v z h.cells k) κ) (sym ec)
            (set_cell κ κ h.cells k (ObjectOf c) _ g.cells ek (
              refl,
              x,
              ex,
              subst (λ o. HasFields p κ x.fields (with_value o v vs)) (sym (slot_is c f e y ey eo eb))
                  (field_set p κ x.fields vs y.slot f v b ((formed.slots c y.slot f x ex).1 (slot_is c f e y ey eo eb)) (y, ey, a)),
            ))
    set_typed κ h g _ _ (array_place {k = k} {i = i} {t = t} u size ek et l) v a =
        record { cells = by (array κ κ h.cells k u size g.cells ek); literals = g.literals; globals = g.globals }
      where
        by : ((vs : List CoreValue) × (z : CoreType) × (slice_get h.cells k ≡ Some (Array u vs)) × (length vs ≡ size) × (slice_get p.types u ≡ Some z)
            × AllHave p κ z vs)
            → AreKinds p κ (with_item i v (slice_get h.cells k) h.cells k) κ
        by (vs, z, ec, ln, ez, b) =
            subst (λ q. AreKinds p κ (with_item i v q h.cells k) κ) (sym ec)
            (set_cell κ κ h.cells k (ArrayOf u size) _ g.cells ek (
              refl,
              length-set vs i v ∙ ln,
              z,
              ez,
              item_set p κ z vs i v b (subst (HasType p κ v) (the_same _ _ (sym et ∙ ez)) a),
            ))

    -- the defaults of fields are of their types
    pub fresh_fields : (κ : List Kind) (fs : List ℕ) → ((i f : ℕ) → slice_get fs i ≡ Some f → (y : Field) × (slice_get p.fields f ≡ Some y))
        → HasFields p κ fs (defaults p fs)
    fresh_fields κ [] h = tt
    fresh_fields κ (f ∷ fs) h = (by (h zero f refl), fresh_fields κ fs (λ i g e. h (suc i) g e))
      where
        by : (y : Field) × (slice_get p.fields f ≡ Some y) → HasFieldType p κ (default_in (field_type p f)) f
        by (y, ey) = (y, ey, subst (λ o. HasType p κ (default_in (type_in o)) y.type_) (sym ey) (default_typed p κ y.type_))
