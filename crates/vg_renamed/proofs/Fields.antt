-- Fields under their names and under their numbers.
use Rattle.std.proofs.Common.{◌≡◌, ℕ, zero, suc, ◌+◌, ◌==◌, ◌&&◌, Bool, true, false, List, [], ◌∷◌, length, map, Option, Some, None, option_map}
use Rattle.std.proofs.Common.{slice_get, slice_set, if◌then◌else◌}
use Rattle.std.proofs.Common.{refl, sym, ap, ◌∙◌, subst}
use Rattle.std.specs.Prelude.{sum, bytes_eq}
use Rattle.std.proofs.lemmas.Bool.{eqb-true, eq-eqb}
use Rattle.std.proofs.lemmas.List.{length-map}
use Rattle.std.proofs.lemmas.Option.{slice_get-map}
use Rattle.vg_source.specs.Values as source_value
use Rattle.vg_source.specs.Values.{FieldValue}
use Rattle.vg_source.specs.State as source_state
use Rattle.vg_source.specs.State.{find_value, set_value}
use Rattle.vg_core.specs.declared.types.CoreType.{CoreType}
use Rattle.vg_core.specs.declared.types.CoreType.TheVariants.{IntType, BoolType, CharType, RawType, NullType, ClassType, ArrayType, FunctionType, NoType}
use Rattle.vg_core.specs.declared.types.CoreType.TheVariants.{MoreTypes}
use Rattle.vg_core.specs.declared.value.CoreValue.{CoreValue}
use Rattle.vg_core.specs.declared.heap.Cell.{Cell}
use Rattle.vg_core.specs.declared.heap.Cell.TheVariants.{Object, Array}
use Rattle.vg_core.specs.declared.heap.Heap.{Heap}
use Rattle.vg_core.specs.declared.program.Owner.{Owner}
use Rattle.vg_core.specs.declared.program.Owner.TheVariants.{InClass, InComponent}
use Rattle.vg_core.specs.declared.program.Field.{Field}
use Rattle.vg_core.specs.declared.program.Class.{Class}
use Rattle.vg_core.specs.declared.program.Tables.{Tables}
use Rattle.vg_core.specs.Tables.{above_in, is_in, slot_where, has_fields_of, slot_in, slot_of, global_slot_in, global_slot, fields_in}
use Rattle.vg_core.specs.Heap.{default, size_of, stored_values, value_in, with_value, field_in, value_at, OfComponent, with_field}
use Rattle.vg_core.specs.Meaning.{defaults}
use Rattle.vg_core.specs.Typing.{WellFormed}
use Rattle.vg_core.specs.Naming.{Naming, named_type, type_at, type_named, named_value, keyed, named_cell, named_heap}
use Rattle.vg_sound.proofs.Values.{the_same, none_some}
use Rattle.vg_renamed.specs.IsNamed.{KeysTell}
use Rattle.vg_renamed.proofs.Lists.{set_map}

module _ (n : Naming) (p : Tables) where
  -- ---- defaults

  default_as : (t : CoreType) → source_value.default (named_type n p t) ≡ named_value n p (default t)
  default_as IntType = refl
  default_as BoolType = refl
  default_as CharType = refl
  default_as (RawType k) = refl
  default_as NullType = refl
  default_as (ClassType c) = refl
  default_as (ArrayType t) = refl
  default_as (FunctionType ps r) = refl
  default_as NoType = refl
  default_as (MoreTypes t ts) = refl

  -- the default of the type of this number
  pub default_at : (t : ℕ) (e : CoreType) → slice_get p.types t ≡ Some e → source_value.default (type_at n p t) ≡ named_value n p (default e)
  default_at t e h = ap (λ o. source_value.default (type_named n p o)) h ∙ default_as e

  -- ---- stored values

  pub length_keyed : (fs : List ℕ) (vs : List CoreValue) → length (keyed n p fs vs) ≡ length vs
  length_keyed [] [] = refl
  length_keyed (f ∷ fs) [] = refl
  length_keyed [] (v ∷ vs) = ap suc (length_keyed [] vs)
  length_keyed (f ∷ fs) (v ∷ vs) = ap suc (length_keyed fs vs)

  pub length_defaults : (fs : List ℕ) → length (defaults p fs) ≡ length fs
  length_defaults [] = refl
  length_defaults (f ∷ fs) = ap suc (length_defaults fs)

  same_size : (c : Cell) → source_value.size_of (named_cell n p c) ≡ size_of c
  same_size (Object c vs) = ap (λ z. 1 + z) (length_keyed (fields_in (slice_get p.classes c)) vs)
  same_size (Array t vs) = ap (λ z. 1 + z) (length-map vs (named_value n p))

  size_lists : (cs : List Cell) → map source_value.size_of (map (named_cell n p) cs) ≡ map size_of cs
  size_lists [] = refl
  size_lists (c ∷ cs) = ap (λ z. z ∷ map source_value.size_of (map (named_cell n p) cs)) (same_size c) ∙ ap (λ z. size_of c ∷ z) (size_lists cs)

  pub same_stored : (h : Heap) → source_value.stored_values (named_heap n p h) ≡ stored_values h
  same_stored h =
      ap (λ z. z + sum (map source_value.size_of (map (named_cell n p) h.cells))) (length_keyed p.globals h.globals)
      ∙ ap (λ z. length h.globals + sum z) (size_lists h.cells)

  -- ---- look-ups under a key

  module _ (keys : KeysTell n p) where
    -- all fields of a list are there
    abbrev AllThere : List ℕ → Type 0
    AllThere fs = (j g : ℕ) → slice_get fs j ≡ Some g → (y : Field) × (slice_get p.fields g ≡ Some y)

    -- the field f stands at the place i alone
    abbrev OnlyAt : List ℕ → ℕ → ℕ → Type 0
    OnlyAt fs f i = (j : ℕ) → slice_get fs j ≡ Some f → j ≡ i

    later : (fs : List ℕ) (g f i : ℕ) → OnlyAt (g ∷ fs) f (suc i) → OnlyAt fs f i
    later fs g f i only j e = by (only (suc j) e)
      where
        by : suc j ≡ suc i → j ≡ i
        by q = cc

    -- another field stands in front
    other : (fs : List ℕ) (g f i : ℕ) → OnlyAt (g ∷ fs) f (suc i) → (g == f) ≡ false
    other fs g f i only = by (g == f) (eqb-true g f)
      where
        by : (b : Bool) → (b ≡ true → g ≡ f) → b ≡ false
        by true h = let clash : zero ≡ suc i = only zero (ap Some (h refl)) in absurd cc
        by false h = refl

    same_keys : (fs : List ℕ) (g f i : ℕ) → AllThere (g ∷ fs) → ((y : Field) × (slice_get p.fields f ≡ Some y))
        → (bytes_eq (n.field g).owner (n.field f).owner && bytes_eq (n.field g).name (n.field f).name) ≡ (g == f)
    same_keys fs g f i all (x, ex) = by (all zero g refl)
      where
        by : (y : Field) × (slice_get p.fields g ≡ Some y)
            → (bytes_eq (n.field g).owner (n.field f).owner && bytes_eq (n.field g).name (n.field f).name) ≡ (g == f)
        by (y, ey) = keys f g x y ex ey

    found_under : (fs : List ℕ) (vs : List CoreValue) (i f : ℕ) (v : CoreValue) → AllThere fs → OnlyAt fs f i → slice_get fs i ≡ Some f → slice_get vs i
        ≡ Some v
        → find_value (keyed n p fs vs) (n.field f).owner (n.field f).name ≡ Some (named_value n p v)
    found_under [] vs i f v all only ef ev = none_some f ef
    found_under (g ∷ fs) [] i f v all only ef ev = none_some v ev
    found_under (g ∷ fs) (u ∷ vs) zero f v all only ef ev =
        ap (λ b. if b then Some (named_value n p u) else find_value (keyed n p fs vs) (n.field f).owner (n.field f).name)
        (same_keys fs g f zero all (all zero f ef) ∙ eq-eqb g f (the_same _ _ ef)) ∙ ap (λ z. Some (named_value n p z)) (the_same _ _ ev)
    found_under (g ∷ fs) (u ∷ vs) (suc i) f v all only ef ev =
        ap (λ b. if b then Some (named_value n p u) else find_value (keyed n p fs vs) (n.field f).owner (n.field f).name)
        (same_keys fs g f i all (all (suc i) f ef) ∙ other fs g f i only)
        ∙ found_under fs vs i f v (λ j h e. all (suc j) h e) (later fs g f i only) ef ev

    set_under : (fs : List ℕ) (vs : List CoreValue) (i f : ℕ) (v : CoreValue) → AllThere fs → OnlyAt fs f i → slice_get fs i ≡ Some f
        → set_value (keyed n p fs vs) (n.field f).owner (n.field f).name (named_value n p v) ≡ keyed n p fs (slice_set vs i v)
    set_under [] vs i f v all only ef = none_some f ef
    set_under (g ∷ fs) [] i f v all only ef = refl
    set_under (g ∷ fs) (u ∷ vs) zero f v all only ef =
        ap (λ b. if b then record first { value = named_value n p v } ∷ keyed n p fs vs else first ∷ set_value (keyed n p fs vs) (n.field f).owner
        (n.field f).name (named_value n p v))
        (same_keys fs g f zero all (all zero f ef) ∙ eq-eqb g f (the_same _ _ ef))
      where
        first : FieldValue
        first = record { owner = (n.field g).owner; name = (n.field g).name; value = named_value n p u }
    set_under (g ∷ fs) (u ∷ vs) (suc i) f v all only ef =
        ap (λ b. if b then record first { value = named_value n p v } ∷ keyed n p fs vs else first ∷ set_value (keyed n p fs vs) (n.field f).owner
        (n.field f).name (named_value n p v))
        (same_keys fs g f i all (all (suc i) f ef) ∙ other fs g f i only)
        ∙ ap (λ z. first ∷ z) (set_under fs vs i f v (λ j h e. all (suc j) h e) (later fs g f i only) ef)
      where
        first : FieldValue
        first = record { owner = (n.field g).owner; name = (n.field g).name; value = named_value n p u }

    -- ---- fields of components and of objects

    module _ (formed : WellFormed p) where
      field_there : {i : ℕ} (c : ℕ) (z : Option Field) → slot_in p c z ≡ Some i → (y : Field) × (z ≡ Some y)
      field_there c None e = none_some _ e
      field_there c (Some y) e = (y, refl)

      global_there : {i : ℕ} (z : Option Field) → global_slot_in z ≡ Some i → (y : Field) × (z ≡ Some y)
      global_there None e = none_some _ e
      global_there (Some y) e = (y, refl)

      -- objects with a field have a class
      class_there : (c : ℕ) (z : Option Field) (k : Option Class) (i : ℕ) → slice_get p.classes c ≡ k → slot_in p c z ≡ Some i → (l : Class)
          × (slice_get p.classes c ≡ Some l)
      class_there c z (Some l) i ek e = (l, ek)
      class_there c None None i ek e = none_some i e
      class_there c (Some y) None i ek e = by y.owner e
        where
          by : (o : Owner) → slot_where (has_fields_of p c o) y ≡ Some i → (l : Class) × (slice_get p.classes c ≡ Some l)
          by (InComponent k) q = none_some i q
          by (InClass d) q = none_some i (sym (ap (λ z. slot_where (is_in (above_in z) d) y) ek) ∙ q)

      -- the value of a component's field
      pub component_value : (h : Heap) (f : ℕ) (v : CoreValue) → value_at p h (OfComponent f) ≡ Some v
          → find_value (keyed n p p.globals h.globals) (n.field f).owner (n.field f).name ≡ Some (named_value n p v)
      component_value h f v e = by (global_slot p f) refl e
        where
          by : (o : Option ℕ) → global_slot p f ≡ o → value_in o h.globals ≡ Some v
              → find_value (keyed n p p.globals h.globals) (n.field f).owner (n.field f).name ≡ Some (named_value n p v)
          by None q a = none_some v a
          by (Some i) q a = found_under p.globals h.globals i f v
              (λ j g z. global_there (slice_get p.fields g) ((formed.global_slots j g).0 z))
              (λ j z. the_same _ _ (sym ((formed.global_slots j f).0 z) ∙ q)) ((formed.global_slots i f).1 q) a

      pub component_set : (globals : List CoreValue) (f : ℕ) (v old : CoreValue) → value_in (global_slot p f) globals ≡ Some old
          → set_value (keyed n p p.globals globals) (n.field f).owner (n.field f).name (named_value n p v) ≡ keyed n p p.globals
          (with_value (global_slot p f) v globals)
      component_set globals f v old e = by (global_slot p f) refl e
        where
          by : (o : Option ℕ) → global_slot p f ≡ o → value_in o globals ≡ Some old
              → set_value (keyed n p p.globals globals) (n.field f).owner (n.field f).name (named_value n p v) ≡ keyed n p p.globals (with_value o v globals)
          by None q a = none_some old a
          by (Some i) q a = set_under p.globals globals i f v
              (λ j g z. global_there (slice_get p.fields g) ((formed.global_slots j g).0 z))
              (λ j z. the_same _ _ (sym ((formed.global_slots j f).0 z) ∙ q)) ((formed.global_slots i f).1 q)

      -- the value of an object's field
      object_value : (c f : ℕ) (vs : List CoreValue) (v : CoreValue) → value_in (slot_of p c f) vs ≡ Some v
          → find_value (keyed n p (fields_in (slice_get p.classes c)) vs) (n.field f).owner (n.field f).name ≡ Some (named_value n p v)
      object_value c f vs v e = by (slot_of p c f) refl e
        where
          in_class : (i : ℕ) → slot_of p c f ≡ Some i → slice_get vs i ≡ Some v → ((l : Class) × (slice_get p.classes c ≡ Some l))
              → find_value (keyed n p (fields_in (slice_get p.classes c)) vs) (n.field f).owner (n.field f).name ≡ Some (named_value n p v)
          in_class i q a (l, el) = subst (λ k. find_value (keyed n p (fields_in k) vs) (n.field f).owner (n.field f).name ≡ Some (named_value n p v)) (sym el)
              (found_under l.fields vs i f v
              (λ j g z. field_there c (slice_get p.fields g) ((formed.slots c j g l el).0 z))
              (λ j z. the_same _ _ (sym ((formed.slots c j f l el).0 z) ∙ q)) ((formed.slots c i f l el).1 q) a)

          by : (o : Option ℕ) → slot_of p c f ≡ o → value_in o vs ≡ Some v
              → find_value (keyed n p (fields_in (slice_get p.classes c)) vs) (n.field f).owner (n.field f).name ≡ Some (named_value n p v)
          by None q a = none_some v a
          by (Some i) q a = in_class i q a (class_there c (slice_get p.fields f) (slice_get p.classes c) i refl q)

      object_set : (c f : ℕ) (vs : List CoreValue) (v old : CoreValue) → value_in (slot_of p c f) vs ≡ Some old
          → set_value (keyed n p (fields_in (slice_get p.classes c)) vs) (n.field f).owner (n.field f).name (named_value n p v)
          ≡ keyed n p (fields_in (slice_get p.classes c)) (with_value (slot_of p c f) v vs)
      object_set c f vs v old e = by (slot_of p c f) refl e
        where
          in_class : (i : ℕ) → slot_of p c f ≡ Some i → ((l : Class) × (slice_get p.classes c ≡ Some l))
              → set_value (keyed n p (fields_in (slice_get p.classes c)) vs) (n.field f).owner (n.field f).name (named_value n p v)
              ≡ keyed n p (fields_in (slice_get p.classes c)) (slice_set vs i v)
          in_class i q (l, el) = subst (λ k. set_value (keyed n p (fields_in k) vs) (n.field f).owner (n.field f).name (named_value n p v)
              ≡ keyed n p (fields_in k) (slice_set vs i v)) (sym el)
              (set_under l.fields vs i f v
              (λ j g z. field_there c (slice_get p.fields g) ((formed.slots c j g l el).0 z))
              (λ j z. the_same _ _ (sym ((formed.slots c j f l el).0 z) ∙ q)) ((formed.slots c i f l el).1 q))

          by : (o : Option ℕ) → slot_of p c f ≡ o → value_in o vs ≡ Some old
              → set_value (keyed n p (fields_in (slice_get p.classes c)) vs) (n.field f).owner (n.field f).name (named_value n p v)
              ≡ keyed n p (fields_in (slice_get p.classes c)) (with_value o v vs)
          by None q a = none_some old a
          by (Some i) q a = in_class i q (class_there c (slice_get p.fields f) (slice_get p.classes c) i refl q)

      -- the value of a field of the object in a cell
      pub cell_value : (cells : List Cell) (k f : ℕ) (v : CoreValue) → field_in p f (slice_get cells k) ≡ Some v
          → source_state.field_in (n.field f).owner (n.field f).name (slice_get (map (named_cell n p) cells) k) ≡ Some (named_value n p v)
      cell_value cells k f v e =
          ap (source_state.field_in (n.field f).owner (n.field f).name) (slice_get-map (named_cell n p) cells k) ∙ inside (slice_get cells k) e
        where
          inside : (o : Option Cell) → field_in p f o ≡ Some v
              → source_state.field_in (n.field f).owner (n.field f).name (option_map (named_cell n p) o) ≡ Some (named_value n p v)
          inside (Some (Object c vs)) q = object_value c f vs v q
          inside (Some (Array t vs)) q = none_some v q
          inside None q = none_some v q

      -- a store to such a field
      pub cell_set : (cells : List Cell) (k f : ℕ) (v old : CoreValue) → field_in p f (slice_get cells k) ≡ Some old
          → source_state.with_field (n.field f).owner (n.field f).name (named_value n p v) (slice_get (map (named_cell n p) cells) k)
          (map (named_cell n p) cells) k
          ≡ map (named_cell n p) (with_field p f v (slice_get cells k) cells k)
      cell_set cells k f v old e =
          ap (λ o. source_state.with_field (n.field f).owner (n.field f).name (named_value n p v) o (map (named_cell n p) cells) k)
          (slice_get-map (named_cell n p) cells k) ∙ inside (slice_get cells k) e
        where
          inside : (o : Option Cell) → field_in p f o ≡ Some old
              → source_state.with_field (n.field f).owner (n.field f).name (named_value n p v) (option_map (named_cell n p) o) (map (named_cell n p) cells) k
              ≡ map (named_cell n p) (with_field p f v o cells k)
          inside (Some (Object c vs)) q =
              ap (λ z. slice_set (map (named_cell n p) cells) k (source_value.Object (n.class c) z)) (object_set c f vs v old q)
              ∙ set_map (named_cell n p) cells k (Object c (with_value (slot_of p c f) v vs))
          inside (Some (Array t vs)) q = none_some old q
          inside None q = none_some old q
