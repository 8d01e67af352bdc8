-- The values in the heap under numbers and under names.
use Rattle.std.proofs.Common.{◌≡◌, ℕ, suc, ◌==◌, Bool, true, false, List, [], ◌∷◌, Option, Some, None, option_map, slice_get}
use Rattle.std.proofs.Common.{if◌then◌else◌, refl, sym, ap, ◌∙◌}
use Rattle.std.proofs.lemmas.Bool.{eqb-true}
use Rattle.std.proofs.lemmas.Option.{slice_get-map}
use Rattle.vg_source.specs.Values as source_value
use Rattle.vg_source.specs.State as source_state
use Rattle.vg_source.specs.State.{find_value}
use Rattle.vg_core.specs.declared.value.CoreValue.{CoreValue}
use Rattle.vg_core.specs.declared.value.CoreValue.TheVariants.{Obj, Arr}
use Rattle.vg_core.specs.declared.heap.Cell.{Cell}
use Rattle.vg_core.specs.declared.heap.Cell.TheVariants.{Object, Array}
use Rattle.vg_core.specs.declared.heap.Heap.{Heap}
use Rattle.vg_core.specs.declared.member.Member as core
use Rattle.vg_core.specs.declared.program.Class.{Class}
use Rattle.vg_core.specs.declared.program.Field.{Field}
use Rattle.vg_core.specs.declared.program.Tables.{Tables}
use Rattle.vg_core.specs.Tables.{fields_in}
use Rattle.vg_core.specs.Heap.{Kind, Place, OfComponent, OfObject, OfArray, class_in, value_in, field_in, item_in, value_at}
use Rattle.vg_core.specs.Types.{HasFields}
use Rattle.vg_core.specs.Typing.{WellFormed}
use Rattle.vg_core.specs.Naming.{Naming, named_value, keyed, named_cell, named_heap}
use Rattle.vg_sound.specs.Good.{TypedHeap}
use Rattle.vg_sound.proofs.Values.{the_same, none_some}
use Rattle.vg_renamed.specs.IsNamed.{KeysTell}
use Rattle.vg_renamed.proofs.Fields.{component_value, cell_value}
use Rattle.vg_live.specs.Rules.{cell_in, Keeps}
use Rattle.vg_live.specs.Rules as rules
use Rattle.vg_live_source.specs.Members as source
use Rattle.vg_live_source.specs.Rules as source_rules
use Rattle.vg_live_named.specs.Members.{named_member}
use Rattle.vg_live_named.proofs.Cells.{object_at}
use Rattle.vg_live_named.proofs.Names.{mapped}

module _ (n : Naming) (p : Tables) where
  -- a place under its names
  abbrev pub named_place : Place → source.Place
  named_place (OfComponent f) = source.OfComponent (n.field f).owner (n.field f).name
  named_place (OfObject k f) = source.OfObject k (n.field f).owner (n.field f).name
  named_place (OfArray k i) = source.OfArray k i

  -- ---- what values refer to

  pub cell_same : (v : CoreValue) → source_rules.cell_in (named_value n p v) ≡ cell_in v
  cell_same (Obj k) = refl
  cell_same (Arr k) = refl
  cell_same _ = refl

  pub keeps_forth : (v : CoreValue) (y : core.Member) → Keeps v y → source_rules.Keeps (named_value n p v) (named_member n y)
  keeps_forth _ _ rules.method = source_rules.method
  keeps_forth _ _ rules.receiver = source_rules.receiver

  -- ---- from numbers to names

  module _ (keys : KeysTell n p) (formed : WellFormed p) (h : Heap) where
    item_forth : (i : ℕ) (o : Option Cell) (v : CoreValue) → item_in i o ≡ Some v
        → source.item_in i (source_state.items_in (option_map (named_cell n p) o)) ≡ Some (named_value n p v)
    item_forth i (Some (Array t vs)) v e = slice_get-map (named_value n p) vs i ∙ ap (option_map (named_value n p)) e
    item_forth i (Some (Object c vs)) v e = none_some v e
    item_forth i None v e = none_some v e

    pub value_forth : (x : Place) (v : CoreValue) → value_at p h x ≡ Some v → source.value_at (named_heap n p h) (named_place x) ≡ Some (named_value n p v)
    value_forth (OfComponent f) v e = component_value n p keys formed h f v e
    value_forth (OfObject k f) v e = cell_value n p keys formed h.cells k f v e
    value_forth (OfArray k i) v e =
        ap (λ z. source.item_in i (source_state.items_in z)) (slice_get-map (named_cell n p) h.cells k) ∙ item_forth i (slice_get h.cells k) v e

    pub class_forth : (k c : ℕ) → class_in (slice_get h.cells k) ≡ Some c → source_state.class_at (named_heap n p h) k ≡ Some (n.class c)
    class_forth k c e = ap source_state.class_in (slice_get-map (named_cell n p) h.cells k) ∙ by (slice_get h.cells k) e
      where
        by : (o : Option Cell) → class_in o ≡ Some c → source_state.class_in (option_map (named_cell n p) o) ≡ Some (n.class c)
        by (Some (Object d vs)) q = ap (λ z. Some (n.class z)) (the_same _ _ q)
        by (Some (Array t vs)) q = none_some c q
        by None q = none_some c q

    -- ---- and back

    pub class_back : (k : ℕ) (d : List ℕ) → source_state.class_at (named_heap n p h) k ≡ Some d
        → (c : ℕ) × (vs : List CoreValue) × (slice_get h.cells k ≡ Some (Object c vs)) × (d ≡ n.class c)
    class_back k d e = by (slice_get h.cells k) refl (ap source_state.class_in (sym (slice_get-map (named_cell n p) h.cells k)) ∙ e)
      where
        by : (o : Option Cell) → slice_get h.cells k ≡ o → source_state.class_in (option_map (named_cell n p) o) ≡ Some d
            → (c : ℕ) × (vs : List CoreValue) × (slice_get h.cells k ≡ Some (Object c vs)) × (d ≡ n.class c)
        by (Some (Object c vs)) eo q = (c, vs, eo, sym (the_same _ _ q))
        by (Some (Array t vs)) eo q = none_some d q
        by None eo q = none_some d q

    -- the value under the key of a field stands at the place of this field
    abbrev pub FoundAt : List ℕ → List CoreValue → ℕ → source_value.Value → Type 0
    FoundAt fs vs f v = (i : ℕ) × (u : CoreValue) × (slice_get fs i ≡ Some f) × (slice_get vs i ≡ Some u) × (v ≡ named_value n p u)

    found_back : (κ : List Kind) (fs : List ℕ) (vs : List CoreValue) (f : ℕ) (x : Field) (v : source_value.Value) → slice_get p.fields f ≡ Some x
        → HasFields p κ fs vs → find_value (keyed n p fs vs) (n.field f).owner (n.field f).name ≡ Some v → FoundAt fs vs f v
    found_back κ [] [] f x v ex h e = none_some v e
    found_back κ (g ∷ fs) (u ∷ vs) f x v ex ((y, ey, a), h) e =
        by (g == f) (eqb-true g f)
        (sym (ap (λ b. if b then Some (named_value n p u) else find_value (keyed n p fs vs) (n.field f).owner (n.field f).name) (keys f g x y ex ey)) ∙ e)
        (λ q. found_back κ fs vs f x v ex h q)
      where
        later : FoundAt fs vs f v → FoundAt (g ∷ fs) (u ∷ vs) f v
        later (i, w, ef, ev, q) = (suc i, w, ef, ev, q)

        by : (b : Bool) → (b ≡ true → g ≡ f)
            → (if b then Some (named_value n p u) else find_value (keyed n p fs vs) (n.field f).owner (n.field f).name) ≡ Some v
            → (find_value (keyed n p fs vs) (n.field f).owner (n.field f).name ≡ Some v → FoundAt fs vs f v) → FoundAt (g ∷ fs) (u ∷ vs) f v
        by true same q go = (0, u, ap Some (same refl), refl, sym (the_same _ _ q))
        by false same q go = later (go q)
    found_back κ [] (u ∷ vs) f x v ex h e = absurd h
    found_back κ (g ∷ fs) [] f x v ex h e = absurd h

    -- the value of a place that a name finds is one that a number finds
    abbrev pub HeldAt : Place → source_value.Value → Type 0
    HeldAt x v = (u : CoreValue) × (value_at p h x ≡ Some u) × (v ≡ named_value n p u)

    module _ (κ : List Kind) (typed : TypedHeap p κ h) where
      pub component_back : (f : ℕ) (x : Field) (v : source_value.Value) → slice_get p.fields f ≡ Some x
          → source.value_at (named_heap n p h) (source.OfComponent (n.field f).owner (n.field f).name) ≡ Some v → HeldAt (OfComponent f) v
      component_back f x v ex e = by (found_back κ p.globals h.globals f x v ex typed.globals e)
        where
          by : FoundAt p.globals h.globals f v → HeldAt (OfComponent f) v
          by (i, u, ef, ev, q) = (u, ap (λ o. value_in o h.globals) ((formed.global_slots i f).0 ef) ∙ ev, q)

      pub object_back : (k f : ℕ) (x : Field) (v : source_value.Value) → slice_get p.fields f ≡ Some x
          → source.value_at (named_heap n p h) (source.OfObject k (n.field f).owner (n.field f).name) ≡ Some v → HeldAt (OfObject k f) v
      object_back k f x v ex e =
          by (slice_get h.cells k) refl (ap (source_state.field_in (n.field f).owner (n.field f).name) (sym (slice_get-map (named_cell n p) h.cells k)) ∙ e)
        where
          found : (c : ℕ) (vs : List CoreValue) (l : Class) → slice_get h.cells k ≡ Some (Object c vs) → slice_get p.classes c ≡ Some l
              → FoundAt l.fields vs f v → HeldAt (OfObject k f) v
          found c vs l ec el (i, u, ef, ev, q) =
              (u, ap (field_in p f) ec ∙ (ap (λ o. value_in o vs) ((formed.slots c i f l el).0 ef) ∙ ev), q)

          of_class : (c : ℕ) (vs : List CoreValue) → slice_get h.cells k ≡ Some (Object c vs)
              → find_value (keyed n p (fields_in (slice_get p.classes c)) vs) (n.field f).owner (n.field f).name ≡ Some v
              → ((l : Class) × (slice_get p.classes c ≡ Some l) × HasFields p κ l.fields vs) → HeldAt (OfObject k f) v
          of_class c vs ec q (l, el, a) = found c vs l ec el
              (found_back κ l.fields vs f x v ex a (ap (λ z. find_value (keyed n p (fields_in z) vs) (n.field f).owner (n.field f).name) (sym el) ∙ q))

          by : (o : Option Cell) → slice_get h.cells k ≡ o
              → source_state.field_in (n.field f).owner (n.field f).name (option_map (named_cell n p) o) ≡ Some v → HeldAt (OfObject k f) v
          by (Some (Object c vs)) ec q = of_class c vs ec q (object_at p κ h typed k c vs ec)
          by (Some (Array t vs)) ec q = none_some v q
          by None ec q = none_some v q

      pub array_back : (k i : ℕ) (v : source_value.Value) → source.value_at (named_heap n p h) (source.OfArray k i) ≡ Some v → HeldAt (OfArray k i) v
      array_back k i v e =
          by (slice_get h.cells k) refl (ap (λ z. source.item_in i (source_state.items_in z)) (sym (slice_get-map (named_cell n p) h.cells k)) ∙ e)
        where
          found : (t : ℕ) (vs : List CoreValue) → slice_get h.cells k ≡ Some (Array t vs)
              → ((u : CoreValue) × (slice_get vs i ≡ Some u) × (v ≡ named_value n p u)) → HeldAt (OfArray k i) v
          found t vs ec (u, eu, q) = (u, ap (item_in i) ec ∙ eu, q)

          by : (o : Option Cell) → slice_get h.cells k ≡ o → source.item_in i (source_state.items_in (option_map (named_cell n p) o)) ≡ Some v
              → HeldAt (OfArray k i) v
          by (Some (Array t vs)) ec q =
              found t vs ec (mapped (named_value n p) (slice_get vs i) v (sym (slice_get-map (named_value n p) vs i) ∙ q))
          by (Some (Object c vs)) ec q = none_some v q
          by None ec q = none_some v q
