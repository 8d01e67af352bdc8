-- A store changes one place, and no kind of a cell.
use Rattle.std.proofs.Common.{◌≡◌, ◌≢◌, ◌⊎◌, refl, sym, ap, ◌∙◌, arith, ℕ, zero, suc, Bool, true, false, List, [], ◌∷◌, map, Option, Some, None}
use Rattle.std.proofs.Common.{slice_get, slice_set}
use Rattle.std.proofs.lemmas.Option.{same_Some, none-some}
use Rattle.std.proofs.lemmas.List.{length-set}
use mathlib.Core.Logic.{inl, inr}
use Rattle.vg_core.specs.declared.value.CoreValue.{CoreValue}
use Rattle.vg_core.specs.declared.heap.Cell.{Cell}
use Rattle.vg_core.specs.declared.heap.Cell.TheVariants.{Object, Array}
use Rattle.vg_core.specs.declared.heap.Heap.{Heap}
use Rattle.vg_core.specs.declared.program.Class.{Class}
use Rattle.vg_core.specs.declared.program.Field.{Field}
use Rattle.vg_core.specs.declared.program.Owner.{Owner}
use Rattle.vg_core.specs.declared.program.Owner.TheVariants.{InClass, InComponent}
use Rattle.vg_core.specs.declared.program.Tables.{Tables}
use Rattle.vg_core.specs.Tables.{above_in, is_in, has_fields_of, slot_where, slot_in, slot_of, global_slot}
use Rattle.vg_core.specs.Heap.{kind_of, ArrayOf, Place, OfComponent, OfObject, OfArray, value_in, with_value, field_in, item_in, value_at, with_field}
use Rattle.vg_core.specs.Heap.{with_item, set_at}
use Rattle.vg_core.specs.Typing.{WellFormed}
use Rattle.vg_heap.proofs.Lists.{same_or_not, get_set, get_other}

-- ---- places

-- what tells two places apart
abbrev sort_in : Place → ℕ
sort_in (OfComponent g) = 0
sort_in (OfObject k f) = 1
sort_in (OfArray k i) = 2

abbrev cell_in : Place → ℕ
cell_in (OfComponent g) = g
cell_in (OfObject k f) = k
cell_in (OfArray k i) = k

abbrev part_in : Place → ℕ
part_in (OfComponent g) = 0
part_in (OfObject k f) = f
part_in (OfArray k i) = i

other_sort : (x y : Place) → sort_in x ≢ sort_in y → x ≢ y
other_sort x y n e = n (ap sort_in e)

-- two places are the same or not
pub same_place : (x y : Place) → (x ≡ y) ⊎ (x ≢ y)
same_place (OfComponent f) (OfComponent g) = by (same_or_not f g)
  where
    by : (f ≡ g) ⊎ (f ≢ g) → (OfComponent f ≡ OfComponent g) ⊎ (OfComponent f ≢ OfComponent g)
    by (inl e) = inl (ap OfComponent e)
    by (inr n) = inr (λ e. n (ap cell_in e))
same_place (OfObject k f) (OfObject j g) = by (same_or_not k j) (same_or_not f g)
  where
    by : (k ≡ j) ⊎ (k ≢ j) → (f ≡ g) ⊎ (f ≢ g) → (OfObject k f ≡ OfObject j g) ⊎ (OfObject k f ≢ OfObject j g)
    by (inl e) (inl d) = inl (ap (λ z. OfObject z f) e ∙ ap (OfObject j) d)
    by (inr n) d = inr (λ e. n (ap cell_in e))
    by (inl e) (inr n) = inr (λ d. n (ap part_in d))
same_place (OfArray k f) (OfArray j g) = by (same_or_not k j) (same_or_not f g)
  where
    by : (k ≡ j) ⊎ (k ≢ j) → (f ≡ g) ⊎ (f ≢ g) → (OfArray k f ≡ OfArray j g) ⊎ (OfArray k f ≢ OfArray j g)
    by (inl e) (inl d) = inl (ap (λ z. OfArray z f) e ∙ ap (OfArray j) d)
    by (inr n) d = inr (λ e. n (ap cell_in e))
    by (inl e) (inr n) = inr (λ d. n (ap part_in d))
same_place (OfComponent f) (OfObject j g) = inr (other_sort _ _ (λ z. omega (arith, z)))
same_place (OfComponent f) (OfArray j g) = inr (other_sort _ _ (λ z. omega (arith, z)))
same_place (OfObject k f) (OfComponent g) = inr (other_sort _ _ (λ z. omega (arith, z)))
same_place (OfObject k f) (OfArray j g) = inr (other_sort _ _ (λ z. omega (arith, z)))
same_place (OfArray k f) (OfComponent g) = inr (other_sort _ _ (λ z. omega (arith, z)))
same_place (OfArray k f) (OfObject j g) = inr (other_sort _ _ (λ z. omega (arith, z)))

-- ---- values in slots

put_in : (o : Option ℕ) (vs : List CoreValue) (old v : CoreValue) → value_in o vs ≡ Some old → value_in o (with_value o v vs) ≡ Some v
put_in None vs old v e = absurd (none-some old e)
put_in (Some i) vs old v e = get_set vs i old v e

put_apart : (a b : Option ℕ) (vs : List CoreValue) (v : CoreValue) → ((i : ℕ) → a ≡ Some i → b ≡ Some i → ⊥) → value_in b (with_value a v vs) ≡ value_in b vs
put_apart None b vs v n = refl
put_apart (Some i) None vs v n = refl
put_apart (Some i) (Some j) vs v n = get_other vs i j v (λ e. n i refl (ap Some e))

-- ---- slots

module _ (p : Tables) (formed : WellFormed p) where
  -- a class with a slot is there
  class_there : (c f i : ℕ) → slot_of p c f ≡ Some i → (k : Class) × (slice_get p.classes c ≡ Some k)
  class_there c f i e = by (slice_get p.fields f) e
    where
      nothing_above : (d : ℕ) (o : Option Class) → slice_get p.classes c ≡ o → is_in (above_in o) d ≡ true → (k : Class) × (slice_get p.classes c ≡ Some k)
      nothing_above d (Some k) q t = (k, q)
      nothing_above d None q t = absurd (let clash : false ≡ true = t in cc)

      of_class : (y : Field) (d : ℕ) (b : Bool) → is_in (above_in (slice_get p.classes c)) d ≡ b → slot_where b y ≡ Some i → (k : Class)
          × (slice_get p.classes c ≡ Some k)
      of_class y d true q t = nothing_above d (slice_get p.classes c) refl q
      of_class y d false q t = absurd (none-some i t)

      of_owner : (y : Field) (o : Owner) → slot_where (has_fields_of p c o) y ≡ Some i → (k : Class) × (slice_get p.classes c ≡ Some k)
      of_owner y (InClass d) t = of_class y d (is_in (above_in (slice_get p.classes c)) d) refl t
      of_owner y (InComponent d) t = absurd (none-some i t)

      by : (o : Option Field) → slot_in p c o ≡ Some i → (k : Class) × (slice_get p.classes c ≡ Some k)
      by None t = absurd (none-some i t)
      by (Some y) t = of_owner y y.owner t

  -- in objects of one class two fields with one slot are one field
  pub one_field : (c f g i : ℕ) → slot_of p c f ≡ Some i → slot_of p c g ≡ Some i → f ≡ g
  one_field c f g i a b =
      let k = class_there c f i a in
      same_Some f g (sym ((formed.slots c i f k.0 k.1).1 a) ∙ (formed.slots c i g k.0 k.1).1 b)

  -- two fields of components with one slot are one field
  pub one_global : (f g i : ℕ) → global_slot p f ≡ Some i → global_slot p g ≡ Some i → f ≡ g
  one_global f g i a b = same_Some f g (sym ((formed.global_slots i f).1 a) ∙ (formed.global_slots i g).1 b)

-- ---- the place of a store

pub value_there : (p : Tables) (h : Heap) (x : Place) (old v : CoreValue) → value_at p h x ≡ Some old → value_at p (set_at p x v h) x ≡ Some v
value_there p h (OfComponent f) old v e = put_in (global_slot p f) h.globals old v e
value_there p h (OfObject k f) old v e = by (slice_get h.cells k) refl e
  where
    by : (o : Option Cell) → slice_get h.cells k ≡ o → field_in p f o ≡ Some old → field_in p f (slice_get (with_field p f v o h.cells k) k) ≡ Some v
    by None q t = absurd (none-some old t)
    by (Some (Array u vs)) q t = absurd (none-some old t)
    by (Some (Object c vs)) q t =
        ap (field_in p f) (get_set h.cells k (Object c vs) (Object c (with_value (slot_of p c f) v vs)) q) ∙ put_in (slot_of p c f) vs old v t
value_there p h (OfArray k i) old v e = by (slice_get h.cells k) refl e
  where
    by : (o : Option Cell) → slice_get h.cells k ≡ o → item_in i o ≡ Some old → item_in i (slice_get (with_item i v o h.cells k) k) ≡ Some v
    by None q t = absurd (none-some old t)
    by (Some (Object c vs)) q t = absurd (none-some old t)
    by (Some (Array u vs)) q t = ap (item_in i) (get_set h.cells k (Array u vs) (Array u (slice_set vs i v)) q) ∙ get_set vs i old v t

-- ---- other places

module _ (p : Tables) (formed : WellFormed p) (h : Heap) (v : CoreValue) where
  field_apart : (k f : ℕ) (y : Place) → y ≢ OfObject k f → value_at p (set_at p (OfObject k f) v h) y ≡ value_at p h y
  field_apart k f (OfComponent g) n = refl
  field_apart k f (OfObject j g) n = by (slice_get h.cells k) refl (same_or_not j k)
    where
      here : (c : ℕ) (vs : List CoreValue) → slice_get h.cells k ≡ Some (Object c vs) → j ≡ k
          → field_in p g (slice_get (slice_set h.cells k (Object c (with_value (slot_of p c f) v vs))) j) ≡ field_in p g (slice_get h.cells j)
      here c vs q e =
          ap (λ z. field_in p g (slice_get (slice_set h.cells k (Object c (with_value (slot_of p c f) v vs))) z)) e
          ∙ (ap (field_in p g) (get_set h.cells k (Object c vs) (Object c (with_value (slot_of p c f) v vs)) q)
          ∙ (put_apart (slot_of p c f) (slot_of p c g) vs v (λ i a b. n (ap (λ z. OfObject z g) e ∙ ap (OfObject k) (sym (one_field p formed c f g i a b))))
          ∙ (sym (ap (field_in p g) q) ∙ ap (λ z. field_in p g (slice_get h.cells z)) (sym e))))

      by : (o : Option Cell) → slice_get h.cells k ≡ o → (j ≡ k) ⊎ (j ≢ k)
          → field_in p g (slice_get (with_field p f v o h.cells k) j) ≡ field_in p g (slice_get h.cells j)
      by None q d = refl
      by (Some (Array u vs)) q d = refl
      by (Some (Object c vs)) q (inl e) = here c vs q e
      by (Some (Object c vs)) q (inr d) = ap (field_in p g) (get_other h.cells k j (Object c (with_value (slot_of p c f) v vs)) d)
  field_apart k f (OfArray j i) n = by (slice_get h.cells k) refl (same_or_not j k)
    where
      by : (o : Option Cell) → slice_get h.cells k ≡ o → (j ≡ k) ⊎ (j ≢ k)
          → item_in i (slice_get (with_field p f v o h.cells k) j) ≡ item_in i (slice_get h.cells j)
      by None q d = refl
      by (Some (Array u vs)) q d = refl
      by (Some (Object c vs)) q (inr d) = ap (item_in i) (get_other h.cells k j (Object c (with_value (slot_of p c f) v vs)) d)
      by (Some (Object c vs)) q (inl e) =
          ap (λ z. item_in i (slice_get (slice_set h.cells k (Object c (with_value (slot_of p c f) v vs))) z)) e
          ∙ (ap (item_in i) (get_set h.cells k (Object c vs) (Object c (with_value (slot_of p c f) v vs)) q)
          ∙ (sym (ap (item_in i) q) ∙ ap (λ z. item_in i (slice_get h.cells z)) (sym e)))

  item_apart : (k i : ℕ) (y : Place) → y ≢ OfArray k i → value_at p (set_at p (OfArray k i) v h) y ≡ value_at p h y
  item_apart k i (OfComponent g) n = refl
  item_apart k i (OfObject j g) n = by (slice_get h.cells k) refl (same_or_not j k)
    where
      by : (o : Option Cell) → slice_get h.cells k ≡ o → (j ≡ k) ⊎ (j ≢ k)
          → field_in p g (slice_get (with_item i v o h.cells k) j) ≡ field_in p g (slice_get h.cells j)
      by None q d = refl
      by (Some (Object c vs)) q d = refl
      by (Some (Array u vs)) q (inr d) = ap (field_in p g) (get_other h.cells k j (Array u (slice_set vs i v)) d)
      by (Some (Array u vs)) q (inl e) =
          ap (λ z. field_in p g (slice_get (slice_set h.cells k (Array u (slice_set vs i v))) z)) e
          ∙ (ap (field_in p g) (get_set h.cells k (Array u vs) (Array u (slice_set vs i v)) q)
          ∙ (sym (ap (field_in p g) q) ∙ ap (λ z. field_in p g (slice_get h.cells z)) (sym e)))
  item_apart k i (OfArray j m) n = by (slice_get h.cells k) refl (same_or_not j k)
    where
      here : (u : ℕ) (vs : List CoreValue) → slice_get h.cells k ≡ Some (Array u vs) → j ≡ k
          → item_in m (slice_get (slice_set h.cells k (Array u (slice_set vs i v))) j) ≡ item_in m (slice_get h.cells j)
      here u vs q e =
          ap (λ z. item_in m (slice_get (slice_set h.cells k (Array u (slice_set vs i v))) z)) e
          ∙ (ap (item_in m) (get_set h.cells k (Array u vs) (Array u (slice_set vs i v)) q)
          ∙ (get_other vs i m v (λ d. n (ap (λ z. OfArray z m) e ∙ ap (OfArray k) d))
          ∙ (sym (ap (item_in m) q) ∙ ap (λ z. item_in m (slice_get h.cells z)) (sym e))))

      by : (o : Option Cell) → slice_get h.cells k ≡ o → (j ≡ k) ⊎ (j ≢ k)
          → item_in m (slice_get (with_item i v o h.cells k) j) ≡ item_in m (slice_get h.cells j)
      by None q d = refl
      by (Some (Object c vs)) q d = refl
      by (Some (Array u vs)) q (inl e) = here u vs q e
      by (Some (Array u vs)) q (inr d) = ap (item_in m) (get_other h.cells k j (Array u (slice_set vs i v)) d)

  pub value_apart : (x y : Place) → y ≢ x → value_at p (set_at p x v h) y ≡ value_at p h y
  value_apart (OfComponent f) (OfComponent g) n =
      put_apart (global_slot p f) (global_slot p g) h.globals v (λ i a b. n (ap OfComponent (sym (one_global p formed f g i a b))))
  value_apart (OfComponent f) (OfObject j g) n = refl
  value_apart (OfComponent f) (OfArray j i) n = refl
  value_apart (OfObject k f) y n = field_apart k f y n
  value_apart (OfArray k i) y n = item_apart k i y n

-- ---- kinds

set_kind : (cells : List Cell) (k : ℕ) (c d : Cell) → slice_get cells k ≡ Some c → kind_of d ≡ kind_of c → map kind_of (slice_set cells k d) ≡ map kind_of cells
set_kind [] k c d e q = refl
set_kind (x ∷ xs) zero c d e q = ap (λ z. z ∷ map kind_of xs) (q ∙ ap kind_of (sym (same_Some x c e)))
set_kind (x ∷ xs) (suc k) c d e q = ap (λ z. kind_of x ∷ z) (set_kind xs k c d e q)

pub same_kinds : (p : Tables) (h : Heap) (x : Place) (v : CoreValue) → map kind_of (set_at p x v h).cells ≡ map kind_of h.cells
same_kinds p h (OfComponent f) v = refl
same_kinds p h (OfObject k f) v = by (slice_get h.cells k) refl
  where
    by : (o : Option Cell) → slice_get h.cells k ≡ o → map kind_of (with_field p f v o h.cells k) ≡ map kind_of h.cells
    by None e = refl
    by (Some (Array u vs)) e = refl
    by (Some (Object c vs)) e = set_kind h.cells k (Object c vs) _ e refl
same_kinds p h (OfArray k i) v = by (slice_get h.cells k) refl
  where
    by : (o : Option Cell) → slice_get h.cells k ≡ o → map kind_of (with_item i v o h.cells k) ≡ map kind_of h.cells
    by None e = refl
    by (Some (Object c vs)) e = refl
    by (Some (Array u vs)) e = set_kind h.cells k (Array u vs) _ e (ap (ArrayOf u) (length-set vs i v))
