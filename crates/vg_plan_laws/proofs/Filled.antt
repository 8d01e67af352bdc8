-- All kept places are put into columns that have room for them.
use Rattle.std.proofs.Common.{◌≡◌, refl, sym, ap, subst, ◌∙◌, arith, ℕ, zero, suc, ◌+◌, ◌-◌, ◌<◌, ◌≤◌, ◌==◌, ◌&&◌, nat_lt, nat_le, Bool, true, false, List, []}
use Rattle.std.proofs.Common.{◌∷◌, ◌++◌, length, map, replicate, get_or, option_map, Option, Some, None, slice_get, if◌then◌else◌}
use Rattle.std.proofs.lemmas.Option.{same_Some, none-some, slice_get_within, slice_get-map}
use mathlib.Core.Logic.{inl, inr}
use Rattle.vg_codes.specs.Codes.{Codes}
use Rattle.vg_codes.specs.Dispatch.{is_within}
use Rattle.vg_core.specs.declared.heap.Cell.{Cell}
use Rattle.vg_core.specs.declared.heap.Cell.TheVariants.{Object, Array}
use Rattle.vg_core.specs.declared.heap.Heap.{Heap}
use Rattle.vg_core.specs.declared.program.Class.{Class}
use Rattle.vg_core.specs.declared.program.Field.{Field}
use Rattle.vg_core.specs.declared.program.Owner.{Owner}
use Rattle.vg_core.specs.declared.program.Owner.TheVariants.{InClass, InComponent}
use Rattle.vg_core.specs.declared.program.Tables.{Tables}
use Rattle.vg_core.specs.declared.value.CoreValue.{CoreValue}
use Rattle.vg_core.specs.Heap.{Kind, ObjectOf, ArrayOf, kind_of, Place, OfComponent, OfObject, OfArray, value_in, field_in, item_in, value_at}
use Rattle.vg_core.specs.Program.{Program}
use Rattle.vg_core.specs.Tables.{is_in, above_in, is_below, has_fields_of, is_component, slot_where, slot_in, slot_of, fields_in, global_slot_in, global_slot}
use Rattle.vg_coded.specs.Numbers.{coded}
use Rattle.vg_firm.specs.declared.step.Home.{Home}
use Rattle.vg_firm.specs.declared.step.Home.TheVariants.{Ram, Flash}
use Rattle.vg_firm.specs.Meaning.{column_of, entry}
use Rattle.vg_live.specs.declared.live_set.LiveSet.{LiveSet}
use Rattle.vg_number.specs.declared.numbers.Numbers.{Numbers}
use Rattle.vg_number.specs.Numbering.{kept_in, kinds_of}
use Rattle.vg_numbers.specs.Numbers.{count}
use Rattle.vg_packing.specs.Layout.{Layout, Spot, spot, spot_in, item_spot, first_in, first_with, first_of_owner}
use Rattle.vg_packing.specs.Layout as layout
use Rattle.vg_packing.specs.Packs.{IsKeptPlace}
use Rattle.vg_packing.proofs.Places.{hierarchy_of}
use Rattle.vg_placement.specs.declared.column.Held.{Held}
use Rattle.vg_placement.specs.declared.column.Held.TheVariants.{Field as TheField, Elements as TheItems}
use Rattle.vg_placement.specs.declared.column.Column.{Column}
use Rattle.vg_placement.specs.Columns.{Needs, items_count, owner_count}
use Rattle.vg_placement.specs.Needs.{needs}
use Rattle.vg_place.specs.declared.placing.Columns.{Columns}
use Rattle.vg_packed.specs.Apart.{held_where, held_in, HasNumbers}
use Rattle.vg_packed.proofs.Apart.{apart}
use Rattle.vg_packed.proofs.Counted.{has_numbers}
use Rattle.vg_pack_code.specs.declared.plan.Plan.{Plan}
use Rattle.vg_tables.specs.declared.entry.Entry.{Entry}
use Rattle.vg_tables.specs.declared.entry.Entry.TheVariants.{Number}
use Rattle.vg_tables.specs.Entries.{number_in}
use Rattle.vg_pack_values.specs.Columns.{numbers_in, blank_if, blank_rows}
use Rattle.vg_pack_values.specs.Places.{components_from, object_places, items_from, cell_places, kept_places, cells_from, all_places, with_places}
use Rattle.vg_packed.specs.Given.{IsGiven}
use Rattle.vg_packed.specs.Plans.{planned}
use Rattle.vg_plan_laws.specs.Stands.{StandsIn}
use Rattle.vg_plan_laws.proofs.Listed.{All, Right, RightOf, all_get, all_right}
use Rattle.vg_plan_laws.proofs.Tables.{start_within}
use Rattle.vg_plan_laws.proofs.Values.{AllKept, IsIn, all_hold}

-- ---- what has a value is there

pub field_there : (p : Tables) (f : ℕ) (o : Option Cell) (v : CoreValue) → field_in p f o ≡ Some v
    → (d i : ℕ) × (vs : List CoreValue) × (o ≡ Some (Object d vs)) × (slot_of p d f ≡ Some i)
field_there p f None v e = absurd (none-some v e)
field_there p f (Some (Array t vs)) v e = absurd (none-some v e)
field_there p f (Some (Object d vs)) v e = by (slot_of p d f) refl e
  where
    by : (s : Option ℕ) → slot_of p d f ≡ s → value_in s vs ≡ Some v
        → (d1 i : ℕ) × (vs1 : List CoreValue) × (Some (Object d vs) ≡ Some (Object d1 vs1)) × (slot_of p d1 f ≡ Some i)
    by None q g = absurd (none-some v g)
    by (Some i) q g = (d, i, vs, refl, q)

pub item_there : (i : ℕ) (o : Option Cell) (v : CoreValue) → item_in i o ≡ Some v
    → (t : ℕ) × (vs : List CoreValue) × (o ≡ Some (Array t vs)) × (i < length vs)
item_there i None v e = absurd (none-some v e)
item_there i (Some (Object d vs)) v e = absurd (none-some v e)
item_there i (Some (Array t vs)) v e = (t, vs, refl, slice_get_within vs i v e)

pub owner_of : (p : Tables) (d f i : ℕ) → slot_of p d f ≡ Some i
    → (y : Field) × (c : ℕ) × (slice_get p.fields f ≡ Some y) × (y.owner ≡ InClass c) × (is_below p d c ≡ true)
owner_of p d f i e = by (slice_get p.fields f) refl e
  where
    of_class : (y : Field) (c : ℕ) (b : Bool) → is_below p d c ≡ b → slot_where b y ≡ Some i → is_below p d c ≡ true
    of_class y c true q t = q
    of_class y c false q t = absurd (none-some i t)

    of_owner : (y : Field) (o : Owner) → y.owner ≡ o → slot_where (has_fields_of p d o) y ≡ Some i
        → (c : ℕ) × (y.owner ≡ InClass c) × (is_below p d c ≡ true)
    of_owner y (InClass c) q t = (c, q, of_class y c (is_below p d c) refl t)
    of_owner y (InComponent c) q t = absurd (none-some i t)

    by : (z : Option Field) → slice_get p.fields f ≡ z → slot_in p d z ≡ Some i
        → (y : Field) × (c : ℕ) × (slice_get p.fields f ≡ Some y) × (y.owner ≡ InClass c) × (is_below p d c ≡ true)
    by None q t = absurd (none-some i t)
    by (Some y) q t = let r = of_owner y y.owner refl t in (y, r.0, q, r.1, r.2)

-- a class that is below another is there
class_there : (p : Tables) (d c : ℕ) → is_below p d c ≡ true → (k : Class) × (slice_get p.classes d ≡ Some k)
class_there p d c e = by (slice_get p.classes d) refl e
  where
    by : (o : Option Class) → slice_get p.classes d ≡ o → is_in (above_in o) c ≡ true → (k : Class) × (slice_get p.classes d ≡ Some k)
    by None q t = let clash : false ≡ true = t in absurd (grind (arith, clash))
    by (Some k) q t = (k, q)

-- a field of a component is there
pub component_there : (p : Tables) (h : Heap) (f : ℕ) (v : CoreValue) → value_in (global_slot p f) h.globals ≡ Some v
    → (y : Field) × (k : ℕ) × (slice_get p.fields f ≡ Some y) × (y.owner ≡ InComponent k)
component_there p h f v e = by (slice_get p.fields f) refl e
  where
    of_owner : (y : Field) (o : Owner) → y.owner ≡ o → value_in (slot_where (is_component o) y) h.globals ≡ Some v → (k : ℕ) × (y.owner ≡ InComponent k)
    of_owner y (InClass c) q t = absurd (none-some v t)
    of_owner y (InComponent k) q t = (k, q)

    by : (z : Option Field) → slice_get p.fields f ≡ z → value_in (global_slot_in z) h.globals ≡ Some v
        → (y : Field) × (k : ℕ) × (slice_get p.fields f ≡ Some y) × (y.owner ≡ InComponent k)
    by None q t = absurd (none-some v t)
    by (Some y) q t = let r = of_owner y y.owner refl t in (y, r.0, q, r.1)

-- ---- columns without values

get_same : (f : Entry → ℕ) (m i : ℕ) (a : Entry) → i < m → slice_get (map f (replicate m a)) i ≡ Some (f a)
get_same f zero i a lt = absurd (omega (arith, lt))
get_same f (suc m) zero a lt = refl
get_same f (suc m) (suc i) a lt = get_same f m i a (omega (arith, lt))

-- a column among these holds something, and has a row of noughts
abbrev Blank : (cs : List Column) → (w : Held) → (k : ℕ) → Type 0
Blank cs w k = (i : ℕ) × (d : Column) × (slice_get cs i ≡ Some d) × (d.what ≡ w) × (slice_get (blank_rows cs) k ≡ Some (replicate d.count (Number 0)))

held_blank : (cs : List Column) (k : ℕ) (w : Held) → slice_get (held_in Ram cs) k ≡ Some w → Blank cs w k
held_blank [] k w e = absurd (none-some w e)
held_blank (c ∷ cs) k w e = by c.home k refl (λ j g. held_blank cs j w g) e
  where
    by : (h : Home) (k : ℕ) → c.home ≡ h → ((j : ℕ) → slice_get (held_in Ram cs) j ≡ Some w → Blank cs w j)
        → slice_get (held_where Ram h c.what (held_in Ram cs)) k ≡ Some w
        → (i : ℕ) × (d : Column) × (slice_get (c ∷ cs) i ≡ Some d) × (d.what ≡ w) × (slice_get (blank_if c.home c.count ++ blank_rows cs) k ≡ Some (replicate d.count (Number 0)))
    by Ram zero q rest g = (0, c, refl, same_Some c.what w g, ap (λ z. slice_get (blank_if z c.count ++ blank_rows cs) 0) q)
    by Ram (suc k) q rest g =
        let r = rest k g in (suc r.0, r.1, r.2, r.3, ap (λ z. slice_get (blank_if z c.count ++ blank_rows cs) (suc k)) q ∙ r.4)
    by Flash k q rest g = let r = rest k g in (suc r.0, r.1, r.2, r.3, ap (λ z. slice_get (blank_if z c.count ++ blank_rows cs) k) q ∙ r.4)

blank_entry : (k : Codes) (rows : List (List Entry)) (c i m : ℕ) → slice_get rows c ≡ Some (replicate m (Number 0)) → i < m
    → entry (numbers_in k rows) c i ≡ Some 0
blank_entry k rows c i m e lt =
    ap (λ z. slice_get (column_of z) i) (slice_get-map (λ entries. map (number_in k) entries) rows c ∙ ap (option_map (λ entries. map (number_in k) entries)) e)
    ∙ get_same (number_in k) m i (Number 0) lt

-- ---- all places

module _ (l : Layout) (p : Tables) (n : Numbers) (number_is : (j : ℕ) → l.numbering.number j ≡ get_or n.of_cell j 0) where
  kept_append : (xs ys : List Place) → AllKept l xs → AllKept l ys → AllKept l (xs ++ ys)
  kept_append [] ys a b = b
  kept_append (x ∷ xs) ys (h, a) b = (h, kept_append xs ys a b)

  in_left : (x : Place) (xs ys : List Place) → IsIn x xs → IsIn x (xs ++ ys)
  in_left x [] ys i = absurd i
  in_left x (z ∷ xs) ys (inl e) = inl e
  in_left x (z ∷ xs) ys (inr i) = inr (in_left x xs ys i)

  in_right : (x : Place) (xs ys : List Place) → IsIn x ys → IsIn x (xs ++ ys)
  in_right x [] ys i = i
  in_right x (z ∷ xs) ys i = inr (in_right x xs ys i)

  components_kept : (f : ℕ) (ys : List Field) → AllKept l (components_from f ys)
  components_kept f [] = tt
  components_kept f (y ∷ ys) = (tt, components_kept (suc f) ys)

  object_kept : (j : ℕ) (fs : List ℕ) → 0 < l.numbering.number j → AllKept l (object_places j fs)
  object_kept j [] pos = tt
  object_kept j (f ∷ fs) pos = (pos, object_kept j fs pos)

  items_kept : (j i : ℕ) (vs : List CoreValue) → 0 < l.numbering.number j → AllKept l (items_from j i vs)
  items_kept j i [] pos = tt
  items_kept j i (v ∷ vs) pos = (pos, items_kept j (suc i) vs pos)

  cell_kept : (j : ℕ) (c : Cell) → 0 < l.numbering.number j → AllKept l (cell_places p j c)
  cell_kept j (Object d vs) pos = object_kept j (fields_in (slice_get p.classes d)) pos
  cell_kept j (Array t vs) pos = items_kept j 0 vs pos

  if_kept : (j : ℕ) (c : Cell) → AllKept l (kept_places p n j c)
  if_kept j c = by (get_or n.of_cell j 0 == 0) refl
    where
      by : (b : Bool) → (get_or n.of_cell j 0 == 0) ≡ b → AllKept l (if b then [] else cell_places p j c)
      by true q = tt
      by false q = cell_kept j c (let e = number_is j in let ne : (get_or n.of_cell j 0 ≡ 0) → ⊥ = not_zero q in omega (arith, e, ne))
        where
          not_zero : (get_or n.of_cell j 0 == 0) ≡ false → (get_or n.of_cell j 0 ≡ 0) → ⊥
          not_zero f z = let clash : (0 == 0) ≡ false = subst (λ w. (w == 0) ≡ false) z f in grind (arith, clash)

  cells_kept : (j : ℕ) (cs : List Cell) → AllKept l (cells_from p n j cs)
  cells_kept j [] = tt
  cells_kept j (c ∷ cs) = kept_append (kept_places p n j c) (cells_from p n (suc j) cs) (if_kept j c) (cells_kept (suc j) cs)

  pub all_kept : (h : Heap) → AllKept l (all_places p h n)
  all_kept h = kept_append (components_from 0 p.fields) (cells_from p n 0 h.cells) (components_kept 0 p.fields) (cells_kept 0 h.cells)

  in_components : (i f : ℕ) (ys : List Field) → i < length ys → IsIn (OfComponent (i + f)) (components_from f ys)
  in_components i f [] lt = absurd (omega (arith, lt))
  in_components zero f (y ∷ ys) lt = inl (ap OfComponent (omega arith))
  in_components (suc i) f (y ∷ ys) lt =
      let z : i + suc f ≡ suc i + f = omega arith in
      inr (subst (λ w. IsIn (OfComponent w) (components_from (suc f) ys)) z (in_components i (suc f) ys (omega (arith, lt))))

  in_object : (j i f : ℕ) (fs : List ℕ) → slice_get fs i ≡ Some f → IsIn (OfObject j f) (object_places j fs)
  in_object j i f [] e = absurd (none-some f e)
  in_object j zero f (g ∷ fs) e = inl (ap (OfObject j) (same_Some g f e))
  in_object j (suc i) f (g ∷ fs) e = inr (in_object j i f fs e)

  in_items : (j i m : ℕ) (vs : List CoreValue) → i < length vs → IsIn (OfArray j (i + m)) (items_from j m vs)
  in_items j i m [] lt = absurd (omega (arith, lt))
  in_items j zero m (v ∷ vs) lt = inl (ap (OfArray j) (omega arith))
  in_items j (suc i) m (v ∷ vs) lt =
      let z : i + suc m ≡ suc i + m = omega arith in
      inr (subst (λ w. IsIn (OfArray j w) (items_from j (suc m) vs)) z (in_items j i (suc m) vs (omega (arith, lt))))

  in_kept : (x : Place) (j : ℕ) (c : Cell) → 0 < l.numbering.number j → IsIn x (cell_places p j c) → IsIn x (kept_places p n j c)
  in_kept x j c pos i = by (get_or n.of_cell j 0 == 0) refl
    where
      by : (b : Bool) → (get_or n.of_cell j 0 == 0) ≡ b → IsIn x (if b then [] else cell_places p j c)
      by true q = let e = number_is j in let z : get_or n.of_cell j 0 ≡ 0 = grind (arith, q) in absurd (omega (arith, pos, e, z))
      by false q = i

  in_cells : (x : Place) (j m : ℕ) (c : Cell) (cs : List Cell) → slice_get cs j ≡ Some c → IsIn x (kept_places p n (j + m) c) → IsIn x (cells_from p n m cs)
  in_cells x j m c [] e i = absurd (none-some c e)
  in_cells x zero m c (d ∷ cs) e i =
      let z : 0 + m ≡ m = omega arith in
      in_left x (kept_places p n m d) (cells_from p n (suc m) cs) (subst (λ w. IsIn x (kept_places p n w d)) z
      (subst (λ w. IsIn x (kept_places p n (0 + m) w)) (sym (same_Some d c e)) i))
  in_cells x (suc j) m c (d ∷ cs) e i =
      let z : suc j + m ≡ j + suc m = omega arith in
      in_right x (kept_places p n m d) (cells_from p n (suc m) cs) (in_cells x j (suc m) c cs e (subst (λ w. IsIn x (kept_places p n w c)) z i))

  at_cell : (x : Place) (j : ℕ) (c : Cell) (h : Heap) → slice_get h.cells j ≡ Some c → 0 < l.numbering.number j → IsIn x (cell_places p j c)
      → IsIn x (all_places p h n)
  at_cell x j c h e pos i =
      let z : j ≡ j + 0 = omega arith in
      in_right x (components_from 0 p.fields) (cells_from p n 0 h.cells)
      (in_cells x j 0 c h.cells e (subst (λ w. IsIn x (kept_places p n w c)) z (in_kept x j c pos i)))

-- ---- the columns of a packed program

module _ (p : Program) (h : Heap) (s : LiveSet) (n : Numbers) (c : Columns) (x : Plan) (g : IsGiven p h s n c) (st : StandsIn p h s n c x) where
  abbrev l : Layout
  l = planned h n x

  abbrev needed : Needs
  needed = needs p (kinds_of h) s

  in_column : (o : Option layout.Column) (i : ℕ) (q : Spot) → spot_in o i ≡ Some q
      → (b : layout.Column) × (o ≡ Some b) × (record { home = b.home; column = b.column; index = i } ≡ q)
  in_column None i q e = absurd (none-some q e)
  in_column (Some b) i q e = (b, refl, same_Some _ q e)

  kind_at : (j : ℕ) (d : Cell) → slice_get h.cells j ≡ Some d → slice_get (kinds_of h) j ≡ Some (kind_of d)
  kind_at j d e = slice_get-map kind_of h.cells j ∙ ap (option_map kind_of) e

  homes : (y : Place) (o : Spot) → spot p.tables l y ≡ Some o → o.home ≡ Ram
  homes (OfComponent f) o e = let r = in_column (l.column f) 0 o e in sym (ap (λ z. z.home) r.2) ∙ st.field_homes f r.0 r.1
  homes (OfObject j f) o e =
      let r = in_column (l.column f) (l.numbering.number j - first_with p.tables l f) o e in sym (ap (λ z. z.home) r.2) ∙ st.field_homes f r.0 r.1
  homes (OfArray j i) o e = by (slice_get (kinds_of h) j) refl e
    where
      by : (k : Option Kind) → slice_get (kinds_of h) j ≡ k → item_spot l (l.start j + i) k ≡ Some o → o.home ≡ Ram
      by None q g = absurd (none-some o g)
      by (Some (ObjectOf d)) q g = absurd (none-some o g)
      by (Some (ArrayOf t size)) q g = sym (ap (λ z. z.home) (same_Some _ o g)) ∙ st.item_homes t

  numbers : HasNumbers p.tables l
  numbers = has_numbers p.tables g.chains l (kept_in s) st.counted

  two_apart : (y z : Place) (v u : CoreValue) (o : Spot) → IsKeptPlace l y → IsKeptPlace l z → value_at p.tables h y ≡ Some v → value_at p.tables h z ≡ Some u
      → spot p.tables l y ≡ Some o → spot p.tables l z ≡ Some o → z ≡ y
  two_apart = apart p.tables g.typed.tables l (kept_in s) c.list st.has_columns numbers h refl

  right : All (Right p.tables needed (kinds_of h)) c.list
  right = subst (All (Right p.tables needed (kinds_of h))) (sym g.columns.list) (all_right p.tables needed (kinds_of h) 0x0100 0x008C)

  -- a column of a field has so many entries
  field_room : (k : Codes) (f i : ℕ) (y : Field) (b : layout.Column) → l.column f ≡ Some b → slice_get p.tables.fields f ≡ Some y
      → i < owner_count needed.count y.owner → entry (numbers_in k (blank_rows c.list)) b.column i ≡ Some 0
  field_room k f i y b e ey lt =
      let home = st.field_homes f b e in
      let r = held_blank c.list b.column (TheField f) (subst (λ z. slice_get (held_in z c.list) b.column ≡ Some (TheField f)) home (st.has_columns.fields f b e)) in
      let count_is = at r.1.what r.1.home r.1.width r.1.count r.3 (all_get (Right p.tables needed (kinds_of h)) c.list r.0 r.1 right r.2) in
      blank_entry k (blank_rows c.list) b.column i r.1.count r.4 (omega (arith, lt, count_is))
    where
      at : (w : Held) (hm : Home) (wide m : ℕ) → w ≡ TheField f → RightOf p.tables needed (kinds_of h) w hm wide m → m ≡ owner_count needed.count y.owner
      at w hm wide m ew rt = (subst (λ z. RightOf p.tables needed (kinds_of h) z hm wide m) ew rt).1 y ey

  items_room : (k : Codes) (j t i size : ℕ) → slice_get (kinds_of h) j ≡ Some (ArrayOf t size) → 0 < l.numbering.number j → i < size
      → entry (numbers_in k (blank_rows c.list)) (l.items t).column (l.start j + i) ≡ Some 0
  items_room k j t i zero e pos lt = absurd (omega (arith, lt))
  items_room k j t i (suc size) e pos lt =
      let r = held_blank c.list (l.items t).column (TheItems t)
      (subst (λ z. slice_get (held_in z c.list) (l.items t).column ≡ Some (TheItems t)) (st.item_homes t) (st.has_columns.items j t size (e, pos))) in
      let count_is = at r.1.what r.1.home r.1.width r.1.count r.3 (all_get (Right p.tables needed (kinds_of h)) c.list r.0 r.1 right r.2) in
      let start_is = st.has_columns.starts j t (suc size) (e, pos) in
      let w = start_within (kept_in s) t (suc size) 0 (kinds_of h) j e
      (let z : 0 + j ≡ j = omega arith in subst (λ q. kept_in s q ≡ true) (sym z) (st.has_columns.kept_cells j pos)) in
      blank_entry k (blank_rows c.list) (l.items t).column (l.start j + i) r.1.count r.4 (omega (arith, lt, count_is, start_is, w))
    where
      at : (w : Held) (hm : Home) (wide m : ℕ) → w ≡ TheItems t → RightOf p.tables needed (kinds_of h) w hm wide m → m ≡ items_count (kept_in s) t (kinds_of h)
      at w hm wide m ew rt = (subst (λ z. RightOf p.tables needed (kinds_of h) z hm wide m) ew rt).2

  within_count : (first count m : ℕ) → is_within first count m ≡ true → m - first < count
  within_count first count m e = by (nat_le first m) (nat_lt m (first + count)) refl refl e
    where
      by : (a b : Bool) → nat_le first m ≡ a → nat_lt m (first + count) ≡ b → (a && b) ≡ true → m - first < count
      by true true qa qb t = let x : first ≤ m = grind (arith, qa) in let y : m < first + count = grind (arith, qb) in omega (arith, x, y)
      by true false qa qb t = let clash : false ≡ true = t in absurd (grind (arith, clash))
      by false b qa qb t = let clash : false ≡ true = t in absurd (grind (arith, clash))

  room : (k : Codes) (y : Place) (o : Spot) (v : CoreValue) → IsKeptPlace l y → spot p.tables l y ≡ Some o → value_at p.tables h y ≡ Some v
      → (old : ℕ) × (entry (numbers_in k (blank_rows c.list)) o.column o.index ≡ Some old)
  room k (OfComponent f) o v ky e ev =
      let r = in_column (l.column f) 0 o e in
      let w = component_there p.tables h f v ev in
      let one : owner_count needed.count w.0.owner ≡ 1 = ap (owner_count needed.count) w.3 in
      (0, subst (λ z. entry (numbers_in k (blank_rows c.list)) z.column z.index ≡ Some 0) r.2 (field_room k f 0 w.0 r.0 r.1 w.2 (omega (arith, one))))
  room k (OfObject j f) o v ky e ev =
      let r = in_column (l.column f) (l.numbering.number j - first_with p.tables l f) o e in
      let w = field_there p.tables f (slice_get h.cells j) v ev in
      let b = owner_of p.tables w.0 f w.1 w.4 in
      let kind = kind_at j (Object w.0 w.2) w.3 in
      let inside = sym (numbers.spans j w.0 b.1 (kind, ky) (hierarchy_of p.tables g.typed.tables w.0 b.1 b.4)) ∙ b.4 in
      let first_is : first_with p.tables l f ≡ l.first b.1 = ap (first_in l) b.2 ∙ ap (first_of_owner l) b.3 in
      let count_is : owner_count needed.count b.0.owner ≡ l.count b.1 = ap (owner_count needed.count) b.3 ∙ sym (st.counted.counts b.1) in
      let lt = within_count (l.first b.1) (l.count b.1) (l.numbering.number j) inside in (
        0,
        subst (λ z. entry (numbers_in k (blank_rows c.list)) z.column z.index ≡ Some 0) r.2
            (field_room k f (l.numbering.number j - first_with p.tables l f) b.0 r.0 r.1 b.2 (omega (arith, lt, first_is, count_is))),
      )
  room k (OfArray j i) o v ky e ev =
      let w = item_there i (slice_get h.cells j) v ev in
      let kind = kind_at j (Array w.0 w.1) w.2 in
      let so = same_Some _ o (sym (ap (item_spot l (l.start j + i)) kind) ∙ e) in
      (0, subst (λ z. entry (numbers_in k (blank_rows c.list)) z.column z.index ≡ Some 0) so (items_room k j w.0 i (length w.1) kind ky w.3))

  is_there : (y : Place) (v : CoreValue) → IsKeptPlace l y → value_at p.tables h y ≡ Some v → IsIn y (all_places p.tables h n)
  is_there (OfComponent f) v ky ev =
      let w = component_there p.tables h f v ev in
      in_left l p.tables n (λ j. refl) (OfComponent f) (components_from 0 p.tables.fields) (cells_from p.tables n 0 h.cells)
      (let z : f + 0 ≡ f = omega arith in subst (λ q. IsIn (OfComponent q) (components_from 0 p.tables.fields)) z
      (in_components l p.tables n (λ j. refl) f 0 p.tables.fields (slice_get_within p.tables.fields f w.0 w.2)))
  is_there (OfObject j f) v ky ev =
      let w = field_there p.tables f (slice_get h.cells j) v ev in
      let b = owner_of p.tables w.0 f w.1 w.4 in
      let k = class_there p.tables w.0 b.1 b.4 in
      at_cell l p.tables n (λ j. refl) (OfObject j f) j (Object w.0 w.2) h w.3 ky
      (subst (λ z. IsIn (OfObject j f) (object_places j (fields_in z))) (sym k.1)
      (in_object l p.tables n (λ j. refl) j w.1 f k.0.fields ((g.typed.tables.slots w.0 w.1 f k.0 k.1).1 w.4)))
  is_there (OfArray j i) v ky ev =
      let w = item_there i (slice_get h.cells j) v ev in
      at_cell l p.tables n (λ j. refl) (OfArray j i) j (Array w.0 w.1) h w.2 ky
      (let z : i + 0 ≡ i = omega arith in subst (λ q. IsIn (OfArray j q) (items_from j 0 w.1)) z (in_items l p.tables n (λ j. refl) j i 0 w.1 w.3))

  pub values_stand : (k : Codes) (y : Place) (o : Spot) (v : CoreValue) → IsKeptPlace l y → spot p.tables l y ≡ Some o → value_at p.tables h y ≡ Some v
      → (o.home ≡ Ram)
      × (entry (with_places p.tables h l k (all_places p.tables h n) (numbers_in k (blank_rows c.list))) o.column o.index ≡ Some (coded l.numbering k v))
  values_stand k y o v ky e ev = (
    homes y o e,
    all_hold p.tables h l k homes two_apart y (all_places p.tables h n) (numbers_in k (blank_rows c.list)) (room k) (all_kept l p.tables n (λ j. refl) h)
        (is_there y v ky ev) o v e ev,
  )
