-- Two kept places with one spot are one place.
use Rattle.std.proofs.Common.{◌≡◌, ◌≢◌, ◌⊎◌, refl, sym, ap, subst, ◌∙◌, arith, ℕ, zero, suc, ◌+◌, ◌-◌, ◌≤◌, ◌<◌, Bool, true, false, ◌==◌, ◌&&◌, nat_le, nat_lt}
use Rattle.std.proofs.Common.{List, [], ◌∷◌, length, map, Option, Some, None, option_map, slice_get, if◌then◌else◌}
use Rattle.std.proofs.lemmas.Option.{same_Some, none-some, slice_get-map, slice_get_within}
use mathlib.Core.Logic.{inl, inr}
use Rattle.vg_codes.specs.Dispatch.{is_within}
use Rattle.vg_core.specs.declared.heap.Cell.{Cell}
use Rattle.vg_core.specs.declared.heap.Cell.TheVariants.{Object, Array}
use Rattle.vg_core.specs.declared.heap.Heap.{Heap}
use Rattle.vg_core.specs.declared.program.Field.{Field}
use Rattle.vg_core.specs.declared.program.Owner.{Owner}
use Rattle.vg_core.specs.declared.program.Owner.TheVariants.{InClass, InComponent}
use Rattle.vg_core.specs.declared.program.Tables.{Tables}
use Rattle.vg_core.specs.declared.value.CoreValue.{CoreValue}
use Rattle.vg_core.specs.Heap.{Kind, ArrayOf, kind_of, Place, OfComponent, OfObject, OfArray, value_in, field_in, item_in, value_at}
use Rattle.vg_core.specs.Tables.{is_below, one_hierarchy, has_fields_of, is_component, slot_where, slot_in, slot_of, global_slot_in}
use Rattle.vg_core.specs.Typing.{WellFormed}
use Rattle.vg_heap.proofs.Lists.{same_or_not}
use Rattle.vg_packing.specs.Layout.{Layout, Spot, spot, spot_in, item_spot, first_in, first_with}
use Rattle.vg_packing.specs.Layout as layout
use Rattle.vg_packing.specs.Allowed.{IsObject, IsArray}
use Rattle.vg_packing.specs.Packs.{IsKeptPlace}
use Rattle.vg_packing.proofs.Places.{hierarchy_of, same_hierarchy}
use Rattle.vg_placement.specs.declared.column.Held.{Held}
use Rattle.vg_placement.specs.declared.column.Held.TheVariants.{Initial, Field as TheField, Elements as TheItems, Table as TheTable}
use Rattle.vg_placement.specs.declared.column.Column.{Column}
use Rattle.vg_placement.specs.Columns.{elements, start_of}
use Rattle.vg_packed.specs.Apart.{held_in, HasColumns, HasNumbers}

-- arrays of one type stand one behind another
behind : (kept : ℕ → Bool) (t size at : ℕ) (κ : List Kind) (j k : ℕ) → j < k → k < length κ → slice_get κ j ≡ Some (ArrayOf t size)
    → kept (at + j) ≡ true → start_of kept t at κ j + size ≤ start_of kept t at κ k
behind kept t size at [] j k lt within e ks = absurd (none-some (ArrayOf t size) e)
behind kept t size at (a ∷ κ) j zero lt within e ks = absurd (omega (arith, lt))
behind kept t size at (a ∷ κ) zero (suc k) lt within e ks = omega (arith, first)
  where
    same : (t == t) ≡ true
    same = grind arith

    first : size ≤ elements (kept at) t a + start_of kept t (suc at) κ k
    first =
        let z : at + 0 ≡ at = omega arith in
        subst (λ b. size ≤ elements b t a + start_of kept t (suc at) κ k) (sym (subst (λ n. kept n ≡ true) z ks))
        (subst (λ c. size ≤ elements true t c + start_of kept t (suc at) κ k) (sym (same_Some a (ArrayOf t size) e))
        (subst (λ b. size ≤ (if b then size else 0) + start_of kept t (suc at) κ k) (sym same) (omega arith)))
behind kept t size at (a ∷ κ) (suc j) (suc k) lt within e ks =
    let z : at + suc j ≡ suc at + j = omega arith in
    let h = behind kept t size (suc at) κ j k (omega (arith, lt)) (omega (arith, within)) e (subst (λ n. kept n ≡ true) z ks) in omega (arith, h)

abbrev sort_of : Held → ℕ
sort_of (TheField f) = 1
sort_of (TheItems t) = 2
sort_of Initial = 3
sort_of (TheTable t) = 4

abbrev number_in : Held → ℕ
number_in (TheField f) = f
number_in (TheItems t) = t
number_in Initial = 0
number_in (TheTable t) = t

-- ---- what has a value is there

field_there : (p : Tables) (f : ℕ) (o : Option Cell) (v : CoreValue) → field_in p f o ≡ Some v
    → (d i : ℕ) × (vs : List CoreValue) × (o ≡ Some (Object d vs)) × (slot_of p d f ≡ Some i)
field_there p f None v e = absurd (none-some v e)
field_there p f (Some (Array t vs)) v e = absurd (none-some v e)
field_there p f (Some (Object d vs)) v e = by (slot_of p d f) refl e
  where
    by : (s : Option ℕ) → slot_of p d f ≡ s → value_in s vs ≡ Some v
        → (d1 i : ℕ) × (vs1 : List CoreValue) × (Some (Object d vs) ≡ Some (Object d1 vs1)) × (slot_of p d1 f ≡ Some i)
    by None q g = absurd (none-some v g)
    by (Some i) q g = (d, i, vs, refl, q)

item_there : (i : ℕ) (o : Option Cell) (v : CoreValue) → item_in i o ≡ Some v → (t : ℕ) × (vs : List CoreValue) × (o ≡ Some (Array t vs)) × (i < length vs)
item_there i None v e = absurd (none-some v e)
item_there i (Some (Object d vs)) v e = absurd (none-some v e)
item_there i (Some (Array t vs)) v e = (t, vs, refl, slice_get_within vs i v e)

-- the class that declares a field of an object
owner_of : (p : Tables) (d f i : ℕ) → slot_of p d f ≡ Some i
    → (y : Field) × (c : ℕ) × (slice_get p.fields f ≡ Some y) × (y.owner ≡ InClass c) × (is_below p d c ≡ true)
owner_of p d f i e = by (slice_get p.fields f) refl e
  where
    of_class : (y : Field) (c : ℕ) (b : Bool) → is_below p d c ≡ b → slot_where b y ≡ Some i → is_below p d c ≡ true
    of_class y c true q t = q
    of_class y c false q t = absurd (none-some i t)

    of_owner : (y : Field) (o : Owner) → y.owner ≡ o → slot_where (has_fields_of p d o) y ≡ Some i
        → (c : ℕ) × (y.owner ≡ InClass c) × (is_below p d c ≡ true)
    of_owner y (InClass c) q t = (c, q, of_class y c (is_below p d c) refl t)
    of_owner y (InComponent c) q t = absurd (none-some i t)

    by : (z : Option Field) → slice_get p.fields f ≡ z → slot_in p d z ≡ Some i
        → (y : Field) × (c : ℕ) × (slice_get p.fields f ≡ Some y) × (y.owner ≡ InClass c) × (is_below p d c ≡ true)
    by None q t = absurd (none-some i t)
    by (Some y) q t = let r = of_owner y y.owner refl t in (y, r.0, q, r.1, r.2)

-- a field of a component is none of an object
not_both : (p : Tables) (h : Heap) (f d i : ℕ) (v : CoreValue) → value_at p h (OfComponent f) ≡ Some v → slot_of p d f ≡ Some i → ⊥
not_both p h f d i v e s = by (owner_of p d f i s)
  where
    none : (y : Field) (c : ℕ) → y.owner ≡ InClass c → slot_where (is_component y.owner) y ≡ None
    none y c q = ap (λ z. slot_where (is_component z) y) q

    by : (y : Field) × (c : ℕ) × (slice_get p.fields f ≡ Some y) × (y.owner ≡ InClass c) × (is_below p d c ≡ true) → ⊥
    by (y, c, ey, eo, eb) = none-some v (sym (ap (λ z. value_in z h.globals) (ap global_slot_in ey ∙ none y c eo)) ∙ e)

within_first : (first count n : ℕ) → is_within first count n ≡ true → first ≤ n
within_first first count n e = by (nat_le first n) refl e
  where
    by : (b : Bool) → nat_le first n ≡ b → (b && nat_lt n (first + count)) ≡ true → first ≤ n
    by true q g = grind (arith, q)
    by false q g = absurd (let clash : false ≡ true = g in cc)

module _ (p : Tables) (formed : WellFormed p) (l : Layout) (kept : ℕ → Bool) (cs : List Column) (has : HasColumns l kept cs) (numbers : HasNumbers p l)
    (h : Heap)
    (shaped : map kind_of h.cells ≡ l.kinds) where
  kind_there : (j : ℕ) (c : Cell) → slice_get h.cells j ≡ Some c → slice_get l.kinds j ≡ Some (kind_of c)
  kind_there j c e = ap (λ z. slice_get z j) (sym shaped) ∙ (slice_get-map kind_of h.cells j ∙ ap (option_map kind_of) e)

  -- what the column of a place holds, and the place's index
  abbrev Stands : Place → Spot → Type 0
  Stands (OfComponent f) o = (slice_get (held_in o.home cs) o.column ≡ Some (TheField f)) × ((d i : ℕ) → slot_of p d f ≡ Some i → ⊥)
  Stands (OfObject j f) o =
      (slice_get (held_in o.home cs) o.column ≡ Some (TheField f)) × (d i : ℕ) × IsObject l j d × (slot_of p d f ≡ Some i)
      × (o.index ≡ l.numbering.number j - first_with p l f)
  Stands (OfArray j i) o =
      (t n : ℕ) × (slice_get (held_in o.home cs) o.column ≡ Some (TheItems t)) × IsArray l j t n × (i < n) × (o.index ≡ start_of kept t 0 l.kinds j + i)

  in_column : (c : Option layout.Column) (i : ℕ) (o : Spot) → spot_in c i ≡ Some o
      → (k : layout.Column) × (c ≡ Some k) × (record { home = k.home; column = k.column; index = i } ≡ o)
  in_column None i o e = absurd (none-some o e)
  in_column (Some k) i o e = (k, refl, same_Some _ o e)

  stands : (x : Place) (o : Spot) (v : CoreValue) → IsKeptPlace l x → spot p l x ≡ Some o → value_at p h x ≡ Some v → Stands x o
  stands (OfComponent f) o v ks s e =
      let c = in_column (l.column f) 0 o s in
      (subst (λ z. slice_get (held_in z.home cs) z.column ≡ Some (TheField f)) c.2 (has.fields f c.0 c.1), λ d i sl. not_both p h f d i v e sl)
  stands (OfObject j f) o v ks s e =
      let c = in_column (l.column f) (l.numbering.number j - first_with p l f) o s in let w = field_there p f (slice_get h.cells j) v e in (
        subst (λ z. slice_get (held_in z.home cs) z.column ≡ Some (TheField f)) c.2 (has.fields f c.0 c.1),
        w.0,
        w.1,
        (kind_there j (Object w.0 w.2) w.3, ks),
        w.4,
        ap (λ z. z.index) (sym c.2),
      )
  stands (OfArray j i) o v ks s e = by (item_there i (slice_get h.cells j) v e)
    where
      column : (t n : ℕ) → IsArray l j t n → i < n → slice_get (held_in (l.items t).home cs) (l.items t).column ≡ Some (TheItems t)
      column t zero a lt = absurd (omega (arith, lt))
      column t (suc n) a lt = has.items j t n a

      by : (t : ℕ) × (vs : List CoreValue) × (slice_get h.cells j ≡ Some (Array t vs)) × (i < length vs) → Stands (OfArray j i) o
      by (t, vs, q, lt) =
          let a : IsArray l j t (length vs) = (kind_there j (Array t vs) q, ks) in
          let so = same_Some (record { home = (l.items t).home; column = (l.items t).column; index = l.start j + i }) o
          (sym (ap (item_spot l (l.start j + i)) a.0) ∙ s) in (
            t,
            length vs,
            subst (λ z. slice_get (held_in z.home cs) z.column ≡ Some (TheItems t)) so (column t (length vs) a lt),
            a,
            lt,
            ap (λ z. z.index) (sym so) ∙ ap (λ z. z + i) (has.starts j t (length vs) a),
          )

  -- what one column holds is one thing
  one_held : (o : Spot) (a b : Held) → slice_get (held_in o.home cs) o.column ≡ Some a → slice_get (held_in o.home cs) o.column ≡ Some b → a ≡ b
  one_held o a b e f = same_Some a b (sym e ∙ f)

  -- an object's number is not before the first of those that have a field of it
  first_before : (j d f i : ℕ) → IsObject l j d → slot_of p d f ≡ Some i → first_with p l f ≤ l.numbering.number j
  first_before j d f i is e = by (owner_of p d f i e)
    where
      by : (y : Field) × (c : ℕ) × (slice_get p.fields f ≡ Some y) × (y.owner ≡ InClass c) × (is_below p d c ≡ true)
          → first_with p l f ≤ l.numbering.number j
      by (y, c, ey, eo, eb) =
          subst (λ z. z ≤ l.numbering.number j) (sym (ap (first_in l) ey ∙ first_is (y.owner) c eo))
          (within_first (l.first c) (l.count c) (l.numbering.number j) (sym (numbers.spans j d c is (hierarchy_of p formed d c eb)) ∙ eb))
        where
          first_is : (o : Owner) (c1 : ℕ) → o ≡ InClass c1 → layout.first_of_owner l o ≡ l.first c1
          first_is o c1 q = ap (layout.first_of_owner l) q

  one_class : (d e f i i' : ℕ) → slot_of p d f ≡ Some i → slot_of p e f ≡ Some i' → one_hierarchy p d e ≡ true
  one_class d e f i i' a b = by (owner_of p d f i a) (owner_of p e f i' b)
    where
      by : (y : Field) × (c : ℕ) × (slice_get p.fields f ≡ Some y) × (y.owner ≡ InClass c) × (is_below p d c ≡ true)
          → (y : Field) × (c : ℕ) × (slice_get p.fields f ≡ Some y) × (y.owner ≡ InClass c) × (is_below p e c ≡ true)
          → one_hierarchy p d e ≡ true
      by (y, c, ey, eo, eb) (z, c', ez, eo', eb') =
          same_hierarchy p formed d e c eb (subst (λ q. is_below p e q ≡ true)
          (class_of (sym eo' ∙ (ap (λ q. q.owner) (same_Some z y (sym ez ∙ ey)) ∙ eo))) eb')
        where
          class_of : InClass c' ≡ InClass c → c' ≡ c
          class_of q = cc

  apart_of : (x y : Place) (o : Spot) → Stands x o → Stands y o → y ≡ x
  apart_of (OfComponent f) (OfComponent g) o (a, na) (b, nb) = ap (λ z. OfComponent (number_in z)) (one_held o (TheField g) (TheField f) b a)
  apart_of (OfComponent f) (OfObject j g) o (a, na) (b, d, i, oj, sj, ij) =
      absurd (na d i (subst (λ z. slot_of p d z ≡ Some i) (ap number_in (one_held o (TheField g) (TheField f) b a)) sj))
  apart_of (OfObject j f) (OfComponent g) o (a, d, i, oj, sj, ij) (b, nb) =
      absurd (nb d i (subst (λ z. slot_of p d z ≡ Some i) (ap number_in (one_held o (TheField f) (TheField g) a b)) sj))
  apart_of (OfComponent f) (OfArray j i) o (a, na) (t, n, b, ak, lk, ik) =
      let z = ap sort_of (one_held o (TheField f) (TheItems t) a b) in absurd (omega (arith, z))
  apart_of (OfArray k i) (OfComponent g) o (t, n, a, aj, lj, ij) (b, nb) =
      let z = ap sort_of (one_held o (TheItems t) (TheField g) a b) in absurd (omega (arith, z))
  apart_of (OfObject j f) (OfArray k i) o (a, d, i1, oj, bj, ij) (t, n, b, ak, lk, ik) =
      let z = ap sort_of (one_held o (TheField f) (TheItems t) a b) in absurd (omega (arith, z))
  apart_of (OfArray k i) (OfObject j f) o (t, n, a, aj, lj, ij) (b, d, i1, oj, bj, ik) =
      let z = ap sort_of (one_held o (TheItems t) (TheField f) a b) in absurd (omega (arith, z))
  apart_of (OfObject j f) (OfObject k g) o (a, d, i1, oj, bj, ij) (b, e, i2, ok, bk, ik) =
      let fg : g ≡ f = ap number_in (one_held o (TheField g) (TheField f) b a) in
      let bk' : slot_of p e f ≡ Some i2 = subst (λ z. slot_of p e z ≡ Some i2) fg bk in
      let ik' : o.index ≡ l.numbering.number k - first_with p l f = subst (λ z. o.index ≡ l.numbering.number k - first_with p l z) fg ik in
      let lj = first_before j d f i1 oj bj in let lk = first_before k e f i2 ok bk' in
      let same : l.numbering.number k ≡ l.numbering.number j = omega (arith, ij, ik', lj, lk) in
      ap (λ z. OfObject z g) (numbers.one_object k j e d ok oj (one_class e d f i2 i1 bk' bj) same) ∙ ap (OfObject j) fg
  apart_of (OfArray j i) (OfArray k m) o (t, n, a, aj, lj, ij) (u, w, b, ak, lk, ik) = by (same_or_not k j)
    where
      tu : u ≡ t
      tu = ap number_in (one_held o (TheItems u) (TheItems t) b a)

      ak' : IsArray l k t w
      ak' = subst (λ z. IsArray l k z w) tu ak

      ik' : o.index ≡ start_of kept t 0 l.kinds k + m
      ik' = subst (λ z. o.index ≡ start_of kept z 0 l.kinds k + m) tu ik

      zero_more : (n1 : ℕ) → n1 ≡ 0 + n1
      zero_more n1 = omega arith

      by : (k ≡ j) ⊎ (k ≢ j) → OfArray k m ≡ OfArray j i
      by (inl e) =
          let q : o.index ≡ start_of kept t 0 l.kinds j + m = subst (λ z. o.index ≡ start_of kept t 0 l.kinds z + m) e ik' in
          let r : m ≡ i = omega (arith, q, ij) in ap (λ z. OfArray z m) e ∙ ap (OfArray j) r
      by (inr ne) = absurd (order (same_or_less k j ne))
        where
          same_or_less : (x y : ℕ) → x ≢ y → (x < y) ⊎ (y < x)
          same_or_less zero zero d = absurd (d refl)
          same_or_less zero (suc y) d = inl (omega arith)
          same_or_less (suc x) zero d = inr (omega arith)
          same_or_less (suc x) (suc y) d = more (same_or_less x y (λ q. d (ap suc q)))
            where
              more : (x < y) ⊎ (y < x) → (suc x < suc y) ⊎ (suc y < suc x)
              more (inl z) = inl (omega (arith, z))
              more (inr z) = inr (omega (arith, z))

          order : (k < j) ⊎ (j < k) → ⊥
          order (inl lt) =
              let z = behind kept t w 0 l.kinds k j lt (slice_get_within l.kinds j (ArrayOf t n) aj.0) ak'.0
              (subst (λ x. kept x ≡ true) (zero_more k) (has.kept_cells k ak'.1)) in
              omega (arith, z, ij, ik', lk)
          order (inr lt) =
              let z = behind kept t n 0 l.kinds j k lt (slice_get_within l.kinds k (ArrayOf t w) ak'.0) aj.0
              (subst (λ x. kept x ≡ true) (zero_more j) (has.kept_cells j aj.1)) in
              omega (arith, z, ij, ik', lj)

  pub apart : (x y : Place) (v u : CoreValue) (o : Spot) → IsKeptPlace l x → IsKeptPlace l y → value_at p h x ≡ Some v → value_at p h y ≡ Some u
      → spot p l x ≡ Some o → spot p l y ≡ Some o → y ≡ x
  apart x y v u o kx ky ex ey sx sy = apart_of x y o (stands x o v kx sx ex) (stands y o u ky sy ey)
