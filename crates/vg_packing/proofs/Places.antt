-- Loads and stores that do the same, whatever the place; elements of arrays; class tests and casts.
use Rattle.std.proofs.Common.{◌≡◌, refl, sym, ap, subst, ◌∙◌, arith, ℕ, zero, suc, ◌+◌, ◌-◌, ◌*◌, ◌/◌, ◌%◌, ◌^◌, ◌<◌, ◌≤◌, Bool, true, false, ◌==◌, ◌&&◌}
use Rattle.std.proofs.Common.{nat_lt, nat_le, List, [], ◌∷◌, length, map, Option, Some, None, option_map, slice_get, pos, negsuc, FitsSigned}
use Rattle.std.proofs.lemmas.Option.{none-some, slice_get-map}
use Rattle.std.proofs.Math.Nat.{mul-div_cancel_left}
use Rattle.std.proofs.lemmas.Nat.{mod-mul-add}
use Rattle.std.specs.Int.{w32, cast_unsigned}
use Rattle.vg_meaning.specs.Answer.{Signal, Gives, Piece, go_on, stops}
use Rattle.vg_fair.specs.Fair.{Alike, gives, wrong}
use Rattle.vg_fair.proofs.Fair.{alike_stops}
use Rattle.vg_codes.specs.Codes.{Codes}
use Rattle.vg_codes.specs.Dispatch.{is_within}
use Rattle.vg_core.specs.declared.types.CoreType.{CoreType}
use Rattle.vg_core.specs.declared.value.CoreValue.{CoreValue}
use Rattle.vg_core.specs.declared.value.CoreValue.TheVariants.{Int, Bool as Truth, Char, Raw, Null, Obj, Arr, Bound}
use Rattle.vg_core.specs.declared.heap.Cell.{Cell}
use Rattle.vg_core.specs.declared.heap.Cell.TheVariants.{Object, Array}
use Rattle.vg_core.specs.declared.heap.Heap.{Heap}
use Rattle.vg_core.specs.declared.program.Class.{Class}
use Rattle.vg_core.specs.declared.program.Field.{Field}
use Rattle.vg_core.specs.declared.program.Owner.{Owner}
use Rattle.vg_core.specs.declared.program.Owner.TheVariants.{InClass, InComponent}
use Rattle.vg_core.specs.declared.program.Tables.{Tables}
use Rattle.vg_core.specs.Heap.{kind_of, Place, OfObject, OfArray, value_in, field_in, value_at, set_at}
use Rattle.vg_core.specs.Program.{Program}
use Rattle.vg_core.specs.State.{State, is_of}
use Rattle.vg_core.specs.Tables.{is_in, above_in, is_below, last_from, last_of, top, both_same, one_hierarchy, has_fields_of, slot_where, slot_in, slot_of}
use Rattle.vg_core.specs.Typing.{WellFormed}
use Rattle.vg_core.specs.Meaning as core
use Rattle.vg_firm.specs.declared.step.Home.{Home}
use Rattle.vg_firm.specs.declared.step.Home.TheVariants.{Ram, Flash}
use Rattle.vg_firm.specs.declared.step.ArrayPlace.{ArrayPlace}
use Rattle.vg_firm.specs.Operators.{as_number}
use Rattle.vg_firm.specs.Program.{Program as FirmProgram}
use Rattle.vg_firm.specs.Meaning as firm
use Rattle.vg_firm.specs.Meaning.{State as FirmState}
use Rattle.vg_coded.specs.Numbers.{coded}
use Rattle.vg_coded.specs.Kept.{IsKept}
use Rattle.vg_packing.specs.Layout.{Column, Layout, Spot, spot, first_in, first_with}
use Rattle.vg_packing.specs.Allowed.{IsObject, IsArray, IsRead}
use Rattle.vg_packing.specs.Packs.{IsKeptPlace, columns_at, Packs, packs}
use Rattle.vg_packing.specs.Laid.{IsTabled, Laid}
use Rattle.vg_packing.proofs.Columns.{held_set, held_dropped}
use Rattle.vg_packing.proofs.Pieces.{SameFrom, same_put, same_checked, same_stop_unless, same_class, same_array}

-- ---- numbers

element : (at width start i : ℕ) → 0 < width → (at + width * start - at) / width + i ≡ start + i
element at width start i some =
    let e : at + width * start - at ≡ width * start = omega arith in
    ap (λ z. z / width + i) e ∙ ap (λ z. z + i) (mul-div_cancel_left start some)

whole : (at width start : ℕ) → 0 < width → (nat_le at (at + width * start) && ((at + width * start - at) % width == 0)) ≡ true
whole at width start some =
    let e : at + width * start - at ≡ start * width + 0 = omega (arith, turned) in
    let m : (start * width + 0) % width ≡ 0 = mod-mul-add start width 0 some in
    let a : nat_le at (at + width * start) ≡ true = grind arith in
    let z : (at + width * start - at) % width ≡ 0 = ap (λ n. n % width) e ∙ m in
    rw a (rw z refl)
  where
    turned : width * start ≡ start * width
    turned = grind arith

-- a negative index has a number that is no smaller than any length
not_below : (m n : ℕ) → FitsSigned w32 (negsuc m) → n < 2 ^ 31 → nat_lt (cast_unsigned w32 (negsuc m)) n ≡ false
not_below m n h s = none (2 ^ 32 - suc m) n (omega (arith, h, s))
  where
    none : (a b : ℕ) → b ≤ a → nat_lt a b ≡ false
    none a b le = grind (arith, le)

-- ---- classes

-- a class below another is of one hierarchy with it
pub hierarchy_of : (p : Tables) → WellFormed p → (d c : ℕ) → is_below p d c ≡ true → one_hierarchy p d c ≡ true
hierarchy_of p formed d c e = subst (λ z. both_same (top p d) z ≡ true) (formed.one_top d c e) (by (slice_get p.classes d) e)
  where
    the_same : (n : ℕ) → (n == n) ≡ true
    the_same n = grind arith

    last_is : (cs : List ℕ) → is_in cs c ≡ true → both_same (last_of cs) (last_of cs) ≡ true
    last_is [] q = absurd (let clash : false ≡ true = q in cc)
    last_is (a ∷ cs) q = the_same (last_from a cs)

    by : (k : Option Class) → is_in (above_in k) c ≡ true → both_same (last_of (above_in k)) (last_of (above_in k)) ≡ true
    by k q = last_is (above_in k) q

-- two classes of one hierarchy with a third are of one hierarchy
pub same_hierarchy : (p : Tables) → WellFormed p → (d e c : ℕ) → is_below p d c ≡ true → is_below p e c ≡ true → one_hierarchy p d e ≡ true
same_hierarchy p formed d e c a b =
    subst (λ z. both_same (top p d) z ≡ true) (formed.one_top d c a ∙ sym (formed.one_top e c b))
    (subst (λ z. both_same (top p d) z ≡ true) (sym (formed.one_top d c a)) (hierarchy_of p formed d c a))

-- the class that declares a field is the object's class or one above it
field_there : (p : Tables) (f : ℕ) (c : Option Cell) (v : CoreValue) → field_in p f c ≡ Some v
    → (d i : ℕ) × (vs : List CoreValue) × (c ≡ Some (Object d vs)) × (slot_of p d f ≡ Some i)
field_there p f None v e = absurd (none-some v e)
field_there p f (Some (Array t vs)) v e = absurd (none-some v e)
field_there p f (Some (Object d vs)) v e = by (slot_of p d f) refl e
  where
    by : (s : Option ℕ) → slot_of p d f ≡ s → value_in s vs ≡ Some v
        → (d1 i : ℕ) × (vs1 : List CoreValue) × (Some (Object d vs) ≡ Some (Object d1 vs1)) × (slot_of p d1 f ≡ Some i)
    by None q g = absurd (none-some v g)
    by (Some i) q g = (d, i, vs, refl, q)

within_first : (first count n : ℕ) → is_within first count n ≡ true → first ≤ n
within_first first count n e = by (nat_le first n) refl e
  where
    by : (b : Bool) → nat_le first n ≡ b → (b && nat_lt n (first + count)) ≡ true → first ≤ n
    by true q g = grind (arith, q)
    by false q g = absurd (let clash : false ≡ true = g in cc)

module _ (p : Program) (formed : WellFormed p.tables) (l : Layout) (k : Codes) (f : FirmProgram) (laid : Laid p l k f) where
  kind_at : (h : Heap) → map kind_of h.cells ≡ l.kinds → (j : ℕ) (c : Cell) → slice_get h.cells j ≡ Some c → slice_get l.kinds j ≡ Some (kind_of c)
  kind_at h shaped j c e = ap (λ z. slice_get z j) (sym shaped) ∙ (slice_get-map kind_of h.cells j ∙ ap (option_map kind_of) e)

  -- an object's number is not before the first of those that have a field that it has
  first_before : (j d x i : ℕ) → IsObject l j d → slot_of p.tables d x ≡ Some i → first_with p.tables l x ≤ l.numbering.number j
  first_before j d x i is e = by (slice_get p.tables.fields x) e
    where
      of_class : (y : Field) (c : ℕ) (b : Bool) → is_below p.tables d c ≡ b → slot_where b y ≡ Some i → l.first c ≤ l.numbering.number j
      of_class y c true q t =
          within_first (l.first c) (l.count c) (l.numbering.number j) (sym (laid.spans j d c is (hierarchy_of p.tables formed d c q)) ∙ q)
      of_class y c false q t = absurd (none-some i t)

      of_owner : (y : Field) (o : Owner) → y.owner ≡ o → slot_where (has_fields_of p.tables d o) y ≡ Some i → first_in l (Some y) ≤ l.numbering.number j
      of_owner y (InClass c) q t =
          subst (λ z. first_of z ≤ l.numbering.number j) (sym q) (of_class y c (is_below p.tables d c) refl t)
        where
          first_of : Owner → ℕ
          first_of (InClass b) = l.first b
          first_of (InComponent b) = 0
      of_owner y (InComponent c) q t = absurd (none-some i t)

      by : (z : Option Field) → slot_in p.tables d z ≡ Some i → first_in l z ≤ l.numbering.number j
      by None t = absurd (none-some i t)
      by (Some y) t = of_owner y y.owner refl t

  -- what an object has in a field has an entry
  pub field_within : (h : Heap) (j x : ℕ) (v : CoreValue) → map kind_of h.cells ≡ l.kinds → 0 < l.numbering.number j
      → value_at p.tables h (OfObject j x) ≡ Some v → nat_le (first_with p.tables l x) (l.numbering.number j) ≡ true
  field_within h j x v shaped kept e = by (field_there p.tables x (slice_get h.cells j) v e)
    where
      at_most : (a b : ℕ) → a ≤ b → nat_le a b ≡ true
      at_most a b le = grind (arith, le)

      by : (d i : ℕ) × (vs : List CoreValue) × (slice_get h.cells j ≡ Some (Object d vs)) × (slot_of p.tables d x ≡ Some i)
          → nat_le (first_with p.tables l x) (l.numbering.number j) ≡ true
      by (d, i, vs, c, s) = at_most _ _ (first_before j d x i (kind_at h shaped j (Object d vs) c, kept) s)

  -- where a kept object has a value in a field that is read, the field has a column
  pub column_there : (h : Heap) (j x : ℕ) (v : CoreValue) → map kind_of h.cells ≡ l.kinds → 0 < l.numbering.number j
      → value_at p.tables h (OfObject j x) ≡ Some v → IsRead p.tables l x → (c : Column) × (l.column x ≡ Some c)
  column_there h j x v shaped kept e read = by (field_there p.tables x (slice_get h.cells j) v e)
    where
      by : (d i : ℕ) × (vs : List CoreValue) × (slice_get h.cells j ≡ Some (Object d vs)) × (slot_of p.tables d x ≡ Some i)
          → (c : Column) × (l.column x ≡ Some c)
      by (d, i, vs, c, s) = read j d i (kind_at h shaped j (Object d vs) c, kept) s

  columns_same : (home : Home) (t : FirmState) → firm.columns_in f home t ≡ columns_at f home t.columns
  columns_same Ram t = refl
  columns_same Flash t = refl

  module _ {K : Type 0} (o : Owner) (J : State → Type 0) (L : Signal → State → FirmState → Type 0) where
    abbrev From : Piece State K → Piece FirmState K → Type 0
    From a b = SameFrom p l k f o J L a b

    -- a load, where the packed program's check holds if the place is there
    pub same_get : (x : Place) (s : Spot) (b : Bool) → IsKeptPlace l x → spot p.tables l x ≡ Some s
        → ((h : Heap) (v : CoreValue) → map kind_of h.cells ≡ l.kinds → value_at p.tables h x ≡ Some v → b ≡ true)
        → From (core.get_place p.tables x) (firm.checked b (firm.load f s.home s.column s.index))
    same_get x s b kx sx there _ _ w i (packs {vs = vs} {ls = ls} {self = self} {h = heap} {number = number} {cols = cols} a c d r q) j =
        by (value_at p.tables heap x) refl
      where
        before : State
        before = record { values = vs; locals = ls; self = self; heap = heap }

        behind : FirmState
        behind = record { values = map (coded l.numbering k) vs; locals = map (coded l.numbering k) ls; self = number; columns = cols }

        by : (v : Option CoreValue) → value_at p.tables heap x ≡ v
            → Alike (Packs p.tables l k f o) L (core.put_found v before w) (firm.checked b (firm.load f s.home s.column s.index) behind w)
        by None e = wrong
        by (Some v) e =
            let z = q.held x s v kx sx e in
            subst (λ y. Alike (Packs p.tables l k f o) L (core.put v before w) (firm.checked y (firm.load f s.home s.column s.index) behind w))
            (sym (there heap v q.shaped e))
            (subst (λ y. Alike (Packs p.tables l k f o) L (core.put v before w) (firm.with_found y firm.put behind w))
            (sym (ap (λ y. firm.entry y s.column s.index) (columns_same s.home behind) ∙ z.1))
            (same_put p l k f o J L v z.0 before behind w i (packs a c d r q) j))

    -- a store of a value of the place's type
    pub same_set : (t : Option CoreType) (x : Place) (s : Spot) (v : CoreValue) (b : Bool) → IsKeptPlace l x → spot p.tables l x ≡ Some s → s.home ≡ Ram
        → IsKept l.numbering v → ((h : Heap) (u : CoreValue) → map kind_of h.cells ≡ l.kinds → value_at p.tables h x ≡ Some u → b ≡ true)
        → From (core.set_place p.tables t x v) (firm.checked b (firm.store s.column s.index (coded l.numbering k v)))
    same_set None x s v b kx sx ram kept there _ _ w i q j = wrong
    same_set (Some u) x s v b kx sx ram kept there _ _ w i (packs {vs = vs} {ls = ls} {self = self} {h = heap} {number = number} {cols = cols} a c d r q) j =
        by_type (is_of p.tables heap.cells u v)
      where
        before : State
        before = record { values = vs; locals = ls; self = self; heap = heap }

        behind : FirmState
        behind = record { values = map (coded l.numbering k) vs; locals = map (coded l.numbering k) ls; self = number; columns = cols }

        put_there : CoreValue → Piece State K
        put_there old s2 w2 = Gives (record s2 { heap = set_at p.tables x v s2.heap }) w2

        stored : Piece FirmState K
        stored = firm.checked b (firm.store s.column s.index (coded l.numbering k v))

        by_found : (found : Option CoreValue) → value_at p.tables heap x ≡ found
            → Alike (Packs p.tables l k f o) L (core.with_found found put_there before w) (stored behind w)
        by_found None e = wrong
        by_found (Some old) e =
            let was = ap (λ z. firm.entry (columns_at f z cols) s.column s.index) (sym ram) ∙ (q.held x s old kx sx e).1 in
            subst (λ y. Alike (Packs p.tables l k f o) L (put_there old before w)
            (firm.checked y (firm.store s.column s.index (coded l.numbering k v)) behind w)) (sym (there heap old q.shaped e))
            (subst (λ y. Alike (Packs p.tables l k f o) L (put_there old before w) (firm.set_found s.column s.index (coded l.numbering k v) y behind w))
            (sym was)
            (gives i (packs a c d r (held_set p formed l k f laid heap cols x s old v q kx sx ram e kept))))

        by_type : (ty : Bool)
            → Alike (Packs p.tables l k f o) L (core.checked ty (λ s1. core.with_found (value_at p.tables s1.heap x) put_there s1) before w) (stored behind w)
        by_type false = wrong
        by_type true = by_found (value_at p.tables heap x) refl

    -- a store that is dropped
    pub same_dropped : (t : Option CoreType) (x : Place) (v : CoreValue) → spot p.tables l x ≡ None → From (core.set_place p.tables t x v) go_on
    same_dropped None x v sx _ _ w i q j = wrong
    same_dropped (Some u) x v sx _ _ w i (packs {vs = vs} {ls = ls} {self = self} {h = heap} {number = number} {cols = cols} a c d r q) j =
        by_type (is_of p.tables heap.cells u v)
      where
        before : State
        before = record { values = vs; locals = ls; self = self; heap = heap }

        behind : FirmState
        behind = record { values = map (coded l.numbering k) vs; locals = map (coded l.numbering k) ls; self = number; columns = cols }

        put_there : CoreValue → Piece State K
        put_there old s2 w2 = Gives (record s2 { heap = set_at p.tables x v s2.heap }) w2

        by_found : (found : Option CoreValue) → Alike (Packs p.tables l k f o) L (core.with_found found put_there before w) (go_on behind w)
        by_found None = wrong
        by_found (Some old) = gives i (packs a c d r (held_dropped p formed l k f laid heap cols x v q sx))

        by_type : (ty : Bool)
            → Alike (Packs p.tables l k f o) L (core.checked ty (λ s1. core.with_found (value_at p.tables s1.heap x) put_there s1) before w) (go_on behind w)
        by_type false = wrong
        by_type true = by_found (value_at p.tables heap x)

    -- ---- elements

    pub same_item : (at t : ℕ) (a : Place → Piece State K) (b : ℕ → Piece FirmState K)
        → ((j i n : ℕ) → IsArray l j t n → From (a (OfArray j i)) (b (l.start j + i))) → (index array : CoreValue) → IsKept l.numbering index
        → IsKept l.numbering array
        → From (core.with_item at t a array index) (firm.at_item f (l.items t) b (coded l.numbering k index) (coded l.numbering k array))
    same_item at t a b h index array li la =
        same_array p l k f o J L at t (λ j vs. core.with_int (λ n. core.with_index at (length vs) n (λ i. a (OfArray j i))) index)
        (λ n. firm.with_found (firm.array_at f (l.items t).table n) (at_place (coded l.numbering k index)))
        (λ j vs is. there j vs is (laid.tables j t (length vs) is))
        array la
      where
        at_place : ℕ → ArrayPlace → Piece FirmState K
        at_place i c =
            firm.stop_unless (nat_lt i c.length) 2 (firm.checked (firm.stands_in (l.items t) c.address) (b (firm.item_index (l.items t) c.address i)))

        bounded : (j i n : ℕ) (c : ArrayPlace) → IsArray l j t n → c.length ≡ n → (0 < n → 0 < (l.items t).width)
            → (0 < n → c.address ≡ (l.items t).address + (l.items t).width * l.start j)
            → From (core.stop_unless (nat_lt i n) 2 at (a (OfArray j i))) (at_place i c)
        bounded j i n c is len wide stands =
            subst (λ z. From (core.stop_unless (nat_lt i n) 2 at (a (OfArray j i)))
            (firm.stop_unless (nat_lt i z) 2 (firm.checked (firm.stands_in (l.items t) c.address) (b (firm.item_index (l.items t) c.address i))))) (sym len)
            (same_stop_unless p l k f o J L (nat_lt i n) 2 at (a (OfArray j i))
            (firm.checked (firm.stands_in (l.items t) c.address) (b (firm.item_index (l.items t) c.address i)))
            (λ lt. let some : 0 < n = grind (arith, lt) in
            subst (λ z. From (a (OfArray j i)) (firm.checked (firm.stands_in (l.items t) z) (b (firm.item_index (l.items t) z i)))) (sym (stands some))
            (subst (λ z. From (a (OfArray j i)) (firm.checked z (b (firm.item_index (l.items t) ((l.items t).address + (l.items t).width * l.start j) i))))
            (sym (whole (l.items t).address (l.items t).width (l.start j) (wide some)))
            (subst (λ z. From (a (OfArray j i)) (b z)) (sym (element (l.items t).address (l.items t).width (l.start j) i (wide some))) (h j i n is)))))

        by_index : (j n : ℕ) (c : ArrayPlace) → IsArray l j t n → c.length ≡ n → n < 2 ^ 31 → (0 < n → 0 < (l.items t).width)
            → (0 < n → c.address ≡ (l.items t).address + (l.items t).width * l.start j) → (v : CoreValue) → IsKept l.numbering v
            → From (core.with_int (λ m. core.with_index at n m (λ i. a (OfArray j i))) v) (at_place (coded l.numbering k v) c)
        by_index j n c is len short wide stands (Int (pos i)) kept = bounded j i n c is len wide stands
        by_index j n c is len short wide stands (Int (negsuc m)) kept =
            subst (λ z. From (stops 2 at) (firm.stop_unless z 2 (firm.checked (firm.stands_in (l.items t) c.address)
            (b (firm.item_index (l.items t) c.address (cast_unsigned w32 (negsuc m)))))))
            (sym (ap (nat_lt (cast_unsigned w32 (negsuc m))) len ∙ not_below m n kept short))
            (λ s u w i q j1. alike_stops (Packs p.tables l k f o) (Packs p.tables l k f o) L 2 at 0 s u w i q)
        by_index j n c is len short wide stands (Truth x) kept = λ s u w i q j1. wrong
        by_index j n c is len short wide stands (Char x) kept = λ s u w i q j1. wrong
        by_index j n c is len short wide stands (Raw x y) kept = λ s u w i q j1. wrong
        by_index j n c is len short wide stands Null kept = λ s u w i q j1. wrong
        by_index j n c is len short wide stands (Obj x) kept = λ s u w i q j1. wrong
        by_index j n c is len short wide stands (Arr x) kept = λ s u w i q j1. wrong
        by_index j n c is len short wide stands (Bound x y) kept = λ s u w i q j1. wrong

        there : (j : ℕ) (vs : List CoreValue) → IsArray l j t (length vs) → IsTabled l f j t (length vs)
            → From (core.with_int (λ m. core.with_index at (length vs) m (λ i. a (OfArray j i))) index)
            (firm.with_found (firm.array_at f (l.items t).table (l.numbering.number j)) (at_place (coded l.numbering k index)))
        there j vs is tab =
            subst (λ z. From (core.with_int (λ m. core.with_index at (length vs) m (λ i. a (OfArray j i))) index)
            (firm.with_found z (at_place (coded l.numbering k index)))) (sym tab.there)
            (by_index j (length vs) tab.place is tab.length_is tab.short tab.wide tab.stands index li)

    pub same_length : (at t : ℕ) (v : CoreValue) → IsKept l.numbering v
        → From (core.get_length at t v) (firm.not_null (λ n. firm.with_found (firm.array_at f (l.items t).table n) firm.put_length) (coded l.numbering k v))
    same_length at t v kept =
        same_array p l k f o J L at t (λ j vs. core.put (Int (pos (length vs)))) (λ n. firm.with_found (firm.array_at f (l.items t).table n) firm.put_length)
        (λ j vs is. there j vs (laid.tables j t (length vs) is)) v kept
      where
        small : (n : ℕ) → n < 2 ^ 31 → FitsSigned w32 (pos n)
        small n h = omega (arith, h)

        there : (j : ℕ) (vs : List CoreValue) → IsTabled l f j t (length vs)
            → From (core.put (Int (pos (length vs)))) (firm.with_found (firm.array_at f (l.items t).table (l.numbering.number j)) firm.put_length)
        there j vs tab =
            subst (λ z. From (core.put (Int (pos (length vs)))) (firm.with_found z firm.put_length)) (sym tab.there)
            (subst (λ z. From (core.put (Int (pos (length vs)))) (firm.put z)) (sym tab.length_is)
            (same_put p l k f o J L (Int (pos (length vs))) (small (length vs) tab.short)))

    -- ---- class tests and casts

    pub same_truth_value : (a b : Bool) → a ≡ b → From (core.put (Truth a)) (firm.put (as_number b))
    same_truth_value a b e = subst (λ z. From (core.put (Truth a)) (firm.put (as_number z))) e (same_put p l k f o J L (Truth a) tt)

    pub same_test : (c : ℕ) (v : CoreValue) → IsKept l.numbering v
        → From (core.class_test p.tables c v) (firm.put (as_number (is_within (l.first c) (l.count c) (coded l.numbering k v))))
    same_test c Null kept = same_truth_value false (is_within (l.first c) (l.count c) 0) (sym (laid.no_null c))
    same_test c (Obj j) kept =
        same_class p l k f o J L _ _ j kept (λ d is. same_checked p l k f o J L (one_hierarchy p.tables d c) _ _
        (λ e. same_truth_value (is_below p.tables d c) _ (laid.spans j d c is e)))
    same_test c (Int n) kept = λ s t w i q j. wrong
    same_test c (Truth n) kept = λ s t w i q j. wrong
    same_test c (Char n) kept = λ s t w i q j. wrong
    same_test c (Raw n m) kept = λ s t w i q j. wrong
    same_test c (Arr n) kept = λ s t w i q j. wrong
    same_test c (Bound n m) kept = λ s t w i q j. wrong

    within_suc : (first count n : ℕ) → 0 < n
        → firm.stop_unless_within {H = K} first count n ≡ firm.stop_unless (is_within first count n) 4 (firm.put n)
    within_suc first count zero h = absurd (omega (arith, h))
    within_suc first count (suc n) h = refl

    pub same_cast : (at c : ℕ) (v : CoreValue) → IsKept l.numbering v
        → From (core.cast_to_class p.tables at c v) (firm.stop_unless_within (l.first c) (l.count c) (coded l.numbering k v))
    same_cast at c Null kept = same_put p l k f o J L Null tt
    same_cast at c (Obj j) kept =
        subst (From (core.cast_to_class p.tables at c (Obj j))) (sym (within_suc (l.first c) (l.count c) (l.numbering.number j) kept))
        (same_class p l k f o J L _ _ j kept (λ d is. same_checked p l k f o J L (one_hierarchy p.tables d c) _ _ (λ e.
        subst (λ y. From (core.stop_unless (is_below p.tables d c) 4 at (core.put (Obj j))) (firm.stop_unless y 4 (firm.put (l.numbering.number j))))
        (laid.spans j d c is e)
        (same_stop_unless p l k f o J L (is_below p.tables d c) 4 at _ _ (λ y. same_put p l k f o J L (Obj j) kept)))))
    same_cast at c (Int n) kept = λ s t w i q j. wrong
    same_cast at c (Truth n) kept = λ s t w i q j. wrong
    same_cast at c (Char n) kept = λ s t w i q j. wrong
    same_cast at c (Raw n m) kept = λ s t w i q j. wrong
    same_cast at c (Arr n) kept = λ s t w i q j. wrong
    same_cast at c (Bound n m) kept = λ s t w i q j. wrong
