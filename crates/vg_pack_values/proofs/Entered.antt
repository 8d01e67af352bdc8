-- Entries that are set, and places one behind another.
use Rattle.std.proofs.Common.{◌≡◌, refl, sym, ap, ◌∙◌, arith, ℕ, zero, suc, ◌+◌, ◌-◌, ◌<◌, List, [], ◌∷◌, ◌++◌, drop, length, map, option_map, Some}
use Rattle.std.proofs.Common.{slice_get, slice_set, get_or}
use Rattle.std.proofs.lemmas.Option.{same_Some, none-some, slice_get_within, slice_get_read, slice_get-map, get_or_from_slice_get}
use Rattle.std.proofs.lemmas.List.{drop_more}
use Rattle.vg_codes.specs.Codes.{Codes}
use Rattle.vg_core.specs.declared.heap.Cell.{Cell}
use Rattle.vg_core.specs.declared.heap.Cell.TheVariants.{Array}
use Rattle.vg_core.specs.declared.heap.Heap.{Heap}
use Rattle.vg_core.specs.declared.program.Field.{Field}
use Rattle.vg_core.specs.declared.program.Tables.{Tables}
use Rattle.vg_core.specs.declared.value.CoreValue.{CoreValue}
use Rattle.vg_core.specs.Heap.{Place, OfComponent, OfObject, OfArray, kind_of, item_in, value_at}
use Rattle.vg_coded.specs.Numbers.{coded}
use Rattle.vg_firm.specs.declared.step.Home.{Home}
use Rattle.vg_firm.specs.declared.step.Home.TheVariants.{Ram}
use Rattle.vg_firm.specs.Meaning.{column_of}
use Rattle.vg_number.specs.declared.numbers.Numbers.{Numbers}
use Rattle.vg_number.specs.Numbering.{kinds_of}
use Rattle.vg_packing.specs.Layout.{Column, Layout, Spot, spot, spot_in, item_spot, first_with}
use Rattle.vg_tables.specs.declared.entry.Entry.{Entry}
use Rattle.vg_tables.specs.Entries.{number_in}
use Rattle.vg_pack_values.specs.Columns.{numbers_in, row_at, with_number}
use Rattle.vg_pack_values.specs.Places.{components_from, items_from, kept_places, cells_from, with_value, with_place, with_places}

map_set : {A B : Type 0} (f : A → B) (xs : List A) (i : ℕ) (x : A) → map f (slice_set xs i x) ≡ slice_set (map f xs) i (f x)
map_set f [] i x = refl
map_set f (y ∷ ys) zero x = refl
map_set f (y ∷ ys) (suc i) x = ap (λ z. f y ∷ z) (map_set f ys i x)

row_numbers : (k : Codes) (rows : List (List Entry)) (c : ℕ) → map (number_in k) (row_at (slice_get rows c)) ≡ column_of (slice_get (numbers_in k rows) c)
row_numbers k [] c = refl
row_numbers k (r ∷ rs) zero = refl
row_numbers k (r ∷ rs) (suc c) = row_numbers k rs c

pub put_numbers : (k : Codes) (old new : List (List Entry)) (c i : ℕ) (e : Entry) → new ≡ slice_set old c (slice_set (row_at (slice_get old c)) i e)
    → numbers_in k new ≡ with_number Ram c i (number_in k e) (numbers_in k old)
put_numbers k old new c i e is =
    ap (numbers_in k) is
    ∙ (map_set (λ entries. map (number_in k) entries) old c (slice_set (row_at (slice_get old c)) i e)
    ∙ ap (slice_set (numbers_in k old) c) (map_set (number_in k) (row_at (slice_get old c)) i e
    ∙ ap (λ z. slice_set z i (number_in k e)) (row_numbers k old c)))

module _ (p : Tables) (h : Heap) (l : Layout) (k : Codes) where
  pub both : (xs ys : List Place) (cols : List (List ℕ)) → with_places p h l k (xs ++ ys) cols ≡ with_places p h l k ys (with_places p h l k xs cols)
  both [] ys cols = refl
  both (x ∷ xs) ys cols = both xs ys (with_place p h l k x cols)

  -- what is put in behind what was there, where this is what is left
  pub more : (all piece rest : List Place) (old new whole : List (List ℕ)) → with_places p h l k all old ≡ whole → all ≡ piece ++ rest
      → new ≡ with_places p h l k piece old → with_places p h l k rest new ≡ whole
  more all piece rest old new whole a e en =
      ap (with_places p h l k rest) en ∙ (sym (both piece rest old) ∙ (ap (λ z. with_places p h l k z old) (sym e) ∙ a))

  pub one_more : (all rest : List Place) (x : Place) (old new whole : List (List ℕ)) → with_places p h l k all old ≡ whole → all ≡ x ∷ rest
      → new ≡ with_place p h l k x old → with_places p h l k rest new ≡ whole
  one_more all rest x old new whole a e en = ap (with_places p h l k rest) en ∙ (ap (λ z. with_places p h l k z old) (sym e) ∙ a)

pub rest_at : {A : Type 0} (xs : List A) (i : ℕ) (x : A) → slice_get xs i ≡ Some x → drop i xs ≡ x ∷ drop (i + 1) xs
rest_at xs i x e = drop_more xs i x (slice_get_within xs i x e) ∙ ap (λ z. z ∷ drop (i + 1) xs) (get_or_from_slice_get xs i x x e)

twice : {A : Type 0} (xs : List A) (i : ℕ) (x y : A) → slice_set (slice_set xs i x) i y ≡ slice_set xs i y
twice [] i x y = refl
twice (z ∷ xs) zero x y = refl
twice (z ∷ xs) (suc i) x y = ap (λ w. z ∷ w) (twice xs i x y)

pub entry_is_set : (rows : List (List Entry)) (c i : ℕ) (e : Entry) (old taken new spare : List Entry) → c < length rows → old ≡ get_or rows c old
    → taken ≡ old → new ≡ slice_set taken i e
    → slice_set (slice_set rows c spare) c new ≡ slice_set rows c (slice_set (row_at (slice_get rows c)) i e)
entry_is_set rows c i e old taken new spare lt is et en =
    twice rows c spare new
    ∙ ap (slice_set rows c) (en ∙ ap (λ z. slice_set z i e) (et ∙ sym (ap row_at (slice_get_read rows (length rows) c old refl lt is))))

suc_is : (i : ℕ) → suc i ≡ i + 1
suc_is i = omega arith

components_at : (i f : ℕ) (ys : List Field) → i < length ys → components_from f (drop i ys) ≡ OfComponent f ∷ components_from (suc f) (drop (suc i) ys)
components_at i f [] lt = absurd (omega (arith, lt))
components_at zero f (y ∷ ys) lt = refl
components_at (suc i) f (y ∷ ys) lt = components_at i f ys (omega (arith, lt))

pub components_rest : (i : ℕ) (ys : List Field) → i < length ys
    → components_from i (drop i ys) ≡ OfComponent i ∷ components_from (i + 1) (drop (i + 1) ys)
components_rest i ys lt = components_at i i ys lt ∙ ap (λ z. OfComponent i ∷ components_from z (drop z ys)) (suc_is i)

items_at : (i m k : ℕ) (vs : List CoreValue) → i < length vs → items_from k m (drop i vs) ≡ OfArray k m ∷ items_from k (suc m) (drop (suc i) vs)
items_at i m k [] lt = absurd (omega (arith, lt))
items_at zero m k (v ∷ vs) lt = refl
items_at (suc i) m k (v ∷ vs) lt = items_at i m k vs (omega (arith, lt))

pub items_rest : (k i : ℕ) (vs : List CoreValue) → i < length vs → items_from k i (drop i vs) ≡ OfArray k i ∷ items_from k (i + 1) (drop (i + 1) vs)
items_rest k i vs lt = items_at i i k vs lt ∙ ap (λ z. OfArray k i ∷ items_from k z (drop z vs)) (suc_is i)

module _ (p : Tables) (n : Numbers) where
  cells_at : (i k : ℕ) (cs : List Cell) (c : Cell) → slice_get cs i ≡ Some c
      → cells_from p n k (drop i cs) ≡ kept_places p n k c ++ cells_from p n (suc k) (drop (suc i) cs)
  cells_at i k [] c e = absurd (none-some c e)
  cells_at zero k (d ∷ cs) c e = ap (λ z. kept_places p n k z ++ cells_from p n (suc k) cs) (same_Some d c e)
  cells_at (suc i) k (d ∷ cs) c e = cells_at i k cs c e

  pub cells_rest : (i : ℕ) (cs cells : List Cell) (c : Cell) → cells ≡ cs → i < length cells → c ≡ get_or cells i c
      → cells_from p n i (drop i cs) ≡ kept_places p n i c ++ cells_from p n (i + 1) (drop (i + 1) cs)
  cells_rest i cs cells c q lt is =
      cells_at i i cs c (ap (λ z. slice_get z i) (sym q) ∙ slice_get_read cells (length cells) i c refl lt is)
      ∙ ap (λ z. kept_places p n i c ++ cells_from p n z (drop z cs)) (suc_is i)

-- ---- one value

-- what stands for the value of a place at its spot
pub value_put : (p : Tables) (h : Heap) (l : Layout) (k : Codes) (x : Place) (o : Spot) (v : CoreValue) (home : Home) (c i m : ℕ) (old new : List (List ℕ))
    → spot p l x ≡ Some o → value_at p h x ≡ Some v → o.home ≡ home → o.column ≡ c → o.index ≡ i → m ≡ coded l.numbering k v
    → new ≡ with_number home c i m old → new ≡ with_place p h l k x old
value_put p h l k x o v home c i m old new es ev eh ec ei em en =
    en
    ∙ (ap (λ z. with_number home c i z old) em
    ∙ (ap (λ z. with_number z c i (coded l.numbering k v) old) (sym eh)
    ∙ (ap (λ z. with_number o.home z i (coded l.numbering k v) old) (sym ec)
    ∙ (ap (λ z. with_number o.home o.column z (coded l.numbering k v) old) (sym ei)
    ∙ (ap (λ z. with_value p h l k (Some o) z old) (sym ev) ∙ ap (λ z. with_value p h l k z (value_at p h x) old) (sym es))))))

-- the spot of a field of an object, and of an element of an array
pub field_spot : (p : Tables) (l : Layout) (k f : ℕ) (c : Column) → l.column f ≡ Some c
    → spot p l (OfObject k f) ≡ Some (record { home = c.home; column = c.column; index = l.numbering.number k - first_with p l f })
field_spot p l k f c e = ap (λ z. spot_in z (l.numbering.number k - first_with p l f)) e

pub item_spot_is : (p : Tables) (h : Heap) (l : Layout) (k t i : ℕ) (vs : List CoreValue) → l.kinds ≡ kinds_of h → slice_get h.cells k ≡ Some (Array t vs)
    → spot p l (OfArray k i) ≡ Some (record { home = (l.items t).home; column = (l.items t).column; index = l.start k + i })
item_spot_is p h l k t i vs q e =
    ap (item_spot l (l.start k + i)) (ap (λ z. slice_get z k) q ∙ (slice_get-map kind_of h.cells k ∙ ap (option_map kind_of) e))

pub item_value : (p : Tables) (h : Heap) (k t i : ℕ) (vs : List CoreValue) (v : CoreValue) → slice_get h.cells k ≡ Some (Array t vs) → slice_get vs i ≡ Some v
    → value_at p h (OfArray k i) ≡ Some v
item_value p h k t i vs v e q = ap (item_in i) e ∙ q

-- the columns of components, and then those of cells
pub whole : (p : Tables) (h : Heap) (l : Layout) (k : Codes) (xs ys : List Place) (blank rows1 rows2 rows : List (List Entry)) (start : List (List Entry))
    → blank ≡ start → numbers_in k rows1 ≡ with_places p h l k xs (numbers_in k blank) → numbers_in k rows2 ≡ with_places p h l k ys (numbers_in k rows1)
    → rows ≡ rows2 → numbers_in k rows ≡ with_places p h l k (xs ++ ys) (numbers_in k start)
whole p h l k xs ys blank rows1 rows2 rows start eb e1 e2 er =
    ap (numbers_in k) er
    ∙ (e2 ∙ (ap (with_places p h l k ys) (e1 ∙ ap (λ z. with_places p h l k xs (numbers_in k z)) eb) ∙ sym (both p h l k xs ys (numbers_in k start))))
