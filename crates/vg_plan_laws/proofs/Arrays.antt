-- The tables of arrays: as long as there are kept arrays, and with addresses and lengths of two bytes.
use Rattle.std.proofs.Common.{◌≡◌, refl, sym, ap, subst, ◌∙◌, arith, ℕ, zero, suc, ◌+◌, ◌<◌, ◌&&◌, Bool, true, false, List, [], ◌∷◌, ◌++◌, length, map, Some, slice_get}
use Rattle.std.specs.List.{AllByRecursion}
use Rattle.vg_core.specs.declared.program.Tables.{Tables}
use Rattle.vg_core.specs.Heap.{Kind, ObjectOf, ArrayOf}
use Rattle.vg_firm.specs.declared.step.ArrayPlace.{ArrayPlace}
use Rattle.vg_firm.specs.declared.step.Elements.{Elements}
use Rattle.vg_firm.specs.Meaning.{arrays_of}
use Rattle.vg_numbers.specs.Numbers.{is_array_of, one_if, arrays_before}
use Rattle.vg_pack_code.specs.Plans.{items_in}
use Rattle.vg_placement.specs.declared.column.Held.{Held}
use Rattle.vg_placement.specs.declared.column.Held.TheVariants.{Initial, Field as TheField, Elements as TheItems, Table as TheTable}
use Rattle.vg_placement.specs.declared.column.Column.{Column}
use Rattle.vg_placement.specs.Columns.{Needs, elements, start_of}
use Rattle.vg_place.specs.Counting.{size_in}
use Rattle.vg_plan_columns.specs.Arrays.{place_if, array_row, table_in, tables_of, AreRows, FitsIn, Fit}
use Rattle.vg_plan_laws.proofs.Listed.{All}
use Rattle.vg_packed.specs.Packed.{count_of}
use Rattle.vg_table_bytes.specs.Rows.{if_table, tables_in, ArrayFits}
use Rattle.vg_plan_laws.proofs.Sizes.{Sized, SizedOf}

row_length : (e : Elements) (t : ℕ) (kept : ℕ → Bool) (at start : ℕ) (κ : List Kind) (count : ℕ)
    → length (array_row e t kept at start κ count) ≡ arrays_before t kept at κ count
row_length e t kept at start [] count = refl
row_length e t kept at start (a ∷ κ) zero = refl
row_length e t kept at start (a ∷ κ) (suc count) =
    by (kept at && is_array_of t a) (row_length e t kept (suc at) (start + elements (kept at) t a) κ count)
  where
    by : (b : Bool) → length (array_row e t kept (suc at) (start + elements (kept at) t a) κ count) ≡ arrays_before t kept (suc at) κ count
        → length (place_if b e start a ++ array_row e t kept (suc at) (start + elements (kept at) t a) κ count)
        ≡ one_if b + arrays_before t kept (suc at) κ count
    by true h = omega (arith, h)
    by false h = omega (arith, h)

-- the arrays of a row fit, where each array does with as many elements before it
row_fits : (e : Elements) (t : ℕ) (kept : ℕ → Bool) (at start : ℕ) (κ : List Kind) (count : ℕ)
    → ((j size : ℕ) → slice_get κ j ≡ Some (ArrayOf t size) → kept (at + j) ≡ true → (size < 65536) × FitsIn e (start + start_of kept t at κ j))
    → AllByRecursion ArrayFits (array_row e t kept at start κ count)
row_fits e t kept at start [] count fit = tt
row_fits e t kept at start (a ∷ κ) zero fit = tt
row_fits e t kept at start (a ∷ κ) (suc count) fit =
    by (kept at && is_array_of t a) refl (row_fits e t kept (suc at) (start + elements (kept at) t a) κ count rest)
  where
    rest : (j size : ℕ) → slice_get κ j ≡ Some (ArrayOf t size) → kept (suc at + j) ≡ true
        → (size < 65536) × FitsIn e (start + elements (kept at) t a + start_of kept t (suc at) κ j)
    rest j size g k =
        let z : suc at + j ≡ at + suc j = omega arith in
        let y : start + (elements (kept at) t a + start_of kept t (suc at) κ j) ≡ start + elements (kept at) t a + start_of kept t (suc at) κ j = omega arith in
        let f = fit (suc j) size g (subst (λ w. kept w ≡ true) z k) in (f.0, subst (FitsIn e) y f.1)

    is_that : (b : Kind) → is_array_of t b ≡ true → b ≡ ArrayOf t (size_in b)
    is_that (ArrayOf u size) q = let ut : u ≡ t = grind (arith, q) in ap (λ z. ArrayOf z size) ut
    is_that (ObjectOf c) q = absurd (let clash : false ≡ true = q in cc)

    both : (x y : Bool) → (x && y) ≡ true → (x ≡ true) × (y ≡ true)
    both true true q = (refl, refl)
    both true false q = absurd (let clash : false ≡ true = q in cc)
    both false y q = absurd (let clash : false ≡ true = q in cc)

    here : (x y : Bool) → kept at ≡ x → is_array_of t a ≡ y → (x && y) ≡ true → (size_in a < 65536) × FitsIn e start
    here x y ex ey q =
        let xy = both x y q in
        let z : at ≡ at + 0 = omega arith in
        let s : start + 0 ≡ start = omega arith in
        let f = fit 0 (size_in a) (ap (λ w. Some w) (is_that a (ey ∙ xy.1))) (subst (λ w. kept w ≡ true) z (ex ∙ xy.0)) in (f.0, subst (FitsIn e) s f.1)

    by : (b : Bool) → (kept at && is_array_of t a) ≡ b → AllByRecursion ArrayFits (array_row e t kept (suc at) (start + elements (kept at) t a) κ count)
        → AllByRecursion ArrayFits (place_if b e start a ++ array_row e t kept (suc at) (start + elements (kept at) t a) κ count)
    by true q r = let f = here (kept at) (is_array_of t a) refl refl q in ((f.1, f.0), r)
    by false q r = r

-- ---- all tables

module _ (p : Tables) (n : Needs) (κ : List Kind) (items : List Elements) (rows : List (List ArrayPlace)) (are : AreRows κ n.kept items (length κ) rows)
    (types : length items ≡ length p.types) (fit : Fit κ n.kept items) where
  abbrev row_for : (t : ℕ) → List ArrayPlace
  row_for t = array_row (items_in (slice_get items t)) t n.kept 0 0 κ (length κ)

  row_is : (t : ℕ) → t < length p.types → arrays_of (slice_get rows t) ≡ row_for t
  row_is t lt = ap arrays_of (are.each t (omega (arith, lt, types)))

  row_for_fits : (t : ℕ) → AllByRecursion ArrayFits (row_for t)
  row_for_fits t = row_fits (items_in (slice_get items t)) t n.kept 0 0 κ (length κ) within
    where
      within : (j size : ℕ) → slice_get κ j ≡ Some (ArrayOf t size) → n.kept (0 + j) ≡ true
          → (size < 65536) × FitsIn (items_in (slice_get items t)) (0 + start_of n.kept t 0 κ j)
      within j size g k =
          let z : 0 + j ≡ j = omega arith in
          let y : start_of n.kept t 0 κ j ≡ 0 + start_of n.kept t 0 κ j = omega arith in
          let f = fit j t size g (subst (λ w. n.kept w ≡ true) z k) in (f.0, subst (FitsIn (items_in (slice_get items t))) y f.1)

  pub tables_long : (cs : List Column) → All (Sized p n κ) cs → map length (tables_of rows cs) ≡ map count_of (tables_in cs)
  tables_long [] a = refl
  tables_long (c ∷ cs) (h, a) = by c.what h (tables_long cs a)
    where
      by : (w : Held) → SizedOf p n κ w c.width c.count → map length (tables_of rows cs) ≡ map count_of (tables_in cs)
          → map length (table_in w rows ++ tables_of rows cs) ≡ map count_of (if_table w c (tables_in cs))
      by (TheTable t) (lt, m) rest =
          let long = ap length (row_is t lt) ∙ (row_length (items_in (slice_get items t)) t n.kept 0 0 κ (length κ) ∙ sym m) in
          ap (λ z. z ∷ map length (tables_of rows cs)) long ∙ ap (λ z. c.count ∷ z) rest
      by Initial s rest = rest
      by (TheField f) s rest = rest
      by (TheItems t) s rest = rest

  pub arrays_fit : (cs : List Column) → All (Sized p n κ) cs → AllByRecursion (AllByRecursion ArrayFits) (tables_of rows cs)
  arrays_fit [] a = tt
  arrays_fit (c ∷ cs) (h, a) = by c.what h (arrays_fit cs a)
    where
      by : (w : Held) → SizedOf p n κ w c.width c.count → AllByRecursion (AllByRecursion ArrayFits) (tables_of rows cs)
          → AllByRecursion (AllByRecursion ArrayFits) (table_in w rows ++ tables_of rows cs)
      by (TheTable t) (lt, m) rest = (subst (AllByRecursion ArrayFits) (sym (row_is t lt)) (row_for_fits t), rest)
      by Initial s rest = rest
      by (TheField f) s rest = rest
      by (TheItems t) s rest = rest
