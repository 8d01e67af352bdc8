-- The tables of arrays, and that addresses have two bytes.
use Rattle.std.proofs.Common.{◌≡◌, ◌⊎◌, refl, sym, ap, subst, ◌∙◌, arith, ℕ, zero, suc, ◌+◌, ◌*◌, ◌<◌, ◌≤◌, ◌==◌, nat_lt, Bool, true, false, List, []}
use Rattle.std.proofs.Common.{◌∷◌, length, map, option_map, Some, slice_get, if◌then◌else◌}
use Rattle.std.proofs.lemmas.Option.{same_Some, none-some, slice_get-map, slice_get_within}
use Rattle.std.proofs.lemmas.List.{length-map}
use Rattle.std.proofs.lemmas.Nat.{mul-le}
use mathlib.Core.Logic.{inl, inr}
use Rattle.vg_core.specs.declared.program.Tables.{Tables}
use Rattle.vg_core.specs.declared.types.CoreType.{CoreType}
use Rattle.vg_core.specs.Heap.{Kind, ArrayOf}
use Rattle.vg_firm.specs.declared.step.ArrayPlace.{ArrayPlace}
use Rattle.vg_firm.specs.declared.step.Elements.{Elements}
use Rattle.vg_firm.specs.declared.step.Home.{Home}
use Rattle.vg_firm.specs.declared.step.Home.TheVariants.{Ram}
use Rattle.vg_firm.specs.Meaning.{arrays_of}
use Rattle.vg_number.specs.Numbering.{AreListed}
use Rattle.vg_numbers.specs.Numbers.{arrays_before}
use Rattle.vg_pack_code.specs.Plans.{items_in}
use Rattle.vg_placement.specs.declared.column.Held.{Held}
use Rattle.vg_placement.specs.declared.column.Held.TheVariants.{Elements as TheItems}
use Rattle.vg_placement.specs.declared.column.Column.{Column}
use Rattle.vg_placement.specs.Columns.{Needs, elements, start_of, items_count, item_width, column_width, placed, home_bytes, address_for, all_columns}
use Rattle.vg_place.specs.Counting.{size_in, elements_in}
use Rattle.vg_packed.proofs.Standing.{within}
use Rattle.vg_plan_columns.specs.Arrays.{place_at, tables_of, AreRows, Fit}
use Rattle.vg_plan_columns.specs.Items.{items_from, no_items}
use Rattle.vg_plan_columns.proofs.Rowed.{in_row}
use Rattle.vg_plan_laws.proofs.Items.{entry, Same, Stood, widths_stay, items_stood, items_found, items_length, tables_found}
use Rattle.vg_plan_laws.proofs.Listed.{Right, RightOf, all_get, all_right, at_place, items_at, table_at}

start_le : (kept : ℕ → Bool) (t at : ℕ) (κ : List Kind) (j : ℕ) → start_of kept t at κ j ≤ start_of kept t at κ (length κ)
start_le kept t at [] j = omega arith
start_le kept t at (a ∷ κ) zero = omega arith
start_le kept t at (a ∷ κ) (suc j) = let h = start_le kept t (suc at) κ j in omega (arith, h)

-- an array adds its elements to those of its type
pub start_within : (kept : ℕ → Bool) (t size at : ℕ) (κ : List Kind) (j : ℕ) → slice_get κ j ≡ Some (ArrayOf t size) → kept (at + j) ≡ true
    → start_of kept t at κ j + size ≤ start_of kept t at κ (length κ)
start_within kept t size at [] j e k = absurd (none-some (ArrayOf t size) e)
start_within kept t size at (a ∷ κ) zero e k =
    let z : at + 0 ≡ at = omega arith in
    let q : elements (kept at) t a ≡ size = ap (λ b. elements b t a) (sym (ap kept z) ∙ k) ∙ (ap (elements true t) (same_Some a (ArrayOf t size) e) ∙ own) in
    omega (arith, q)
  where
    own : (if t == t then size else 0) ≡ size
    own = let q : (t == t) ≡ true = grind arith in ap (λ b. if b then size else 0) q
start_within kept t size at (a ∷ κ) (suc j) e k =
    let z : at + suc j ≡ suc at + j = omega arith in
    let h = start_within kept t size (suc at) κ j e (subst (λ w. kept w ≡ true) z k) in omega (arith, h)

size_few : (κ : List Kind) (j t size : ℕ) → slice_get κ j ≡ Some (ArrayOf t size) → size ≤ elements_in κ
size_few [] j t size e = absurd (none-some (ArrayOf t size) e)
size_few (a ∷ κ) zero t size e = let q : size_in a ≡ size = ap size_in (same_Some a (ArrayOf t size) e) in omega (arith, q)
size_few (a ∷ κ) (suc j) t size e = let h = size_few κ j t size e in omega (arith, h)

pub type_at : (ts : List CoreType) (t : ℕ) → t < length ts → (e : CoreType) × (slice_get ts t ≡ Some e)
type_at [] t lt = absurd (omega (arith, lt))
type_at (u ∷ us) zero lt = (u, refl)
type_at (u ∷ us) (suc t) lt = type_at us t (omega (arith, lt))

module _ (p : Tables) (n : Needs) (κ : List Kind) (ram : home_bytes Ram (all_columns p n κ) ≤ 4096) where
  abbrev cs : List Column
  cs = placed 0x0100 0x008C (all_columns p n κ)

  abbrev none : List Elements
  none = map no_items p.types

  abbrev items : List Elements
  items = items_from 0 0 0 cs none

  none_length : length none ≡ length p.types
  none_length = length-map p.types no_items

  pub none_at : (t : ℕ) (e : CoreType) → slice_get p.types t ≡ Some e → entry none t ≡ no_items e
  none_at t e q = ap items_in (slice_get-map no_items p.types t ∙ ap (option_map no_items) q)

  pub width_is : (t : ℕ) (e : CoreType) → slice_get p.types t ≡ Some e → t < length p.types → (entry items t).width ≡ column_width e
  width_is t e q lt =
      widths_stay cs 0 0 0 none t (let l = none_length in omega (arith, lt, l)) ∙ ap (λ z. z.width) (none_at t e q)

  -- a column of elements ends within RAM
  stood_fits : (t : ℕ) (e : CoreType) (start : ℕ) → slice_get p.types t ≡ Some e → t < length p.types → start ≤ items_count n.kept t κ
      → Stood 0 0 cs t (entry items t) → (entry items t).address + (entry items t).width * start < 65536
  stood_fits t e start q lt le (k, ek, es, at) = by (at_place (TheItems t) (entry items t).address cs at)
    where
      right_at : (w : Held) (h : Home) (wide count : ℕ) → w ≡ TheItems t → RightOf p n κ w h wide count
          → (h ≡ Ram) × (wide ≡ item_width (slice_get p.types t)) × (count ≡ items_count n.kept t κ)
      right_at w h wide count ew r = subst (λ z. RightOf p n κ z h wide count) ew r

      by : (i : ℕ) × (c : Column) × (slice_get cs i ≡ Some c) × (c.what ≡ TheItems t) × (c.at ≡ (entry items t).address)
          → (entry items t).address + (entry items t).width * start < 65536
      by (i, c, ec, ew, ea) =
          let r = right_at c.what c.home c.width c.count ew (all_get (Right p n κ) cs i c (all_right p n κ 0x0100 0x008C) ec) in
          let b = (within 0x0100 0x008C (all_columns p n κ) i c ec).1 in
          let top : address_for c.home 0x0100 0x008C ≡ 0x0100 = ap (λ z. address_for z 0x0100 0x008C) r.0 in
          let sum : home_bytes c.home (all_columns p n κ) ≡ home_bytes Ram (all_columns p n κ) = ap (λ z. home_bytes z (all_columns p n κ)) r.0 in
          let wide : (entry items t).width ≡ c.width = width_is t e q lt ∙ (sym (ap item_width q) ∙ sym r.1) in
          let some : (entry items t).width * start ≤ c.width * c.count =
          mul-le (entry items t).width start c.width c.count (let w = wide in omega (arith, w)) (let m = r.2 in omega (arith, le, m)) in
          omega (arith, b, top, sum, some, ea, ram)

  pub fit : AreListed p κ → elements_in κ ≤ 60000 → Fit κ n.kept items
  fit listed few j t size e k = (let s = size_few κ j t size e in omega (arith, s, few), by (type_at p.types t lt))
    where
      lt : t < length p.types
      lt = listed j (ArrayOf t size) e

      start : ℕ
      start = start_of n.kept t 0 κ j

      le : start ≤ items_count n.kept t κ
      le = start_le n.kept t 0 κ j

      by : (u : CoreType) × (slice_get p.types t ≡ Some u) → (entry items t).address + (entry items t).width * start < 65536
      by (u, q) = some (nat_lt 0 (item_width (slice_get p.types t) * items_count n.kept t κ)) refl
        where
          lt1 : t < length none
          lt1 = let l = none_length in omega (arith, lt, l)

          -- nothing stands before where there is nothing
          empty : (nat_lt 0 (item_width (slice_get p.types t) * items_count n.kept t κ) ≡ false)
              → Same (entry items t) (entry none t) ⊎ Stood 0 0 cs t (entry items t) → (entry items t).address + (entry items t).width * start < 65536
          empty f (inr s) = stood_fits t u start q lt le s
          empty f (inl s) =
              let z : item_width (slice_get p.types t) * items_count n.kept t κ ≤ 0 = grind (arith, f) in
              let wide : (entry items t).width ≡ item_width (slice_get p.types t) = width_is t u q lt ∙ sym (ap item_width q) in
              let m : (entry items t).width * start ≤ item_width (slice_get p.types t) * items_count n.kept t κ =
              mul-le (entry items t).width start (item_width (slice_get p.types t)) (items_count n.kept t κ) (let w = wide in omega (arith, w)) le in
              let a : (entry items t).address ≡ 0 = s.2 ∙ ap (λ w. w.address) (none_at t u q) in
              omega (arith, z, m, a)

          some : (b : Bool) → nat_lt 0 (item_width (slice_get p.types t) * items_count n.kept t κ) ≡ b
              → (entry items t).address + (entry items t).width * start < 65536
          some true f =
              let a = items_at p n κ 0x0100 0x008C j t size e k (grind (arith, f)) in
              stood_fits t u start q lt le (items_found cs 0 0 0 none t a.0 lt1 a.1)
          some false f = empty f (items_stood cs 0 0 0 none t lt1)

  -- the column of the elements of an array that has some
  pub item_column : AreListed p κ → (j t size : ℕ) → slice_get κ j ≡ Some (ArrayOf t (suc size)) → n.kept j ≡ true
      → 0 < item_width (slice_get p.types t) → Stood 0 0 cs t (entry items t)
  item_column listed j t size e k wide =
      let lt = listed j (ArrayOf t (suc size)) e in
      let s = start_within n.kept t (suc size) 0 κ j e (let z : 0 + j ≡ j = omega arith in subst (λ w. n.kept w ≡ true) (sym z) k) in
      let one : 1 * 1 ≤ item_width (slice_get p.types t) * items_count n.kept t κ =
      mul-le 1 1 (item_width (slice_get p.types t)) (items_count n.kept t κ) (omega (arith, wide)) (omega (arith, s)) in
      let a = items_at p n κ 0x0100 0x008C j t (suc size) e k (omega (arith, one)) in
      items_found cs 0 0 0 none t a.0 (let l = none_length in omega (arith, lt, l)) a.1

  -- where the table of its type says that an array stands
  pub array_there : (rows : List (List ArrayPlace)) → AreListed p κ → AreRows κ n.kept items (length κ) rows → (j t size : ℕ)
      → slice_get κ j ≡ Some (ArrayOf t size) → n.kept j ≡ true → (length items ≡ length p.types)
      → slice_get (arrays_of (slice_get (tables_of rows cs) (entry items t).table)) (arrays_before t n.kept 0 κ j)
      ≡ Some (place_at (entry items t) (start_of n.kept t 0 κ j) size)
  array_there rows listed are j t size e k same =
      let lt = listed j (ArrayOf t size) e in
      let a = table_at p n κ 0x0100 0x008C j t size e k in
      let f = tables_found rows cs 0 0 0 none t a.0 (let l = none_length in omega (arith, lt, l)) a.1 in
      let z : (entry items t).table ≡ f.0 = (let w = f.1 in omega (arith, w)) in
      let y : 0 + start_of n.kept t 0 κ j ≡ start_of n.kept t 0 κ j = omega arith in
      ap (λ w. slice_get (arrays_of (slice_get (tables_of rows cs) w)) (arrays_before t n.kept 0 κ j)) z
      ∙ (ap (λ w. slice_get (arrays_of w) (arrays_before t n.kept 0 κ j)) f.2
      ∙ (ap (λ w. slice_get (arrays_of w) (arrays_before t n.kept 0 κ j)) (are.each t (let l = same in omega (arith, lt, l)))
      ∙ (in_row (entry items t) t n.kept 0 0 κ j size (length κ) e (let w : 0 + j ≡ j = omega arith in subst (λ v. n.kept v ≡ true) (sym w) k)
      (slice_get_within κ j (ArrayOf t size) e) ∙ ap (λ w. Some (place_at (entry items t) w size)) y)))

  pub same_length : length items ≡ length p.types
  same_length = items_length cs 0 0 0 none ∙ none_length
