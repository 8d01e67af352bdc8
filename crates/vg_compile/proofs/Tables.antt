-- The tables have at most 60,000 bytes, the first of which are those of the columns in RAM.
use Rattle.std.proofs.Common.{◌≡◌, refl, ap, ◌∙◌, arith, ℕ, suc, ◌+◌, ◌*◌, ◌≤◌, Bool, true, false, List, [], ◌∷◌, ◌++◌}
use Rattle.std.proofs.Common.{length, map, nat_lt, if◌then◌else◌}
use Rattle.std.proofs.lemmas.List.{length-append}
use Rattle.std.specs.List.{AllByRecursion}
use Rattle.vg_codes.specs.Codes.{Codes}
use Rattle.vg_core.specs.declared.program.Field.{Field}
use Rattle.vg_core.specs.declared.program.Tables.{Tables}
use Rattle.vg_core.specs.Heap.{Kind}
use Rattle.vg_firm.specs.declared.step.ArrayPlace.{ArrayPlace}
use Rattle.vg_firm.specs.declared.step.Home.{Home}
use Rattle.vg_firm.specs.declared.step.Home.TheVariants.{Ram, Flash}
use Rattle.vg_place.specs.declared.placing.Columns.{Columns}
use Rattle.vg_place.specs.Placing.{ArePlaced}
use Rattle.vg_placement.specs.declared.column.Column.{Column}
use Rattle.vg_placement.specs.declared.column.Held.{Held}
use Rattle.vg_placement.specs.declared.column.Held.TheVariants.{Initial, Field as TheField, Elements as TheItems, Table as TheTable}
use Rattle.vg_placement.specs.Columns.{address_for, all_columns, array_types, bytes_of, bytes_where, columns, field_column, field_columns, flash_behind}
use Rattle.vg_placement.specs.Columns.{home_bytes, item_columns, Needs, placed, ram_behind, table_columns, table_of, unless_empty}
use Rattle.vg_packed.specs.declared.program.FirmProgram.{FirmProgram}
use Rattle.vg_packed.specs.Packed.{count_of}
use Rattle.vg_table_bytes.specs.Bytes.{arrays_bytes, columns_bytes, ram_widths, rows_bytes, table_bytes_of}
use Rattle.vg_table_bytes.specs.Rows.{if_table, tables_in, HasRows}
use Rattle.vg_linear.proofs.Started.{copy_length}

-- ---- the bytes of tables

abbrev sum : List ℕ → ℕ
sum [] = 0
sum (x ∷ xs) = x + sum xs

array_length : (rs : List ArrayPlace) → length (arrays_bytes rs) ≡ 4 * length rs
array_length [] = refl
array_length (a ∷ rs) = four_more (length (arrays_bytes rs)) (length rs) (array_length rs)
  where
    four_more : (n m : ℕ) → n ≡ 4 * m → suc (suc (suc (suc n))) ≡ 4 * suc m
    four_more n m h = omega (arith, h)

rows_length : (rows : List (List ArrayPlace)) → length (rows_bytes rows) ≡ 4 * sum (map length rows)
rows_length [] = refl
rows_length (r ∷ rows) =
    let h = rows_length rows in
    let a = array_length r in let e = length-append (arrays_bytes r) (rows_bytes rows) in omega (arith, h, a, e)

-- ---- columns

-- A table of arrays stands in flash, and has four bytes for each of them.
abbrev FourIf : Held → Column → Type 0
FourIf (TheTable t) c = (c.home ≡ Flash) × (c.width ≡ 4)
FourIf _ c = Unit {0}

abbrev IsFour : Column → Type 0
IsFour c = FourIf c.what c

abbrev AreFour : List Column → Type 0
AreFour = AllByRecursion IsFour

four_both : (xs ys : List Column) → AreFour xs → AreFour ys → AreFour (xs ++ ys)
four_both [] ys h g = g
four_both (x ∷ xs) ys (a, h) g = (a, four_both xs ys h g)

unless_four : (c : Column) → IsFour c → AreFour (unless_empty c)
unless_four c h = by (nat_lt 0 (bytes_of c))
  where
    by : (b : Bool) → AreFour (if b then c ∷ [] else [])
    by true = (h, tt)
    by false = tt

fields_four : (n : Needs) (f : ℕ) (ys : List Field) → AreFour (field_columns n f ys)
fields_four n f [] = tt
fields_four n f (y ∷ ys) =
    four_both (if n.live f then unless_empty (field_column n f y) else []) (field_columns n (suc f) ys) (by (n.live f)) (fields_four n (suc f) ys)
  where
    by : (b : Bool) → AreFour (if b then unless_empty (field_column n f y) else [])
    by true = unless_four (field_column n f y) tt
    by false = tt

items_four : (p : Tables) (n : Needs) (κ : List Kind) (ts : List ℕ) → AreFour (item_columns p n κ ts)
items_four p n κ [] = tt
items_four p n κ (t ∷ ts) = four_both (unless_empty _) (item_columns p n κ ts) (unless_four _ tt) (items_four p n κ ts)

tables_four : (kept : ℕ → Bool) (κ : List Kind) (ts : List ℕ) → AreFour (map (table_of kept κ) ts)
tables_four kept κ [] = tt
tables_four kept κ (t ∷ ts) = ((refl, refl), tables_four kept κ ts)

counts_one : (w : Held) (c : Column) (cs ds : List Column) → FourIf w c → 4 * sum (map count_of ds) ≤ home_bytes Flash cs
    → 4 * sum (map count_of (if_table w c ds)) ≤ bytes_where Flash c.home (bytes_of c) + home_bytes Flash cs
counts_one (TheTable t) c cs ds (home, width) h =
    let a : bytes_where Flash c.home (bytes_of c) ≡ c.width * c.count = ap (λ z. bytes_where Flash z (bytes_of c)) home in
    let b : c.width * c.count ≡ 4 * c.count = ap (λ z. z * c.count) width in omega (arith, a, b, h)
counts_one (TheField f) c cs ds four h = omega (arith, h)
counts_one (TheItems t) c cs ds four h = omega (arith, h)
counts_one Initial c cs ds four h = omega (arith, h)

tables_counted : (cs : List Column) → AreFour cs → 4 * sum (map count_of (tables_in cs)) ≤ home_bytes Flash cs
tables_counted [] h = omega arith
tables_counted (c ∷ cs) (a, h) = counts_one c.what c cs (tables_in cs) a (tables_counted cs h)

-- where they stand is nothing to how many there are
placed_counted : (ram flash : ℕ) (cs : List Column) → map count_of (tables_in (placed ram flash cs)) ≡ map count_of (tables_in cs)
placed_counted ram flash [] = refl
placed_counted ram flash (c ∷ cs) =
    one c.what (placed (ram_behind c.home ram (bytes_of c)) (flash_behind c.home flash (bytes_of c)) cs)
    (placed_counted (ram_behind c.home ram (bytes_of c)) (flash_behind c.home flash (bytes_of c)) cs)
  where
    one : (w : Held) (ds : List Column) → map count_of (tables_in ds) ≡ map count_of (tables_in cs)
        → map count_of (if_table w (record { what = c.what; home = c.home; at = address_for c.home ram flash; width = c.width; count = c.count }) (tables_in ds))
        ≡ map count_of (if_table w c (tables_in cs))
    one (TheTable t) ds e = ap (λ z. c.count ∷ z) e
    one (TheField f) ds e = e
    one (TheItems t) ds e = e
    one Initial ds e = e

home_both : (w : Home) (xs ys : List Column) → home_bytes w (xs ++ ys) ≡ home_bytes w xs + home_bytes w ys
home_both w [] ys = omega arith
home_both w (x ∷ xs) ys = let h = home_both w xs ys in omega (arith, h)

tables_elsewhere : (kept : ℕ → Bool) (κ : List Kind) (ts : List ℕ) → home_bytes Ram (map (table_of kept κ) ts) ≡ 0
tables_elsewhere kept κ [] = refl
tables_elsewhere kept κ (t ∷ ts) = let h = tables_elsewhere kept κ ts in omega (arith, h)

-- ---- all tables

module _ (k : Codes) (p : Tables) (n : Needs) (κ : List Kind) (c : Columns) (f : FirmProgram) (placed_so : ArePlaced (all_columns p n κ) c)
    (rows : HasRows k c.list f) where
  abbrev cs : List Column
  cs = columns p n κ

  abbrev ts : List Column
  ts = table_columns n κ

  four : AreFour (cs ++ ts)
  four =
      four_both cs ts
      (four_both (field_columns n 0 p.fields) (item_columns p n κ (array_types n.kept [] 0 κ)) (fields_four n 0 p.fields)
      (items_four p n κ (array_types n.kept [] 0 κ)))
      (tables_four n.kept κ (array_types n.kept [] 0 κ))

  pub static_few : c.static_bytes ≤ 4096
  static_few = let a = placed_so.fits in let b = placed_so.static_is in omega (arith, a, b)

  pub tables_length : length (table_bytes_of (ram_widths c.list) f.columns f.tables) ≡ c.static_bytes + length (rows_bytes f.tables)
  tables_length =
      length-append (columns_bytes (ram_widths c.list) 0 f.columns) (rows_bytes f.tables)
      ∙ ap (λ z. z + length (rows_bytes f.tables)) (copy_length k p n κ c f placed_so rows)

  pub tables_few : length (table_bytes_of (ram_widths c.list) f.columns f.tables) ≤ 60000
  tables_few =
      let a = tables_length in
      let b = rows_length f.tables in
      let d = ap sum (rows.rows ∙ (ap (λ z. map count_of (tables_in z)) placed_so.list ∙ placed_counted 0x0100 0x008C (all_columns p n κ))) in
      let e = tables_counted (cs ++ ts) four in
      let g = placed_so.tables_fit in
      let i = placed_so.static_is in
      let j = home_both Ram cs ts in
      let m = tables_elsewhere n.kept κ (array_types n.kept [] 0 κ) in omega (arith, a, b, d, e, g, i, j, m)
