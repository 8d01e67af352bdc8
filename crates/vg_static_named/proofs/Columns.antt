-- The bytes of columns as sums.
use Rattle.std.proofs.Common.{◌≡◌, refl, sym, ap, ◌∙◌, arith, ℕ, suc, ◌+◌, ◌*◌, Bool, true, false, nat_lt, List, [], ◌∷◌, ◌++◌, length, map}
use Rattle.std.proofs.Common.{if◌then◌else◌, slice_get}
use Rattle.vg_core.specs.declared.program.Field.{Field}
use Rattle.vg_core.specs.declared.program.Tables.{Tables}
use Rattle.vg_core.specs.Heap.{Kind}
use Rattle.vg_firm.specs.declared.step.Home.{Home}
use Rattle.vg_firm.specs.declared.step.Home.TheVariants.{Ram, Flash}
use Rattle.vg_numbers.specs.Numbers.{arrays_before}
use Rattle.vg_placement.specs.declared.column.Held.TheVariants.{Elements as TheItems}
use Rattle.vg_placement.specs.declared.column.Column.{Column}
use Rattle.vg_placement.specs.Columns.{Needs, bytes_of, bytes_where, home_bytes, unless_empty, field_column, field_columns, owner_count, column_width}
use Rattle.vg_placement.specs.Columns.{items_count, item_width, item_columns, array_types, table_of, table_columns, columns, static_bytes, table_bytes}

-- ---- sums over lists

-- the sum of numbers of things
abbrev pub over : {A : Type 0} → (A → ℕ) → List A → ℕ
over f [] = 0
over f (x ∷ xs) = f x + over f xs

pub over_ap : {A : Type 0} (f g : A → ℕ) → ((x : A) → f x ≡ g x) → (xs : List A) → over f xs ≡ over g xs
over_ap f g e [] = refl
over_ap f g e (x ∷ xs) = ap (λ z. z + over f xs) (e x) ∙ ap (λ z. g x + z) (over_ap f g e xs)

joined : (a b c d e : ℕ) → a ≡ b → c ≡ d + e → a + c ≡ b + d + e
joined a b c d e p q = omega (arith, p, q)

home_both : (h : Home) (cs ds : List Column) → home_bytes h (cs ++ ds) ≡ home_bytes h cs + home_bytes h ds
home_both h [] ds = omega arith
home_both h (c ∷ cs) ds = joined (bytes_where h c.home (bytes_of c)) _ _ (home_bytes h cs) (home_bytes h ds) refl (home_both h cs ds)

-- ---- a column without bytes adds none

none_where : (h home : Home) → bytes_where h home 0 ≡ 0
none_where Ram Ram = refl
none_where Ram Flash = refl
none_where Flash Ram = refl
none_where Flash Flash = refl

not_less : (n : ℕ) → nat_lt 0 n ≡ false → n ≡ 0
not_less n e = grind (arith, e)

plus_none : (n : ℕ) → n + 0 ≡ n
plus_none n = omega arith

none_plus : (n : ℕ) → 0 + n ≡ n
none_plus n = omega arith

dropped : (h : Home) (c : Column) → home_bytes h (unless_empty c) ≡ bytes_where h c.home (bytes_of c)
dropped h c = step (nat_lt 0 (bytes_of c)) refl
  where
    step : (b : Bool) → nat_lt 0 (bytes_of c) ≡ b → home_bytes h (if b then c ∷ [] else []) ≡ bytes_where h c.home (bytes_of c)
    step true e = plus_none (bytes_where h c.home (bytes_of c))
    step false e = sym (ap (bytes_where h c.home) (not_less (bytes_of c) e) ∙ none_where h c.home)

-- ---- fields

-- the bytes of the live fields, from the field f on
abbrev pub field_sum : Needs → (f : ℕ) → List Field → ℕ
field_sum n f [] = 0
field_sum n f (y ∷ ys) = (if n.live f then column_width y.type_ * owner_count n.count y.owner else 0) + field_sum n (suc f) ys

fields_ram : (n : Needs) (f : ℕ) (ys : List Field) → home_bytes Ram (field_columns n f ys) ≡ field_sum n f ys
fields_ram n f [] = refl
fields_ram n f (y ∷ ys) = step (n.live f) (fields_ram n (suc f) ys)
  where
    step : (b : Bool) → home_bytes Ram (field_columns n (suc f) ys) ≡ field_sum n (suc f) ys
        → home_bytes Ram ((if b then unless_empty (field_column n f y) else []) ++ field_columns n (suc f) ys)
        ≡ (if b then column_width y.type_ * owner_count n.count y.owner else 0) + field_sum n (suc f) ys
    step true h =
        home_both Ram (unless_empty (field_column n f y)) (field_columns n (suc f) ys)
        ∙ ap (λ z. z + home_bytes Ram (field_columns n (suc f) ys)) (dropped Ram (field_column n f y))
        ∙ ap (λ z. column_width y.type_ * owner_count n.count y.owner + z) h
    step false h = h ∙ sym (none_plus (field_sum n (suc f) ys))

fields_flash : (n : Needs) (f : ℕ) (ys : List Field) → home_bytes Flash (field_columns n f ys) ≡ 0
fields_flash n f [] = refl
fields_flash n f (y ∷ ys) = step (n.live f) (fields_flash n (suc f) ys)
  where
    step : (b : Bool) → home_bytes Flash (field_columns n (suc f) ys) ≡ 0 → home_bytes Flash ((if b then unless_empty (field_column n f y) else []) ++ field_columns n (suc f) ys) ≡ 0
    step true h =
        home_both Flash (unless_empty (field_column n f y)) (field_columns n (suc f) ys)
        ∙ ap (λ z. z + home_bytes Flash (field_columns n (suc f) ys)) (dropped Flash (field_column n f y))
        ∙ ap (λ z. 0 + z) h
    step false h = h

-- ---- elements

-- the bytes of the elements of a type
abbrev pub item_bytes : Tables → Needs → List Kind → (t : ℕ) → ℕ
item_bytes p n κ t = item_width (slice_get p.types t) * items_count n.kept t κ

abbrev item_column : Tables → Needs → List Kind → (t : ℕ) → Column
item_column p n κ t =
    record { what = TheItems t; home = Ram; at = 0; width = item_width (slice_get p.types t); count = items_count n.kept t κ }

items_ram : (p : Tables) (n : Needs) (κ : List Kind) (ts : List ℕ) → home_bytes Ram (item_columns p n κ ts) ≡ over (item_bytes p n κ) ts
items_ram p n κ [] = refl
items_ram p n κ (t ∷ ts) =
    home_both Ram (unless_empty (item_column p n κ t)) (item_columns p n κ ts) ∙ ap (λ z. z + home_bytes Ram (item_columns p n κ ts)) (dropped Ram (item_column p n κ t))
    ∙ ap (λ z. item_bytes p n κ t + z) (items_ram p n κ ts)

items_flash : (p : Tables) (n : Needs) (κ : List Kind) (ts : List ℕ) → home_bytes Flash (item_columns p n κ ts) ≡ 0
items_flash p n κ [] = refl
items_flash p n κ (t ∷ ts) =
    home_both Flash (unless_empty (item_column p n κ t)) (item_columns p n κ ts) ∙ ap (λ z. z + home_bytes Flash (item_columns p n κ ts)) (dropped Flash (item_column p n κ t))
    ∙ ap (λ z. 0 + z) (items_flash p n κ ts)

-- ---- tables

-- the bytes of the rows of a type
abbrev pub rows_bytes : (kept : ℕ → Bool) → List Kind → (t : ℕ) → ℕ
rows_bytes kept κ t = 4 * arrays_before t kept 0 κ (length κ)

tables_flash : (kept : ℕ → Bool) (κ : List Kind) (ts : List ℕ) → home_bytes Flash (map (table_of kept κ) ts) ≡ over (rows_bytes kept κ) ts
tables_flash kept κ [] = refl
tables_flash kept κ (t ∷ ts) = ap (λ z. rows_bytes kept κ t + z) (tables_flash kept κ ts)

tables_ram : (kept : ℕ → Bool) (κ : List Kind) (ts : List ℕ) → home_bytes Ram (map (table_of kept κ) ts) ≡ 0
tables_ram kept κ [] = refl
tables_ram kept κ (t ∷ ts) = ap (λ z. 0 + z) (tables_ram kept κ ts)

-- ---- all columns

of_static : (all cs ts a b : ℕ) → all ≡ cs + ts → cs ≡ a + b → ts ≡ 0 → 0 + all ≡ a + b
of_static all cs ts a b e f g = omega (arith, e, f, g)

of_tables : (copy all ts a b : ℕ) → copy ≡ a → all ≡ b + ts → b ≡ 0 → 1 * copy + all ≡ a + ts
of_tables copy all ts a b e f g = omega (arith, e, f, g)

module _ (p : Tables) (n : Needs) (κ : List Kind) where
  abbrev types : List ℕ
  types = array_types n.kept [] 0 κ

  ram_columns : home_bytes Ram (columns p n κ) ≡ field_sum n 0 p.fields + over (item_bytes p n κ) types
  ram_columns =
      home_both Ram (field_columns n 0 p.fields) (item_columns p n κ types)
      ∙ ap (λ z. z + home_bytes Ram (item_columns p n κ types)) (fields_ram n 0 p.fields)
      ∙ ap (λ z. field_sum n 0 p.fields + z) (items_ram p n κ types)

  flash_columns : home_bytes Flash (columns p n κ) ≡ 0
  flash_columns =
      home_both Flash (field_columns n 0 p.fields) (item_columns p n κ types)
      ∙ ap (λ z. z + home_bytes Flash (item_columns p n κ types)) (fields_flash n 0 p.fields)
      ∙ ap (λ z. 0 + z) (items_flash p n κ types)

  pub static_is : static_bytes p n κ ≡ field_sum n 0 p.fields + over (item_bytes p n κ) types
  static_is =
      of_static (home_bytes Ram (columns p n κ ++ table_columns n κ)) (home_bytes Ram (columns p n κ)) (home_bytes Ram (table_columns n κ))
      (field_sum n 0 p.fields) (over (item_bytes p n κ) types) (home_both Ram (columns p n κ) (table_columns n κ)) ram_columns (tables_ram n.kept κ types)

  pub tables_are : table_bytes p n κ ≡ (field_sum n 0 p.fields + over (item_bytes p n κ) types) + over (rows_bytes n.kept κ) types
  tables_are =
      of_tables (home_bytes Ram (columns p n κ)) (home_bytes Flash (columns p n κ ++ table_columns n κ)) (home_bytes Flash (table_columns n κ))
      (field_sum n 0 p.fields + over (item_bytes p n κ) types) (home_bytes Flash (columns p n κ)) ram_columns
      (home_both Flash (columns p n κ) (table_columns n κ)) flash_columns
      ∙ ap (λ z. (field_sum n 0 p.fields + over (item_bytes p n κ) types) + z) (tables_flash n.kept κ types)
