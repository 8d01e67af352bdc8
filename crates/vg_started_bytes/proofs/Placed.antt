-- Columns that were placed: those in RAM and the tables stand one behind another.
use Rattle.std.proofs.Common.{◌≡◌, refl, sym, ap, subst, ◌∙◌, arith, ℕ, suc, ◌+◌, ◌≤◌, Bool, true, false}
use Rattle.std.proofs.Common.{List, [], ◌∷◌, ◌++◌, map, slice_get}
use Rattle.std.specs.Prelude.{nat_lt, if◌then◌else◌}
use Rattle.std.specs.List.{AllByRecursion}
use Rattle.vg_core.specs.declared.program.Field.{Field}
use Rattle.vg_core.specs.declared.program.Tables.{Tables}
use Rattle.vg_core.specs.Heap.{Kind}
use Rattle.vg_firm.specs.declared.step.Home.{Home}
use Rattle.vg_firm.specs.declared.step.Home.TheVariants.{Ram, Flash}
use Rattle.vg_placement.specs.declared.column.Column.{Column}
use Rattle.vg_placement.specs.declared.column.Held.TheVariants.{Elements as TheItems}
use Rattle.vg_placement.specs.Columns.{address_for, array_types, bytes_of, bytes_where, columns, field_column, field_columns, flash_behind, home_bytes, home_of}
use Rattle.vg_placement.specs.Columns.{item_columns, item_width, items_count, Needs, placed, ram_behind, table_of, unless_empty}
use Rattle.vg_table_bytes.specs.Bytes.{ram_widths, width_in}
use Rattle.vg_packed.specs.Packed.{if_ram, ram_columns}
use Rattle.vg_table_bytes.specs.Rows.{if_table, tables_in}

-- A column at an address.
abbrev pub at_address : Column → ℕ → Column
at_address c a = record { what = c.what; home = c.home; at = a; width = c.width; count = c.count }

-- Columns one behind another, from an address on.
abbrev pub stacked : ℕ → List Column → List Column
stacked a [] = []
stacked a (c ∷ cs) = at_address c a ∷ stacked (a + bytes_of c) cs

abbrev pub total : List Column → ℕ
total [] = 0
total (c ∷ cs) = bytes_of c + total cs

-- A column in RAM, which is no table.
abbrev pub IsValue : Column → Type 0
IsValue c = (c.home ≡ Ram) × ((d : Column) (cs : List Column) → if_table c.what d cs ≡ cs)

-- ---- the columns of a program

all_append : (xs ys : List Column) → AllByRecursion IsValue xs → AllByRecursion IsValue ys → AllByRecursion IsValue (xs ++ ys)
all_append [] ys h g = g
all_append (x ∷ xs) ys h g = (h.0, all_append xs ys h.1 g)

unless_value : (c : Column) → IsValue c → AllByRecursion IsValue (unless_empty c)
unless_value c h = by_bytes (nat_lt 0 (bytes_of c))
  where
    by_bytes : (b : Bool) → AllByRecursion IsValue (if b then c ∷ [] else [])
    by_bytes true = (h, tt {0})
    by_bytes false = tt {0}

fields_are : (n : Needs) (f : ℕ) (ys : List Field) → AllByRecursion IsValue (field_columns n f ys)
fields_are n f [] = tt {0}
fields_are n f (y ∷ ys) =
    all_append (if n.live f then unless_empty (field_column n f y) else []) (field_columns n (suc f) ys) (by_live (n.live f)) (fields_are n (suc f) ys)
  where
    by_live : (b : Bool) → AllByRecursion IsValue (if b then unless_empty (field_column n f y) else [])
    by_live true = unless_value (field_column n f y) (refl, λ d cs. refl)
    by_live false = tt {0}

items_are : (p : Tables) (n : Needs) (κ : List Kind) (ts : List ℕ) → AllByRecursion IsValue (item_columns p n κ ts)
items_are p n κ [] = tt {0}
items_are p n κ (t ∷ ts) = all_append (unless_empty column) (item_columns p n κ ts) (unless_value column (refl, λ d cs. refl)) (items_are p n κ ts)
  where
    column : Column
    column =
        record {
          what = TheItems t;
          home = home_of (n.items_written t);
          at = 0;
          width = item_width (slice_get p.types t);
          count = items_count n.kept t κ;
        }

pub values_are : (p : Tables) (n : Needs) (κ : List Kind) → AllByRecursion IsValue (columns p n κ)
values_are p n κ =
    all_append (field_columns n 0 p.fields) (item_columns p n κ (array_types n.kept [] 0 κ)) (fields_are n 0 p.fields)
    (items_are p n κ (array_types n.kept [] 0 κ))

-- ---- where they stand

module _ (kept : ℕ → Bool) (κ : List Kind) where
  abbrev pub tables_of : List ℕ → List Column
  tables_of us = map (table_of kept κ) us

  no_ram : (a b : ℕ) (us : List ℕ) → ram_columns (placed a b (tables_of us)) ≡ []
  no_ram a b [] = refl
  no_ram a b (u ∷ us) = no_ram a (b + bytes_of (table_of kept κ u)) us

  pub ram_placed : (a b : ℕ) (cs : List Column) (us : List ℕ) → AllByRecursion IsValue cs
      → ram_columns (placed a b (cs ++ tables_of us)) ≡ stacked a cs
  ram_placed a b [] us h = no_ram a b us
  ram_placed a b (c ∷ cs) us h =
      subst (λ z. if_ram z (record { what = c.what; home = c.home; at = address_for z a b; width = c.width; count = c.count })
      (ram_columns (placed (ram_behind z a (bytes_of c)) (flash_behind z b (bytes_of c)) (cs ++ tables_of us))) ≡ stacked a (c ∷ cs)) (sym h.0.0)
      (ap (λ z. at_address c a ∷ z) (ram_placed (a + bytes_of c) b cs us h.1))

  all_tables : (a b : ℕ) (us : List ℕ) → tables_in (placed a b (tables_of us)) ≡ stacked b (tables_of us)
  all_tables a b [] = refl
  all_tables a b (u ∷ us) = ap (λ z. at_address (table_of kept κ u) b ∷ z) (all_tables a (b + bytes_of (table_of kept κ u)) us)

  pub tables_placed : (a b : ℕ) (cs : List Column) (us : List ℕ) → AllByRecursion IsValue cs
      → tables_in (placed a b (cs ++ tables_of us)) ≡ stacked b (tables_of us)
  tables_placed a b [] us h = all_tables a b us
  tables_placed a b (c ∷ cs) us h =
      h.0.1 (record { what = c.what; home = c.home; at = address_for c.home a b; width = c.width; count = c.count })
      (tables_in (placed (ram_behind c.home a (bytes_of c)) (flash_behind c.home b (bytes_of c)) (cs ++ tables_of us)))
      ∙ subst (λ z. tables_in (placed (ram_behind z a (bytes_of c)) (flash_behind z b (bytes_of c)) (cs ++ tables_of us)) ≡ stacked b (tables_of us))
      (sym h.0.0) (tables_placed (a + bytes_of c) b cs us h.1)

  -- ---- how many bytes they have

  pub ram_sum : (cs : List Column) (us : List ℕ) → AllByRecursion IsValue cs → total cs ≤ home_bytes Ram (cs ++ tables_of us)
  ram_sum [] us h = omega arith
  ram_sum (c ∷ cs) us h =
      subst (λ z. bytes_of c + total cs ≤ bytes_where Ram z (bytes_of c) + home_bytes Ram (cs ++ tables_of us)) (sym h.0.0)
      (both (bytes_of c) (total cs) (home_bytes Ram (cs ++ tables_of us)) (ram_sum cs us h.1))
    where
      both : (n m o : ℕ) → m ≤ o → n + m ≤ n + o
      both n m o le = omega (arith, le)

  tables_sum : (us : List ℕ) → total (tables_of us) ≤ home_bytes Flash (tables_of us)
  tables_sum [] = omega arith
  tables_sum (u ∷ us) = both (bytes_of (table_of kept κ u)) (total (tables_of us)) (home_bytes Flash (tables_of us)) (tables_sum us)
    where
      both : (n m o : ℕ) → m ≤ o → n + m ≤ n + o
      both n m o le = omega (arith, le)

  pub flash_sum : (cs : List Column) (us : List ℕ) → total (tables_of us) ≤ home_bytes Flash (cs ++ tables_of us)
  flash_sum [] us = tables_sum us
  flash_sum (c ∷ cs) us =
      more (total (tables_of us)) (bytes_where Flash c.home (bytes_of c)) (home_bytes Flash (cs ++ tables_of us)) (flash_sum cs us)
    where
      more : (n m o : ℕ) → n ≤ o → n ≤ m + o
      more n m o le = omega (arith, le)

  no_bytes_in_ram : (us : List ℕ) → home_bytes Ram (tables_of us) ≡ 0
  no_bytes_in_ram [] = refl
  no_bytes_in_ram (u ∷ us) = let h = no_bytes_in_ram us in omega (arith, h)

  -- tables take no RAM
  pub ram_total : (cs : List Column) (us : List ℕ) → AllByRecursion IsValue cs → home_bytes Ram (cs ++ tables_of us) ≡ total cs
  ram_total [] us h = no_bytes_in_ram us
  ram_total (c ∷ cs) us h =
      subst (λ z. bytes_where Ram z (bytes_of c) + home_bytes Ram (cs ++ tables_of us) ≡ bytes_of c + total cs) (sym h.0.0)
      (ap (λ z. bytes_of c + z) (ram_total cs us h.1))

pub total_is : (cs : List Column) → AllByRecursion IsValue cs → home_bytes Ram cs ≡ total cs
total_is [] h = refl
total_is (c ∷ cs) h =
    subst (λ z. bytes_where Ram z (bytes_of c) + home_bytes Ram cs ≡ bytes_of c + total cs) (sym h.0.0) (ap (λ z. bytes_of c + z) (total_is cs h.1))

-- ---- widths

abbrev pub width_in_column : Column → ℕ
width_in_column c = c.width

pub widths_are : (cs : List Column) → ram_widths cs ≡ map width_in_column (ram_columns cs)
widths_are [] = refl
widths_are (c ∷ cs) = by_home c.home (widths_are cs)
  where
    by_home : (h : Home) → ram_widths cs ≡ map width_in_column (ram_columns cs)
        → width_in h c.width ++ ram_widths cs ≡ map width_in_column (if_ram h c (ram_columns cs))
    by_home Ram e = ap (λ z. c.width ∷ z) e
    by_home Flash e = e
