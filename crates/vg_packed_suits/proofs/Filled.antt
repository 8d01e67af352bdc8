-- Which columns have bytes, where they stand, and that the elements of a column are those of an array.
use Rattle.std.proofs.Common.{◌≡◌, refl, sym, ap, subst, ◌∙◌, arith, ℕ, zero, suc, ◌+◌, ◌*◌, ◌<◌, ◌≤◌, ◌==◌, nat_lt, Bool, true, false, List, [], ◌∷◌}
use Rattle.std.proofs.Common.{length, map, Some, slice_get, if◌then◌else◌}
use Rattle.std.proofs.lemmas.Option.{same_Some, none-some}
use Rattle.vg_core.specs.declared.program.Field.{Field}
use Rattle.vg_core.specs.declared.program.Tables.{Tables}
use Rattle.vg_core.specs.Heap.{Kind, ObjectOf, ArrayOf}
use Rattle.vg_firm.specs.declared.step.Home.{Home}
use Rattle.vg_firm.specs.declared.step.Home.TheVariants.{Ram, Flash}
use Rattle.vg_placement.specs.declared.column.Held.{Held}
use Rattle.vg_placement.specs.declared.column.Held.TheVariants.{Initial, Field as TheField, Elements as TheItems, Table as TheTable}
use Rattle.vg_placement.specs.declared.column.Column.{Column}
use Rattle.vg_placement.specs.Columns.{bytes_of, elements, start_of, Needs, unless_empty, field_column, field_columns, array_types, item_columns, columns}
use Rattle.vg_placement.specs.Columns.{table_of, table_columns, placed, all_columns, address_for, ram_behind, flash_behind}
use Rattle.vg_packed.specs.Packed.{if_ram, ram_columns}
use Rattle.vg_plan_laws.proofs.Listed.{All, all_append}
use Rattle.vg_table_bytes.specs.Rows.{if_table, tables_in}

-- ---- what is true of each column

pub all_ram : (P : Column → Type 0) (cs : List Column) → All P cs → All P (ram_columns cs)
all_ram P [] a = tt
all_ram P (c ∷ cs) (h, a) = by c.home (all_ram P cs a)
  where
    by : (home : Home) → All P (ram_columns cs) → All P (if_ram home c (ram_columns cs))
    by Ram b = (h, b)
    by Flash b = b

pub all_tables : (P : Column → Type 0) (cs : List Column) → All P cs → All P (tables_in cs)
all_tables P [] a = tt
all_tables P (c ∷ cs) (h, a) = by c.what (all_tables P cs a)
  where
    by : (w : Held) → All P (tables_in cs) → All P (if_table w c (tables_in cs))
    by Initial b = b
    by (TheField f) b = b
    by (TheItems t) b = b
    by (TheTable t) b = (h, b)

pub few_ram : (cs : List Column) → length (ram_columns cs) ≤ length cs
few_ram [] = omega arith
few_ram (c ∷ cs) = by c.home (few_ram cs)
  where
    by : (home : Home) → length (ram_columns cs) ≤ length cs → length (if_ram home c (ram_columns cs)) ≤ suc (length cs)
    by Ram h = omega (arith, h)
    by Flash h = omega (arith, h)

-- an address that is that of a column
pub at_column : (P : Column → Type 0) (cs : List Column) (i a : ℕ) → All P cs → slice_get (map (λ (c : Column). c.at) cs) i ≡ Some a
    → (c : Column) × P c × (c.at ≡ a)
at_column P [] i a h e = absurd (none-some a e)
at_column P (c ∷ cs) zero a (h, hs) e = (c, h, same_Some c.at a e)
at_column P (c ∷ cs) (suc i) a (h, hs) e = at_column P cs i a hs e

-- ---- addresses

-- nothing is placed in the first four bytes
abbrev pub Behind : Column → Type 0
Behind c = 4 ≤ c.at

pub all_behind : (ram flash : ℕ) (cs : List Column) → 4 ≤ ram → 4 ≤ flash → All Behind (placed ram flash cs)
all_behind ram flash [] r f = tt
all_behind ram flash (c ∷ cs) r f = (
  here c.home,
  all_behind (ram_behind c.home ram (bytes_of c)) (flash_behind c.home flash (bytes_of c)) cs (more c.home) (past c.home),
)
  where
    here : (h : Home) → 4 ≤ address_for h ram flash
    here Ram = r
    here Flash = f

    more : (h : Home) → 4 ≤ ram_behind h ram (bytes_of c)
    more Ram = omega (arith, r)
    more Flash = r

    past : (h : Home) → 4 ≤ flash_behind h flash (bytes_of c)
    past Ram = f
    past Flash = omega (arith, f)

-- ---- bytes

-- columns of elements have some
abbrev FilledOf : Held → (width count : ℕ) → Type 0
FilledOf Initial w m = Unit {0}
FilledOf (TheField f) w m = Unit {0}
FilledOf (TheItems t) w m = 0 < w * m
FilledOf (TheTable t) w m = Unit {0}

abbrev pub Filled : Column → Type 0
Filled c = FilledOf c.what c.width c.count

pub items_filled : (c : Column) (t : ℕ) → c.what ≡ TheItems t → Filled c → 0 < c.width * c.count
items_filled c t e h = subst (λ w. FilledOf w c.width c.count) e h

module _ (p : Tables) (n : Needs) (κ : List Kind) where
  fields_filled : (f : ℕ) (ys : List Field) → All Filled (field_columns n f ys)
  fields_filled f [] = tt
  fields_filled f (y ∷ ys) = all_append Filled _ (field_columns n (suc f) ys) (by (n.live f)) (fields_filled (suc f) ys)
    where
      in_column : (b : Bool) → All Filled (if b then field_column n f y ∷ [] else [])
      in_column true = (tt, tt)
      in_column false = tt

      by : (b : Bool) → All Filled (if b then unless_empty (field_column n f y) else [])
      by true = in_column (nat_lt 0 (bytes_of (field_column n f y)))
      by false = tt

  some_bytes : (c : Column) (t : ℕ) → c.what ≡ TheItems t → All Filled (unless_empty c)
  some_bytes c t e = by (nat_lt 0 (bytes_of c)) refl
    where
      by : (b : Bool) → nat_lt 0 (bytes_of c) ≡ b → All Filled (if b then c ∷ [] else [])
      by true q = let lt : 0 < c.width * c.count = grind (arith, q) in (subst (λ w. FilledOf w c.width c.count) (sym e) lt, tt)
      by false q = tt

  items_all_filled : (ts : List ℕ) → All Filled (item_columns p n κ ts)
  items_all_filled [] = tt
  items_all_filled (t ∷ ts) = all_append Filled _ (item_columns p n κ ts) (some_bytes _ t refl) (items_all_filled ts)

  tables_filled : (ts : List ℕ) → All Filled (map (table_of n.kept κ) ts)
  tables_filled [] = tt
  tables_filled (t ∷ ts) = (tt, tables_filled ts)

  placed_filled : (ram flash : ℕ) (cs : List Column) → All Filled cs → All Filled (placed ram flash cs)
  placed_filled ram flash [] a = tt
  placed_filled ram flash (c ∷ cs) (h, a) = (h, placed_filled (ram_behind c.home ram (bytes_of c)) (flash_behind c.home flash (bytes_of c)) cs a)

  pub all_filled : (ram flash : ℕ) → All Filled (placed ram flash (all_columns p n κ))
  all_filled ram flash =
      placed_filled ram flash (all_columns p n κ) (
        tt,
        all_append Filled (columns p n κ) (table_columns n κ)
            (all_append Filled (field_columns n 0 p.fields) _ (fields_filled 0 p.fields) (items_all_filled (array_types n.kept [] 0 κ)))
            (tables_filled (array_types n.kept [] 0 κ)),
      )

-- ---- elements

-- a kept array of a type that has elements
abbrev pub SomeArray : (kept : ℕ → Bool) → (t at : ℕ) → List Kind → Type 0
SomeArray kept t at κ = (j : ℕ) × (size : ℕ) × (slice_get κ j ≡ Some (ArrayOf t (suc size))) × (kept (at + j) ≡ true)

later_array : (kept : ℕ → Bool) (t at : ℕ) (a : Kind) (κ : List Kind) → SomeArray kept t (suc at) κ → SomeArray kept t at (a ∷ κ)
later_array kept t at a κ (j, size, e, k) = (suc j, size, e, ap kept (omega arith) ∙ k)

pub some_array : (kept : ℕ → Bool) (t at : ℕ) (κ : List Kind) (n : ℕ) → 0 < start_of kept t at κ n → SomeArray kept t at κ
some_array kept t at [] n lt = absurd (omega (arith, lt))
some_array kept t at (a ∷ κ) zero lt = absurd (omega (arith, lt))
some_array kept t at (a ∷ κ) (suc n) lt = by (kept at) refl a lt (some_array kept t (suc at) κ n)
  where
    of_type : (u size : ℕ) (b : Bool) → (u == t) ≡ b → kept at ≡ true → 0 < (if b then size else 0) + start_of kept t (suc at) κ n
        → (0 < start_of kept t (suc at) κ n → SomeArray kept t (suc at) κ) → SomeArray kept t at (ArrayOf u size ∷ κ)
    of_type u size false eb k pos rest = later_array kept t at (ArrayOf u size) κ (rest (omega (arith, pos)))
    of_type u zero true eb k pos rest = later_array kept t at (ArrayOf u zero) κ (rest (omega (arith, pos)))
    of_type u (suc size) true eb k pos rest =
        let ut : u ≡ t = grind (arith, eb) in (0, size, ap (λ z. Some (ArrayOf z (suc size))) ut, ap kept (omega arith) ∙ k)

    by : (b : Bool) → kept at ≡ b → (c : Kind) → 0 < elements b t c + start_of kept t (suc at) κ n
        → (0 < start_of kept t (suc at) κ n → SomeArray kept t (suc at) κ) → SomeArray kept t at (c ∷ κ)
    by true k (ArrayOf u size) pos rest = of_type u size (u == t) refl k pos rest
    by true k (ObjectOf c) pos rest = later_array kept t at (ObjectOf c) κ (rest (omega (arith, pos)))
    by false k c pos rest = later_array kept t at c κ (rest (omega (arith, pos)))
