-- Columns are as wide as the types of what they hold, and a table is as long as there are kept arrays of its type.
use Rattle.std.proofs.Common.{◌≡◌, refl, sym, ap, ◌∙◌, arith, ℕ, suc, ◌+◌, ◌<◌, ◌&&◌, not, Bool, true, false, List, [], ◌∷◌, length, map, Some, slice_get}
use Rattle.std.proofs.Common.{if◌then◌else◌}
use Rattle.std.specs.List.{AllByRecursion}
use Rattle.std.proofs.lemmas.Option.{same_Some}
use Rattle.vg_core.specs.declared.program.Field.{Field}
use Rattle.vg_core.specs.declared.program.Tables.{Tables}
use Rattle.vg_core.specs.Heap.{Kind, ObjectOf, ArrayOf}
use Rattle.vg_core.specs.Tables.{is_in}
use Rattle.vg_number.specs.Numbering.{AreListed}
use Rattle.vg_numbers.specs.Numbers.{arrays_before}
use Rattle.vg_placement.specs.declared.column.Held.{Held}
use Rattle.vg_placement.specs.declared.column.Held.TheVariants.{Initial, Field as TheField, Elements as TheItems, Table as TheTable}
use Rattle.vg_placement.specs.declared.column.Column.{Column}
use Rattle.vg_placement.specs.Columns.{bytes_of, Needs, unless_empty, field_column, field_columns, array_types, item_width, item_columns, columns, column_width}
use Rattle.vg_placement.specs.Columns.{table_of, table_columns, placed, all_columns, ram_behind, flash_behind}
use Rattle.vg_plan_laws.proofs.Listed.{All, all_append, all_unless}

module _ (p : Tables) (n : Needs) (κ : List Kind) where
  abbrev pub SizedOf : Held → (width count : ℕ) → Type 0
  SizedOf Initial w m = Unit {0}
  SizedOf (TheField f) w m = (y : Field) → slice_get p.fields f ≡ Some y → w ≡ column_width y.type_
  SizedOf (TheItems t) w m = w ≡ item_width (slice_get p.types t)
  SizedOf (TheTable t) w m = (t < length p.types) × (m ≡ arrays_before t n.kept 0 κ (length κ))

  abbrev pub Sized : Column → Type 0
  Sized c = SizedOf c.what c.width c.count

  fields_sized : (f : ℕ) (ys : List Field) → ((i : ℕ) → slice_get ys i ≡ slice_get p.fields (i + f)) → All Sized (field_columns n f ys)
  fields_sized f [] at = tt
  fields_sized f (y ∷ ys) at = all_append Sized _ (field_columns n (suc f) ys) (by (n.live f)) (fields_sized (suc f) ys next)
    where
      next : (i : ℕ) → slice_get ys i ≡ slice_get p.fields (i + suc f)
      next i = at (suc i) ∙ ap (slice_get p.fields) (omega arith)

      here : slice_get p.fields f ≡ Some y
      here = ap (slice_get p.fields) (omega arith) ∙ sym (at 0)

      sized : Sized (field_column n f y)
      sized z e = ap (λ w. column_width w.type_) (same_Some y z (sym here ∙ e))

      by : (b : Bool) → All Sized (if b then unless_empty (field_column n f y) else [])
      by true = all_unless Sized (field_column n f y) sized
      by false = tt

  items_sized : (ts : List ℕ) → All Sized (item_columns p n κ ts)
  items_sized [] = tt
  items_sized (t ∷ ts) = all_append Sized _ (item_columns p n κ ts) (all_unless Sized _ refl) (items_sized ts)

  -- the type of the elements of an array is there
  abbrev AreThere : List ℕ → Type 0
  AreThere ts = AllByRecursion (λ t. t < length p.types) ts

  types_there : (seen : List ℕ) (at : ℕ) (ks : List Kind) → ((j t size : ℕ) → slice_get ks j ≡ Some (ArrayOf t size) → t < length p.types)
      → AreThere (array_types n.kept seen at ks)
  types_there seen at [] listed = tt
  types_there seen at (ObjectOf c ∷ ks) listed = types_there seen (suc at) ks (λ j. listed (suc j))
  types_there seen at (ArrayOf t size ∷ ks) listed =
      by (n.kept at && not (is_in seen t)) (types_there (t ∷ seen) (suc at) ks (λ j. listed (suc j))) (types_there seen (suc at) ks (λ j. listed (suc j)))
    where
      by : (b : Bool) → AreThere (array_types n.kept (t ∷ seen) (suc at) ks) → AreThere (array_types n.kept seen (suc at) ks)
          → AreThere (if b then t ∷ array_types n.kept (t ∷ seen) (suc at) ks else array_types n.kept seen (suc at) ks)
      by true more rest = (listed 0 t size refl, more)
      by false more rest = rest

  tables_sized : (ts : List ℕ) → AreThere ts → All Sized (map (table_of n.kept κ) ts)
  tables_sized [] there = tt
  tables_sized (t ∷ ts) (lt, there) = ((lt, refl), tables_sized ts there)

  placed_sized : (ram flash : ℕ) (cs : List Column) → All Sized cs → All Sized (placed ram flash cs)
  placed_sized ram flash [] a = tt
  placed_sized ram flash (c ∷ cs) (h, a) = (h, placed_sized (ram_behind c.home ram (bytes_of c)) (flash_behind c.home flash (bytes_of c)) cs a)

  pub all_sized : AreListed p κ → (ram flash : ℕ) → All Sized (placed ram flash (all_columns p n κ))
  all_sized listed ram flash =
      placed_sized ram flash (all_columns p n κ) (
        tt,
        all_append Sized (columns p n κ) (table_columns n κ)
            (all_append Sized (field_columns n 0 p.fields) _ (fields_sized 0 p.fields (λ i. ap (slice_get p.fields) (omega arith)))
            (items_sized (array_types n.kept [] 0 κ)))
            (tables_sized (array_types n.kept [] 0 κ) (types_there [] 0 κ (λ j t size e. listed j (ArrayOf t size) e))),
      )
