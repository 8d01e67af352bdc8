-- One column more.
use Rattle.std.proofs.Common.{arith, ◌≡◌, sym, ap, ◌∙◌, ℕ, ◌+◌, ◌≤◌, List, ◌∷◌, drop, Option, Some, slice_get}
use Rattle.std.proofs.lemmas.Option.{slice_get_within, get_or_from_slice_get}
use Rattle.std.proofs.lemmas.List.{drop_more}
use Rattle.vg_firm.specs.declared.step.Elements.{Elements}
use Rattle.vg_firm.specs.declared.step.Home.{Home}
use Rattle.vg_firm.specs.declared.step.Home.TheVariants.{Ram, Flash}
use Rattle.vg_pack_code.specs.declared.plan.ColumnPlace.{ColumnPlace}
use Rattle.vg_placement.specs.declared.column.Held.{Held}
use Rattle.vg_placement.specs.declared.column.Held.TheVariants.{Initial, Field as TheField, Elements as TheItems, Table as TheTable}
use Rattle.vg_placement.specs.declared.column.Column.{Column}
use Rattle.vg_placement.specs.Columns.{address_for, ram_behind, flash_behind}
use Rattle.vg_plan_columns.specs.Fields.{field_noted, fields_from}
use Rattle.vg_plan_columns.specs.Items.{item_noted, items_from, tables_behind}

module _ (cs : List Column) (i : ℕ) (x : Column) (is : slice_get cs i ≡ Some x) where
  next : drop i cs ≡ x ∷ drop (i + 1) cs
  next = drop_more cs i x (slice_get_within cs i x is) ∙ ap (λ z. z ∷ drop (i + 1) cs) (get_or_from_slice_get cs i x x is)

  pub fields_more : (ram flash ram1 flash1 k : ℕ) (old new whole : List (Option ColumnPlace)) → fields_from ram flash (drop i cs) old ≡ whole
      → k ≡ address_for x.home ram flash → new ≡ field_noted x.what x.home k old → ram1 ≡ ram_behind x.home ram 1 → flash1 ≡ flash_behind x.home flash 1
      → fields_from ram1 flash1 (drop (i + 1) cs) new ≡ whole
  fields_more ram flash ram1 flash1 k old new whole h ek en er ef =
      ap (λ z. fields_from z flash1 (drop (i + 1) cs) new) er
      ∙ (ap (λ z. fields_from (ram_behind x.home ram 1) z (drop (i + 1) cs) new) ef
      ∙ (ap (fields_from (ram_behind x.home ram 1) (flash_behind x.home flash 1) (drop (i + 1) cs)) (en ∙ ap (λ z. field_noted x.what x.home z old) ek)
      ∙ (ap (λ z. fields_from ram flash z old) (sym next) ∙ h)))

  pub items_more : (ram flash tables ram1 flash1 tables1 k : ℕ) (old new whole : List Elements) → items_from ram flash tables (drop i cs) old ≡ whole
      → k ≡ address_for x.home ram flash → new ≡ item_noted x k tables old → ram1 ≡ ram_behind x.home ram 1 → flash1 ≡ flash_behind x.home flash 1
      → tables1 ≡ tables_behind x.what tables → items_from ram1 flash1 tables1 (drop (i + 1) cs) new ≡ whole
  items_more ram flash tables ram1 flash1 tables1 k old new whole h ek en er ef et =
      ap (λ z. items_from z flash1 tables1 (drop (i + 1) cs) new) er
      ∙ (ap (λ z. items_from (ram_behind x.home ram 1) z tables1 (drop (i + 1) cs) new) ef
      ∙ (ap (λ z. items_from (ram_behind x.home ram 1) (flash_behind x.home flash 1) z (drop (i + 1) cs) new) et
      ∙ (ap (items_from (ram_behind x.home ram 1) (flash_behind x.home flash 1) (tables_behind x.what tables) (drop (i + 1) cs))
      (en ∙ ap (λ z. item_noted x z tables old) ek)
      ∙ (ap (λ z. items_from ram flash tables z old) (sym next) ∙ h))))

pub ram_bound : (h : Home) (ram i n : ℕ) → ram ≤ i → n ≡ ram_behind h ram 1 → n ≤ i + 1
ram_bound Ram ram i n le e = omega (arith, le, e)
ram_bound Flash ram i n le e = omega (arith, le, e)

pub flash_bound : (h : Home) (flash i n : ℕ) → flash ≤ i → n ≡ flash_behind h flash 1 → n ≤ i + 1
flash_bound Ram flash i n le e = omega (arith, le, e)
flash_bound Flash flash i n le e = omega (arith, le, e)

pub tables_bound : (w : Held) (tables i n : ℕ) → tables ≤ i → n ≡ tables_behind w tables → n ≤ i + 1
tables_bound Initial tables i n le e = omega (arith, le, e)
tables_bound (TheField f) tables i n le e = omega (arith, le, e)
tables_bound (TheItems t) tables i n le e = omega (arith, le, e)
tables_bound (TheTable t) tables i n le e = omega (arith, le, e)
