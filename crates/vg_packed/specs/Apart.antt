-- A layout has these columns.
use Rattle.std.specs.Prelude.{◌≡◌, ℕ, suc, ◌<◌, Bool, true, List, [], ◌∷◌, Some, slice_get}
use Rattle.vg_codes.specs.Dispatch.{is_within}
use Rattle.vg_core.specs.declared.program.Tables.{Tables}
use Rattle.vg_core.specs.Tables.{is_below, one_hierarchy}
use Rattle.vg_firm.specs.declared.step.Home.{Home}
use Rattle.vg_firm.specs.declared.step.Home.TheVariants.{Ram, Flash}
use Rattle.vg_packing.specs.Layout.{Layout}
use Rattle.vg_packing.specs.Layout as layout
use Rattle.vg_packing.specs.Allowed.{IsObject, IsArray}
use Rattle.vg_placement.specs.declared.column.Held.{Held}
use Rattle.vg_placement.specs.declared.column.Held.TheVariants.{Field as TheField, Elements as TheItems}
use Rattle.vg_placement.specs.declared.column.Column.{Column}
use Rattle.vg_placement.specs.Columns.{start_of}

-- What the columns of a home hold, in their order.
abbrev pub held_where : Home → Home → Held → List Held → List Held
held_where Ram Ram x xs = x ∷ xs
held_where Flash Flash x xs = x ∷ xs
held_where _ _ x xs = xs

abbrev pub held_in : Home → List Column → List Held
held_in h [] = []
held_in h (c ∷ cs) = held_where h c.home c.what (held_in h cs)

-- Fields and elements have the columns that hold them, and the arrays of one type stand in order of their cells.
pub record HasColumns (l : Layout) (kept : ℕ → Bool) (cs : List Column) : Type 0 where
  pub fields : (f : ℕ) (c : layout.Column) → l.column f ≡ Some c → slice_get (held_in c.home cs) c.column ≡ Some (TheField f)
  pub items : (j t n : ℕ) → IsArray l j t (suc n) → slice_get (held_in (l.items t).home cs) (l.items t).column ≡ Some (TheItems t)
  pub starts : (j t n : ℕ) → IsArray l j t n → l.start j ≡ start_of kept t 0 l.kinds j
  pub kept_cells : (j : ℕ) → 0 < l.numbering.number j → kept j ≡ true

-- Numbers of objects are in the intervals of their classes, and in one hierarchy no two objects have one number.
pub record HasNumbers (p : Tables) (l : Layout) : Type 0 where
  pub spans : (j d c : ℕ) → IsObject l j d → one_hierarchy p d c ≡ true → is_below p d c ≡ is_within (l.first c) (l.count c) (l.numbering.number j)
  pub one_object : (i j d e : ℕ) → IsObject l i d → IsObject l j e → one_hierarchy p d e ≡ true → l.numbering.number i ≡ l.numbering.number j → i ≡ j
