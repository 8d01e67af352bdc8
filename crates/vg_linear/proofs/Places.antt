-- One column more.
use Rattle.std.proofs.Common.{◌≡◌, refl, ap, ◌∙◌, ℕ, List, [], ◌∷◌, ◌++◌, map, Some, slice_get}
use Rattle.std.proofs.lemmas.Option.{none-some, same_Some}
use Rattle.vg_firm.specs.declared.step.ArrayPlace.{ArrayPlace}
use Rattle.vg_firm.specs.declared.step.Home.{Home}
use Rattle.vg_firm.specs.declared.step.Home.TheVariants.{Ram, Flash}
use Rattle.vg_placement.specs.declared.column.Held.{Held}
use Rattle.vg_placement.specs.declared.column.Held.TheVariants.{Initial, Field as TheField, Elements as TheItems, Table as TheTable}
use Rattle.vg_placement.specs.declared.column.Column.{Column}
use Rattle.vg_packed.specs.Packed.{if_ram, ram_columns}
use Rattle.vg_started_bytes.specs.Started.{address_of, if_table, place_of, ram_places, table_addresses, tables_in}
use Rattle.vg_linear.specs.Laying.{lone_array, lone_arrays}
use Rattle.vg_linear.specs.Places.{place_if, address_if}
use Rattle.vg_linear.proofs.Lists.{from_map}

pub ram_next : (c : Column) (cs : List Column) → ram_places (c ∷ cs) ≡ place_if c.home (place_of c) ++ ram_places cs
ram_next c cs = by c.home
  where
    by : (h : Home) → map place_of (if_ram h c (ram_columns cs)) ≡ place_if h (place_of c) ++ ram_places cs
    by Ram = refl
    by Flash = refl

pub table_next : (c : Column) (cs : List Column) → table_addresses (c ∷ cs) ≡ address_if c.what c.at ++ table_addresses cs
table_next c cs = by c.what
  where
    by : (w : Held) → map address_of (if_table w c (tables_in cs)) ≡ address_if w c.at ++ table_addresses cs
    by (TheTable t) = refl
    by Initial = refl
    by (TheField f) = refl
    by (TheItems t) = refl

-- A table with a lone array has no other.
pub is_lone : (tables : List (List ArrayPlace)) (t : ℕ) (a : ArrayPlace) → slice_get (lone_arrays tables) t ≡ Some (Some a) → slice_get tables t ≡ Some (a ∷ [])
is_lone tables t a e =
    let there = from_map lone_array tables t (Some a) e in there.1 ∙ ap Some (by there.0 there.2)
  where
    by : (arrays : List ArrayPlace) → lone_array arrays ≡ Some a → arrays ≡ a ∷ []
    by [] h = absurd (none-some a h)
    by (b ∷ []) h = ap (λ z. z ∷ []) (same_Some b a h)
    by (b ∷ c ∷ cs) h = absurd (none-some a h)
