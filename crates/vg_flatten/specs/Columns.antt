-- How the columns and tables of a packed program stand among the bytes of both memories.
use Rattle.std.specs.Prelude.{◌≡◌, ◌≢◌, ◌⊎◌, ℕ, ◌+◌, ◌-◌, ◌*◌, ◌^◌, ◌<◌, ◌≤◌, List, [], ◌∷◌, length, Some, None, slice_get}
use Rattle.vg_firm.specs.declared.step.ArrayPlace.{ArrayPlace}
use Rattle.vg_firm.specs.Program.{Program as FirmProgram}
use Rattle.vg_lin.specs.declared.instr.Memory.{Memory}
use Rattle.vg_lin.specs.declared.instr.Memory.TheVariants.{Ram, Flash}
use Rattle.vg_lin.specs.Program.{Program}
use Rattle.vg_lin.specs.State.{first_address, number_at}
use Rattle.vg_flatten_shapes.specs.declared.layout.Place.{Place}
use Rattle.vg_flatten_shapes.specs.declared.layout.Layout.{Layout}

-- The values of a column stand one behind the other, each in as many bytes as an entry has.
pub record ColumnStands (memory : Memory) (bytes : List ℕ) (place : Place) (vs : List ℕ) : Type 0 where
  pub counted : length vs ≡ place.count
  pub behind : first_address memory ≤ place.address
  pub short : place.address + place.width * length vs ≤ 65536
  pub held : (i v : ℕ) → slice_get vs i ≡ Some v
      → (number_at bytes place.width (place.address - first_address memory + place.width * i) ≡ Some v) × (v < 256 ^ place.width)

-- Those in RAM, at their places: no two of them share a byte.
pub record RamStands (places : List Place) (columns : List (List ℕ)) (bytes : List ℕ) : Type 0 where
  pub stands : (c : ℕ) (place : Place) (vs : List ℕ) → slice_get places c ≡ Some place → slice_get columns c ≡ Some vs → ColumnStands Ram bytes place vs
  pub apart : (c d : ℕ) (first second : Place) (vs us : List ℕ) → c ≢ d → slice_get places c ≡ Some first → slice_get columns c ≡ Some vs
      → slice_get places d ≡ Some second → slice_get columns d ≡ Some us
      → (first.address + first.width * length vs ≤ second.address) ⊎ (second.address + second.width * length us ≤ first.address)
  -- where there is no place, there is no column
  pub known : (c : ℕ) → slice_get places c ≡ None → slice_get columns c ≡ None

-- A table has four bytes for each array: its address and, in the upper two, its length.
pub record TableStands (bytes : List ℕ) (address : ℕ) (arrays : List ArrayPlace) : Type 0 where
  pub behind : first_address Flash ≤ address
  pub short : address + 4 * length arrays ≤ 65536
  pub addresses : (i : ℕ) (a : ArrayPlace) → slice_get arrays i ≡ Some a
      → (number_at bytes 2 (address - first_address Flash + 4 * i) ≡ Some a.address) × (a.address < 65536)
  pub lengths : (i : ℕ) (a : ArrayPlace) → slice_get arrays i ≡ Some a
      → (number_at bytes 2 (address - first_address Flash + 4 * i + 2) ≡ Some a.length) × (a.length < 65536)

-- Those of a program in flash, at the places of a layout.
pub record FlashStands (lay : Layout) (f : FirmProgram) (p : Program) : Type 0 where
  pub columns : (c : ℕ) (place : Place) (vs : List ℕ) → slice_get lay.flash c ≡ Some place → slice_get f.flash c ≡ Some vs
      → ColumnStands Flash p.tables place vs
  pub tables : (t address : ℕ) (arrays : List ArrayPlace) → slice_get lay.tables t ≡ Some address → slice_get f.tables t ≡ Some arrays
      → TableStands p.tables address arrays
  -- where the layout has the one array of a table, the table has no other
  pub lone : (t : ℕ) (a : ArrayPlace) → slice_get lay.lone_arrays t ≡ Some (Some a) → slice_get f.tables t ≡ Some (a ∷ [])
  -- where the layout has no table, the program has none, and where it has no column, the program has none
  pub known : (t : ℕ) → slice_get lay.tables t ≡ None → slice_get f.tables t ≡ None
  pub known_columns : (c : ℕ) → slice_get lay.flash c ≡ None → slice_get f.flash c ≡ None
