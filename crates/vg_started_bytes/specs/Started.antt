-- Where the columns and the tables of a program stand, and what bytes hold of them.
use Rattle.std.specs.Prelude.{◌≡◌, ◌≢◌, ◌⊎◌, ℕ, ◌+◌, ◌-◌, ◌*◌, ◌^◌, ◌<◌, ◌≤◌, List, length, map, Some, slice_get}
use Rattle.vg_codes.specs.Codes.{Codes}
use Rattle.vg_firm.specs.declared.step.ArrayPlace.{ArrayPlace}
use Rattle.vg_flatten_shapes.specs.declared.layout.Place.{Place}
use Rattle.vg_lin.specs.State.{number_at}
use Rattle.vg_placement.specs.declared.column.Column.{Column}
use Rattle.vg_tables.specs.declared.datum.Datum.{Datum}
use Rattle.vg_tables.specs.Bytes.{byte_of}
use Rattle.vg_packed.specs.Packed.{ram_columns}
pub use Rattle.vg_table_bytes.specs.Rows.{if_table, tables_in}

-- ---- where they stand

abbrev pub place_of : Column → Place
place_of c = record { address = c.at; width = c.width; count = c.count }

-- The places of the columns in RAM, in their order.
abbrev pub ram_places : List Column → List Place
ram_places cs = map place_of (ram_columns cs)

abbrev pub address_of : Column → ℕ
address_of c = c.at

-- The addresses of the tables.
abbrev pub table_addresses : List Column → List ℕ
table_addresses cs = map address_of (tables_in cs)

-- ---- what bytes hold

-- The bytes of tables in an image, by the code numbers of procedures.
abbrev pub bytes_in : Codes → List Datum → List ℕ
bytes_in k ds = map (byte_of k) ds

-- The bytes, the first of which has the address `first`, hold these values at a place, one behind another, each in as many bytes as an entry has.
pub record HoldsColumn (bytes : List ℕ) (first : ℕ) (place : Place) (vs : List ℕ) : Type 0 where
  pub counted : length vs ≡ place.count
  pub behind : first ≤ place.address
  pub short : place.address + place.width * length vs ≤ 65536
  pub held : (i v : ℕ) → slice_get vs i ≡ Some v
      → (number_at bytes place.width (place.address - first + place.width * i) ≡ Some v) × (v < 256 ^ place.width)

-- They hold columns at these places, of which no two share a byte.
pub record HoldsColumns (bytes : List ℕ) (first : ℕ) (places : List Place) (columns : List (List ℕ)) : Type 0 where
  pub each : (c : ℕ) (place : Place) (vs : List ℕ) → slice_get places c ≡ Some place → slice_get columns c ≡ Some vs → HoldsColumn bytes first place vs
  pub apart : (c d : ℕ) (one two : Place) (vs us : List ℕ) → c ≢ d → slice_get places c ≡ Some one → slice_get columns c ≡ Some vs
      → slice_get places d ≡ Some two → slice_get columns d ≡ Some us
      → (one.address + one.width * length vs ≤ two.address) ⊎ (two.address + two.width * length us ≤ one.address)

-- They hold a table at an address: four bytes for each array, its address and, in the upper two, its length.
pub record HoldsTable (bytes : List ℕ) (first address : ℕ) (arrays : List ArrayPlace) : Type 0 where
  pub behind : first ≤ address
  pub short : address + 4 * length arrays ≤ 65536
  pub addresses : (i : ℕ) (a : ArrayPlace) → slice_get arrays i ≡ Some a
      → (number_at bytes 2 (address - first + 4 * i) ≡ Some a.address) × (a.address < 65536)
  pub lengths : (i : ℕ) (a : ArrayPlace) → slice_get arrays i ≡ Some a
      → (number_at bytes 2 (address - first + 4 * i + 2) ≡ Some a.length) × (a.length < 65536)
