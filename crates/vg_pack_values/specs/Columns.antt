-- Columns of entries as columns of numbers.
use Rattle.std.specs.Prelude.{ℕ, List, [], ◌∷◌, ◌++◌, map, replicate, Option, Some, None}
use Rattle.vg_codes.specs.Codes.{Codes}
use Rattle.vg_firm.specs.declared.step.Home.{Home}
use Rattle.vg_firm.specs.declared.step.Home.TheVariants.{Ram, Flash}
use Rattle.vg_firm.specs.Meaning.{set_entry}
use Rattle.vg_placement.specs.declared.column.Column.{Column}
use Rattle.vg_tables.specs.declared.entry.Entry.{Entry}
use Rattle.vg_tables.specs.declared.entry.Entry.TheVariants.{Number}
use Rattle.vg_tables.specs.Entries.{number_in}

-- The numbers that entries are, by the code numbers of procedures.
abbrev pub numbers_in : Codes → List (List Entry) → List (List ℕ)
numbers_in k rows = map (λ entries. map (number_in k) entries) rows

-- Another number in one entry, where the column stands in RAM.
abbrev pub with_number : Home → (column index number : ℕ) → List (List ℕ) → List (List ℕ)
with_number Ram c i v cols = set_entry cols c i v
with_number Flash c i v cols = cols

abbrev pub row_at : Option (List Entry) → List Entry
row_at (Some row) = row
row_at None = []

-- A column in RAM with 0 for each value.
abbrev pub blank_if : Home → (count : ℕ) → List (List Entry)
blank_if Ram n = replicate n (Number 0) ∷ []
blank_if Flash n = []

abbrev pub blank_rows : List Column → List (List Entry)
blank_rows [] = []
blank_rows (c ∷ cs) = blank_if c.home c.count ++ blank_rows cs
