-- What the entries of columns begin with.
use Rattle.std.specs.Prelude.{ℕ}
use Rattle.vg_codes.specs.Codes.{Codes, delegate}
use Rattle.vg_tables.specs.declared.entry.Entry.{Entry}
use Rattle.vg_tables.specs.declared.entry.Entry.TheVariants.{Number, Delegate}

-- The number that an entry is, by the code numbers of procedures.
abbrev pub number_in : Codes → Entry → ℕ
number_in k (Number n) = n
number_in k (Delegate q r) = delegate k q r
