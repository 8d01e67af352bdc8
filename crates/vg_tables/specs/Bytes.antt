-- The bytes of tables: the low ones come first.
use Rattle.std.specs.Prelude.{ℕ, zero, suc, ◌+◌, ◌*◌, ◌/◌, ◌%◌, List, [], ◌∷◌, ◌++◌}
use Rattle.vg_codes.specs.Codes.{Codes}
use Rattle.vg_firm.specs.declared.step.ArrayPlace.{ArrayPlace}
use Rattle.vg_tables.specs.declared.datum.Datum.{Datum}
use Rattle.vg_tables.specs.declared.datum.Datum.TheVariants.{Byte, CodeLow, CodeHigh}
use Rattle.vg_tables.specs.declared.entry.Entry.{Entry}
use Rattle.vg_tables.specs.declared.entry.Entry.TheVariants.{Number, Delegate}

-- So many bytes of a number.
abbrev pub low_bytes : (width n : ℕ) → List Datum
low_bytes zero n = []
low_bytes (suc width) n = Byte (n % 256) ∷ low_bytes width (n / 256)

-- Those of a delegate: the code number of its procedure, then the number of its receiver.
abbrev pub delegate_bytes : (procedure receiver : ℕ) → List Datum
delegate_bytes q r = CodeLow q ∷ CodeHigh q ∷ low_bytes 2 r

-- Those of an entry in a column of so many bytes a value. A delegate has four.
abbrev pub entry_bytes : (width : ℕ) → Entry → List Datum
entry_bytes width (Number n) = low_bytes width n
entry_bytes width (Delegate q r) = delegate_bytes q r

-- Those of an array in the table of its type: its place and its length.
abbrev pub array_bytes : ArrayPlace → List Datum
array_bytes a = low_bytes 2 a.address ++ low_bytes 2 a.length

-- The byte that a table has in the image, by the code numbers of procedures.
abbrev pub byte_of : Codes → Datum → ℕ
byte_of k (Byte b) = b
byte_of k (CodeLow q) = k.code q % 256
byte_of k (CodeHigh q) = k.code q / 256

-- The number of bytes, the low one first.
abbrev pub number_of : Codes → List Datum → ℕ
number_of k [] = 0
number_of k (d ∷ ds) = byte_of k d + 256 * number_of k ds
