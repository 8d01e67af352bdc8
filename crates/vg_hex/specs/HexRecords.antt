-- What a line of a HEX text is.
use Rattle.std.specs.Prelude.{ℕ, ◌+◌, ◌*◌, ◌%◌, ◌==◌, ◌||◌, Bool, true, false, List, [], ◌∷◌, length, take, sum, Result, Ok, Err, get_or, if◌then◌else◌}
use Rattle.hex.specs.Hex.{decode_of}
use Rattle.hex.specs.declared.error.FromHexError.{FromHexError}
use Rattle.vg_hex.specs.declared.hex_record.Base.TheVariants.{Segment, Linear}
use Rattle.vg_hex.specs.declared.hex_record.HexRecord.{HexRecord}
use Rattle.vg_hex.specs.declared.hex_record.HexRecord.TheVariants.{Blank, Data, Base as Based, End, Passed, NoSum, NoForm}

-- the number in the two data bytes of a base line, the high byte first
abbrev pub number_in : List ℕ → ℕ
number_in bytes = get_or bytes 0 0 * 256 + get_or bytes 1 0

-- a record of this length, address, type and data
abbrev pub typed : ℕ → ℕ → ℕ → List ℕ → HexRecord
typed length at kind bytes =
    if kind == 0 then Data at bytes
    else if kind == 1 then (if length == 0 then End else NoForm)
    else if kind == 2 then (if length == 2 then Based (Segment (number_in bytes)) else NoForm)
    else if kind == 4 then (if length == 2 then Based (Linear (number_in bytes)) else NoForm)
    else if (kind == 3) || (kind == 5) then Passed
    else NoForm

-- a record is read where the sum of its bytes is 0 modulo 256; one that would be read with another check byte is a wrong sum
abbrev pub summed : Bool → HexRecord → HexRecord
summed true made = made
summed false NoForm = NoForm
summed false made = NoSum

-- the bytes of a record: length, address high and low, type, data, check byte
abbrev pub from_bytes : List ℕ → HexRecord
from_bytes (count ∷ high ∷ low ∷ kind ∷ rest) =
    if length rest == count + 1
    then summed (sum (count ∷ high ∷ low ∷ kind ∷ rest) % 256 == 0) (typed count (high * 256 + low) kind (take count rest))
    else NoForm
from_bytes _ = NoForm

abbrev pub from_digits : Result (List ℕ) FromHexError → HexRecord
from_digits (Err e) = NoForm
from_digits (Ok bytes) = from_bytes bytes

-- a line is empty, or a colon with pairs of digits of either case behind it that spell a record
abbrev pub read_line : List ℕ → HexRecord
read_line [] = Blank
read_line (c ∷ digits) = if c == 58 then from_digits (decode_of digits) else NoForm
