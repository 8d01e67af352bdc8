-- The written text of an image.
use Rattle.std.specs.Prelude.{ℕ, zero, suc, ◌+◌, ◌-◌, ◌/◌, ◌%◌, ◌==◌, List, [], ◌∷◌, ◌++◌, length, take, drop, sum, codes, if◌then◌else◌}
use Rattle.hex.specs.Hex.{encode_upper}

-- the byte that makes the sum of all bytes of a record 0 modulo 256
abbrev pub check_of : List ℕ → ℕ
check_of body = (256 - sum body % 256) % 256

-- a record: a colon, then two upper-case digits for each byte, the check byte last
abbrev pub record_line : List ℕ → List ℕ
record_line body = 58 ∷ encode_upper (body ++ check_of body ∷ [])

-- a record of data: how many bytes, the low sixteen bits of the address, type 00, and the bytes
abbrev pub data_line : ℕ → List ℕ → List ℕ
data_line at bytes = record_line (length bytes ∷ at / 256 ∷ at % 256 ∷ 0 ∷ bytes)

-- a record of type 04: the addresses behind it begin at 65,536
abbrev pub base_line : List ℕ
base_line = codes ":020000040001F9"

-- a record of type 01: the end
abbrev pub end_line : List ℕ
end_line = codes ":00000001FF"

-- the lines of n records of 16 bytes, the last of which may be shorter, the first of them at this address
abbrev pub records : ℕ → ℕ → List ℕ → List ℕ
records zero at bytes = []
records (suc n) at bytes =
    (if at == 65536 then base_line ++ 10 ∷ [] else [])
    ++ (data_line (at % 65536) (take 16 bytes) ++ 10 ∷ records n (at + 16) (drop 16 bytes))

-- the text of an image of at most 131,072 bytes
abbrev pub hex_text : List ℕ → List ℕ
hex_text image = records ((length image + 15) / 16) 0 image ++ (end_line ++ 10 ∷ [])
