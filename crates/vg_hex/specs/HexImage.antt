-- The image that a HEX text spells, and its first fault.
use Rattle.std.specs.Prelude.{ℕ, ◌+◌, ◌*◌, ◌%◌, ◌<◌, ◌≡◌, ◌==◌, ◌||◌, Bool, false, List, [], ◌∷◌, ◌++◌, length, nat_le, max, Option, Some, None}
use Rattle.std.specs.Prelude.{get_or, if◌then◌else◌}
use Rattle.vg_base.specs.Limits.{flash_bytes}
use Rattle.vg_lines.specs.Lines.{lines}
use Rattle.vg_hex.specs.declared.fault.HexFault.{HexFault}
use Rattle.vg_hex.specs.declared.fault.HexFault.TheVariants.{Form, Sum, Twice, Beyond, NoEnd}
use Rattle.vg_hex.specs.declared.hex_record.Base.{Base}
use Rattle.vg_hex.specs.declared.hex_record.Base.TheVariants.{Unset, Segment, Linear}
use Rattle.vg_hex.specs.declared.hex_record.HexRecord.{HexRecord}
use Rattle.vg_hex.specs.declared.hex_record.HexRecord.TheVariants.{Blank, Data, Base as Based, End, Passed, NoSum, NoForm}
use Rattle.vg_hex.specs.HexRecords.{read_line}

-- what a text names, in its order: a byte at an address, or a line that has no reading
pub data Named : Type 0 where
  Byte : (address value : ℕ) → Named
  Bad : (fault : HexFault) → Named

-- the address of the data byte of this index, in a record of this address behind this base line
abbrev pub data_address : Base → ℕ → ℕ → ℕ
data_address Unset at index = at + index
data_address (Segment value) at index = value * 16 + (at + index) % 65536
data_address (Linear value) at index = value * 65536 + (at + index)

-- the data bytes of a record from this index on
abbrev pub bytes_named : Base → ℕ → ℕ → List ℕ → List Named
bytes_named base at index [] = []
bytes_named base at index (b ∷ bs) = Byte (data_address base at index) b ∷ bytes_named base at (index + 1) bs

-- behind the end stand empty lines alone
abbrev pub behind_end : ℕ → List (List ℕ) → List Named
behind_end n [] = []
behind_end n ([] ∷ ls) = behind_end (n + 1) ls
behind_end n ((c ∷ l) ∷ ls) = Bad (Form n) ∷ []

-- what the line of this number names, and then the lines behind it, by the base that it leaves
abbrev pub record_named : ℕ → Base → HexRecord → (Base → List Named) → List Named → List Named
record_named n base Blank rest behind = rest base
record_named n base (Data at bytes) rest behind = bytes_named base at 0 bytes ++ rest base
record_named n base (Based new) rest behind = rest new
record_named n base End rest behind = behind
record_named n base Passed rest behind = rest base
record_named n base NoSum rest behind = Bad (Sum n) ∷ []
record_named n base NoForm rest behind = Bad (Form n) ∷ []

-- what the lines from this number on name
abbrev pub lines_named : ℕ → List (List ℕ) → Base → List Named
lines_named n [] base = Bad NoEnd ∷ []
lines_named n (l ∷ ls) base = record_named n base (read_line l) (lines_named (n + 1) ls) (behind_end (n + 1) ls)

-- what a text names; lines have numbers from 1
abbrev pub named : List ℕ → List Named
named text = lines_named 1 (lines text) Unset

abbrev pub is_among : ℕ → List ℕ → Bool
is_among a [] = false
is_among a (b ∷ bs) = (a == b) || is_among a bs

-- the first fault, where the bytes before have these addresses: the flash has 131,072 bytes, and each is named once
abbrev pub first_fault : List ℕ → List Named → Option HexFault
first_fault seen [] = None
first_fault seen (Bad fault ∷ es) = Some fault
first_fault seen (Byte a v ∷ es) =
    if nat_le flash_bytes a then Some (Beyond a)
    else if is_among a seen then Some (Twice a)
    else first_fault (a ∷ seen) es

-- the first fault of a text, if it has one
abbrev pub fault_in : List ℕ → Option HexFault
fault_in text = first_fault [] (named text)

-- the byte that is named at an address, and 0xFF where none is
abbrev pub byte_at : ℕ → List Named → ℕ
byte_at a [] = 255
byte_at a (Byte b v ∷ es) = if a == b then v else byte_at a es
byte_at a (Bad fault ∷ es) = byte_at a es

-- one more than the highest address that is named
abbrev pub reach : List Named → ℕ
reach [] = 0
reach (Byte a v ∷ es) = max (a + 1) (reach es)
reach (Bad fault ∷ es) = reach es

-- the text has no fault, and the image is what it names
pub record HexImage (text image : List ℕ) : Type 0 where
  pub faultless : fault_in text ≡ None
  pub whole : length image ≡ reach (named text)
  pub bytes : (a : ℕ) → a < length image → get_or image a 0 ≡ byte_at a (named text)
