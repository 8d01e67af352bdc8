-- Mirrors of the code that reads a text: no public clause cites them.
use Rattle.std.specs.Prelude.{ℕ, ◌+◌, ◌-◌, ◌≡◌, Bool, true, false, List, [], ◌∷◌, ◌++◌, length, replicate, slice_set, map, nat_le, Option, Some, None}
use Rattle.std.specs.Prelude.{get_or, if◌then◌else◌}
use Rattle.vg_base.specs.Limits.{flash_bytes}
use Rattle.vg_hex.specs.declared.fault.HexFault.{HexFault}
use Rattle.vg_hex.specs.declared.fault.HexFault.TheVariants.{Form, Sum, Twice, Beyond}
use Rattle.vg_hex.specs.declared.hex_record.Base.{Base}
use Rattle.vg_hex.specs.declared.hex_record.HexRecord.{HexRecord}
use Rattle.vg_hex.specs.declared.hex_record.HexRecord.TheVariants.{Blank, Data, Base as Based, End, Passed, NoSum, NoForm}
use Rattle.vg_hex.specs.declared.reader.Step.{Step}
use Rattle.vg_hex.specs.declared.reader.Step.TheVariants.{Goes, Ends}
use Rattle.vg_hex.specs.HexImage.{Named, Byte, Bad, bytes_named}

abbrev pub is_some : Option ℕ → Bool
is_some None = false
is_some (Some v) = true

-- whether a byte with this address was named
abbrev pub is_taken : ℕ → List (Option ℕ) → Bool
is_taken a slots = is_some (get_or slots a None)

-- slots up to this length, the new ones empty
abbrev pub padded : List (Option ℕ) → ℕ → List (Option ℕ)
padded slots n = slots ++ replicate (n - length slots) None

-- a byte at its address
abbrev pub placed : List (Option ℕ) → ℕ → ℕ → List (Option ℕ)
placed slots a v = slice_set (padded slots (a + 1)) a (Some v)

-- what is wrong with a byte of this address
abbrev pub fault_at : List (Option ℕ) → ℕ → Option HexFault
fault_at slots a = if nat_le flash_bytes a then Some (Beyond a) else if is_taken a slots then Some (Twice a) else None

abbrev pub first_of : Option HexFault → Option HexFault → Option HexFault
first_of (Some f) other = Some f
first_of None other = other

-- the first fault of what is named behind these slots
abbrev pub fault_behind : List (Option ℕ) → List Named → Option HexFault
fault_behind slots [] = None
fault_behind slots (Bad f ∷ es) = Some f
fault_behind slots (Byte a v ∷ es) = first_of (fault_at slots a) (fault_behind (placed slots a v) es)

-- the slots once all is placed
abbrev pub slots_behind : List (Option ℕ) → List Named → List (Option ℕ)
slots_behind slots [] = slots
slots_behind slots (Bad f ∷ es) = slots_behind slots es
slots_behind slots (Byte a v ∷ es) = slots_behind (placed slots a v) es

-- the first fault of the record of this line
abbrev pub record_fault : ℕ → List (Option ℕ) → Base → HexRecord → Option HexFault
record_fault n slots base (Data at bytes) = fault_behind slots (bytes_named base at 0 bytes)
record_fault n slots base NoSum = Some (Sum n)
record_fault n slots base NoForm = Some (Form n)
record_fault n slots base _ = None

-- what a record names
abbrev pub record_bytes : Base → HexRecord → List Named
record_bytes base (Data at bytes) = bytes_named base at 0 bytes
record_bytes base _ = []

-- the base behind a record that lets the text go on
abbrev pub base_behind : Base → HexRecord → Option Base
base_behind base Blank = Some base
base_behind base (Data at bytes) = Some base
base_behind base (Based new) = Some new
base_behind base Passed = Some base
base_behind base _ = None

-- what a record without a fault leaves
abbrev pub Leaves : Base → HexRecord → (old new : List (Option ℕ)) → Step → Type 0
Leaves base made old new (Goes next) =
    (base_behind base made ≡ Some next) × (fault_behind old (record_bytes base made) ≡ None) × (new ≡ slots_behind old (record_bytes base made))
Leaves base made old new Ends = (made ≡ End) × (new ≡ old)

-- a slot's byte, and 0xFF where it is empty
abbrev pub byte_in : Option ℕ → ℕ
byte_in None = 255
byte_in (Some v) = v

abbrev pub bytes_in : List (Option ℕ) → List ℕ
bytes_in slots = map byte_in slots
