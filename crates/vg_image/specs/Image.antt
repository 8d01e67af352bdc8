-- What the flash of an image holds.
use Rattle.std.specs.Prelude.{ℕ, zero, suc, ◌+◌, ◌/◌, ◌%◌, List, [], ◌∷◌, ◌++◌, length, replicate, Option, Some, None, slice_get}
use Rattle.std.specs.List.{flat_map}
use Rattle.avr_instr.specs.declared.instr.Instr.{Instr}
use Rattle.avr_instr.specs.declared.instr.Instr.TheVariants.{Jmp, Reti}
use Rattle.avr_isa.specs.Standing.{instr_bytes, widths}

-- The parts of an image: of each vector from 1 to 34 the word address of the stub to which its slot leads, where it has one; the bytes of the tables; and
-- all code, the one behind reset first.
pub record Parts : Type 0 where
  pub slots : (vector : ℕ) → Option ℕ
  pub tables : List ℕ
  pub code : List Instr

-- A slot has two words. An interrupt without a stub returns at once.
abbrev pub slot_code : Option ℕ → List Instr
slot_code (Some at) = Jmp at ∷ []
slot_code None = Reti ∷ Reti ∷ []

abbrev pub slots_from : (slots : ℕ → Option ℕ) → (vector count : ℕ) → List Instr
slots_from slots v zero = []
slots_from slots v (suc n) = slot_code (slots v) ++ slots_from slots (suc v) n

-- The tables begin at the byte address 0x008C, behind 35 slots, and the code at the next whole word.
abbrev pub first_table : ℕ
first_table = 0x8C

abbrev pub code_start : (tables : List ℕ) → ℕ
code_start tables = 70 + (length tables + 1) / 2

abbrev pub filler : (tables : List ℕ) → List ℕ
filler tables = replicate (length tables % 2) 0xFF

-- the slots: that of reset leads to the code
abbrev pub vectors : Parts → List Instr
vectors p = Jmp (code_start p.tables) ∷ slots_from p.slots 1 34

abbrev pub flash_of : Parts → List ℕ
flash_of p = flat_map instr_bytes (vectors p) ++ (p.tables ++ (filler p.tables ++ flat_map instr_bytes p.code))

-- how many words of flash it takes
abbrev pub words_of : Parts → ℕ
words_of p = code_start p.tables + widths p.code

-- An option of an option, as one.
abbrev pub flattened : Option (Option ℕ) → Option ℕ
flattened (Some o) = o
flattened None = None

-- the parts of which code makes an image: the slot of each vector by its number, of which the first counts for nothing
abbrev pub slot_in : List (Option ℕ) → ℕ → Option ℕ
slot_in slots k = flattened (slice_get slots k)

abbrev pub parts : List (Option ℕ) → (tables : List ℕ) → List Instr → Parts
parts slots tables code = record { slots = slot_in slots; tables = tables; code = code }
