-- How a list of instructions stands in the flash.
use Rattle.std.specs.Prelude.{ℕ, ◌≡◌, ◌+◌, ◌/◌, ◌%◌, List, [], ◌∷◌, ◌++◌, Option, Some, None}
use Rattle.avr_instr.specs.declared.instr.Instr.{Instr}
use Rattle.avr_instr.specs.Spelled.{first_word, second_word}
use Rattle.avr_instr.specs.Decoded.{decoded}
use Rattle.avr_isa.specs.Cpu.{flash_word, forward}

-- the bytes of a word: the low one first
abbrev pub word_bytes : ℕ → List ℕ
word_bytes word = word % 256 ∷ word / 256 ∷ []

abbrev pub second_bytes : Option ℕ → List ℕ
second_bytes None = []
second_bytes (Some word) = word_bytes word

-- the bytes of an instruction
abbrev pub instr_bytes : Instr → List ℕ
instr_bytes instr = word_bytes (first_word instr) ++ second_bytes (second_word instr)

abbrev pub words_with : Option ℕ → ℕ
words_with None = 1
words_with (Some word) = 2

-- how many words an instruction takes
abbrev pub width : Instr → ℕ
width instr = words_with (second_word instr)

-- how many words instructions take
abbrev pub widths : List Instr → ℕ
widths [] = 0
widths (instr ∷ rest) = width instr + widths rest

-- at this word address the flash spells this instruction
abbrev pub StandsAt : List ℕ → ℕ → Instr → Type 0
StandsAt flash pc instr = decoded (flash_word flash pc) (flash_word flash (forward 1 pc)) ≡ Some instr

-- from this word address on the flash spells these instructions
abbrev pub AllStandAt : List ℕ → ℕ → List Instr → Type 0
AllStandAt flash pc [] = Unit {0}
AllStandAt flash pc (instr ∷ rest) = StandsAt flash pc instr × AllStandAt flash (pc + width instr) rest
