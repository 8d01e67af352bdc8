-- What the processor of the ATmega128 holds, and the flash that it reads.
use Rattle.std.specs.Prelude.{ℕ, ◌≡◌, ◌<◌, ◌+◌, ◌*◌, ◌/◌, ◌%◌, Bool, not, ◌==◌, List, length, replicate, slice_get, unwrap_or}
use Rattle.std.specs.List.{AllByRecursion}

-- the processor: a register, SREG and RAMPZ have a byte, SP is a data address, PC is a word address
pub record CpuState : Type 0 where
  pub registers : List ℕ  -- r0 to r31
  pub sram : List ℕ  -- the bytes at the data addresses 0x0100 to 0x10FF
  pub sreg : ℕ  -- from bit 0: C, Z, N, V, S, H, T, I
  pub sp : ℕ
  pub rampz : ℕ
  pub pc : ℕ

-- what the registers and the SRAM hold at power-on: the chip leaves it open (ATmega128 datasheet, "SRAM Data Memory")
pub record PowerOn : Type 0 where
  pub registers : List ℕ
  pub sram : List ℕ

-- there are 32 registers and 4,096 places of SRAM, and each of them holds a byte
pub record IsPowerOn (memory : PowerOn) : Type 0 where
  pub registers : length memory.registers ≡ 32
  pub sram : length memory.sram ≡ 4096
  pub register_bytes : AllByRecursion (λ b. b < 256) memory.registers
  pub sram_bytes : AllByRecursion (λ b. b < 256) memory.sram

-- so many bytes of 0xA5
unfoldable pub marks : ℕ → List ℕ
marks bytes = replicate bytes 0xA5

-- the contents that the programs here take: 0xA5 everywhere
abbrev pub marked : PowerOn
marked = record { registers = marks 32; sram = marks 4096 }

-- the processor at reset, with these contents at power-on
abbrev pub at_reset : PowerOn → CpuState
at_reset memory = record { registers = memory.registers; sram = memory.sram; sreg = 0; sp = 0; rampz = 0; pc = 0 }

-- the byte of the flash at a byte address; behind the image the flash is erased
abbrev pub flash_byte : List ℕ → ℕ → ℕ
flash_byte flash address = unwrap_or (slice_get flash address) 0xFF

-- the word of the flash at a word address, low byte first
abbrev pub flash_word : List ℕ → ℕ → ℕ
flash_word flash address = flash_byte flash (2 * address) + 256 * flash_byte flash (2 * address + 1)

-- the word address that lies some words on; 65,536 words are all
abbrev pub forward : ℕ → ℕ → ℕ
forward words pc = (pc + words) % 65536

-- the I flag, which lets interrupts in
abbrev pub is_enabled : ℕ → Bool
is_enabled sreg = not (sreg / 128 % 2 == 0)

-- SREG with the I flag set, and with it clear
abbrev pub enabled : ℕ → ℕ
enabled sreg = sreg % 128 + 128

abbrev pub disabled : ℕ → ℕ
disabled sreg = sreg % 128
