-- Bytes and words as signed numbers.
use Rattle.std.specs.Prelude.{ℕ, ◌-◌, ℤ, pos, negsuc, ◌≤ℤ◌, nat_lt, if◌then◌else◌}

-- the number that a byte stands for in two's complement
abbrev pub signed : ℕ → ℤ
signed byte = if nat_lt byte 128 then pos byte else negsuc (255 - byte)

-- a number from -128 to 127
abbrev pub IsSignedByte : ℤ → Type 0
IsSignedByte x = (negsuc 127 ≤ℤ x) × (x ≤ℤ pos 127)

-- the same for two bytes
abbrev pub signed_word : ℕ → ℤ
signed_word word = if nat_lt word 0x8000 then pos word else negsuc (65535 - word)

-- a number from -32,768 to 32,767
abbrev pub IsSignedWord : ℤ → Type 0
IsSignedWord x = (negsuc 32767 ≤ℤ x) × (x ≤ℤ pos 32767)
