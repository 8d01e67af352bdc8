-- The limits on what goes in.
use Rattle.std.specs.Prelude.{ℕ}

-- the bytes that a source text may have
abbrev pub text_limit : ℕ
text_limit = 262144

-- the bytes of the chip's flash (ATmega128 datasheet, "In-System Reprogrammable Flash Program Memory")
abbrev pub flash_bytes : ℕ
flash_bytes = 131072

-- the bytes that a HEX text and a script may have
abbrev pub image_text_limit : ℕ
image_text_limit = 1048576
