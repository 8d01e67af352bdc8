-- The value of a hexadecimal number.
use Rattle.std.specs.Prelude.{ℕ, ◌+◌, ◌-◌, ◌*◌, nat_le, List, [], ◌∷◌, drop, if◌then◌else◌}
use Rattle.vg_syntax.specs.Bytes.{is_digit}

-- the value of a hexadecimal digit of either case
abbrev pub digit_value : ℕ → ℕ
digit_value b = if is_digit b then b - 48 else if nat_le b 70 then b - 55 else b - 87

-- the value of some more digits behind those of this value
abbrev pub more_digits : ℕ → List ℕ → ℕ
more_digits value [] = value
more_digits value (d ∷ ds) = more_digits (value * 16 + digit_value d) ds

-- the value of a number that is written as 0x and digits
abbrev pub hex_value : List ℕ → ℕ
hex_value number = more_digits 0 (drop 2 number)
