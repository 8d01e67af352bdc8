-- Numbers as the values of options.
use Rattle.std.specs.Prelude.{ℕ, ◌+◌, ◌-◌, ◌*◌, ◌&&◌, Bool, nat_le, List, [], ◌∷◌, length, Option, Some, None, if◌then◌else◌}
use Rattle.std.specs.List.{list_all}

-- a digit from 0 to 9
abbrev pub is_digit : ℕ → Bool
is_digit b = nat_le 48 b && nat_le b 57

-- what digits spell in decimal, behind digits that spell the first number
abbrev pub decimal_behind : ℕ → List ℕ → ℕ
decimal_behind front [] = front
decimal_behind front (digit ∷ digits) = decimal_behind (front * 10 + (digit - 48)) digits

abbrev pub decimal_number : List ℕ → ℕ
decimal_number = decimal_behind 0

-- a number from 1 to the most, in at most so many digits; leading zeros are digits too
abbrev pub number : (digits most : ℕ) → List ℕ → Option ℕ
number digits most text =
    if list_all is_digit text && nat_le (length text) digits && nat_le 1 (decimal_number text) && nat_le (decimal_number text) most
    then Some (decimal_number text)
    else None
