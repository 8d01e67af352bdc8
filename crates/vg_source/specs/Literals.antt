-- What the literals of a text stand for, from the bytes of their tokens.
use Rattle.std.specs.Prelude.{ℕ, ◌+◌, ◌-◌, ◌*◌, ◌==◌, List, [], ◌∷◌, length, take, drop, pos, negsuc, if◌then◌else◌}
use Rattle.vg_syntax.specs.Hexadecimal.{digit_value, hex_value}
use Rattle.vg_syntax.specs.Lexemes.{is_hexadecimal}
use Rattle.vg_source.specs.Types.{StaticType, IntType, RawType}
use Rattle.vg_source.specs.Values.{Value, Int, Raw}

-- The number that decimal digits write, behind the number that was written before them.
abbrev pub decimal_behind : ℕ → List ℕ → ℕ
decimal_behind n [] = n
decimal_behind n (b ∷ bs) = decimal_behind (n * 10 + digit_value b) bs

-- The number of a token: hexadecimal behind 0x, else decimal.
abbrev pub number_of : List ℕ → ℕ
number_of bs = if is_hexadecimal bs then hex_value bs else decimal_behind 0 bs

-- A decimal number is an int, and 2147483648 the least int.
abbrev pub int_of : ℕ → Value
int_of n = Int (if n == 2147483648 then negsuc 2147483647 else pos n)

-- The value of a number token: a hexadecimal one of d digits, as written, is a bit string of 4 d bits.
abbrev pub number_value : List ℕ → Value
number_value bs = if is_hexadecimal bs then Raw (4 * (length bs - 2)) (hex_value bs) else int_of (decimal_behind 0 bs)

-- The static type of a number.
abbrev pub number_type : List ℕ → StaticType
number_type bs = if is_hexadecimal bs then RawType (4 * (length bs - 2)) else IntType

-- How much of an element of a char or string was read.
pub data Progress : Type 0 where
  Between : Progress  -- an element begins here
  Escape : Progress  -- behind a backslash
  FirstDigit : Progress  -- behind a backslash and an x
  SecondDigit : (first : ℕ) → Progress  -- behind the first digit too

-- The byte that a letter behind a backslash stands for: n, r, t and 0 are LF, CR, tab and 0, all others stand for themselves.
abbrev pub escaped : ℕ → ℕ
escaped b = if b == 110 then 10 else if b == 114 then 13 else if b == 116 then 9 else if b == 48 then 0 else b

-- The bytes that the elements stand for.
abbrev pub elements : Progress → List ℕ → List ℕ
elements at [] = []
elements Between (b ∷ bs) = if b == 92 then elements Escape bs else b ∷ elements Between bs
elements Escape (b ∷ bs) = if b == 120 then elements FirstDigit bs else escaped b ∷ elements Between bs
elements FirstDigit (b ∷ bs) = elements (SecondDigit (digit_value b)) bs
elements (SecondDigit first) (b ∷ bs) = (first * 16 + digit_value b) ∷ elements Between bs

-- The bytes of a char or string token, between its quotes.
abbrev pub bytes_of : List ℕ → List ℕ
bytes_of spelled = elements Between (take (length spelled - 2) (drop 1 spelled))

-- The byte of a char token.
abbrev pub char_of : List ℕ → ℕ
char_of spelled = first (bytes_of spelled)
  where
    first : List ℕ → ℕ
    first [] = 0
    first (b ∷ bs) = b
