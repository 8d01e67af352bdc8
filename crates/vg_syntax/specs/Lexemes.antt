-- What a text begins with, where no white space and no comment stands in front: a kind, and how many bytes.
use Rattle.std.specs.Prelude.{ℕ, ◌+◌, ◌-◌, length, Bool, false, not, ◌&&◌, ◌||◌, ◌==◌, zero, suc, List, [], ◌∷◌, take, drop, Option, Some, None, if◌then◌else◌}
use Rattle.std.specs.List.{list_all}
use Rattle.vg_syntax.specs.declared.kind.Kind.{Kind}
use Rattle.vg_syntax.specs.declared.kind.Kind.TheVariants as kind
use Rattle.vg_syntax.specs.declared.lexeme.Lexeme.{Lexeme}
use Rattle.vg_syntax.specs.Bytes.{is_letter, is_digit, is_hex_digit, is_word_byte, is_printable}
use Rattle.vg_syntax.specs.Spellings.{kind_spelled, reserved_words, double_signs, single_signs}

-- a kind and how many bytes it takes
abbrev pub taking : Kind → ℕ → Lexeme
taking kind length = record { kind = kind; length = length }

-- bytes that begin no token are taken to the end of the text
abbrev pub no_token : List ℕ → Lexeme
no_token text = taking kind.Unknown (length text)

-- the first where it is there, else the second
abbrev pub found_or : Option Kind → ℕ → Lexeme → Lexeme
found_or (Some kind) length other = taking kind length
found_or None length other = other

-- how many letters, digits and underscores a text begins with
abbrev pub run_length : List ℕ → ℕ
run_length [] = 0
run_length (b ∷ bs) = if is_word_byte b then run_length bs + 1 else 0

-- a run that begins with a letter or an underscore is a reserved word or a name
abbrev pub word : List ℕ → Lexeme
word text =
    let run = take (run_length text) text in
    found_or (kind_spelled run reserved_words) (run_length text) (taking kind.Name (run_length text))

-- 0x and one or more hexadecimal digits
abbrev pub is_hexadecimal : List ℕ → Bool
is_hexadecimal (zero_digit ∷ x ∷ first ∷ digits) =
    (zero_digit == 48) && (x == 120) && is_hex_digit first && list_all is_hex_digit digits
is_hexadecimal _ = false

-- a number is decimal or hexadecimal
abbrev pub is_number : List ℕ → Bool
is_number run = list_all is_digit run || is_hexadecimal run

-- a run that begins with a digit is a number or no token
abbrev pub number : List ℕ → Lexeme
number text =
    if is_number (take (run_length text) text) then taking kind.Number (run_length text) else no_token text

-- the letters n r t and the signs 0 \ ' " may stand behind a backslash
abbrev pub is_escape : ℕ → Bool
is_escape b = (b == 110) || (b == 114) || (b == 116) || (b == 48) || (b == 92) || (b == 39) || (b == 34)

-- x and two hexadecimal digits may stand behind a backslash too
abbrev pub is_hex_escape : List ℕ → Bool
is_hex_escape (x ∷ high ∷ low ∷ _) = (x == 120) && is_hex_digit high && is_hex_digit low
is_hex_escape _ = false

-- how many bytes an escape takes behind its backslash, and 0 where it is none
abbrev pub escape_length : List ℕ → ℕ
escape_length [] = 0
escape_length (b ∷ bs) = if is_escape b then 1 else if is_hex_escape (b ∷ bs) then 3 else 0

-- how many bytes the element takes with which a text begins between these quotes, and 0 where it begins with none
abbrev pub element_length : ℕ → List ℕ → ℕ
element_length quote [] = 0
element_length quote (b ∷ bs) =
    if b == 92 then (if escape_length bs == 0 then 0 else escape_length bs + 1)
    else if is_printable b && not (b == quote) then 1
    else 0

-- whether a text begins with this byte
abbrev pub begins_with : ℕ → List ℕ → Bool
begins_with byte [] = false
begins_with byte (b ∷ bs) = b == byte

-- a character is one element between single quotes; this text stands behind the first of them
abbrev pub char_literal : List ℕ → Lexeme
char_literal behind =
    let element = element_length 39 behind in
    if not (element == 0) && begins_with 39 (drop element behind) then taking kind.CharLiteral (element + 2)
    else taking kind.Unknown (length behind + 1)

-- Where a string ends, whose opening quote and elements so far are `passed` bytes: behind its closing quote, or
-- nowhere. The first `left` bytes of the text still belong to an element that has begun.
abbrev pub string_end : ℕ → ℕ → List ℕ → Option ℕ
string_end left passed [] = None
string_end (suc left) passed (b ∷ bs) = string_end left (passed + 1) bs
string_end zero passed (b ∷ bs) =
    let element = element_length 34 (b ∷ bs) in
    if b == 34 then Some (passed + 1)
    else if element == 0 then None
    else string_end (element - 1) (passed + 1) bs

-- a string that ends there, or no token
abbrev pub ending : Option ℕ → Lexeme → Lexeme
ending (Some length) other = taking kind.StringLiteral length
ending None other = other

-- a string is any number of elements between double quotes; this text stands behind the first of them
abbrev pub string_literal : List ℕ → Lexeme
string_literal behind = ending (string_end 0 1 behind) (taking kind.Unknown (length behind + 1))

-- a sign of two bytes goes before one of one byte
abbrev pub sign : List ℕ → Lexeme
sign text =
    found_or (kind_spelled (take 2 text) double_signs) 2
    (found_or (kind_spelled (take 1 text) single_signs) 1 (no_token text))

-- what a text begins with
abbrev pub lexeme : List ℕ → Lexeme
lexeme [] = no_token []
lexeme (b ∷ bs) =
    if is_letter b then word (b ∷ bs)
    else if is_digit b then number (b ∷ bs)
    else if b == 39 then char_literal bs
    else if b == 34 then string_literal bs
    else sign (b ∷ bs)
