-- What a script says: the values of the reads to come, and the interrupts to come.
use Rattle.std.specs.Prelude.{ℕ, ◌+◌, ◌-◌, ◌*◌, ◌≡◌, ◌==◌, ◌&&◌, List, [], ◌∷◌, nat_le, Option, Some, None, Result, Ok, if◌then◌else◌}
use Rattle.std.specs.List.{flat_map}
use Rattle.vg_lines.specs.Lines.{lines}
use Rattle.hex.specs.Hex.{decode_of}
use Rattle.hex.specs.declared.error.FromHexError.{FromHexError}

-- the two lists of a script
pub record Lists : Type 0 where
  pub reads : List ℕ
  pub interrupts : List ℕ

-- a line of a script
pub data Line : Type 0 where
  Passed : Line
  Reads : (values : List ℕ) → Line
  Interrupts : (vectors : List ℕ) → Line
  Bad : Line

-- the byte that was decoded, where one was
abbrev pub one_byte : Result (List ℕ) FromHexError → Option ℕ
one_byte (Ok (b ∷ [])) = Some b
one_byte _ = None

-- a read: a space, and two hexadecimal digits of either case
abbrev pub spaced_pair : ℕ → ℕ → ℕ → Option ℕ
spaced_pair space high low = if space == 32 then one_byte (decode_of (high ∷ low ∷ [])) else None

-- an item in front of others
abbrev pub in_front : Option ℕ → Option (List ℕ) → Option (List ℕ)
in_front (Some b) (Some bs) = Some (b ∷ bs)
in_front _ _ = None

-- reads one behind another
abbrev pub reads_in : List ℕ → Option (List ℕ)
reads_in [] = Some []
reads_in (space ∷ []) = None
reads_in (space ∷ high ∷ []) = None
reads_in (space ∷ high ∷ low ∷ rest) = in_front (spaced_pair space high low) (reads_in rest)

-- an interrupt below 10: a space, and a digit from 1 on
abbrev pub one_digit : ℕ → ℕ → Option ℕ
one_digit space first = if (space == 32) && nat_le 49 first && nat_le first 57 then Some (first - 48) else None

-- an interrupt from 10 to 34: a space, and two digits
abbrev pub two_digits : ℕ → ℕ → ℕ → Option ℕ
two_digits space first second =
    if (space == 32) && nat_le 49 first && nat_le first 57 && nat_le 48 second && nat_le second 57
    && nat_le ((first - 48) * 10 + (second - 48)) 34
    then Some ((first - 48) * 10 + (second - 48))
    else None

-- interrupts one behind another: decimal, without leading zeros
abbrev pub interrupts_in : List ℕ → Option (List ℕ)
interrupts_in [] = Some []
interrupts_in (space ∷ []) = None
interrupts_in (space ∷ first ∷ []) = in_front (one_digit space first) (Some [])
interrupts_in (space ∷ first ∷ next ∷ rest) =
    if next == 32
    then in_front (one_digit space first) (interrupts_in (next ∷ rest))
    else in_front (two_digits space first next) (interrupts_in rest)

-- items, of which there is at least one
abbrev pub some : Option (List ℕ) → Option (List ℕ)
some None = None
some (Some []) = None
some (Some (v ∷ vs)) = Some (v ∷ vs)

abbrev pub reads_line : Option (List ℕ) → Line
reads_line None = Bad
reads_line (Some values) = Reads values

abbrev pub interrupts_line : Option (List ℕ) → Line
interrupts_line None = Bad
interrupts_line (Some vectors) = Interrupts vectors

-- a line is empty, a comment behind #, or r or i with at least one item
abbrev pub line_of : List ℕ → Line
line_of [] = Passed
line_of (c ∷ items) =
    if c == 35 then Passed
    else if c == 114 then reads_line (some (reads_in items))
    else if c == 105 then interrupts_line (some (interrupts_in items))
    else Bad

abbrev pub reads_of : Line → List ℕ
reads_of (Reads values) = values
reads_of _ = []

abbrev pub interrupts_of : Line → List ℕ
interrupts_of (Interrupts vectors) = vectors
interrupts_of _ = []

-- the number of a line that is bad, and else what comes of the lines behind it
abbrev pub or_behind : ℕ → Line → Option ℕ → Option ℕ
or_behind n Bad behind = Some n
or_behind n _ behind = behind

-- the first bad line, where the first of these lines has this number
abbrev pub bad_line : ℕ → List (List ℕ) → Option ℕ
bad_line n [] = None
bad_line n (l ∷ ls) = or_behind n (line_of l) (bad_line (n + 1) ls)

-- the first bad line of a text, by its number from 1
abbrev pub first_bad : List ℕ → Option ℕ
first_bad text = bad_line 1 (lines text)

-- no line is bad, and the lists have the items of the lines in order
pub record IsScript (text : List ℕ) (script : Lists) : Type 0 where
  pub good : first_bad text ≡ None
  pub reads : script.reads ≡ flat_map (λ l. reads_of (line_of l)) (lines text)
  pub interrupts : script.interrupts ≡ flat_map (λ l. interrupts_of (line_of l)) (lines text)
