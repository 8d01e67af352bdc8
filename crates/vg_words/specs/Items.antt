-- The items that the words behind a command spell: plain words, and options with their values.
use Rattle.std.specs.Prelude.{ℕ, ◌+◌, ◌==◌, Bool, false, List, [], ◌∷◌, map, take, drop, position, Option, Some, None, if◌then◌else◌, codes}
use Rattle.std.specs.Str.{bytes_eq}

-- a plain word, an option and its value, or an option that has none
pub data Item : Type 0 where
  Plain : (word : List ℕ) → Item
  Set : (name value : List ℕ) → Item
  Bare : (name : List ℕ) → Item

-- the word `--`, behind which each word is plain
abbrev pub ends_options : List ℕ → Bool
ends_options word = bytes_eq word (codes "--")

-- an option starts with `-`, and is longer than that
abbrev pub is_option : List ℕ → Bool
is_option (first ∷ second ∷ rest) = first == 45
is_option _ = false

-- where the first `=` of a word stands
abbrev pub equals_at : List ℕ → Option ℕ
equals_at = position (λ b. b == 61)

-- the items of an option and the words behind it. Where the option has an `=`, its value is what stands behind the first,
-- and the items behind it follow; else its value is the next word
abbrev pub option_items : (word : List ℕ) → Option ℕ → (behind with_next : List Item) → List Item
option_items word (Some at) behind with_next = Set (take at word) (drop (at + 1) word) ∷ behind
option_items word None behind with_next = with_next

-- the items that the words behind a command spell, in order
abbrev pub items : List (List ℕ) → List Item
items [] = []
items (word ∷ []) =
    if ends_options word then []
    else if is_option word then option_items word (equals_at word) [] (Bare word ∷ [])
    else Plain word ∷ []
items (word ∷ next ∷ rest) =
    if ends_options word then map Plain (next ∷ rest)
    else if is_option word then option_items word (equals_at word) (items (next ∷ rest)) (Set word next ∷ items rest)
    else Plain word ∷ items (next ∷ rest)

-- the plain words, in order
abbrev pub plain_words : List Item → List (List ℕ)
plain_words [] = []
plain_words (Plain word ∷ more) = word ∷ plain_words more
plain_words (Set name value ∷ more) = plain_words more
plain_words (Bare name ∷ more) = plain_words more

-- the values that the option of this name is given, in order
abbrev pub values_of : List ℕ → List Item → List (List ℕ)
values_of wanted [] = []
values_of wanted (Plain word ∷ more) = values_of wanted more
values_of wanted (Set name value ∷ more) =
    if bytes_eq name wanted then value ∷ values_of wanted more else values_of wanted more
values_of wanted (Bare name ∷ more) = values_of wanted more

-- the word of a list that has exactly one, and the words of a list that has exactly two
abbrev pub one : List (List ℕ) → Option (List ℕ)
one (a ∷ []) = Some a
one _ = None

abbrev pub two : List (List ℕ) → Option (List ℕ × List ℕ)
two (a ∷ b ∷ []) = Some (a, b)
two _ = None
