-- Which number a text has among the texts that have a name.
use Rattle.std.specs.Prelude.{ℕ, List, [], ◌∷◌, ◌++◌, if◌then◌else◌}
use Rattle.std.specs.List.{list_any, position_or_len}
use Rattle.std.specs.Str.{bytes_eq}

-- the number of a text: its place in the list, or the next number where it is not held yet
abbrev pub number_of : List ℕ → List (List ℕ) → ℕ
number_of text texts = position_or_len (bytes_eq text) texts

-- the texts once this one is held: it goes last where it is new
abbrev pub with_text : List ℕ → List (List ℕ) → List (List ℕ)
with_text text texts = if list_any (bytes_eq text) texts then texts else texts ++ text ∷ []
