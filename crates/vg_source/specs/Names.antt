-- Names of a source text.
use Rattle.std.specs.Prelude.{ℕ, bytes_eq, ◌||◌, Bool, false, List, [], ◌∷◌}

-- A name is its bytes: two names are the same where their bytes are.
abbrev pub Name : Type 0
Name = List ℕ

-- A name is one of a list.
abbrev pub is_among : List Name → Name → Bool
is_among [] x = false
is_among (y ∷ ys) x = bytes_eq y x || is_among ys x
