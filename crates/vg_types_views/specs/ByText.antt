-- Maps from texts.
use Rattle.std.specs.Prelude.{ℕ, List, [], ◌∷◌, ◌++◌, Option, Some, None, is_some, bytes_eq, if◌then◌else◌}

-- What a text is mapped to: the first entry of it.
abbrev pub found : {V : Type 0} → (text : List ℕ) → List (List ℕ × V) → Option V
found text [] = None
found text (e ∷ es) = if bytes_eq e.0 text then Some e.1 else found text es

-- A map with one text more, where it is not mapped yet.
abbrev pub added : {V : Type 0} → (text : List ℕ) → V → List (List ℕ × V) → List (List ℕ × V)
added text v es = if is_some (found text es) then es else es ++ (text, v) ∷ []
