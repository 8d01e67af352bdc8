-- The lines of a text.
use Rattle.std.specs.Prelude.{ℕ, ◌==◌, ◌&&◌, Bool, false, List, [], ◌∷◌, if◌then◌else◌}

-- whether the next byte is LF
abbrev pub begins_lf : List ℕ → Bool
begins_lf [] = false
begins_lf (b ∷ bs) = b == 10

-- one byte in front of the first line
abbrev pub with_first : ℕ → List (List ℕ) → List (List ℕ)
with_first b [] = (b ∷ []) ∷ []
with_first b (l ∷ ls) = (b ∷ l) ∷ ls

-- a line ends with LF or CR LF, which are no part of it; the last line may have no end
abbrev pub lines : List ℕ → List (List ℕ)
lines [] = []
lines (b ∷ bs) =
    if b == 10 then [] ∷ lines bs
    else if (b == 13) && begins_lf bs then lines bs
    else with_first b (lines bs)
