-- Places in a text.
use Rattle.std.specs.Prelude.{ℕ, ◌+◌, length, List, [], ◌∷◌, if◌then◌else◌}
use Rattle.std.specs.List.{list_any}
use Rattle.vg_base.specs.declared.place.Place.{Place}
use Rattle.vg_syntax.specs.Bytes.{is_line_end}

-- how many line ends there are
abbrev pub line_ends : List ℕ → ℕ
line_ends [] = 0
line_ends (b ∷ bs) = if is_line_end b then line_ends bs + 1 else line_ends bs

-- the bytes behind the last line end
abbrev pub last_line : List ℕ → List ℕ
last_line [] = []
last_line (b ∷ bs) = if list_any is_line_end (b ∷ bs) then last_line bs else b ∷ bs

-- the place of a byte, from the bytes before it
abbrev pub place_behind : List ℕ → Place
place_behind bytes = record { line = 1 + line_ends bytes; col = 1 + length (last_line bytes) }
