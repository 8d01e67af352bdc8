-- Mirrors: how the code carries a place along.
use Rattle.std.specs.Prelude.{ℕ, ◌+◌, List, [], ◌∷◌, if◌then◌else◌}
use Rattle.vg_base.specs.declared.place.Place.{Place}
use Rattle.vg_syntax.specs.Bytes.{is_line_end}

-- the place behind one more byte
abbrev pub next_place : Place → ℕ → Place
next_place place b =
    if is_line_end b then record { line = place.line + 1; col = 1 } else record { line = place.line; col = place.col + 1 }

-- the place behind some more bytes
abbrev pub walked : Place → List ℕ → Place
walked place [] = place
walked place (b ∷ bs) = walked (next_place place b) bs
