-- Rows of code while they are made.
use Rattle.std.specs.Prelude.{ℕ, List, [], ◌∷◌}
use Rattle.vg_meaning.specs.Code.{Code, Then}
use Rattle.vg_source.specs.Steps as source
use Rattle.vg_core.specs.declared.code.Code as held_code
use Rattle.vg_types_tables.specs.declared.declared.Declared.{Declared}
use Rattle.vg_types_tables.specs.Views.{code_view}

-- What codes stand for, one behind another, and then this code.
abbrev pub in_front : (texts : List (List ℕ)) → Declared → List held_code.Code → Code source.Step → Code source.Step
in_front texts d [] rest = rest
in_front texts d (c ∷ cs) rest = Then (code_view texts d c) (in_front texts d cs rest)
