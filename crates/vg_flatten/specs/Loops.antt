-- Whether code has a loop.
use Rattle.std.specs.Prelude.{Bool, true, false, ◌||◌}
use Rattle.vg_meaning.specs.Code.{Code, Then, If, Loop}

abbrev pub has_loop : {P : Type 0} → Code P → Bool
has_loop (Then a b) = has_loop a || has_loop b
has_loop (If a b) = has_loop a || has_loop b
has_loop (Loop c body next) = true
has_loop _ = false
