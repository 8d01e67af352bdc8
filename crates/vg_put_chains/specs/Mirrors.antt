-- Mirrors of private functions. No public clause cites one.
use Rattle.std.specs.Prelude.{ℕ, ◌/◌, ◌%◌, List, [], ◌∷◌}
use Rattle.avr_instr.specs.declared.instr.Instr.{Instr}
use Rattle.avr_instr.specs.declared.instr.Instr.TheVariants.{Subi, Sbci}

-- a number is taken from Y
abbrev pub y_takes : ℕ → List Instr
y_takes n = Subi 28 (n % 256) ∷ Sbci 29 (n / 256) ∷ []
