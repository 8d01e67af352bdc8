-- All code between reset and the first procedure, which stands right behind it.
use Rattle.std.specs.Prelude.{ℕ, List, [], ◌∷◌, ◌++◌}
use Rattle.avr_instr.specs.declared.instr.Instr.{Instr}
use Rattle.avr_instr.specs.declared.instr.Instr.TheVariants.{Rcall}
use Rattle.vg_templates.specs.Startup.{startup}

-- The next word is called, so that the first procedure has a return address in its frame as every other one; it never goes back there.
abbrev pub reset_code : (count from : ℕ) → List Instr
reset_code n from = startup n from ++ Rcall 0 ∷ []
