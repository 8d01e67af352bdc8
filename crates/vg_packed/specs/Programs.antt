-- What a packed program in memory stands for.
use Rattle.std.specs.Prelude.{ℕ, ◌==◌, List, [], ◌∷◌, map, Option, Some, None, if◌then◌else◌}
use Rattle.vg_codes.specs.Codes.{Codes}
use Rattle.vg_firm.specs.Held.{procedure_of}
use Rattle.vg_firm.specs.Program.{Program}
use Rattle.vg_tables.specs.Entries.{number_in}
use Rattle.vg_packed.specs.declared.program.Entrance.{Entrance}
use Rattle.vg_packed.specs.declared.program.FirmProgram.{FirmProgram}

-- The procedure of an interrupt.
abbrev pub handler_in : List Entrance → (vector : ℕ) → Option ℕ
handler_in [] v = None
handler_in (e ∷ es) v = if e.vector == v then Some e.procedure else handler_in es v

-- The program, by the code numbers of its procedures. None of its columns stands in flash.
abbrev pub program_of : Codes → FirmProgram → Program
program_of k f = record {
  flash = [];
  tables = f.tables;
  ram = map (λ entries. map (number_in k) entries) f.columns;
  procedures = map procedure_of f.procedures;
  dispatches = f.dispatches;
  main = f.main;
  handler = handler_in f.handlers;
}
