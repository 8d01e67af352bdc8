-- The program that lists of its parts make.
use Rattle.std.specs.Prelude.{ℕ, suc, ◌==◌, List, [], ◌∷◌, get_or, Option, Some, None, if◌then◌else◌}
use Rattle.vg_codes.specs.Codes.{Codes}
use Rattle.vg_lin.specs.Program.{Program}
use Rattle.vg_lin_states.specs.declared.program.Handler.{Handler}
use Rattle.vg_lin_states.specs.declared.program.LinProgram.{LinProgram}

-- ---- code numbers

-- The code number of a procedure, where the list has those of all procedures by their numbers.
abbrev pub code_from : List ℕ → ℕ → ℕ
code_from codes q = get_or codes q 0

-- The procedure whose code number it is, where those of all procedures from one on stand in a list.
abbrev pub found_from : (procedure : ℕ) → List ℕ → (code : ℕ) → Option ℕ
found_from q [] c = None
found_from q (x ∷ xs) c = if x == c then Some q else found_from (suc q) xs c

abbrev pub codes_by : List ℕ → Codes
codes_by codes = record { code = code_from codes; at_code = found_from 0 codes }

-- ---- handlers

-- The procedure of an interrupt.
abbrev pub handler_in : List Handler → (vector : ℕ) → Option ℕ
handler_in [] v = None
handler_in (h ∷ hs) v = if h.vector == v then Some h.procedure else handler_in hs v

-- ---- programs

abbrev pub program_of : LinProgram → Program
program_of p =
    record {
      procedures = p.procedures;
      dispatches = p.dispatches;
      codes = codes_by p.codes;
      tables = p.tables;
      ram = p.ram;
      handler = handler_in p.handlers;
      start = p.start;
    }
