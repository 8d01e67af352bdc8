-- A procedure with these locals and a result of so many bytes, for what is said of operands.
use Rattle.std.specs.Prelude.{ℕ, List, [], None}
use Rattle.vg_lin.specs.Program.{Procedure}

abbrev pub with_locals : (widths : List ℕ) → (result : ℕ) → Procedure
with_locals ws r = record { method = None; params = 0; result = r; widths = ws; code = [] }
