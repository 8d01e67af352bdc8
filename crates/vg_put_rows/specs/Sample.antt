-- Small procedures.
use Rattle.std.specs.Prelude.{ℕ, List, [], ◌∷◌, None}
use Rattle.vg_lin.specs.declared.instr.Operand.TheVariants.{Local}
use Rattle.vg_lin.specs.declared.instr.Plain.TheVariants.{WriteDevice}
use Rattle.vg_lin.specs.declared.instr.Instr.TheVariants.{Plain, Idle, Jump}
use Rattle.vg_lin.specs.Program.{Procedure}

-- Some have locals of these widths, of which so many are parameters, and idle for ever.
abbrev pub idling : (params : ℕ) (widths : List ℕ) → Procedure
idling n ws = record { method = None; params = n; result = 0; widths = ws; code = Idle ∷ Jump 0 ∷ [] }

-- a local of two bytes, and another one of one byte
abbrev pub sample : (params : ℕ) → Procedure
sample n = idling n (2 ∷ 1 ∷ [])

-- four locals, of which the first ones have too many bytes to arrive in registers, where three or four are parameters
abbrev pub pushing : (params : ℕ) → Procedure
pushing n = idling n (4 ∷ 4 ∷ 2 ∷ 1 ∷ [])

-- Another one takes the two locals of the first as parameters, and writes the last of them to a device.
abbrev pub taking : Procedure
taking = record { method = None; params = 2; result = 0; widths = 2 ∷ 1 ∷ []; code = Plain (WriteDevice 0x38 (Local 1)) ∷ Jump 0 ∷ [] }

-- Another one has the same locals, waits for an interrupt, and writes the last of them to a device.
abbrev pub lasting : Procedure
lasting = record { method = None; params = 0; result = 0; widths = 2 ∷ 1 ∷ []; code = Idle ∷ Plain (WriteDevice 0x38 (Local 1)) ∷ Jump 0 ∷ [] }

-- three parameters that are pushed, the last of one byte, sixteen bytes of locals, and a local of two bytes behind them
abbrev pub wide : Procedure
wide = idling 3 (4 ∷ 4 ∷ 1 ∷ 4 ∷ 4 ∷ 2 ∷ 4 ∷ 2 ∷ 2 ∷ [])
