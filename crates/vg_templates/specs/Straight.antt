-- The code for the plain instructions of linear code, and what each of them asks of the layout where it stands.
use Rattle.std.specs.Prelude.{ℕ, ◌<◌, ◌≤◌, Bool, List, [], ◌∷◌}
use Rattle.vg_meaning.specs.Device.{IsDeviceAddress}
use Rattle.avr_instr.specs.declared.instr.Instr.{Instr}
use Rattle.avr_instr.specs.declared.instr.Instr.TheVariants.{Ldi, Rjmp}
use Rattle.vg_lin.specs.declared.instr.Memory.TheVariants.{Ram}
use Rattle.vg_lin.specs.declared.instr.Plain.{Plain}
use Rattle.vg_lin.specs.declared.instr.Plain.TheVariants.{Copy, Compute, Load, Store, ReadDevice, WriteDevice, Push, CodeOf}
use Rattle.vg_lin.specs.Sound.{IsWidth}
use Rattle.vg_templates.specs.Layouts.{Layout, width_of}
use Rattle.vg_templates.specs.Held.{IsReady, IsSet}
use Rattle.vg_templates.specs.Outcomes.{IsKept}
use Rattle.vg_templates.specs.Plain.{IsBytewise, copies, copies_whole, pushes_value, writes_device, reads_device, computes}
use Rattle.vg_templates.specs.Accesses.{loads_column, stores_column}

-- a run ends with a code in r24, by a jump to itself
abbrev pub stops : (code : ℕ) → List Instr
stops code = Ldi 24 code ∷ Rjmp 0xFFF ∷ []

-- the code; procedures have these code numbers. It is empty for the instructions for which there is no template yet
abbrev pub plain_code : Layout → (codes : ℕ → ℕ) → Plain → List Instr
plain_code l codes (Copy to a) = copies l to a
plain_code l codes (Compute c) = computes l c
plain_code l codes (Load Ram w to a) = loads_column l w to a.base a.index
plain_code l codes (Store w a from) = stores_column l w a.base a.index from
plain_code l codes (ReadDevice to address) = reads_device l to address
plain_code l codes (WriteDevice address a) = writes_device l address a
plain_code l codes (Push w a) = pushes_value l w a
plain_code l codes (CodeOf q to) = copies_whole l to (codes q)
plain_code l codes _ = []

-- There is a template for the instruction, and it can be used where these locals are live, and those behind it: operands are live, a local that is set
-- shares no byte with the others that are live behind, widths are from one to four bytes, and what is read and written are device registers.
abbrev pub IsCovered : Layout → (live behind : ℕ → Bool) → Plain → Type 0
IsCovered l live behind (Copy to a) = IsReady l live a × IsSet l live behind to
IsCovered l live behind (Compute c) =
    (IsBytewise c.operator × ((0 < c.width) × (0 < width_of l c.to))) × ((IsReady l live c.left × IsReady l live c.right) × IsSet l live behind c.to)
IsCovered l live behind (Load Ram w to a) = IsWidth w × (IsReady l live a.index × IsSet l live behind to)
IsCovered l live behind (Store w a from) = IsWidth w × ((IsReady l live a.index × IsReady l live from) × IsKept live behind)
IsCovered l live behind (ReadDevice to address) = IsDeviceAddress address × IsSet l live behind to
IsCovered l live behind (WriteDevice address a) = IsDeviceAddress address × (IsReady l live a × IsKept live behind)
IsCovered l live behind (Push w a) = (w ≤ 4) × (IsReady l live a × IsKept live behind)
IsCovered l live behind (CodeOf q to) = IsSet l live behind to
IsCovered l live behind _ = ⊥

-- how many bytes the instruction pushes
abbrev pub pushed_by : Plain → ℕ
pushed_by (Push w a) = w
pushed_by _ = 0
