-- The code that sets SP, and what the code behind it sees.
use Rattle.std.specs.Prelude.{ℕ, List, [], ◌∷◌, take}
use Rattle.vg_meaning.specs.Outside.{Outside}
use Rattle.avr_instr.specs.declared.instr.Instr.{Instr}
use Rattle.avr_instr.specs.declared.instr.Instr.TheVariants.{Ldi, Out}
use Rattle.avr_isa.specs.Cpu.{PowerOn}
use Rattle.avr_isa.specs.Machine.{State}
use Rattle.avr_view.specs.Registers.{Regs}
use Rattle.avr_view.specs.Run.{Run}
use Rattle.avr_view.specs.View.{At}

-- SP is the last address of SRAM, by one of r16 to r31
abbrev pub start_code : (register : ℕ) → List Instr
start_code d = Ldi d 0x10 ∷ Out 0x3E d ∷ Ldi d 0xFF ∷ Out 0x3D d ∷ []

-- the stack is empty, the static area holds what SRAM held at power-on, and nothing was shown yet; what the registers hold is open
pub record Started (e : Run) (memory : PowerOn) (o : Outside) (pc : ℕ) (s : State) : Type 0 where
  pub regs : Regs
  pub at : At e pc (record { regs = regs; static = take e.static memory.sram; stack = []; out = o }) s
