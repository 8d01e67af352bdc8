-- Where an image writes to SRAM, and where it lets interrupts in.
use Rattle.std.specs.Prelude.{ℕ, suc, ◌≡◌, ◌+◌, ◌<◌, ◌≤◌, ◌⊎◌, true, List, Some, None}
use Rattle.vg_meaning.specs.Outside.{AreReads, AreVectors}
use Rattle.avr_instr.specs.declared.instr.Instr.{Instr}
use Rattle.avr_isa.specs.declared.stack.StackUse.{StackUse}
use Rattle.avr_isa.specs.declared.stack.StackUse.TheVariants.{Stores}
use Rattle.avr_isa.specs.Cpu.{PowerOn, IsPowerOn, is_enabled}
use Rattle.avr_isa.specs.Machine.{State, instr_here, machine}
use Rattle.avr_isa.specs.Stack.{stack_use}

-- a store to SRAM falls in the static area, or above SP and at the floor or above; of bytes that are pushed the lowest address of the stack tells
abbrev pub StoresThere : (static_bytes floor sp : ℕ) → StackUse → Type 0
StoresThere static_bytes floor sp (Stores address) = 0x100 ≤ address → (address < 0x100 + static_bytes) ⊎ ((sp < address) × (floor ≤ address))
StoresThere static_bytes floor sp _ = Unit {0}

-- the instruction that stands here stores where it may; and where interrupts are enabled, here is the SLEEP of the idle place, or the CLI behind it
pub record IsOrderly (flash : List ℕ) (static_bytes floor idle : ℕ) (s : State) : Type 0 where
  pub stores : (i : Instr) → instr_here flash s.cpu ≡ Some i → StoresThere static_bytes floor s.cpu.sp (stack_use i s.cpu)
  pub quiet : is_enabled s.cpu.sreg ≡ true → (s.cpu.pc ≡ idle) ⊎ (s.cpu.pc ≡ suc idle)

-- In each run, for all contents at power-on, reads and interrupts, each state is so in which the machine is still going, and whose next instruction leaves the
-- stack at the floor or above, as those before it did.
pub record KeepsMemory (flash : List ℕ) (static_bytes floor idle : ℕ) : Type 0 where
  pub each : (memory : PowerOn) (reads interrupts : List ℕ) (k : ℕ) → IsPowerOn memory → AreReads reads → AreVectors interrupts
      → (machine flash memory reads interrupts k).ended ≡ None → floor ≤ (machine flash memory reads interrupts (suc k)).lowest
      → IsOrderly flash static_bytes floor idle (machine flash memory reads interrupts k)
