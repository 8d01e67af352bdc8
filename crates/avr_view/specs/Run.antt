-- How a run of the machine goes from a state: it comes to a state of some kind, or an instruction reaches below the floor of its stack first.
use Rattle.std.specs.Prelude.{ℕ, ◌≡◌, ◌+◌, ◌<◌, ◌≤◌, ◌⊎◌, Bool, true, List, ◌++◌, Some}
use Rattle.vg_meaning.specs.declared.event.Event.{Event}
use Rattle.vg_meaning.specs.Outside.{Outside}
use Rattle.avr_instr.specs.declared.instr.Instr.{Instr}
use Rattle.avr_isa.specs.declared.ending.MachineEnd.{MachineEnd}
use Rattle.avr_isa.specs.declared.stack.StackUse.{StackUse}
use Rattle.avr_isa.specs.declared.stack.StackUse.TheVariants.{Stores}
use Rattle.avr_isa.specs.Cpu.{is_enabled}
use Rattle.avr_isa.specs.Stack.{stack_use}
use Rattle.avr_isa.specs.Machine.{State, instr_here, run_from}
use Rattle.avr_isa.specs.Agrees.{IsAt, ReachesFloor}
use Rattle.avr_bytes.specs.Bytes.{IsFlash}

-- what is fixed in a run: the flash, how many bytes the static area has, the floor of the stack, the trace of the whole run, and the word
-- addresses at which interrupts are let in
pub record Run : Type 0 where
  pub flash : List ℕ
  pub static : ℕ
  pub floor : ℕ
  pub whole : List Event
  pub lets_in : ℕ → Bool
  pub is_flash : IsFlash flash
  pub apart : 0x100 + static ≤ floor

-- a store to SRAM falls in the static area, or on the stack, at the floor or above; what is pushed is told by the lowest address of the stack
abbrev pub StoresWithin : Run → (sp : ℕ) → StackUse → Type 0
StoresWithin e sp (Stores address) = 0x100 ≤ address → (address < 0x100 + e.static) ⊎ ((sp < address) × (e.floor ≤ address))
StoresWithin e sp _ = Unit {0}

-- interrupts are enabled only where they are let in
abbrev pub IsQuiet : Run → State → Type 0
IsQuiet e s = is_enabled s.cpu.sreg ≡ true → e.lets_in s.cpu.pc ≡ true

-- what holds of each state on the way: the instruction that stands there stores where it may, and interrupts come where they may
pub record Tidy (e : Run) (s : State) : Type 0 where
  pub stores : (i : Instr) → instr_here e.flash s.cpu ≡ Some i → StoresWithin e s.cpu.sp (stack_use i s.cpu)
  pub quiet : IsQuiet e s

-- in at least n instructions the run from s comes to a state of this kind
pub record Comes (e : Run) (n : ℕ) (s : State) (P : State → Type 0) : Type 0 where
  pub after : ℕ
  pub least : n ≤ after
  pub tidy : (i : ℕ) → i < after → Tidy e (run_from e.flash i s)
  pub there : P (run_from e.flash after s)

-- an instruction of the run from s reaches below the floor, and what was shown before it is a front of the whole trace
pub record Sinks (e : Run) (s : State) : Type 0 where
  pub reaches : ReachesFloor (λ k. run_from e.flash k s) e.whole e.floor
  pub tidy : (i : ℕ) → i < reaches.k → Tidy e (run_from e.flash i s)

-- one of both, where only a deep run sinks
abbrev pub Goes : (e : Run) (deep : Type 0) (n : ℕ) (s : State) (P : State → Type 0) → Type 0
Goes e deep n s P = Comes e n s P ⊎ (deep × Sinks e s)

-- the whole trace goes on from here
pub record Front (e : Run) (o : Outside) : Type 0 where
  pub more : List Event
  pub front : e.whole ≡ o.trace ++ more

-- the run has ended so, with its stack at the floor or above
pub record Ended (e : Run) (end : MachineEnd) (o : Outside) (s : State) : Type 0 where
  pub is_at : IsAt s (Some end) o.trace e.floor
  pub quiet : IsQuiet e s
