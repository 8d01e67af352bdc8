-- What the code sees of the machine.
use Rattle.std.specs.Prelude.{ℕ, ◌≡◌, ◌+◌, ◌≤◌, List, length, None}
use Rattle.vg_meaning.specs.declared.event.Event.{Event}
use Rattle.vg_meaning.specs.Outside.{Outside}
use Rattle.avr_isa.specs.Machine.{State}
use Rattle.avr_bytes.specs.Bytes.{HoldsBytes}
use Rattle.avr_view.specs.Registers.{Regs, Shows}
use Rattle.avr_view.specs.Memory.{Divided, Cell, LiesAt, byte_at, static_with, stack_with}
use Rattle.avr_view.specs.Run.{Run, Front}

-- the registers with the flags, the static area from 0x0100 on, the stack from its newest byte on, and the outside
pub record View : Type 0 where
  pub regs : Regs
  pub static : List ℕ
  pub stack : List ℕ
  pub out : Outside

-- the machine is going, at this word address, with interrupts disabled, its stack at the floor or above, and the code sees this
pub record At (e : Run) (pc : ℕ) (v : View) (s : State) : Type 0 where
  pub going : s.ended ≡ None
  pub place : s.cpu.pc ≡ pc
  pub shows : Shows v.regs s.cpu.registers s.cpu.sreg
  pub memory : Divided v.static v.stack s.cpu.sram s.cpu.sp
  pub static : length v.static ≡ e.static
  pub out : s.outside ≡ v.out
  pub front : Front e v.out
  pub above : e.floor ≤ s.lowest
  pub room : e.floor + length v.stack ≤ 0x1100
  pub bytes : HoldsBytes s

-- a cell of SRAM at a data address, what it holds, and the view with another byte in it
abbrev pub IsCell : View → Cell → ℕ → Type 0
IsCell v cell address = LiesAt v.static v.stack cell address

abbrev pub byte_in : View → Cell → ℕ
byte_in v cell = byte_at v.static v.stack cell

abbrev pub with_byte : View → Cell → ℕ → View
with_byte v cell value = record v { static = static_with cell value v.static; stack = stack_with cell value v.stack }

-- the machine is going, and has shown this trace
pub record Shown (e : Run) (trace : List Event) (s : State) : Type 0 where
  pub pc : ℕ
  pub view : View
  pub at : At e pc view s
  pub same : view.out.trace ≡ trace
