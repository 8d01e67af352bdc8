-- What flashes, their layouts and the room for their stacks are.
use Rattle.std.specs.Prelude.{ℕ, ◌≡◌, ◌+◌, ◌-◌, ◌<◌, ◌≤◌, List, map, Option, Result, Ok, Err}
use Rattle.vg_base.specs.declared.refusal.Refusal.{Refusal}
use Rattle.vg_base.specs.declared.refusal.Refusal.TheVariants as refusal
use Rattle.vg_first_text.specs.declared.device_write.DeviceWrite.{DeviceWrite}
use Rattle.vg_first_text.specs.FirstSession.{first_session}
use Rattle.avr_isa.specs.Agrees.{Agrees, NeverReaches}
use Rattle.vg_faults.specs.declared.fault.Fault.{Fault}
use Rattle.vg_faults.specs.declared.fault.Fault.TheVariants.{StackFull}
use Rattle.vg_layout.specs.declared.stack_bound.StackBound.{StackBound}
use Rattle.vg_layout.specs.declared.stack_bound.StackBound.TheVariants as held
use Rattle.vg_layout.specs.declared.layout.Bound.{Bound}
use Rattle.vg_layout.specs.declared.layout.Bound.TheVariants as said
use Rattle.vg_layout.specs.declared.layout.Layout.{Layout}
use Rattle.vg_faults.specs.Room.{HasStack, LacksStack}
use Rattle.vg_fits.specs.declared.fitting.Fitted.{Fitted}
use Rattle.vg_inventory.specs.Names.{method_name}
use Rattle.vg_flash.specs.declared.flash.Flash.{Flash}
use Rattle.vg_flash.specs.declared.room.NoRoom.{NoRoom}
use Rattle.vg_flash.specs.declared.room.Room.{Room}
use Rattle.vg_flash.specs.Stated.{stated}

-- the stated stack stands at the end of SRAM
abbrev pub room_above : (static_bytes : ℕ) → (asked : Option ℕ) → Room
room_above static_bytes asked =
    record { static_bytes = static_bytes; floor = 0x1100 - stated asked static_bytes; stack = stated asked static_bytes }

-- a stack has room and is stated, or it lacks room
abbrev pub Lays : (static_bytes : ℕ) → (asked : Option ℕ) → Result Room NoRoom → Type 0
Lays static_bytes asked (Ok room) = HasStack asked static_bytes × (room ≡ room_above static_bytes asked)
Lays static_bytes asked (Err lacks) = LacksStack asked static_bytes lacks.need lacks.left

-- what is made of writes, with each stack that has room for the two bytes that an interrupt pushes
pub record IsMadeOf (writes : List DeviceWrite) (image : List ℕ) : Type 0 where
  pub agrees : (floor stack : ℕ) → floor + stack ≡ 0x1100 → 2 ≤ stack → Agrees (first_session writes) image floor stack
  pub never : (floor stack : ℕ) → floor + stack ≡ 0x1100 → 2 ≤ stack → NeverReaches image floor

-- the flash of writes, for which four bytes of stack are enough; or there are fewer
abbrev pub IsFlashOfWrites : List DeviceWrite → Flash → Type 0
IsFlashOfWrites writes flash = IsMadeOf writes flash.image × (flash.bound ≡ held.Bytes 4)

abbrev pub WrittenBy : List DeviceWrite → (stack : ℕ) → Result Flash (Refusal Fault) → Type 0
WrittenBy writes stack (Ok flash) = IsFlashOfWrites writes flash × (4 ≤ stack)
WrittenBy writes stack (Err (refusal.Fault (StackFull need left))) = (need ≡ 4) × (left ≡ stack) × (left < need)
WrittenBy writes stack (Err (refusal.Fault why)) = ⊥
WrittenBy writes stack (Err refusal.NoMemory) = Unit {0}

-- how much stack is enough, with the names of methods in place of their numbers
abbrev pub name_in : Fitted → (method : ℕ) → List ℕ
name_in f = method_name f.alive.start.names f.alive.start.program.tables

abbrev pub SaysBound : Fitted → StackBound → Bound → Type 0
SaysBound f (held.Bytes need) (said.Bytes same) = same ≡ need
SaysBound f (held.Bytes need) (said.Cycle names) = ⊥
SaysBound f (held.Cycle methods) (said.Bytes need) = ⊥
SaysBound f (held.Cycle methods) (said.Cycle names) = names ≡ map (name_in f) methods

-- the layout of a flash whose stack has this room
pub record IsLayoutOf (f : Fitted) (flash : Flash) (room : Room) (layout : Layout) : Type 0 where
  pub static_is : layout.static_bytes ≡ room.static_bytes
  pub floor_is : layout.floor ≡ room.floor
  pub stack_is : layout.stack ≡ room.stack
  pub bound : SaysBound f flash.bound layout.bound
  pub idle : layout.idle ≡ flash.idle
