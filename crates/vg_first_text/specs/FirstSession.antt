-- What a program of one component means whose main writes constants to device registers.
use Rattle.std.specs.Prelude.{ℕ, zero, suc, ◌+◌, ◌*◌, ◌<◌, List, [], ◌++◌, length, map, Some}
use Rattle.std.specs.List.{AllByRecursion}
use Rattle.vg_meaning.specs.declared.event.Event.{Event}
use Rattle.vg_meaning.specs.declared.event.Event.TheVariants.{Write, Enter}
use Rattle.vg_meaning.specs.Device.{IsDeviceAddress}
use Rattle.vg_meaning.specs.Ending.{Idle, Beyond}
use Rattle.vg_meaning.specs.Seen.{Seen}
use Rattle.vg_first_text.specs.declared.device_write.DeviceWrite.{DeviceWrite}

-- a write that a program may make: a byte goes to a device register
pub record IsDevice (w : DeviceWrite) : Type 0 where
  pub place : IsDeviceAddress w.address
  pub byte : w.value < 256

abbrev pub AreDevices : List DeviceWrite → Type 0
AreDevices = AllByRecursion IsDevice

-- what a write shows
abbrev pub write_event : DeviceWrite → Event
write_event w = Write w.address w.value

-- what the call of main costs: 32, and 4 for each node of its body, which is a block with five nodes for each assignment
abbrev pub main_cost : List DeviceWrite → ℕ
main_cost writes = 32 + 4 * (1 + 5 * length writes)

-- The session of such writes: with no tick to spend the call of main is not made, and no call is ever active; else main is the one
-- call, the writes are made in order, then each interrupt is taken, and the program is idle. The peak is 4 more than the call costs.
abbrev pub first_session : List DeviceWrite → (reads interrupts : List ℕ) → (clock : ℕ) → Seen
first_session writes reads interrupts zero = record { trace = []; ending = Some Beyond; peak = 4 }
first_session writes reads interrupts (suc clock) =
    record { trace = map write_event writes ++ map Enter interrupts; ending = Some Idle; peak = 4 + main_cost writes }
