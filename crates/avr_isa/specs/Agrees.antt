-- What it means that a flash does what a session does.
use Rattle.std.specs.Prelude.{ℕ, suc, ◌≡◌, ◌<◌, ◌≤◌, ◌⊎◌, List, ◌++◌, Option, Some, None}
use Rattle.vg_meaning.specs.declared.event.Event.{Event}
use Rattle.vg_meaning.specs.Outside.{AreReads, AreVectors}
use Rattle.vg_meaning.specs.Ending.{Ending, Idle, Stop, Wants, Beyond, Deep}
use Rattle.vg_meaning.specs.Seen.{Seen}
use Rattle.avr_isa.specs.declared.ending.MachineEnd.{MachineEnd}
use Rattle.avr_isa.specs.declared.ending.MachineEnd.TheVariants as machine_end
use Rattle.avr_isa.specs.Cpu.{PowerOn, IsPowerOn}
use Rattle.avr_isa.specs.Machine.{State, machine}

-- the machine has shown this trace, it has ended so or is still going, and its stack has stayed at or above the floor
pub record IsAt (s : State) (ended : Option MachineEnd) (trace : List Event) (floor : ℕ) : Type 0 where
  pub ends : s.ended ≡ ended
  pub same_trace : s.outside.trace ≡ trace
  pub above : floor ≤ s.lowest

-- one instruction is the first to reach below the floor, and what was shown before it is a front of this trace
pub record ReachesFloor (at : ℕ → State) (trace : List Event) (floor : ℕ) : Type 0 where
  pub k : ℕ
  pub above : floor ≤ (at k).lowest
  pub reached : (at (suc k)).lowest < floor
  pub more : List Event
  pub front : trace ≡ (at k).outside.trace ++ more

-- the machine, which is at k after at most k instructions, does what a session with this clock does: with no tick left to it, it goes on so
-- long; a session without an ending, or with a limit on its calls, is followed by no machine
abbrev pub Follows : (at : ℕ → State) (clock floor : ℕ) → Option Ending → (trace : List Event) → Type 0
Follows at clock floor (Some Beyond) trace = (k : ℕ) × (clock ≤ k) × IsAt (at k) None trace floor
Follows at clock floor (Some Idle) trace = (k : ℕ) × IsAt (at k) (Some machine_end.Idle) trace floor
Follows at clock floor (Some (Stop code)) trace = (k : ℕ) × IsAt (at k) (Some (machine_end.Stop code)) trace floor
Follows at clock floor (Some (Wants address)) trace = (k : ℕ) × IsAt (at k) (Some (machine_end.Wants address)) trace floor
Follows at clock floor (Some Deep) trace = ⊥
Follows at clock floor None trace = ⊥

-- the machine does what was seen, or the active calls cost more than the stack and it reaches the floor first
abbrev pub FollowsSeen : (at : ℕ → State) (clock floor stack : ℕ) → Seen → Type 0
FollowsSeen at clock floor stack s = Follows at clock floor s.ending s.trace ⊎ ((stack < s.peak) × ReachesFloor at s.trace floor)

-- the machine on this flash does what the session does, for all contents at power-on, reads, interrupts and clocks
pub record Agrees (session : (reads interrupts : List ℕ) → ℕ → Seen) (flash : List ℕ) (floor stack : ℕ) : Type 0 where
  pub each : (memory : PowerOn) (reads interrupts : List ℕ) (clock : ℕ) → IsPowerOn memory → AreReads reads → AreVectors interrupts
      → FollowsSeen (machine flash memory reads interrupts) clock floor stack (session reads interrupts clock)

-- no run of the machine on this flash brings its stack below the floor, whatever it holds at power-on
pub record NeverReaches (flash : List ℕ) (floor : ℕ) : Type 0 where
  pub each : (memory : PowerOn) (reads interrupts : List ℕ) (k : ℕ) → IsPowerOn memory → AreReads reads → AreVectors interrupts
      → floor ≤ (machine flash memory reads interrupts k).lowest
