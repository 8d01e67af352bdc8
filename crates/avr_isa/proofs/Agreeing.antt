-- What it is worth that a flash agrees with a session.
use Rattle.std.proofs.Common.{◌≡◌, ℕ, zero, suc, ◌<◌, ◌≤◌, inl, inr, List, length, replicate, arith}
use Rattle.std.specs.List.{AllByRecursion}
use Rattle.std.proofs.lemmas.List.{length-replicate}
use Rattle.vg_meaning.specs.Outside.{AreReads, AreVectors}
use Rattle.vg_meaning.specs.Seen.{Seen}
use Rattle.avr_isa.specs.Agrees.{Agrees, Follows, NeverReaches}
use Rattle.avr_isa.specs.Cpu.{PowerOn, IsPowerOn, marks, marked}
use Rattle.avr_isa.specs.Machine.{machine}

pub within_stack : (session : (reads interrupts : List ℕ) → ℕ → Seen) (flash : List ℕ) (floor stack : ℕ) → Agrees session flash floor stack
    → (memory : PowerOn) (reads interrupts : List ℕ) (clock : ℕ) → IsPowerOn memory → AreReads reads → AreVectors interrupts
    → (session reads interrupts clock).peak ≤ stack
    → Follows (machine flash memory reads interrupts) clock floor (session reads interrupts clock).ending (session reads interrupts clock).trace
within_stack session flash floor stack a memory reads interrupts clock p r v low =
    elim (a.each memory reads interrupts clock p r v) [ inl follows ↦ follows | inr deep ↦ absurd (omega (arith, deep.0, low)) ]

pub above_floor : (session : (reads interrupts : List ℕ) → ℕ → Seen) (flash : List ℕ) (floor stack : ℕ) → Agrees session flash floor stack
    → NeverReaches flash floor
    → (memory : PowerOn) (reads interrupts : List ℕ) (clock : ℕ) → IsPowerOn memory → AreReads reads → AreVectors interrupts
    → Follows (machine flash memory reads interrupts) clock floor (session reads interrupts clock).ending (session reads interrupts clock).trace
above_floor session flash floor stack a n memory reads interrupts clock p r v =
    elim (a.each memory reads interrupts clock p r v) [
      | inl follows ↦ follows
      | inr deep ↦ absurd (omega (arith, deep.1.reached, n.each memory reads interrupts (suc deep.1.k) p r v))
    ]

-- 0xA5 everywhere
all_marks : (n : ℕ) → AllByRecursion (λ b. b < 256) (replicate n 0xA5)
all_marks zero = tt
all_marks (suc n) = (omega arith, all_marks n)

length-marks : (n : ℕ) → length (marks n) ≡ n
unfolding marks
length-marks n = length-replicate n 0xA5

bytes-marks : (n : ℕ) → AllByRecursion (λ b. b < 256) (marks n)
unfolding marks
bytes-marks n = all_marks n

pub is_power_on : IsPowerOn marked
is_power_on = record { registers = length-marks 32; sram = length-marks 4096; register_bytes = bytes-marks 32; sram_bytes = bytes-marks 4096 }
