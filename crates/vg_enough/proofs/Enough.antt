-- Where the stack is large enough, the third case of agreement does not come.
use Rattle.std.specs.Prelude.{ℕ, suc, ◌<◌, ◌≤◌, List}
use Rattle.std.proofs.Common.{inl, inr, arith}
use Rattle.avr_isa.specs.Agrees.{Agrees, Follows, FollowsSeen}
use Rattle.avr_isa.specs.Cpu.{PowerOn, IsPowerOn}
use Rattle.avr_isa.specs.Machine.{State, machine}
use Rattle.vg_meaning.specs.Outside.{AreReads, AreVectors}
use Rattle.vg_meaning.specs.Seen.{Seen}

not_more : (stack peak : ℕ) → peak ≤ stack → stack < peak → ⊥
not_more stack peak fits more = omega (arith, fits, more)

by_peak : (at : ℕ → State) (clock floor stack : ℕ) (s : Seen) → s.peak ≤ stack → FollowsSeen at clock floor stack s
    → Follows at clock floor s.ending s.trace
by_peak at clock floor stack s fits (inl f) = f
by_peak at clock floor stack s fits (inr (more, r)) = absurd (not_more stack s.peak fits more)

by_floor : (at : ℕ → State) (clock floor stack : ℕ) (s : Seen) → ((k : ℕ) → floor ≤ (at k).lowest) → FollowsSeen at clock floor stack s
    → Follows at clock floor s.ending s.trace
by_floor at clock floor stack s above (inl f) = f
by_floor at clock floor stack s above (inr (more, r)) = absurd (not_more (at (suc r.k)).lowest floor (above (suc r.k)) r.reached)

module _ (session : (reads interrupts : List ℕ) → ℕ → Seen) (flash : List ℕ) (floor stack : ℕ) (a : Agrees session flash floor stack)
    (memory : PowerOn) (reads interrupts : List ℕ) (clock : ℕ) (powered : IsPowerOn memory) (bytes : AreReads reads) (vectors : AreVectors interrupts) where
  abbrev pub Follow : Type 0
  Follow = Follows (machine flash memory reads interrupts) clock floor (session reads interrupts clock).ending (session reads interrupts clock).trace

  pub enough : (session reads interrupts clock).peak ≤ stack → Follow
  enough fits =
      by_peak (machine flash memory reads interrupts) clock floor stack (session reads interrupts clock) fits
      (a.each memory reads interrupts clock powered bytes vectors)

  pub never : ((k : ℕ) → floor ≤ (machine flash memory reads interrupts k).lowest) → Follow
  never above =
      by_floor (machine flash memory reads interrupts) clock floor stack (session reads interrupts clock) above
      (a.each memory reads interrupts clock powered bytes vectors)
