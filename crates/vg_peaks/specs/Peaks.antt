-- When the active calls of a run cost more than the stack.
use Rattle.std.specs.Prelude.{ℕ, ◌+◌, ◌<◌, List}
use Rattle.avr_isa.specs.Cpu.{PowerOn}
use Rattle.avr_isa.specs.Machine.{started}
use Rattle.avr_view.specs.Run.{Run, Goes}
use Rattle.avr_view.specs.View.{Shown}
use Rattle.vg_meaning.specs.Answer.{End, OutOfClock, OutOfDepth}
use Rattle.vg_meaning.specs.History.{History}
use Rattle.vg_meaning.specs.World.{World}
use Rattle.vg_source.specs.Peak.{most}
use Rattle.vg_followed.specs.Related.{HasEnded}

-- The peak passes the stack: the largest cost of calls that were active behind a tick, and so many bytes more, reach below the floor from the end of SRAM on.
abbrev pub PassesPeak : Run → (extra : ℕ) (costs : List ℕ) → History → Type 0
PassesPeak e extra costs h = 0x1100 < e.floor + (extra + most costs h.behind_ticks)

-- Where ticks are spent, or too many calls are active, the machine has come as far and goes on, in so many instructions; else it ends for the same reason. Or
-- it reaches below the floor of its stack first, for which the peak must pass the stack.
abbrev pub DoesWithinPeak : (e : Run) (extra : ℕ) (costs : List ℕ) (n : ℕ) → PowerOn → (reads interrupts : List ℕ) → End → World History → Type 0
DoesWithinPeak e extra costs n memory reads interrupts OutOfClock v =
    Goes e (PassesPeak e extra costs v.history) n (started memory reads interrupts) (Shown e v.outside.trace)
DoesWithinPeak e extra costs n memory reads interrupts OutOfDepth v =
    Goes e (PassesPeak e extra costs v.history) n (started memory reads interrupts) (Shown e v.outside.trace)
DoesWithinPeak e extra costs n memory reads interrupts why v =
    Goes e (PassesPeak e extra costs v.history) 0 (started memory reads interrupts) (HasEnded e why v.outside)
