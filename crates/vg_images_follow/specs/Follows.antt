-- What the machine does where a packed program is over.
use Rattle.std.specs.Prelude.{ℕ, List}
use Rattle.vg_meaning.specs.Answer.{End, OutOfClock, OutOfDepth}
use Rattle.vg_meaning.specs.History.{History}
use Rattle.vg_meaning.specs.World.{World}
use Rattle.avr_isa.specs.Cpu.{PowerOn}
use Rattle.avr_isa.specs.Machine.{started}
use Rattle.avr_view.specs.Run.{Run, Goes}
use Rattle.avr_view.specs.View.{Shown}
use Rattle.vg_lin.specs.Program.{Program}
use Rattle.vg_templates.specs.Whole.{Links}
use Rattle.vg_followed.specs.Related.{HasEnded}
use Rattle.vg_followed.specs.Runs.{IsDeepRun}

-- Where ticks are spent, or too many calls are active, the machine has come as far and goes on, in so many instructions; else it ends for the same reason. Or
-- its stack is too deep before one of so many steps of linear code.
abbrev pub DoesAs : (e : Run) (x : Links) (p : Program) (n : ℕ) → PowerOn → (reads interrupts : List ℕ) → End → World History → Type 0
DoesAs e x p n memory reads interrupts OutOfClock v =
    Goes e (IsDeepRun e x p n reads interrupts) n (started memory reads interrupts) (Shown e v.outside.trace)
DoesAs e x p n memory reads interrupts OutOfDepth v =
    Goes e (IsDeepRun e x p n reads interrupts) n (started memory reads interrupts) (Shown e v.outside.trace)
DoesAs e x p n memory reads interrupts why v =
    Goes e (IsDeepRun e x p n reads interrupts) 0 (started memory reads interrupts) (HasEnded e why v.outside)
