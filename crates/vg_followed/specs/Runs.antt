-- Where the run of an image begins, and when its stack is too deep.
use Rattle.std.specs.Prelude.{ℕ, ◌≡◌, ◌≢◌, ◌⊎◌, ◌+◌, ◌<◌, ◌≤◌, List, ◌++◌, length, Some, slice_get}
use Rattle.vg_meaning.specs.declared.event.Event.{Event}
use Rattle.vg_meaning.specs.Answer.{Wrong}
use Rattle.vg_meaning.specs.Outside.{before}
use Rattle.avr_instr.specs.declared.instr.Instr.TheVariants.{Jmp}
use Rattle.avr_isa.specs.Standing.{widths, StandsAt, AllStandAt}
use Rattle.avr_view.specs.Run.{Run}
use Rattle.vg_lin.specs.Meaning.{at_start, run}
use Rattle.vg_lin.specs.Program.{Procedure, Program}
use Rattle.vg_lin.specs.State.{State}
use Rattle.vg_lin.specs.Steps.{Config}
use Rattle.vg_templates.specs.Startup.{bytes_from}
use Rattle.vg_templates.specs.Whole.{Links}
use Rattle.vg_followed.specs.Followed.{IsDeep}
use Rattle.vg_followed.specs.Reset.{reset_code}

-- Reset jumps to the code of reset, behind which the first procedure stands; and the bytes with which the columns in RAM begin stand in flash.
pub record Begins (e : Run) (x : Links) (p : Program) : Type 0 where
  pub first : Procedure
  pub there : slice_get p.procedures p.start ≡ Some first
  pub no_params : first.params ≡ 0
  pub start : ℕ
  pub from : ℕ
  pub jump : StandsAt e.flash 0 (Jmp start)
  pub away : start ≢ 0
  pub code : AllStandAt e.flash start (reset_code e.static from)
  pub entry : x.entry p.start ≡ start + widths (reset_code e.static from)
  pub room : start + widths (reset_code e.static from) < 65536
  pub room_at : from + e.static < 65536
  pub floor : e.floor ≤ 0x1100
  pub columns : bytes_from e.flash from e.static ≡ p.ram

-- The first procedure takes too many bytes, or the stack has too many before one of so many steps.
abbrev pub IsDeepRun : Run → Links → Program → (n : ℕ) → (reads interrupts : List ℕ) → Type 0
IsDeepRun e x p n reads interrupts =
    (0x1100 < e.floor + 2 + length (x.places.layouts p.start).saved + (x.places.layouts p.start).slots)
    ⊎ IsDeep e x p n (at_start p (before reads interrupts))

-- The whole trace is what a run of linear code shows behind so many steps, which did not end wrongly.
pub record Wholes (e : Run) (p : Program) (n : ℕ) (reads interrupts : List ℕ) : Type 0 where
  pub whole : e.whole ≡ (run p n reads interrupts).outside.trace
  pub legal : (run p n reads interrupts).ending ≡ Some Wrong → ⊥
