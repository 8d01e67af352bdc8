-- Pieces of code, and what they make of what the code sees.
use Rattle.std.specs.Prelude.{ℕ, ◌+◌, ◌<◌, List, length}
use Rattle.avr_instr.specs.declared.instr.Instr.{Instr}
use Rattle.avr_isa.specs.Machine.{State}
use Rattle.avr_isa.specs.Standing.{widths, AllStandAt}
use Rattle.avr_view.specs.Run.{Run, Goes}
use Rattle.avr_view.specs.View.{View, At}

-- the machine is at this word address, and the code sees something of this kind
pub record Sees (e : Run) (K : View → Type 0) (pc : ℕ) (s : State) : Type 0 where
  pub view : View
  pub kind : K view
  pub at : At e pc view s

-- Wherever this code stands, the run comes from its begin, where the code sees this view, to its end, where it sees one of this kind, in at least as
-- many instructions as the code has; or it reaches below the floor, which only a deep run does.
abbrev pub Takes : (e : Run) (deep : Type 0) (v : View) (is : List Instr) (K : View → Type 0) → Type 0
Takes e deep v is K =
    (pc : ℕ) (s : State) → AllStandAt e.flash pc is → pc + widths is < 65536 → At e pc v s → Goes e deep (length is) s (Sees e K (pc + widths is))
