-- What a configuration of linear code owes before its next step is matched.
use Rattle.std.specs.Prelude.{ℕ, ◌≡◌, ◌+◌, ◌<◌, Some}
use Rattle.vg_meaning.specs.Answer.{Wrong}
use Rattle.vg_lin.specs.Meaning.{language, codes_in}
use Rattle.vg_lin.specs.Program.{Program}
use Rattle.vg_lin.specs.State.{State}
use Rattle.vg_lin.specs.Steps.{Config, step, steps}
use Rattle.avr_view.specs.Run.{Run, Front}
use Rattle.vg_templates.specs.Whole.{Links}
use Rattle.vg_followed.specs.Depth.{depth}

-- the next configuration
abbrev pub next : Program → Config State → Config State
next p c = step (language p) (codes_in p.procedures) c

-- it does not end wrongly
abbrev pub IsLegal : Config State → Type 0
IsLegal c = c.ending ≡ Some Wrong → ⊥

-- the next step is no wrong one, and the whole trace goes on from it
pub record Owes (e : Run) (p : Program) (c : Config State) : Type 0 where
  pub legal : IsLegal (next p c)
  pub front : Front e (next p c).outside

-- the configuration behind so many steps
abbrev pub behind : Program → (n : ℕ) → Config State → Config State
behind p n c = steps (language p) (codes_in p.procedures) n c

-- before one of so many steps the bytes of the stack with those that the step may take are too many
abbrev pub IsDeep : Run → Links → Program → (n : ℕ) → Config State → Type 0
IsDeep e x p n c = (j : ℕ) × ((j < n) × (0x1100 < e.floor + depth x.places p (behind p j c)))
