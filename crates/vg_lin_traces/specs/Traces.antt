-- How the trace of a run of linear code grows.
use Rattle.std.specs.Prelude.{ℕ, ◌≡◌, List, ◌++◌}
use Rattle.vg_meaning.specs.declared.event.Event.{Event}
use Rattle.vg_meaning.specs.Outside.{Outside}
use Rattle.vg_lin.specs.Meaning.{language, codes_in}
use Rattle.vg_lin.specs.Program.{Program}
use Rattle.vg_lin.specs.State.{State}
use Rattle.vg_lin.specs.Steps.{Config, steps}

-- The configuration behind so many steps.
abbrev pub after : Program → (n : ℕ) → Config State → Config State
after p n c = steps (language p) (codes_in p.procedures) n c

-- What was seen later goes on from what was seen before.
abbrev pub Extends : (before later : Outside) → Type 0
Extends o v = (more : List Event) × (v.trace ≡ o.trace ++ more)
