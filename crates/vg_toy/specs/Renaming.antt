-- A pass: calls by name become calls by place.
use Rattle.std.specs.Prelude.{◌≡◌, ℕ, List}
use Rattle.vg_toy.specs.declared.program.Step.{Step}
use Rattle.vg_toy.specs.declared.program.Step.TheVariants.{Number, Read, Write, Call}
use Rattle.vg_meaning.specs.History.{no_history, full}
use Rattle.vg_meaning.specs.Code.{Code, Do, replaced}
use Rattle.vg_meaning.specs.Same.{Same, Always}
use Rattle.vg_toy.specs.Language.{Method, place_of, itself}
use Rattle.vg_toy.specs.Session.{session}

-- What becomes of a step.
abbrev pub by_place : (ℕ → ℕ) → Step → Step
by_place find (Number value) = Number value
by_place find (Read address) = Read address
by_place find (Write address) = Write address
by_place find (Call name) = Call (find name)

-- The code that stands for a step.
abbrev pub placed : (ℕ → ℕ) → Step → Code Step
placed find p = Do (by_place find p)

-- What becomes of a method.
abbrev pub placed_method : (ℕ → ℕ) → Method → Method
placed_method find m = record { name = m.name; body = replaced (placed find) m.body }

-- Two programs do the same, clock for clock: the first calls by name, the second by place.
abbrev pub DoesTheSame : (first second : List Method) → Type 0
DoesTheSame first second =
    (reads interrupts : List ℕ) (clock : ℕ) → Same (λ s t. s ≡ t) (Always (λ s t. s ≡ t))
    (session full no_history (place_of first) first reads interrupts clock) (session full no_history itself second reads interrupts clock)
