-- That programs with trimmed procedures do what they did.
use Rattle.std.specs.Prelude.{◌≢◌, ℕ, ◌<◌, ◌≤◌, List, Some}
use Rattle.std.specs.List.{AllByRecursion}
use Rattle.vg_meaning.specs.Answer.{Wrong}
use Rattle.vg_meaning.specs.Outside.{AreReads}
use Rattle.vg_lin.specs.Program.{Program}
use Rattle.vg_lin.specs.Meaning.{run, counted_steps}
use Rattle.vg_expand.specs.Unpushed.{unpushed_steps}
use Rattle.vg_expand.specs.Runs.{ShowsSame}

-- Bytes are less than 256.
abbrev pub AreBytes : List ℕ → Type 0
AreBytes = AllByRecursion (λ b. b < 256)

-- Whatever bytes are read: wherever a run of the first program has come that is not Wrong, the second one comes, in at least as many steps that are no pushes
-- as the first one made that count, and shows the same.
abbrev pub RunsAsRead : (old new : Program) → Type 0
RunsAsRead p n =
    (steps : ℕ) (reads interrupts : List ℕ) → AreReads reads → (run p steps reads interrupts).ending ≢ Some Wrong
    → (j : ℕ) × (counted_steps p steps reads interrupts ≤ unpushed_steps n j reads interrupts)
    × ShowsSame (run p steps reads interrupts) (run n j reads interrupts)
