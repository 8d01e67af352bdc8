-- What is answered of a plain instruction, and what it leaves.
use Rattle.std.specs.Prelude.{◌≡◌, ℕ, ◌==◌, ◌&&◌, Bool, true, false, not, List, [], ◌∷◌, Option, Some, None}
use Rattle.vg_meaning.specs.Outside.{Outside}
use Rattle.vg_lin.specs.Steps.{Went, Goes, Raises, Lacks, Fails}
use Rattle.vg_lin.specs.declared.instr.Operand.{Operand}
use Rattle.vg_lin.specs.declared.instr.Operand.TheVariants.{Local}
use Rattle.vg_lin.specs.State.{Waiting, State, value}
use Rattle.vg_lin_states.specs.declared.plain.Outcome.{Outcome}
use Rattle.vg_lin_states.specs.declared.plain.Outcome.TheVariants.{Next, Raised, NoRead, Wrong}

-- By the meaning of the instruction, where these are the state and the outside before and behind it: both are as before where the run ends.
abbrev pub Shows : Outcome → Went State → (s t : State) → (o q : Outside) → Type 0
Shows Next w s t o q = w ≡ Goes t q
Shows (Raised code) w s t o q = (w ≡ Raises code) × (t ≡ s) × (q ≡ o)
Shows (NoRead address) w s t o q = (w ≡ Lacks address) × (t ≡ s) × (q ≡ o)
Shows Wrong w s t o q = (w ≡ Fails) × (t ≡ s) × (q ≡ o)

-- No value of so many bytes is the newest that waits.
abbrev pub pops_no : (width : ℕ) → List Waiting → Bool
pops_no w [] = true
pops_no w (x ∷ xs) = not (x.width == w)

-- The operands of a division have values.
abbrev pub has_value : Option ℕ → Bool
has_value (Some x) = true
has_value None = false

abbrev pub can_divide : State → (remainder dividend : ℕ) → (divisor : Operand) → Bool
can_divide s r d a = has_value (value (Local r) s) && (has_value (value (Local d) s) && has_value (value a s))
