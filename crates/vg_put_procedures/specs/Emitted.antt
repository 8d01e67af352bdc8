-- The code of a procedure's instructions, one behind the other, and where each of them begins.
use Rattle.std.specs.Prelude.{ℕ, zero, suc, ◌+◌, List, [], ◌∷◌, ◌++◌, length, Option, Some, None, slice_get}
use Rattle.avr_instr.specs.declared.instr.Instr.{Instr as Avr}
use Rattle.avr_isa.specs.Standing.{widths}
use Rattle.vg_lin.specs.declared.instr.Instr.{Instr}
use Rattle.vg_lin.specs.Program.{Program}
use Rattle.vg_lin.specs.Sound.{behind, waits_in}
use Rattle.vg_templates.specs.Layouts.{Layout}
use Rattle.vg_templates.specs.Flow.{Far}
use Rattle.vg_templates.specs.Flow as flow
use Rattle.vg_templates.specs.Calls as calls
use Rattle.vg_select.specs.declared.leading.Leading.{Leading as Held}
use Rattle.vg_select.specs.Leadings.{leading}
use Rattle.vg_select.specs.Selected.{Leading, selected}

-- Where the instructions of a procedure lead, by their places. Behind the last of a list they lead nowhere.
abbrev pub nowhere : Leading
nowhere = record { jump = Far 0; branch = flow.Past (Far 0); call = calls.Far 0; idle = 0 }

abbrev pub led : Option Held → Leading
led (Some to) = leading to
led None = nowhere

abbrev pub leading_in : List Held → ℕ → Leading
leading_in leadings pc = led (slice_get leadings pc)

-- The code of the instruction at a place.
abbrev pub code_of : Layout → Program → (waits : List ℕ) → Leading → Option Instr → List Avr
code_of l p ws to (Some i) = selected l p ws to i
code_of l p ws to None = []

-- What waits behind it.
abbrev pub behind_at : Option Instr → List ℕ → List ℕ
behind_at (Some i) ws = behind i ws
behind_at None ws = ws

abbrev pub code_at : Layout → Program → (leads : ℕ → Leading) → List Instr → (pc : ℕ) → List Avr
code_at l p leads is pc = code_of l p (waits_in [] is pc) (leads pc) (slice_get is pc)

-- That of the first instructions, so many.
abbrev pub code_upto : Layout → Program → (leads : ℕ → Leading) → List Instr → (count : ℕ) → List Avr
code_upto l p leads is zero = []
code_upto l p leads is (suc n) = code_upto l p leads is n ++ code_at l p leads is n

abbrev pub body_code : Layout → Program → (leads : ℕ → Leading) → List Instr → List Avr
body_code l p leads is = code_upto l p leads is (length is)

-- The word address at which the code of an instruction begins, where that of the first one begins at another.
abbrev pub place_of : Layout → Program → (leads : ℕ → Leading) → List Instr → (start pc : ℕ) → ℕ
place_of l p leads is start pc = start + widths (code_upto l p leads is pc)

abbrev pub places_upto : Layout → Program → (leads : ℕ → Leading) → List Instr → (start count : ℕ) → List ℕ
places_upto l p leads is start zero = []
places_upto l p leads is start (suc n) = places_upto l p leads is start n ++ place_of l p leads is start n ∷ []
