-- How many words the prologue of a procedure takes at most.
use Rattle.std.specs.Prelude.{ℕ, ◌+◌, ◌*◌, if◌then◌else◌, take, length}
use Rattle.vg_lin.specs.Program.{Procedure}
use Rattle.vg_templates.specs.Layouts.{Layout}
use Rattle.vg_templates.specs.Calls.{sum_of, by_registers}

-- Eight registers are saved, Y becomes the frame pointer, and the slots are taken: 14 words. A parameter that arrives in registers goes to its spot.
abbrev pub prologue_words : Layout → ℕ
prologue_words l = 14 + (3 * length l.arrives + sum_of (take (length l.arrives) l.widths))

-- the same of the procedure: all its parameters arrive in registers, or none
abbrev pub entry_words : Procedure → ℕ
entry_words m = 14 + (if by_registers (take m.params m.widths) then 3 * m.params + sum_of (take m.params m.widths) else 0)
