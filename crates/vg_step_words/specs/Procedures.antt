-- How many words of flash the code of a packed procedure takes at most, where each value has a home, without the prologue before it.
use Rattle.std.specs.Prelude.{ℕ, ◌+◌, ◌-◌, ◌*◌, ◌&&◌, length}
use Rattle.vg_firm.specs.Program.{Procedure}
use Rattle.vg_flatten_shapes.specs.declared.layout.Layout.{Layout}
use Rattle.vg_step_words.specs.Code.{code_words}

-- Each local that is no parameter becomes 0, and behind the body 0 is given back.
abbrev pub procedure_words : Layout → (cases : ℕ → ℕ) → Procedure → ℕ
procedure_words lay cases m = 7 * (length m.widths - m.params) + code_words lay cases (m.on_objects && m.receives) m.body + 17
