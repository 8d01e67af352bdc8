use Rattle.std.proofs.Common.{◌≡◌, ◌<◌, ℕ, Some}
use Rattle.vg_core.specs.Tables.{slot_of}
use Rattle.vg_reach_index.specs.Indexed.{Has}
use Rattle.vg_reach_index.proofs.class_row.field_row.Given as goal

-- the fields so far
abbrev pub invariant-loop-field : goal.invariant-loop-field
invariant-loop-field l = (f i : ℕ) → f < l.field → slot_of l.tables l.class f ≡ Some i → Has l.row f
