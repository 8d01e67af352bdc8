use Rattle.std.proofs.Common.{◌≡◌, ◌<◌, ℕ, Some, false, slice_get}
use Rattle.vg_lookup.specs.Mirrors.{field_has}
use Rattle.vg_lookup.proofs.finding.find_field_in.Given as goal

abbrev pub invariant-loop-field : goal.invariant-loop-field
invariant-loop-field l =
    (i f : ℕ) → i < l.field-index → slice_get l.fields i ≡ Some f → field_has l.names l.tables l.word (slice_get l.tables.fields f) ≡ false
