use Rattle.std.proofs.Common.{◌≡◌, ◌<◌, ℕ, length, Some, slice_get}
use Rattle.vg_number.specs.Counting.{span_by}
use Rattle.vg_number.proofs.spans.spans.Given as goal

abbrev pub invariant-loop-class : goal.invariant-loop-class
invariant-loop-class l = (length l.spans ≡ l.class) × ((c : ℕ) → c < l.class → slice_get l.spans c ≡ Some (span_by l.tables l.own c))
