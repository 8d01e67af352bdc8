use Rattle.std.proofs.Common.{◌≡◌, ◌<◌, ◌≤◌, length}
use Rattle.vg_types_interned.proofs.making.+making.Given as goal

abbrev pub invariant-intern_row-row : goal.invariant-intern_row-row
invariant-intern_row-row l =
    (l.rest < length l.types.numbers.keys) × (length l.fn.types.numbers.keys ≤ length l.types.numbers.keys) × (l.types.classes ≡ l.fn.types.classes)
