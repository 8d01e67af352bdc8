use Rattle.std.proofs.Common.{◌≡◌, ◌<◌, ◌≤◌, length}
use Rattle.vg_types_interned.proofs.making.intern_levels.Given as goal

abbrev pub invariant-levels : goal.invariant-levels
invariant-levels l =
    (l.number < length l.types.numbers.keys) × (length l.fn.types.numbers.keys ≤ length l.types.numbers.keys) × (l.types.classes ≡ l.fn.types.classes)
