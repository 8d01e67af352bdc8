use Rattle.std.proofs.Common.{◌≡◌, ◌<◌, ◌≤◌, length}
use Rattle.vg_types_interned.proofs.making.intern_params.Given as goal

abbrev pub invariant-params : goal.invariant-params
invariant-params l =
    (l.rest < length l.types.numbers.keys) × (length l.fn.types.numbers.keys ≤ length l.types.numbers.keys) × (l.types.classes ≡ l.fn.types.classes)
