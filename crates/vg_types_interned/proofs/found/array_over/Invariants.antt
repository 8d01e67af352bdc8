use Rattle.std.proofs.Common.{◌≡◌, true, length}
use Rattle.vg_types_interned.specs.Types.{is_made_of, type_view}
use Rattle.vg_types_interned.specs.Rows.{array_over}
use Rattle.vg_types_interned.proofs.found.array_over.Given as goal

abbrev pub invariant-levels : goal.invariant-levels
invariant-levels l =
    (type_view l.types.classes l.types.numbers.keys l.whole ≡ array_over l._level (type_view l.types.classes l.types.numbers.keys l.fn.element))
    × (is_made_of (length l.types.classes) (length l.types.numbers.keys) l.whole ≡ true)
