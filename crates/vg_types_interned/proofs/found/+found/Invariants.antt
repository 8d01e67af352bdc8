use Rattle.std.proofs.Common.{◌≡◌, true, length, drop}
use Rattle.vg_tree.specs.Held.{type_row}
use Rattle.vg_source.specs.Declared.{written_type}
use Rattle.vg_types_interned.specs.Types.{is_made_of, type_view}
use Rattle.vg_types_interned.proofs.found.+found.Given as goal

abbrev pub invariant-written_row-row : goal.invariant-written_row-row
invariant-written_row-row l =
    (type_view l.types.classes l.types.numbers.keys l.rest ≡ written_type (type_row l.names (drop l.index l.row)))
    × (is_made_of (length l.types.classes) (length l.types.numbers.keys) l.rest ≡ true)
