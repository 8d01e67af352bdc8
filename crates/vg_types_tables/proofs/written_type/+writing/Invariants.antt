use Rattle.std.proofs.Common.{◌≡◌, ◌≤◌, ◌+◌, ◌*◌, length, drop}
use Rattle.vg_tree.specs.Held.{type_row}
use Rattle.vg_source.specs.Declared.{written_type}
use Rattle.vg_types_tables.specs.Views.{type_view}
use Rattle.vg_types_tables.specs.Declares.{IsKnown}
use Rattle.vg_types_tables.specs.Sizes.{size_of, size_row}
use Rattle.vg_types_tables.proofs.written_type.+writing.Given as goal

abbrev pub decreases-written_row : goal.decreases-written_row
decreases-written_row l = 2 * size_row l.all.now

abbrev pub decreases-written : goal.decreases-written
decreases-written l = 2 * size_of l.type_.now + 1

abbrev pub invariant-written_row-loop-count : goal.invariant-written_row-loop-count
invariant-written_row-loop-count l =
    (l.count ≤ length l.all) × (type_view l.names l.declared l.row ≡ written_type (type_row l.names (drop l.count l.all)))
    × IsKnown l.declared.tables l.row

abbrev pub decreases-written_row-loop-count : goal.decreases-written_row-loop-count
decreases-written_row-loop-count l = l.count
