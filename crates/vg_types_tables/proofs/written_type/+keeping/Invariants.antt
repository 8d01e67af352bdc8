use Rattle.std.proofs.Common.{◌≡◌, ◌+◌, ◌*◌, drop}
use Rattle.vg_tree.specs.Held.{type_row}
use Rattle.vg_rules.specs.Written.{type_keeps}
use Rattle.vg_types_tables.specs.Views.{declarations_at}
use Rattle.vg_types_tables.specs.Sizes.{size_of, size_row}
use Rattle.vg_types_tables.proofs.written_type.+keeping.Given as goal

abbrev pub decreases-all_keep : goal.decreases-all_keep
decreases-all_keep l = 2 * size_row l.all.now

abbrev pub decreases-type_keeps : goal.decreases-type_keeps
decreases-type_keeps l = 2 * size_of l.type_.now + 1

abbrev pub invariant-all_keep-loop-each : goal.invariant-all_keep-loop-each
invariant-all_keep-loop-each l =
    type_keeps (declarations_at l.names l.root) (type_row l.names (drop l.each-index l.all))
    ≡ type_keeps (declarations_at l.names l.root) (type_row l.names l.all)
