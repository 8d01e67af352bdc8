use Rattle.std.proofs.Common.{◌≡◌}
use Rattle.vg_syntax.specs.Tree.{TypeTree}
use Rattle.vg_syntax.specs.Made.{arrays}
use Rattle.vg_source.specs.Declared.{written_type}
use Rattle.vg_types_tables.specs.Views.{type_view}
use Rattle.vg_types_tables.specs.Declares.{IsKnown}
use Rattle.vg_types_tables.proofs.written_type.array_types.Given as goal

abbrev pub invariant-loop-level : goal.invariant-loop-level
invariant-loop-level l =
    IsKnown l.declared.tables l.type_
    × ((t : TypeTree) → type_view l.names l.declared l.fn.element ≡ written_type t
    → type_view l.names l.declared l.type_ ≡ written_type (arrays l._level t))
