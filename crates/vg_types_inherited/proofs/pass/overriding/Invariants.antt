use Rattle.std.proofs.Common.{drop}
use Rattle.vg_types_tables.specs.Views.{declarations_at}
use Rattle.vg_types_inherited.proofs.Inheriting.{Overriding}
use Rattle.vg_types_inherited.proofs.pass.overriding.Given as goal

abbrev pub invariant-each : goal.invariant-each
invariant-each l =
    Overriding (declarations_at l.fn.names l.fn.root) l.fn.above l.fn.names l.members l.fn.first l.next (drop l.member-index l.members)
