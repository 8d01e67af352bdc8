use Rattle.std.proofs.Common.{drop}
use Rattle.vg_types_classes.specs.Classes.{declarations_in}
use Rattle.vg_types_signatures.specs.Asked.{home_view}
use Rattle.vg_types_signatures.proofs.Membering.{Membering}
use Rattle.vg_types_signatures.proofs.members.members_in.Given as goal

abbrev pub invariant-each : goal.invariant-each
invariant-each l =
    Membering (declarations_in l.fn.names l.fn.nodes) (home_view l.fn.home) l.fn.names l.members l.fn.first l.passed l.next (drop l.member-index l.members)
