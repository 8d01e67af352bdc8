use Rattle.std.proofs.Common.{drop}
use Rattle.vg_types_entries.proofs.Finding.{Finding}
use Rattle.vg_types_entries.proofs.program.program_in.Given as goal

abbrev pub invariant-each : goal.invariant-each
invariant-each l = Finding l.nodes l.next (drop l.node-index l.nodes)
