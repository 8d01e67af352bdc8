use Rattle.std.proofs.Common.{◌≡◌, drop}
use Rattle.vg_rules.specs.Entries.{is_taken}
use Rattle.vg_types_entries.specs.Entering.{vectors}
use Rattle.vg_types_entries.proofs.program.is_taken.Given as goal

abbrev pub invariant-each : goal.invariant-each
invariant-each l = is_taken (vectors (drop l.handler-index l.before)) l.fn.vector ≡ is_taken (vectors l.before) l.fn.vector
