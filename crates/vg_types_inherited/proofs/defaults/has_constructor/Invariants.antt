use Rattle.std.proofs.Common.{◌≡◌, drop}
use Rattle.vg_types_inherited.proofs.Made.{any_made}
use Rattle.vg_types_inherited.proofs.defaults.has_constructor.Given as goal

abbrev pub invariant-each : goal.invariant-each
invariant-each l = any_made (drop l.member-index l.members) ≡ any_made l.members
