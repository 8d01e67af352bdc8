use Rattle.std.proofs.Common.{◌≡◌, drop, map}
use Rattle.vg_tree.specs.Held.{param_at}
use Rattle.vg_rules.specs.Signatures.{is_param}
use Rattle.vg_types_signatures.proofs.params.is_param.Given as goal

-- the name is one of those that are left exactly where it is one of all
abbrev pub invariant-each : goal.invariant-each
invariant-each l = is_param (map (param_at l.fn.names) (drop l.param-index l.params)) l.fn.text ≡ is_param (map (param_at l.fn.names) l.params) l.fn.text
