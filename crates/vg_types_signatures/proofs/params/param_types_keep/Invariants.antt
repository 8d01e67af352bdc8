use Rattle.std.proofs.Common.{◌≡◌, drop, map}
use Rattle.vg_tree.specs.Held.{param_at}
use Rattle.vg_rules.specs.Written.{param_types_keep}
use Rattle.vg_types_classes.specs.Classes.{declarations_in}
use Rattle.vg_types_signatures.proofs.params.param_types_keep.Given as goal

-- the types that are left keep the rule exactly where all do
abbrev pub invariant-each : goal.invariant-each
invariant-each l =
    param_types_keep (declarations_in l.fn.names l.fn.nodes) (map (param_at l.fn.names) (drop l.param-index l.params))
    ≡ param_types_keep (declarations_in l.fn.names l.fn.nodes) (map (param_at l.fn.names) l.params)
