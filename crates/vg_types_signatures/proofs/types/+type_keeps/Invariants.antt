use Rattle.std.proofs.Common.{◌≡◌, drop}
use Rattle.vg_tree.specs.Held.{type_at, type_row}
use Rattle.vg_rules.specs.Written.{type_keeps}
use Rattle.vg_types_classes.specs.Classes.{declarations_in}
use Rattle.vg_types_signatures.proofs.types.+type_keeps.Given as goal

-- the types that are left keep the rule exactly where all do
abbrev pub invariant-row : goal.invariant-row
invariant-row l =
    type_keeps (declarations_in l.fn.names l.fn.nodes) (type_row l.fn.names (drop l.type_-index l.type_-items))
    ≡ type_keeps (declarations_in l.fn.names l.fn.nodes) (type_at l.fn.names l.fn.type_)
