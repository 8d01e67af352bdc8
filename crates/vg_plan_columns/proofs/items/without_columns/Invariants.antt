use Rattle.std.proofs.Common.{◌≡◌, ◌++◌, drop, map}
use Rattle.vg_plan_columns.specs.Items.{no_items}
use Rattle.vg_plan_columns.proofs.items.without_columns.Given as goal

abbrev pub invariant-loop-type_ : goal.invariant-loop-type_
invariant-loop-type_ l = l.items.items ++ map no_items (drop l.type_-index l.types) ≡ map no_items l.types
