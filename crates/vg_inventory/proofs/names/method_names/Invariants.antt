use Rattle.std.specs.Prelude.{◌≡◌, ◌++◌, drop, map}
use Rattle.vg_inventory.specs.Names.{method_name}
use Rattle.vg_inventory.proofs.names.method_names.Given as goal

abbrev pub invariant-loop-method : goal.invariant-loop-method
invariant-loop-method l = l.rows ++ map (method_name l.names l.tables) (drop l.method-index l.methods) ≡ map (method_name l.names l.tables) l.methods
