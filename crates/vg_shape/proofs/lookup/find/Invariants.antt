use Rattle.std.proofs.Common.{◌≡◌, drop}
use Rattle.vg_core.specs.Tables.{find_selector}
use Rattle.vg_shape.proofs.lookup.find.Given as goal

abbrev pub invariant-loop-method : goal.invariant-loop-method
invariant-loop-method l = find_selector l.tables (drop l.method-index l.methods) l.selector ≡ find_selector l.tables l.methods l.selector
