use Rattle.std.proofs.Common.{◌≡◌, ◌++◌, take}
use Rattle.vg_types_hierarchy.proofs.inherited.append_methods.Given as goal

abbrev pub invariant-methods : goal.invariant-methods
invariant-methods l = l.row ≡ l.fn.row ++ take l.method-index l.method-items
