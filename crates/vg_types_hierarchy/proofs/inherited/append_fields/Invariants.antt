use Rattle.std.proofs.Common.{◌≡◌, ◌++◌, take}
use Rattle.vg_types_hierarchy.proofs.inherited.append_fields.Given as goal

abbrev pub invariant-fields : goal.invariant-fields
invariant-fields l = l.row ≡ l.fn.row ++ take l.field-index l.field-items
