use Rattle.std.proofs.Common.{◌≡◌, map, take}
use Rattle.vg_types_hierarchy.specs.Slots.{with_slot}
use Rattle.vg_types_hierarchy.proofs.slots.with_slots.Given as goal

abbrev pub invariant-fields : goal.invariant-fields
invariant-fields l = l.row ≡ map (with_slot l.classes l.own) (take l.field-index l.fields)
