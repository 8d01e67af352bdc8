-- The slots of fields.
use Rattle.std.specs.Prelude.{ℕ, ◌+◌, ◌-◌, List, length, slice_get}
use Rattle.vg_core.specs.declared.program.Owner.{Owner}
use Rattle.vg_core.specs.declared.program.Owner.TheVariants.{InClass, InComponent}
use Rattle.vg_core.specs.declared.program.Class.{Class}
use Rattle.vg_core.specs.declared.program.Field.{Field}
use Rattle.vg_core.specs.Tables.{fields_in}
use Rattle.vg_types_hierarchy.specs.Inherited.{own_at}

-- How many fields a class inherits: all that it has but its own.
abbrev pub inherited : List Class → (own : List (List ℕ)) → ℕ → ℕ
inherited classes own c = length (fields_in (slice_get classes c)) - length (own_at (slice_get own c))

-- The slot of a field of this owner, whose place among the own ones of a class is given.
abbrev pub slot_behind : List Class → (own : List (List ℕ)) → Owner → ℕ → ℕ
slot_behind classes own (InClass c) slot = inherited classes own c + slot
slot_behind classes own (InComponent k) slot = slot

-- A field with its slot.
abbrev pub with_slot : List Class → (own : List (List ℕ)) → Field → Field
with_slot classes own f = record f { slot = slot_behind classes own f.owner f.slot }
