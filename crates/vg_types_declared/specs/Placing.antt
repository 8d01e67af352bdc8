-- Where the fields of objects stand: those of the highest class first.
use Rattle.std.specs.Prelude.{◌≡◌, ◌<◌, true, ℕ, ◌+◌, ◌-◌, List, Option, Some, length, slice_get}
use Rattle.vg_core.specs.Tables.{is_in}
use Rattle.vg_core.specs.declared.program.Owner.TheVariants.{InClass}
use Rattle.vg_types_chains.specs.Chains.{chain_at, Close}
use Rattle.vg_types_hierarchy.specs.Inherited.{own_at, fields_on}
use Rattle.vg_types_members.specs.Members.{FieldView}
use Rattle.vg_types_homes.specs.Homes.{HomesView}
use Rattle.vg_types_declared.specs.Slots.{Slotted}

module _ (most : ℕ) (above : List (Option ℕ)) (w : HomesView) where
  -- The fields of the objects of a class.
  abbrev pub fields_of : ℕ → List ℕ
  fields_of c = fields_on w.class_fields (chain_at most above c)

  -- How many of them the class inherits.
  abbrev pub inherited : ℕ → ℕ
  inherited c = length (fields_of c) - length (own_at (slice_get w.class_fields c))

  -- A field stands behind what its class inherits, at its slot, in all objects that have it, and nothing else stands there.
  pub record Standing : Type 0 where
    pub forth : (c i f : ℕ) → c < length above → slice_get (fields_of c) i ≡ Some f
        → (e : ℕ) × (t : FieldView) × (is_in (chain_at most above c) e ≡ true) × (slice_get w.fields f ≡ Some t) × (t.owner ≡ InClass e)
        × (i ≡ inherited e + t.slot)
    pub back : (c e f : ℕ) (t : FieldView) → c < length above → is_in (chain_at most above c) e ≡ true → slice_get w.fields f ≡ Some t
        → t.owner ≡ InClass e → slice_get (fields_of c) (inherited e + t.slot) ≡ Some f

-- So it is where chains end by themselves.
abbrev pub Stands : HomesView → Type 0
Stands w = (most : ℕ) (above : List (Option ℕ)) → Close most above → Slotted w → Standing most above w
