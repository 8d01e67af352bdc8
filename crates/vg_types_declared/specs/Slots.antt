-- Where fields stand: those of a class among its own, those of components among all of these.
use Rattle.std.specs.Prelude.{◌≡◌, ℕ, Some, slice_get}
use Rattle.vg_core.specs.declared.program.Owner.TheVariants.{InClass, InComponent}
use Rattle.vg_types_hierarchy.specs.Inherited.{own_at}
use Rattle.vg_types_members.specs.Members.{FieldView}
use Rattle.vg_types_homes.specs.Homes.{HomesView}

-- A field stands at its slot, and what stands at a place is a field that has the place as its slot.
pub record Slotted (w : HomesView) : Type 0 where
  pub of_class : (f c : ℕ) (t : FieldView) → slice_get w.fields f ≡ Some t → t.owner ≡ InClass c
      → slice_get (own_at (slice_get w.class_fields c)) t.slot ≡ Some f
  pub class_back : (c j f : ℕ) → slice_get (own_at (slice_get w.class_fields c)) j ≡ Some f
      → (t : FieldView) × (slice_get w.fields f ≡ Some t) × (t.owner ≡ InClass c) × (t.slot ≡ j)
  pub of_component : (f k : ℕ) (t : FieldView) → slice_get w.fields f ≡ Some t → t.owner ≡ InComponent k → slice_get w.globals t.slot ≡ Some f
  pub global_back : (i f : ℕ) → slice_get w.globals i ≡ Some f
      → (t : FieldView) × (k : ℕ) × (slice_get w.fields f ≡ Some t) × (t.owner ≡ InComponent k) × (t.slot ≡ i)
