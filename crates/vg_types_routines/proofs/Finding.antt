-- The fields that are found by name.
use Rattle.std.proofs.Common.{◌≡◌, ℕ, List, Option, Some, slice_get, sym, ap, ◌∙◌}
use Rattle.vg_tree.specs.declared.node.Node as held_node
use Rattle.vg_source.specs.Names.{Name}
use Rattle.vg_core.specs.declared.types.CoreType.{CoreType}
use Rattle.vg_core.specs.declared.program.Class.{Class}
use Rattle.vg_core.specs.declared.program.Field.{Field}
use Rattle.vg_core.specs.declared.program.Owner.{Owner}
use Rattle.vg_core.specs.declared.program.Owner.TheVariants.{InClass, InComponent}
use Rattle.vg_core.specs.Naming.{Key, owner_name, field_key}
use Rattle.vg_types_tables.specs.declared.declared.Declared.{Declared}
use Rattle.vg_types_tables.specs.declared.declared.MemberNumber.{MemberNumber}
use Rattle.vg_types_tables.specs.declared.declared.MemberNumber.TheVariants.{Field as FieldNumber}
use Rattle.vg_types_tables.specs.Views.{naming}
use Rattle.vg_types_tables.specs.Declares.{Declares, IsClass, IsComponent, member_of, found_in}
use Rattle.vg_types_bodies.specs.Fields.{Has}
use Rattle.vg_types_routines.specs.Fields.{key_of, IsOwn}

key_is : (k : Key) (o x : Name) → k.owner ≡ o → k.name ≡ x → k ≡ record { owner = o; name = x }
key_is k o x e f = ap (λ z. record { owner = z; name = k.name }) e ∙ ap (λ z. record { owner = o; name = z }) f

module _ (texts : List (List ℕ)) (root : held_node.Node) (d : Declared) where
  own_key : (o : Owner) (t : CoreType) (f : ℕ) (x : Name) → IsOwn d.tables o t f → ((naming texts d).field f).name ≡ x
      → (naming texts d).field f ≡ key_of texts d o x
  own_key o t f x (y, e, h, w) n =
      key_is ((naming texts d).field f) (owner_name texts d.tables o) x
      (ap (λ z. (field_key texts d.tables z).owner) e ∙ ap (owner_name texts d.tables) h) n

  pub class_has : Declares texts root d → (c : ℕ) (t : CoreType) (f : ℕ) → IsClass d.tables c → IsOwn d.tables (InClass c) t f
      → (y : Field) × (slice_get d.tables.fields f ≡ Some y) × (y.type_ ≡ t) × Has d.tables (InClass c) y
  class_has h c t f k (y, e, o, w) = (y, e, w, (c, o, h.formed.itself c k.0 k.1))

  pub component_has : (k : ℕ) (t : CoreType) (f : ℕ) → IsOwn d.tables (InComponent k) t f
      → (y : Field) × (slice_get d.tables.fields f ≡ Some y) × (y.type_ ≡ t) × Has d.tables (InComponent k) y
  component_has k t f (y, e, o, w) = (y, e, w, (k, o))

  pub class_key : Declares texts root d → (c : ℕ) (t : CoreType) (f : ℕ) (x : Name) (r : Option MemberNumber) → IsClass d.tables c
      → IsOwn d.tables (InClass c) t f → r ≡ Some (FieldNumber f)
      → ((k : Class) → slice_get d.tables.classes c ≡ Some k → r ≡ member_of d k.above x)
      → (naming texts d).field f ≡ key_of texts d (InClass c) x
  class_key h c t f x r k i e g =
      own_key (InClass c) t f x i (h.member_is c k.0 x (FieldNumber f) k.1 (sym (g k.0 k.1) ∙ e)).5

  pub component_key : Declares texts root d → (k : ℕ) (t : CoreType) (f : ℕ) (x : Name) (r : Option MemberNumber) → IsComponent d.tables k
      → IsOwn d.tables (InComponent k) t f → r ≡ Some (FieldNumber f) → r ≡ found_in x (slice_get d.component_members k)
      → (naming texts d).field f ≡ key_of texts d (InComponent k) x
  component_key h k t f x r c i e g =
      own_key (InComponent k) t f x i (h.component_member_is k c.0 x (FieldNumber f) c.1 (sym g ∙ e)).3
