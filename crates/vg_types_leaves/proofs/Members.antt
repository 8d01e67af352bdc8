-- What the members of classes and components stand for: what a look-up finds in the tables is what the definition finds by the name,
-- and the member that is found has this name.
use Rattle.std.proofs.Common.{◌≡◌, ℕ, true, if◌then◌else◌, bytes_eq, List, [], Some, None, slice_get, refl, sym, ap, ◌∙◌, subst}
use Rattle.std.specs.Option.{option_and_then}
use Rattle.vg_tree.specs.declared.node.Node as held_node
use Rattle.vg_meaning.specs.Code as code
use Rattle.vg_source.specs.Names.{Name}
use Rattle.vg_source.specs.Declared.{AField, AMethod, class_member, component_member}
use Rattle.vg_source.specs.Steps as source
use Rattle.vg_source.specs.Resolved as resolved
use Rattle.vg_source.specs.Types.{IntType as IntOf}
use Rattle.vg_source.specs.Resolved.{Scope, NoHead, IsValue, length_name, object_member, its_member, member_suffix, single, nothing, place_at}
use Rattle.vg_core.specs.declared.types.CoreType.{CoreType}
use Rattle.vg_core.specs.declared.types.CoreType.TheVariants.{ArrayType}
use Rattle.vg_core.specs.declared.program.Class.{Class}
use Rattle.vg_core.specs.declared.program.Field.{Field}
use Rattle.vg_core.specs.Naming.{method_key, owner_name, named_number, named_types}
use Rattle.vg_types_tables.specs.declared.declared.Declared.{Declared}
use Rattle.vg_types_tables.specs.declared.declared.MemberNumber.TheVariants.{Field as FieldNumber, Method as MethodNumber}
use Rattle.vg_types_tables.specs.declared.locals.Locals.{Locals}
use Rattle.vg_types_tables.specs.Views.{declarations_at, naming, type_view, params_view, result_view, field_view, member_view, scope_view}
use Rattle.vg_types_tables.specs.Declares.{Declares, IsKnown, IsTypeNumber, member_of, found_in}
use Rattle.vg_types_leaves.specs.declared.reached.Reached.TheVariants as reached
use Rattle.vg_types_leaves.specs.Reached.{Reaches}
use Rattle.vg_types_leaves.proofs.Types.{number_view}

module _ (texts : List (List ℕ)) (root : held_node.Node) (d : Declared) (all : Declares texts root d) (ls : Locals) where
  pub object_field : (c f id : ℕ) (x : Name) (k : Class) (y : Field) → slice_get d.tables.classes c ≡ Some k → member_of d k.above x ≡ Some (FieldNumber f)
      → slice_get d.tables.fields f ≡ Some y
      → Reaches texts d id ls (object_member id ((naming texts d).class c) x (class_member (declarations_at texts root) ((naming texts d).class c) x)
      (scope_view texts d ls))
      (Some (reached.Field c f y.type_))
  object_field c f id x k y hk hm hf =
      let m = all.member_is c k x (FieldNumber f) hk hm in
      let e : class_member (declarations_at texts root) ((naming texts d).class c) x ≡ Some
      (AField ((naming texts d).field f).owner (type_view texts d y.type_))
      = sym (all.members c k x hk) ∙ ap (option_and_then (member_view texts d)) hm ∙ ap (field_view texts d f) hf in
      let found = m.2 in
      let same : m.0 ≡ y = cc in (
        ap (λ z. object_member id ((naming texts d).class c) x z (scope_view texts d ls)) e
            ∙ ap (λ z. place_at code.Nothing (source.SetField id ((naming texts d).field f).owner z)
            (single (source.Field id ((naming texts d).field f).owner z) (IsValue (type_view texts d y.type_)) (scope_view texts d ls))) (sym m.5),
        (y, hf, refl, all.formed.known_fields f y hf, (m.1, ap (λ z. z.owner) (sym same) ∙ m.3, m.4)),
      )

  pub object_method : (c m id : ℕ) (x : Name) (k : Class) → slice_get d.tables.classes c ≡ Some k → member_of d k.above x ≡ Some (MethodNumber m)
      → Reaches texts d id ls (object_member id ((naming texts d).class c) x (class_member (declarations_at texts root) ((naming texts d).class c) x)
      (scope_view texts d ls))
      (Some (reached.OwnMethod c m))
  object_method c m id x k hk hm =
      let is = all.member_is c k x (MethodNumber m) hk hm in
      let e : class_member (declarations_at texts root) ((naming texts d).class c) x
      ≡ Some (AMethod (params_view texts d (slice_get d.tables.methods m)) (result_view texts d (slice_get d.tables.methods m)))
      = sym (all.members c k x hk) ∙ ap (option_and_then (member_view texts d)) hm in (
        ap (λ z. object_member id ((naming texts d).class c) x z (scope_view texts d ls)) e
            ∙ ap (λ z. nothing (resolved.OwnMethod id ((naming texts d).class c) z (params_view texts d (slice_get d.tables.methods m))
            (result_view texts d (slice_get d.tables.methods m))) (scope_view texts d ls)) (sym is.4),
        ((k, hk), is.0, is.1, is.2, is.3 ∙ sym is.4),
      )

  pub no_object_field : (c f id : ℕ) (x : Name) (k : Class) → slice_get d.tables.classes c ≡ Some k → member_of d k.above x ≡ Some (FieldNumber f)
      → slice_get d.tables.fields f ≡ None
      → Reaches texts d id ls (object_member id ((naming texts d).class c) x (class_member (declarations_at texts root) ((naming texts d).class c) x)
      (scope_view texts d ls))
      None
  no_object_field c f id x k hk hm hf =
      ap (λ z. object_member id ((naming texts d).class c) x z (scope_view texts d ls))
      (sym (all.members c k x hk) ∙ ap (option_and_then (member_view texts d)) hm ∙ ap (field_view texts d f) hf)

  pub no_object_member : (c id : ℕ) (x : Name) (k : Class) → slice_get d.tables.classes c ≡ Some k → member_of d k.above x ≡ None
      → Reaches texts d id ls (object_member id ((naming texts d).class c) x (class_member (declarations_at texts root) ((naming texts d).class c) x)
      (scope_view texts d ls))
      None
  no_object_member c id x k hk hm =
      ap (λ z. object_member id ((naming texts d).class c) x z (scope_view texts d ls))
      (sym (all.members c k x hk) ∙ ap (option_and_then (member_view texts d)) hm)

  pub its_field : (k f id y : ℕ) (x : Name) (z : Field) → slice_get d.tables.components k ≡ Some y
      → found_in x (slice_get d.component_members k) ≡ Some (FieldNumber f)
      → slice_get d.tables.fields f ≡ Some z
      → Reaches texts d id ls (its_member ((naming texts d).component k) x
      (component_member (declarations_at texts root) ((naming texts d).component k) x) (scope_view texts d ls))
      (Some (reached.Global f z.type_))
  its_field k f id y x z hk hm hf =
      let m = all.component_member_is k y x (FieldNumber f) hk hm in
      let e : component_member (declarations_at texts root) ((naming texts d).component k) x
      ≡ Some (AField ((naming texts d).field f).owner (type_view texts d z.type_))
      = sym (all.component_members k y x hk) ∙ ap (option_and_then (member_view texts d)) hm ∙ ap (field_view texts d f) hf in
      let found = m.1 in
      let same : m.0 ≡ z = cc in (
        ap (λ w. its_member ((naming texts d).component k) x w (scope_view texts d ls)) e
            ∙ ap (λ w. place_at code.Nothing (source.SetComponentField ((naming texts d).field f).owner w)
            (single (source.ComponentField ((naming texts d).field f).owner w) (IsValue (type_view texts d z.type_)) (scope_view texts d ls))) (sym m.3),
        (z, hf, refl, all.formed.known_fields f z hf, (k, ap (λ w. w.owner) (sym same) ∙ m.2)),
      )

  pub its_method : (k m id y : ℕ) (x : Name) → slice_get d.tables.components k ≡ Some y → found_in x (slice_get d.component_members k) ≡ Some (MethodNumber m)
      → Reaches texts d id ls (its_member ((naming texts d).component k) x
      (component_member (declarations_at texts root) ((naming texts d).component k) x) (scope_view texts d ls))
      (Some (reached.ItsMethod m))
  its_method k m id y x hk hm =
      let is = all.component_member_is k y x (MethodNumber m) hk hm in
      let e : component_member (declarations_at texts root) ((naming texts d).component k) x
      ≡ Some (AMethod (params_view texts d (slice_get d.tables.methods m)) (result_view texts d (slice_get d.tables.methods m)))
      = sym (all.component_members k y x hk) ∙ ap (option_and_then (member_view texts d)) hm in
      let owner : ((naming texts d).method m).owner ≡ (naming texts d).component k
      = ap (λ z. (method_key texts d.tables z).owner) is.1 ∙ ap (owner_name texts d.tables) is.2 in (
        ap (λ z. its_member ((naming texts d).component k) x z (scope_view texts d ls)) e
            ∙ ap (λ z. nothing (resolved.ItsMethod ((naming texts d).component k) z (params_view texts d (slice_get d.tables.methods m))
            (result_view texts d (slice_get d.tables.methods m))) (scope_view texts d ls)) (sym is.3)
            ∙ ap (λ z. nothing (resolved.ItsMethod z ((naming texts d).method m).name (params_view texts d (slice_get d.tables.methods m))
            (result_view texts d (slice_get d.tables.methods m))) (scope_view texts d ls)) (sym owner),
        (is.0, k, is.1, is.2),
      )

  pub length_reached : (at i : ℕ) (x : Name) (t : CoreType) → t ≡ ArrayType i → IsKnown d.tables t → bytes_eq x length_name ≡ true
      → Reaches texts d at ls (member_suffix (declarations_at texts root) at x (scope_view texts d ls) (IsValue (type_view texts d t)))
      (Some (reached.Length i))
  length_reached at i x t et k e =
      let known : IsTypeNumber d.tables i = subst (IsKnown d.tables) et k in (
        ap (λ z. member_suffix (declarations_at texts root) at x (scope_view texts d ls) (IsValue (type_view texts d z))) et
            ∙ ap (λ b. if b then single (source.Length at (named_number (named_types (naming texts d) [] d.tables.types) i)) (IsValue IntOf)
            (scope_view texts d ls)
            else nothing NoHead (scope_view texts d ls)) e
            ∙ ap (λ z. single (source.Length at z) (IsValue IntOf) (scope_view texts d ls)) (number_view (naming texts d) d.tables all.formed i known),
        tt,
      )
