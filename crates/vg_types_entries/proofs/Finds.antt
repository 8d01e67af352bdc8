-- What look-ups of components by name find in the tables of a text.
-- A text is mapped to a number exactly where the definition finds a component; what stands in the tables under this number has the name, so what is found
-- by number is what is found by name.
use Rattle.std.proofs.Common.{◌≡◌, ℕ, Bool, true, false, List, [], ◌∷◌, Option, Some, None, is_some, slice_get, IfSome, ◌&&◌, refl, sym}
use Rattle.std.proofs.Common.{ap, ◌∙◌, subst}
use Rattle.std.specs.Option.{option_and_then}
use Rattle.vg_tree.specs.declared.node.Node as held_node
use Rattle.vg_source.specs.Names.{Name}
use Rattle.vg_source.specs.Types.{StaticType, IntType, BoolType, CharType, RawType, NullType, ClassType, ArrayType, FunctionType, NoType, MoreTypes}
use Rattle.vg_source.specs.Declared.{component_named, component_member}
use Rattle.vg_source.specs.Declared.{member_among, AMethod}
use Rattle.vg_rules.specs.Entries.{can_enter}
use Rattle.vg_rules.specs.Inherited.{has_no_type}
use Rattle.vg_core.specs.declared.types.CoreType.{CoreType}
use Rattle.vg_core.specs.declared.types.CoreType.TheVariants as core
use Rattle.vg_core.specs.declared.program.Field.{Field}
use Rattle.vg_core.specs.declared.program.Method.{Method}
use Rattle.vg_core.specs.Naming.{owner_name, method_key}
use Rattle.vg_types_views.specs.ByText.{found}
use Rattle.vg_types_tables.specs.declared.declared.Declared.{Declared}
use Rattle.vg_types_tables.specs.declared.declared.MemberNumber.TheVariants.{Field as FieldNumber, Method as MethodNumber}
use Rattle.vg_types_tables.specs.Views.{declarations_at, type_view, row_view, params_view, result_view, field_view, member_view}
use Rattle.vg_types_tables.specs.Declares.{Declares, found_in}
use Rattle.vg_types_entries.specs.Entering.{IsEntered, IsMethodNumber, is_empty, is_nothing, is_plain}
use Rattle.vg_types_entries.proofs.Tests.{none_of, empty_list}

-- ---- rows of types

row_empty : (texts : List (List ℕ)) (d : Declared) (ts : List CoreType) → has_no_type (row_view texts d ts) ≡ is_empty ts
row_empty texts d [] = refl
row_empty texts d (t ∷ ts) = refl

no_result : (texts : List (List ℕ)) (d : Declared) (t : CoreType) → has_no_type (type_view texts d t) ≡ is_nothing t
no_result texts d core.IntType = refl
no_result texts d core.BoolType = refl
no_result texts d core.CharType = refl
no_result texts d (core.RawType k) = refl
no_result texts d core.NullType = refl
no_result texts d (core.ClassType c) = refl
no_result texts d (core.ArrayType t) = refl
no_result texts d (core.FunctionType ps r) = refl
no_result texts d core.NoType = refl
no_result texts d (core.MoreTypes t ts) = refl

field_left : (texts : List (List ℕ)) (d : Declared) (f : ℕ) (o : Option Field) → can_enter (field_view texts d f o) ≡ false
field_left texts d f (Some y) = refl
field_left texts d f None = refl

can_is : (ps r : StaticType) → can_enter (Some (AMethod ps r)) ≡ (has_no_type ps && has_no_type r)
can_is IntType r = refl
can_is BoolType r = refl
can_is CharType r = refl
can_is (RawType k) r = refl
can_is NullType r = refl
can_is (ClassType c) r = refl
can_is (ArrayType t) r = refl
can_is (FunctionType ps r) s = refl
can_is NoType NoType = refl
can_is NoType r = refl
can_is (MoreTypes t ts) r = refl

both_left : (a b : Bool) → (a && b) ≡ true → a ≡ true
both_left true b e = refl
both_left false b e = cc

module _ (texts : List (List ℕ)) (root : held_node.Node) (d : Declared) (h : Declares texts root d) where
  -- ---- components

  pub component_missing : (c x : Name) → None ≡ found c d.components → false ≡ can_enter (component_member (declarations_at texts root) c x)
  component_missing c x e =
      sym (ap (λ o. can_enter (member_among c o x)) (none_of (component_named (declarations_at texts root) c) (ap is_some e ∙ h.components c)))

  component_found : (c x : Name) (k : ℕ) → Some k ≡ found c d.components
      → option_and_then (member_view texts d) (found_in x (slice_get d.component_members k)) ≡ component_member (declarations_at texts root) c x
  component_found c x k e =
      let n = h.component_names c k (sym e) in
      h.component_members k n.0.0 x n.0.1 ∙ ap (λ y. component_member (declarations_at texts root) y x) n.1

  pub nothing_found : (c x : Name) (k : ℕ) → Some k ≡ found c d.components → None ≡ found_in x (slice_get d.component_members k)
      → false ≡ can_enter (component_member (declarations_at texts root) c x)
  nothing_found c x k e f = ap (λ r. can_enter (option_and_then (member_view texts d) r)) f ∙ ap can_enter (component_found c x k e)

  pub field_found : (c x : Name) (k f : ℕ) → Some k ≡ found c d.components → Some (FieldNumber f) ≡ found_in x (slice_get d.component_members k)
      → false ≡ can_enter (component_member (declarations_at texts root) c x)
  field_found c x k f e g =
      sym (field_left texts d f (slice_get d.tables.fields f)) ∙ ap (λ r. can_enter (option_and_then (member_view texts d) r)) g
      ∙ ap can_enter (component_found c x k e)

  pub method_there : (c x : Name) (k m : ℕ) → Some k ≡ found c d.components → Some (MethodNumber m) ≡ found_in x (slice_get d.component_members k)
      → IsMethodNumber d.tables m
  method_there c x k m e g =
      let n = h.component_names c k (sym e) in let i = h.component_member_is k n.0.0 x (MethodNumber m) n.0.1 (sym g) in (i.0, i.1)

  plain_entered : (o : Option Method) (y : Method) → o ≡ Some y → can_enter (Some (AMethod (params_view texts d o) (result_view texts d o))) ≡ is_plain o
  plain_entered (Some z) y e =
      can_is (row_view texts d z.params) (type_view texts d z.result)
      ∙ ap (λ b. b && has_no_type (type_view texts d z.result)) (row_empty texts d z.params) ∙ ap (λ b. is_empty z.params && b) (no_result texts d z.result)
  plain_entered None y e = cc

  pub method_found : (c x : Name) (k m : ℕ) (b : Bool) → Some k ≡ found c d.components
      → Some (MethodNumber m) ≡ found_in x (slice_get d.component_members k) → b ≡ is_plain (slice_get d.tables.methods m)
      → b ≡ can_enter (component_member (declarations_at texts root) c x)
  method_found c x k m b e g p =
      let t = method_there c x k m e g in
      p ∙ sym (plain_entered (slice_get d.tables.methods m) t.0 t.1) ∙ ap (λ r. can_enter (option_and_then (member_view texts d) r)) g
      ∙ ap can_enter (component_found c x k e)

  pub method_entered : (c x : Name) (k m : ℕ) → Some k ≡ found c d.components → Some (MethodNumber m) ≡ found_in x (slice_get d.component_members k)
      → is_plain (slice_get d.tables.methods m) ≡ true → IsEntered texts d c x m
  method_entered c x k m e g p =
      let n = h.component_names c k (sym e) in
      let i = h.component_member_is k n.0.0 x (MethodNumber m) n.0.1 (sym g) in
      record {
        method = i.0;
        component = k;
        is = i.1;
        owner = i.2;
        params = empty_list i.0.params (both_left (is_empty i.0.params) (is_nothing i.0.result) (sym (ap is_plain i.1) ∙ p));
        owner_named = ap (λ o. (method_key texts d.tables o).owner) i.1 ∙ ap (owner_name texts d.tables) i.2 ∙ n.1;
        named = i.3;
      }

  pub entered_if : (c x : Name) (k : ℕ) (r : Option ℕ) → is_some r ≡ is_plain (slice_get d.tables.methods k) → IfSome r (λ m. m ≡ k)
      → (is_plain (slice_get d.tables.methods k) ≡ true → IsEntered texts d c x k) → IfSome r (λ m. IsEntered texts d c x m)
  entered_if c x k None e f g = tt
  entered_if c x k (Some m) e f g = subst (IsEntered texts d c x) (sym f) (g (sym e))
