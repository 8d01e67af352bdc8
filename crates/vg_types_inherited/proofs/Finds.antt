-- What look-ups by name find in the tables of a text.
-- A text is mapped to a number exactly where the definition finds a class; what stands in the tables under this number has the name, so what is found by
-- number is what is found by name. Where nothing is found, a chain of classes that are not there has no member.
use Rattle.std.proofs.Common.{◌≡◌, ℕ, zero, suc, Bool, true, false, List, [], ◌∷◌, Option, Some, None, is_some, slice_get, IfSome, IsTrue, ◌↔◌, refl, sym}
use Rattle.std.proofs.Common.{ap, ◌∙◌}
use Rattle.std.specs.Option.{option_and_then}
use Rattle.vg_syntax.specs.Tree.{Node}
use Rattle.vg_syntax.specs.Classes.{class_named}
use Rattle.vg_tree.specs.declared.node.Node as held_node
use Rattle.vg_source.specs.Names.{Name}
use Rattle.vg_source.specs.Types.{StaticType}
use Rattle.vg_source.specs.Program.{constructor_in}
use Rattle.vg_source.specs.Declared.{or_else, above_of, members_in, member_in, member_on, chain_from, class_member}
use Rattle.vg_source.specs.Declared.{row_of}
use Rattle.vg_rules.specs.Inherited.{params_of_class, has_no_type}
use Rattle.vg_core.specs.declared.types.CoreType.{CoreType}
use Rattle.vg_core.specs.declared.program.Class.{Class}
use Rattle.vg_types_views.specs.ByText.{found}
use Rattle.vg_types_tables.specs.declared.declared.Declared.{Declared}
use Rattle.vg_types_tables.specs.declared.declared.MemberNumber.{MemberNumber}
use Rattle.vg_types_tables.specs.declared.declared.MemberNumber.TheVariants.{Field as FieldNumber, Method as MethodNumber}
use Rattle.vg_types_tables.specs.Views.{declarations_at, row_view, member_view}
use Rattle.vg_types_tables.specs.Declares.{Declares, IsClass, IsMemberOf, member_of}
use Rattle.vg_types_inherited.specs.Asked.{IsInTables}
use Rattle.vg_types_inherited.proofs.Tests.{none_of}

-- ---- a class that is not there

none_left : (n : ℕ) (ds : Node) → chain_from n ds None ≡ []
none_left zero ds = refl
none_left (suc n) ds = refl

no_member : (n : ℕ) (ds : Node) (c x : Name) → class_named ds c ≡ None → member_on ds (chain_from n ds (Some c)) x ≡ None
no_member zero ds c x e = refl
no_member (suc n) ds c x e =
    ap (λ k. or_else (member_in c (members_in k) x) (member_on ds (chain_from n ds (above_of k)) x)) e
    ∙ ap (λ cs. member_on ds cs x) (none_left n ds)

-- ---- rows of types

pub row_empty : (texts : List (List ℕ)) (d : Declared) (b : Bool) (ts : List CoreType) → (IsTrue b ↔ (ts ≡ [])) → b ≡ has_no_type (row_view texts d ts)
row_empty texts d true [] h = refl
row_empty texts d false [] h = h.1 refl
row_empty texts d true (t ∷ ts) h = let k : (t ∷ ts) ≡ [] = h.0 refl in cc
row_empty texts d false (t ∷ ts) h = refl

-- the types of the parameters of the constructor among members
abbrev row_params : Node → StaticType
row_params members = row_of (constructor_in members).params

module _ (texts : List (List ℕ)) (root : held_node.Node) (d : Declared) (h : Declares texts root d) where
  -- ---- classes

  class_missing : (c : Name) → found c d.classes ≡ None → class_named (declarations_at texts root) c ≡ None
  class_missing c e = none_of (class_named (declarations_at texts root) c) (sym (ap is_some e) ∙ h.classes c)

  pub member_missing : (c x : Name) → None ≡ found c d.classes → None ≡ class_member (declarations_at texts root) c x
  member_missing c x e = sym (no_member _ (declarations_at texts root) c x (class_missing c (sym e)))

  pub member_found : (c x : Name) (k : ℕ) (r : Option MemberNumber) → Some k ≡ found c d.classes
      → ((z : Class) → slice_get d.tables.classes k ≡ Some z → r ≡ member_of d z.above x)
      → option_and_then (member_view texts d) r ≡ class_member (declarations_at texts root) c x
  member_found c x k r e f =
      let n = h.class_names c k (sym e) in
      ap (option_and_then (member_view texts d)) (f n.0.0 n.0.1) ∙ h.members k n.0.0 x n.0.1 ∙ ap (λ y. class_member (declarations_at texts root) y x) n.1

  is_there : (k : ℕ) (x : Name) (m : MemberNumber) → IsMemberOf texts d k x m → IsInTables d.tables m
  is_there k x (FieldNumber f) i = (i.0, i.2)
  is_there k x (MethodNumber m) i = (i.0, i.1)

  pub member_there : (c x : Name) (k : ℕ) (r : Option MemberNumber) → Some k ≡ found c d.classes
      → ((z : Class) → slice_get d.tables.classes k ≡ Some z → r ≡ member_of d z.above x) → IfSome r (IsInTables d.tables)
  member_there c x k None e f = tt
  member_there c x k (Some m) e f =
      let n = h.class_names c k (sym e) in is_there k x m (h.member_is k n.0.0 x m n.0.1 (sym (f n.0.0 n.0.1)))

  pub nothing_taken : (c : Name) → None ≡ found c d.classes → true ≡ has_no_type (params_of_class (declarations_at texts root) c)
  nothing_taken c e = sym (ap (λ k. has_no_type (row_params (members_in k))) (class_missing c (sym e)))

  pub class_there : (c : Name) (k : ℕ) → Some k ≡ found c d.classes → IsClass d.tables k
  class_there c k e = (h.class_names c k (sym e)).0

  pub params_taken : (c : Name) (k : ℕ) (z : Class) (b : Bool) → Some k ≡ found c d.classes → slice_get d.tables.classes k ≡ Some z
      → (IsTrue b ↔ (z.params ≡ []))
      → b ≡ has_no_type (params_of_class (declarations_at texts root) c)
  params_taken c k z b e f g =
      row_empty texts d b z.params g ∙ ap has_no_type (h.params k z f)
      ∙ ap (λ y. has_no_type (params_of_class (declarations_at texts root) y)) (h.class_names c k (sym e)).1
