-- What fits among the types of the tables fits among those that they stand for.
use Rattle.std.proofs.Common.{◌≡◌, Bool, true, false, List, ℕ, Decides, refl, sym, subst}
use Rattle.vg_tree.specs.declared.node.Node as held_node
use Rattle.vg_core.specs.declared.types.CoreType.{CoreType}
use Rattle.vg_core.specs.declared.types.CoreType.TheVariants.{NullType, ClassType, ArrayType, FunctionType, NoType}
use Rattle.vg_core.specs.declared.program.Tables.{Tables}
use Rattle.vg_core.specs.Typing.{Sub, same, below, null_class, null_array, null_function}
use Rattle.vg_rules.specs.Fits.{same_type, fits}
use Rattle.vg_types_tables.specs.declared.declared.Declared.{Declared}
use Rattle.vg_types_tables.specs.Views.{declarations_at, type_view}
use Rattle.vg_types_tables.specs.Declares.{IsKnown, Declares}
use Rattle.vg_types_tables.specs.Fitting.{fits_where}
use Rattle.vg_types_tables.proofs.OneClass.{one_type}
use Rattle.vg_types_tables.proofs.SameType.{false_true, one_static, same_itself}

module _ (texts : List (List ℕ)) (root : held_node.Node) (d : Declared) (h : Declares texts root d) where
  -- the test of types for sameness says whether the types of the tables are one
  pub same_agrees : (t u : CoreType) → IsKnown d.tables t → IsKnown d.tables u → (equal : Bool) → Decides equal (t ≡ u)
      → equal ≡ same_type (type_view texts d t) (type_view texts d u)
  same_agrees t u k l true e =
      subst (λ x. true ≡ same_type (type_view texts d t) (type_view texts d x)) (e.0 refl) (sym (same_itself (type_view texts d t)))
  same_agrees t u k l false e = by (same_type (type_view texts d t) (type_view texts d u)) refl
    where
      by : (b : Bool) → same_type (type_view texts d t) (type_view texts d u) ≡ b → false ≡ b
      by false q = refl
      by true q = e.1 (one_type texts root d h t u k l (one_static (type_view texts d t) (type_view texts d u) q))

  pub fits_agrees : (t u : CoreType) → IsKnown d.tables t → IsKnown d.tables u → (equal : Bool) → Decides equal (t ≡ u)
      → fits_where d.tables t u equal ≡ fits (declarations_at texts root) (type_view texts d t) (type_view texts d u)
  fits_agrees NoType u k l equal e = refl
  fits_agrees (ClassType c) (ClassType b) (x, k) (y, l) equal e = h.below c b x y k l
  fits_agrees NullType (ClassType b) k l equal e = refl
  fits_agrees NullType (ArrayType i) k l equal e = refl
  fits_agrees NullType (FunctionType ps r) k l equal e = refl
  fits_agrees t u k l equal e = same_agrees t u k l equal e

pub fits_sub : (p : Tables) (t u : CoreType) (equal : Bool) → (equal ≡ true → t ≡ u) → fits_where p t u equal ≡ true → Sub p t u
fits_sub p NoType u equal d e = false_true e
fits_sub p (ClassType c) (ClassType b) equal d e = below e
fits_sub p NullType (ClassType b) equal d e = null_class
fits_sub p NullType (ArrayType i) equal d e = null_array
fits_sub p NullType (FunctionType ps r) equal d e = null_function
fits_sub p t u equal d e = subst (Sub p t) (d e) same
