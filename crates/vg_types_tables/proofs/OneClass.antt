-- Classes of one name are one.
use Rattle.std.proofs.Common.{◌≡◌, ℕ, List, sym, ap, ◌∙◌}
use Rattle.std.proofs.lemmas.Option.{same_Some}
use Rattle.vg_tree.specs.declared.node.Node as held_node
use Rattle.vg_core.specs.declared.types.CoreType.{CoreType}
use Rattle.vg_types_views.specs.ByText.{found}
use Rattle.vg_types_tables.specs.declared.declared.Declared.{Declared}
use Rattle.vg_types_tables.specs.Views.{naming, type_view}
use Rattle.vg_types_tables.specs.Declares.{IsClass, IsKnown, Declares}
use Rattle.vg_types_tables.proofs.OneType.{one}

module _ (texts : List (List ℕ)) (root : held_node.Node) (d : Declared) (h : Declares texts root d) where
  one_class : (c e : ℕ) → IsClass d.tables c → IsClass d.tables e → (naming texts d).class c ≡ (naming texts d).class e → c ≡ e
  one_class c e (k, is_k) (l, is_l) same =
      same_Some c e (sym (h.class_found c k is_k) ∙ ap (λ x. found x d.classes) same ∙ h.class_found e l is_l)

  -- two types of the tables that stand for one type are one
  pub one_type : (t u : CoreType) → IsKnown d.tables t → IsKnown d.tables u → type_view texts d t ≡ type_view texts d u → t ≡ u
  one_type = one (naming texts d) d.tables h.formed one_class
