-- New arrays.
use Rattle.std.proofs.Common.{◌≡◌, ℕ, true, false, List, ◌∷◌, Some, None, slice_get, refl, sym, ap, ◌∙◌, subst}
use Rattle.vg_meaning.specs.Code.{Then, Do}
use Rattle.vg_meaning.specs.Shapes.{Fits}
use Rattle.vg_syntax.specs.Tree.{Spot, TypeTree, ArrayType as SpecArrayType}
use Rattle.vg_tree.specs.declared.node.Node as held_node
use Rattle.vg_source.specs.Types as source_type
use Rattle.vg_source.specs.Steps as source
use Rattle.vg_source.specs.Declared.{written_type}
use Rattle.vg_source.specs.Resolved.{Resolved, IsValue, doing, then_step}
use Rattle.vg_rules.specs.Breach.{asks, ◌or◌}
use Rattle.vg_rules.specs.Bodies.{is_int}
use Rattle.vg_rules.specs.Written.{type_keeps}
use Rattle.vg_core.specs.declared.types.CoreType.{CoreType}
use Rattle.vg_core.specs.declared.types.CoreType.TheVariants.{IntType, ArrayType}
use Rattle.vg_core.specs.declared.step.Step.TheVariants as step
use Rattle.vg_core.specs.HeldProgram.{code_of}
use Rattle.vg_core.specs.Naming.{named_code, type_named}
use Rattle.vg_core.specs.Typing.{known, t_new_array}
use Rattle.vg_types_tables.specs.declared.declared.Declared.{Declared}
use Rattle.vg_types_tables.specs.declared.locals.Locals.{Locals}
use Rattle.vg_types_tables.specs.declared.body.BodyKind.{BodyKind}
use Rattle.vg_types_tables.specs.declared.judged.Head.TheVariants.{Nothing, Value}
use Rattle.vg_types_tables.specs.declared.judged.Judged.{Judged}
use Rattle.vg_types_tables.specs.declared.judged.Standing.{Standing}
use Rattle.vg_types_tables.specs.Views.{declarations_at, naming, type_view, head_view, scope_view, code_view}
use Rattle.vg_types_tables.specs.Declares.{Declares}
use Rattle.vg_types_tables.specs.Promises.{IsHead, Leads, Puts}
use Rattle.vg_types_tables.proofs.Entries.{array_view}
use Rattle.vg_types_leaves.specs.Judgements.{Shows}

module _ (texts : List (List ℕ)) (root : held_node.Node) (d : Declared) (k : BodyKind) (ls : Locals) where
  -- the length, as a value
  abbrev size_of : Judged → Resolved
  size_of i = doing (code_view texts d i.code) (IsValue (type_view texts d i.type_)) (scope_view texts d ls)

  pub array_shows : (id n : ℕ) (spot : Spot) (t : CoreType) (e : TypeTree) (i : Judged) (j : Standing) → Declares texts root d
      → type_keeps (declarations_at texts root) (SpecArrayType e) ≡ true → i.type_ ≡ IntType
      → slice_get d.tables.types n ≡ Some t → type_view texts d t ≡ written_type e
      → j.head ≡ Value (ArrayType n) → code_of j.code ≡ Then (code_of i.code) (Do (step.NewArray id n))
      → ((asks (type_keeps (declarations_at texts root) (SpecArrayType e)) 8 spot or asks (is_int (IsValue (type_view texts d i.type_))) 25 spot) ≡ None)
      × Shows texts d ls (then_step (size_of i) (source.NewArray id (written_type e)) (IsValue (source_type.ArrayType (written_type e)))) j
  array_shows id n spot t e i j all ek ei et ew ej ec = (
    ap (λ b. asks b 8 spot or asks (is_int (IsValue (type_view texts d i.type_))) 25 spot) ek
        ∙ ap (λ z. asks (is_int (IsValue (type_view texts d z))) 25 spot) ei,
    record {
      head = ap (λ z. IsValue (source_type.ArrayType z)) (sym ew) ∙ sym (ap IsValue (array_view texts d all.formed n t et)) ∙ ap (head_view texts d) (sym ej);
      does = ap (named_code (naming texts d) d.tables) ec
          ∙ ap (λ z. Then (code_view texts d i.code) (Do (source.NewArray id (type_named (naming texts d) d.tables z)))) et
          ∙ ap (λ z. Then (code_view texts d i.code) (Do (source.NewArray id z))) ew;
      scope = refl;
      known = subst (IsHead texts d) (sym ej) (t, et);
    },
  )

  pub array_leads : (id n : ℕ) (t : CoreType) (i : Judged) (j : Standing) → i.type_ ≡ IntType → slice_get d.tables.types n ≡ Some t
      → j.head ≡ Value (ArrayType n) → code_of j.code ≡ Then (code_of i.code) (Do (step.NewArray id n))
      → Puts d.tables k ls (code_of i.code) i.type_ → Leads d.tables k ls Nothing (code_of j.code) j.head
  array_leads id n t i j ei et ej ec puts =
      subst (Leads d.tables k ls Nothing (code_of j.code)) (sym ej)
      (λ o x s. subst (λ z. Fits (known d.tables ls.declared o k.result) k.in_loop z x (ArrayType n ∷ x)) (sym ec) (
        IntType ∷ x,
        subst (λ z. Fits (known d.tables ls.declared o k.result) k.in_loop (code_of i.code) x (z ∷ x)) ei (puts o x s),
        t_new_array et,
      ))

  pub size_breaks : (spot : Spot) (e : TypeTree) (i : Judged) → type_keeps (declarations_at texts root) (SpecArrayType e) ≡ true
      → is_int (IsValue (type_view texts d i.type_)) ≡ false
      → (asks (type_keeps (declarations_at texts root) (SpecArrayType e)) 8 spot or asks (is_int (IsValue (type_view texts d i.type_))) 25 spot)
      ≡ Some (record { rule = 25; node = spot.id })
  size_breaks spot e i ek ei =
      ap (λ b. asks b 8 spot or asks (is_int (IsValue (type_view texts d i.type_))) 25 spot) ek ∙ ap (λ b. asks b 25 spot) ei
