-- Elements of arrays, by an index that was judged.
use Rattle.std.proofs.Common.{◌≡◌, ℕ, false, List, [], ◌∷◌, Some, None, slice_get, sym, ap, ◌∙◌, subst}
use Rattle.vg_meaning.specs.Code.{Then, Do}
use Rattle.vg_meaning.specs.Shapes.{Fits}
use Rattle.vg_syntax.specs.Tree.{Spot}
use Rattle.vg_tree.specs.declared.node.Node as held_node
use Rattle.vg_source.specs.Types as source_type
use Rattle.vg_source.specs.Steps as source
use Rattle.vg_source.specs.Resolved.{Resolved, IsValue, doing, index_suffix}
use Rattle.vg_rules.specs.Breach.{asks}
use Rattle.vg_rules.specs.Bodies.{index_keeps, is_int}
use Rattle.vg_core.specs.declared.types.CoreType.{CoreType}
use Rattle.vg_core.specs.declared.types.CoreType.TheVariants.{IntType, ArrayType}
use Rattle.vg_core.specs.declared.step.Step.TheVariants as step
use Rattle.vg_core.specs.HeldProgram.{code_of}
use Rattle.vg_core.specs.Naming.{named_code, named_number, named_types}
use Rattle.vg_core.specs.Typing.{known, Takes, Sub, t_item, t_set_item}
use Rattle.vg_types_tables.specs.declared.declared.Declared.{Declared}
use Rattle.vg_types_tables.specs.declared.locals.Locals.{Locals}
use Rattle.vg_types_tables.specs.declared.body.BodyKind.{BodyKind}
use Rattle.vg_types_tables.specs.declared.judged.Head.{Head}
use Rattle.vg_types_tables.specs.declared.judged.Head.TheVariants.{Value}
use Rattle.vg_types_tables.specs.declared.judged.Judged.{Judged}
use Rattle.vg_types_tables.specs.declared.judged.Standing.{Standing}
use Rattle.vg_types_tables.specs.declared.judged.Storing.{Storing}
use Rattle.vg_types_tables.specs.Views.{naming, type_view, step_view, head_view, scope_view, code_view}
use Rattle.vg_types_tables.specs.Declares.{Declares, IsKnown}
use Rattle.vg_types_tables.specs.Promises.{IsHead, waiting, Leads, Puts, Stores}
use Rattle.vg_types_tables.proofs.Entries.{known_entry}
use Rattle.vg_types_tables.proofs.TypeViews.{number_named}
use Rattle.vg_types_leaves.specs.Judgements.{Shows, ShowsPlace}
use Rattle.vg_types_leaves.proofs.Types.{number_view}

module _ (texts : List (List ℕ)) (root : held_node.Node) (d : Declared) (k : BodyKind) (ls : Locals) where
  -- the index, as a value
  abbrev index_of : Judged → Resolved
  index_of i = doing (code_view texts d i.code) (IsValue (type_view texts d i.type_)) (scope_view texts d ls)

  -- an element of an array
  pub element_shows : (id n : ℕ) (spot : Spot) (h : Head) (t : CoreType) (i : Judged) (j : Standing) → Declares texts root d → h ≡ Value (ArrayType n)
      → slice_get d.tables.types n ≡ Some t → i.type_ ≡ IntType → j.head ≡ Value t → code_of j.code ≡ Then (code_of i.code) (Do (step.Item id n))
      → (asks (index_keeps (head_view texts d h) (IsValue (type_view texts d i.type_))) 20 spot ≡ None)
      × Shows texts d ls (index_suffix id (index_of i) (head_view texts d h)) j
  element_shows id n spot h t i j all eh et ei ej ec =
      let number = named_number (named_types (naming texts d) [] d.tables.types) n in
      let is = ap (λ z. index_suffix id (index_of i) (head_view texts d z)) eh in
      let named = number_named d.tables (naming texts d) all.formed n t et in
      let viewed = number_view (naming texts d) d.tables all.formed n (t, et) in (
        ap (λ z. asks (index_keeps (head_view texts d z) (IsValue (type_view texts d i.type_))) 20 spot) eh
            ∙ ap (λ z. asks (index_keeps (IsValue (source_type.ArrayType number)) (IsValue (type_view texts d z))) 20 spot) ei,
        record {
          head = ap (λ z. z.head) is ∙ ap IsValue named ∙ ap (head_view texts d) (sym ej);
          does = ap (named_code (naming texts d) d.tables) ec ∙ ap (λ z. Then (code_view texts d i.code) (Do (source.Item id z))) (sym viewed)
              ∙ sym (ap (λ z. z.does) is);
          scope = ap (λ z. z.scope) is;
          known = subst (IsHead texts d) (sym ej) (known_entry d.tables all.formed n t et);
        },
      )

  pub element_leads : (id n : ℕ) (h : Head) (t : CoreType) (i : Judged) (j : Standing) → h ≡ Value (ArrayType n) → slice_get d.tables.types n ≡ Some t
      → i.type_ ≡ IntType → j.head ≡ Value t → code_of j.code ≡ Then (code_of i.code) (Do (step.Item id n))
      → Puts d.tables k ls (code_of i.code) i.type_ → Leads d.tables k ls h (code_of j.code) j.head
  element_leads id n h t i j eh et ei ej ec puts =
      subst (λ z. Leads d.tables k ls z (code_of j.code) j.head) (sym eh)
      (subst (Leads d.tables k ls (Value (ArrayType n)) (code_of j.code)) (sym ej)
      (λ o x s. subst (λ z. Fits (known d.tables ls.declared o k.result) k.in_loop z (ArrayType n ∷ x) (t ∷ x)) (sym ec) (
        IntType ∷ ArrayType n ∷ x,
        subst (λ z. Fits (known d.tables ls.declared o k.result) k.in_loop (code_of i.code) (ArrayType n ∷ x) (z ∷ ArrayType n ∷ x)) ei
            (puts o (ArrayType n ∷ x) s),
        t_item et,
      )))

  pub element_breaks : (n : ℕ) (spot : Spot) (h : Head) (i : Judged) → h ≡ Value (ArrayType n) → is_int (IsValue (type_view texts d i.type_)) ≡ false
      → asks (index_keeps (head_view texts d h) (IsValue (type_view texts d i.type_))) 20 spot ≡ Some (record { rule = 20; node = spot.id })
  element_breaks n spot h i eh e =
      ap (λ z. asks (index_keeps (head_view texts d z) (IsValue (type_view texts d i.type_))) 20 spot) eh ∙ ap (λ b. asks b 20 spot) e

  -- as the target of an assignment
  pub element_place : (id n : ℕ) (h : Head) (t : CoreType) (i : Judged) (s : Storing) → Declares texts root d → h ≡ Value (ArrayType n)
      → slice_get d.tables.types n ≡ Some t → code_of s.aims ≡ code_of i.code → s.store ≡ step.SetItem id n → s.type_ ≡ t
      → ShowsPlace texts d (index_suffix id (index_of i) (head_view texts d h)) s
  element_place id n h t i s all eh et ea es ek =
      let is = ap (λ z. index_suffix id (index_of i) (head_view texts d z)) eh in record {
        head = ap (λ z. z.head) is ∙ ap IsValue (number_named d.tables (naming texts d) all.formed n t et) ∙ ap (λ z. IsValue (type_view texts d z)) (sym ek);
        aims = ap (named_code (naming texts d) d.tables) ea ∙ sym (ap (λ z. z.aims) is);
        store = ap (λ z. z.store) is ∙ ap (λ z. Some (source.SetItem id z)) (number_view (naming texts d) d.tables all.formed n (t, et))
            ∙ ap (λ z. Some (step_view texts d z)) (sym es);
        known = subst (IsKnown d.tables) (sym ek) (known_entry d.tables all.formed n t et);
      }

  pub element_stores : (id n : ℕ) (h : Head) (t : CoreType) (i : Judged) (s : Storing) → h ≡ Value (ArrayType n) → slice_get d.tables.types n ≡ Some t
      → i.type_ ≡ IntType → code_of s.aims ≡ code_of i.code → s.store ≡ step.SetItem id n → s.type_ ≡ t → Puts d.tables k ls (code_of i.code) i.type_
      → Stores d.tables k ls h s
  element_stores id n h t i s eh et ei ea es ek puts o x sees = (
    IntType ∷ ArrayType n ∷ x,
    subst (λ z. Fits (known d.tables ls.declared o k.result) k.in_loop z (waiting h x) (IntType ∷ ArrayType n ∷ x)) (sym ea)
        (subst (λ z. Fits (known d.tables ls.declared o k.result) k.in_loop (code_of i.code) (waiting z x) (IntType ∷ ArrayType n ∷ x)) (sym eh)
        (subst (λ z. Fits (known d.tables ls.declared o k.result) k.in_loop (code_of i.code) (ArrayType n ∷ x) (z ∷ ArrayType n ∷ x)) ei
        (puts o (ArrayType n ∷ x) sees))),
    λ u sub. subst (λ z. Takes d.tables ls.declared o z (u ∷ IntType ∷ ArrayType n ∷ x) x) (sym es) (t_set_item et (subst (Sub d.tables u) ek sub)),
  )

  pub element_kept : (n : ℕ) (spot : Spot) (h : Head) (i : Judged) → h ≡ Value (ArrayType n) → i.type_ ≡ IntType
      → asks (index_keeps (head_view texts d h) (IsValue (type_view texts d i.type_))) 20 spot ≡ None
  element_kept n spot h i eh ei =
      ap (λ z. asks (index_keeps (head_view texts d z) (IsValue (type_view texts d i.type_))) 20 spot) eh
      ∙ ap (λ z. asks (is_int (IsValue (type_view texts d z))) 20 spot) ei
