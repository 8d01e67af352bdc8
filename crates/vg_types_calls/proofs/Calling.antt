-- Calls and new objects: the step behind the arguments takes them, asks what the rule asks of them, and stands for what the definition
-- says.
use Rattle.std.proofs.Common.{◌≡◌, ℕ, ◌&&◌, List, [], ◌∷◌, ◌++◌, Some, slice_get, is_some, sym, ap, ◌∙◌, subst}
use Rattle.std.proofs.lemmas.Option.{same_Some}
use Rattle.vg_tree.specs.declared.node.Node as held_node
use Rattle.vg_source.specs.Names.{Name}
use Rattle.vg_source.specs.Types as source_type
use Rattle.vg_source.specs.Types.{StaticType}
use Rattle.vg_source.specs.Steps as source
use Rattle.vg_source.specs.Resolved.{IsValue, then_step}
use Rattle.vg_rules.specs.Bodies.{arguments_fit}
use Rattle.vg_rules.specs.Inherited.{params_of_class}
use Rattle.vg_core.specs.declared.types.CoreType.{CoreType}
use Rattle.vg_core.specs.declared.types.CoreType.TheVariants.{ClassType, FunctionType}
use Rattle.vg_core.specs.declared.program.Method.{Method}
use Rattle.vg_core.specs.declared.step.Step.TheVariants as step
use Rattle.vg_core.specs.Naming.{named_number, named_types, params_named, result_named, type_at}
use Rattle.vg_core.specs.State.{onto}
use Rattle.vg_core.specs.Tables.{dispatch}
use Rattle.vg_core.specs.Typing.{Takes, Subs, t_call_method, t_call_component, t_call_value, t_new_object}
use Rattle.vg_types_views.specs.ByText.{found}
use Rattle.vg_types_tables.specs.declared.declared.Declared.{Declared}
use Rattle.vg_types_tables.specs.declared.judged.Head.TheVariants.{Value, OwnMethod, ItsMethod}
use Rattle.vg_types_tables.specs.Views.{declarations_at, naming, type_view, row_view, params_view, result_view}
use Rattle.vg_types_tables.specs.Declares.{Declares, IsKnown}
use Rattle.vg_types_tables.specs.Promises.{IsOwnMethod, IsItsMethod}
use Rattle.vg_types_tables.proofs.Entries.{known_entry, number_view, number_type, row_number}
use Rattle.vg_types_calls.specs.Calls.{AreParamsOfMethod, AreMakingParams, IsCall, IsMaking}

module _ (texts : List (List ℕ)) (root : held_node.Node) (d : Declared) (all : Declares texts root d) where
  -- the parameters of a method are those that the tables have
  method_params : (m : ℕ) (y : Method) (ts : List CoreType) → slice_get d.tables.methods m ≡ Some y → AreParamsOfMethod d m ts → ts ≡ y.params
  method_params m y ts hm (z, hz, e) = e ∙ ap (λ q. q.params) (same_Some z y (sym hz ∙ hm))

  method_row : (m : ℕ) (y : Method) (ts : List CoreType) → slice_get d.tables.methods m ≡ Some y → AreParamsOfMethod d m ts
      → params_view texts d (slice_get d.tables.methods m) ≡ row_view texts d ts
  method_row m y ts hm p = ap (params_view texts d) hm ∙ ap (row_view texts d) (sym (method_params m y ts hm p))

  -- a method of the object that waits
  pub own_is : (at c m count id : ℕ) (y : Method) → IsOwnMethod texts d c m → slice_get d.tables.methods m ≡ Some y
      → IsCall texts d (OwnMethod at c m) count id (record { step = step.CallMethod id c y.selector count; type_ = y.result })
  own_is at c m count id y own hm =
      let same : own.1 ≡ y = same_Some own.1 y (sym own.2 ∙ hm) in
      let found : dispatch d.tables c y.selector ≡ Some m = ap (λ z. dispatch d.tables c z.selector) (sym same) ∙ own.3 in
      let named : (naming texts d).selector y.selector ≡ ((naming texts d).method m).name = ap (λ z. (naming texts d).selector z.selector) (sym same) ∙ own.4 in
      record {
        takes = λ ts p. record {
          takes = λ ls o x us e subs.
              subst (λ n. Takes d.tables ls o (step.CallMethod id c y.selector n) (us ++ ClassType c ∷ x) (y.result ∷ x)) e
              (t_call_method m y us found hm (subst (λ z. Subs d.tables us (onto z [])) (method_params m y ts hm p) subs));
          known = all.formed.known_results m y hm;
        };
        keeps = λ ts p ds k args ls. ap (λ z. arguments_fit ds k args z ls) (method_row m y ts hm p);
        means = λ a.
            ap (λ z. then_step a (source.CallMethod id ((naming texts d).class c) z count) (IsValue (result_view texts d (slice_get d.tables.methods m))))
            (sym named)
            ∙ ap (λ z. then_step a (source.CallMethod id ((naming texts d).class c) ((naming texts d).selector y.selector) count)
            (IsValue (result_view texts d z))) hm;
      }

  -- a method of a component
  pub its_is : (m count id : ℕ) (y : Method) → IsItsMethod d m → slice_get d.tables.methods m ≡ Some y
      → IsCall texts d (ItsMethod m) count id (record { step = step.CallComponent m count; type_ = y.result })
  its_is m count id y its hm =
      let same : its.0 ≡ y = same_Some its.0 y (sym its.2 ∙ hm) in
      record {
        takes = λ ts p. record {
          takes = λ ls o x us e subs.
              subst (λ n. Takes d.tables ls o (step.CallComponent m n) (us ++ x) (y.result ∷ x)) e
              (t_call_component y us hm (ap (λ z. z.owner) (sym same) ∙ its.3) (subst (λ z. Subs d.tables us (onto z [])) (method_params m y ts hm p) subs));
          known = all.formed.known_results m y hm;
        };
        keeps = λ ts p ds k args ls. ap (λ z. arguments_fit ds k args z ls) (method_row m y ts hm p);
        means = λ a.
            ap (λ z. then_step a (source.CallComponent ((naming texts d).method m).owner ((naming texts d).method m).name count)
            (IsValue (result_view texts d z))) hm;
      }

  abbrev number : ℕ → StaticType
  number i = named_number (named_types (naming texts d) [] d.tables.types) i

  -- a delegate
  pub delegate_is : (ps r f count id : ℕ) (t : CoreType) → IsKnown d.tables (FunctionType ps r) → slice_get d.tables.types f ≡ Some (FunctionType ps r)
      → slice_get d.tables.types r ≡ Some t
      → IsCall texts d (Value (FunctionType ps r)) count id (record { step = step.CallValue id count f; type_ = t })
  delegate_is ps r f count id t (kp, kr) ef er = record {
    takes = λ ts row. record {
      takes = λ ls o x us e subs.
          subst (λ n. Takes d.tables ls o (step.CallValue id n f) (us ++ FunctionType ps r ∷ x) (t ∷ x)) e (t_call_value ts us ef row er subs);
      known = known_entry d.tables all.formed r t er;
    };
    keeps = λ ts row ds k args ls. ap (λ z. arguments_fit ds k args z ls) (row_number texts d all.formed ts ps row);
    means = λ a.
        ap (λ z. then_step a (source.CallValue id count z (number r)) (IsValue (number r))) (sym (number_type texts d all.formed ps kp))
        ∙ ap (λ z. then_step a (source.CallValue id count (type_at (naming texts d) d.tables ps) z) (IsValue (number r)))
        (sym (number_type texts d all.formed r kr))
        ∙ ap (λ z. then_step a (source.CallValue id count (type_at (naming texts d) d.tables ps) (type_at (naming texts d) d.tables r)) (IsValue z))
        (number_view texts d all.formed r t er)
        ∙ ap (λ z. then_step a (source.CallValue id count (params_named (naming texts d) d.tables z) (result_named (naming texts d) d.tables z))
        (IsValue (type_view texts d t))) (sym ef);
  }

  -- a new object
  pub making_is : (x : Name) (c count id : ℕ) → found x d.classes ≡ Some c
      → IsMaking texts root d x count id (record { step = step.NewObject id c count; type_ = ClassType c })
  making_is x c count id e =
      let known = all.class_names x c e in
      let parts : (ts : List CoreType) → AreMakingParams d (found x d.classes) ts → AreMakingParams d (Some c) ts = λ ts. subst (λ o. AreMakingParams d o ts) e in
      record {
        takes = λ ts p.
            let k = parts ts p in
            record {
              takes = λ ls o y us n subs.
                  subst (λ z. Takes d.tables ls o (step.NewObject id c z) (us ++ y) (ClassType c ∷ y)) n
                  (t_new_object k.0 us k.1 (subst (λ z. Subs d.tables us (onto z [])) k.2 subs));
              known = known.0;
            };
        keeps = λ ts p k args ls.
            let q = parts ts p in
            ap (λ b. b && arguments_fit (declarations_at texts root) k args (params_of_class (declarations_at texts root) x) ls)
            (sym (all.classes x) ∙ ap is_some e)
            ∙ ap (λ z. arguments_fit (declarations_at texts root) k args (params_of_class (declarations_at texts root) z) ls) (sym known.1)
            ∙ ap (λ z. arguments_fit (declarations_at texts root) k args z ls) (sym (all.params c q.0 q.1))
            ∙ ap (λ z. arguments_fit (declarations_at texts root) k args (row_view texts d z) ls) (sym q.2);
        means = λ a. ap (λ z. then_step a (source.NewObject id z count) (IsValue (source_type.ClassType z))) (sym known.1);
      }
