-- Steps behind arguments, and new objects: where the arguments fit, the step takes them.
use Rattle.std.proofs.Common.{◌≡◌, ℕ, true, List, ◌++◌, None, sym, ap, ◌∙◌, subst}
use Rattle.vg_meaning.specs.Code.{Then, Do}
use Rattle.vg_meaning.specs.Shapes.{Fits}
use Rattle.vg_syntax.specs.Tree.{Node, Spot}
use Rattle.vg_syntax.specs.Numbering.{with_id}
use Rattle.vg_tree.specs.declared.node.Node as held_node
use Rattle.vg_source.specs.Names.{Name}
use Rattle.vg_source.specs.Types as source_type
use Rattle.vg_source.specs.Steps as source
use Rattle.vg_source.specs.Resolved.{IsValue, Fresh, then_step}
use Rattle.vg_rules.specs.Breach.{asks, ◌or◌}
use Rattle.vg_rules.specs.Bodies.{breach, making_keeps}
use Rattle.vg_core.specs.declared.types.CoreType.{CoreType}
use Rattle.vg_core.specs.HeldProgram.{code_of}
use Rattle.vg_core.specs.Naming.{named_code}
use Rattle.vg_core.specs.Typing.{known}
use Rattle.vg_types_views.specs.ByText.{found}
use Rattle.vg_types_tables.specs.declared.declared.Declared.{Declared}
use Rattle.vg_types_tables.specs.declared.locals.Locals.{Locals}
use Rattle.vg_types_tables.specs.declared.body.BodyKind.{BodyKind}
use Rattle.vg_types_tables.specs.declared.judged.Head.{Head}
use Rattle.vg_types_tables.specs.declared.judged.Head.TheVariants.{Value}
use Rattle.vg_types_tables.specs.declared.judged.Standing.{Standing}
use Rattle.vg_types_tables.specs.Views.{declarations_at, naming, head_view, step_view, body_view, scope_view}
use Rattle.vg_types_tables.specs.Promises.{IsHead, waiting, meant, Leads, Leaves}
use Rattle.vg_types_calls.specs.declared.call.Called.{Called}
use Rattle.vg_types_calls.specs.Calls.{AreMakingParams, TakesArguments, IsMaking}
use Rattle.vg_types_expressions.specs.declared.argued.Argued.{Argued}
use Rattle.vg_types_expressions.specs.Arguments.{Argues, PutsFor}
use Rattle.vg_types_expressions.specs.Nodes.{new_object_node}

module _ (d : Declared) (k : BodyKind) (ls : Locals) where
  -- the step takes what the arguments put
  pub args_lead : (h : Head) (params : List CoreType) (j : Argued) (c : Called) (s : Standing) → TakesArguments d.tables h params j.count c
      → PutsFor d.tables k ls params j → s.head ≡ Value c.type_ → code_of s.code ≡ Then (code_of j.code) (Do c.step)
      → Leads d.tables k ls h (code_of s.code) s.head
  args_lead h params j c s t puts eh ec =
      subst (Leads d.tables k ls h (code_of s.code)) (sym eh)
      (λ o x sees.
      let u = puts o (waiting h x) sees in
      subst (λ z. Fits (known d.tables ls.declared o k.result) k.in_loop z (waiting h x) (waiting (Value c.type_) x)) (sym ec)
      (u.0 ++ waiting h x, u.3, t.takes ls.declared o x u.0 u.1 u.2))

module _ (texts : List (List ℕ)) (root : held_node.Node) (d : Declared) (k : BodyKind) (ls : Locals) where
  -- a new object whose arguments fit
  pub making_leaves : (id : ℕ) (at : Spot) (x : Name) (e : Node) (params : List CoreType) (j : Argued) (c : Called) (s : Standing)
      → breach (declarations_at texts root) (body_view texts d k) e Fresh (scope_view texts d ls) ≡ None → Argues texts root d k ls params e j
      → AreMakingParams d (found x d.classes) params → IsMaking texts root d x j.count id c → j.fits ≡ true → s.head ≡ Value c.type_
      → code_of s.code ≡ Then (code_of j.code) (Do c.step)
      → (breach (declarations_at texts root) (body_view texts d k) (new_object_node id at x e) Fresh (scope_view texts d ls) ≡ None)
      × Leaves texts root d k ls (new_object_node id at x e) Fresh s
  making_leaves id at x e params j c s kept a p is f eh ec =
      let m = meant texts root d k ls e Fresh in
      let em = ap (λ n. then_step m (source.NewObject id x n) (IsValue (source_type.ClassType x))) (sym (a.count f)) ∙ is.means m in (
        ap (λ z. z or asks (making_keeps (declarations_at texts root) (body_view texts d k) x e (scope_view texts d ls)) 25 (with_id id at)) kept
            ∙ ap (λ b. asks b 25 (with_id id at)) (is.keeps params p (body_view texts d k) e (scope_view texts d ls) ∙ sym a.fits ∙ f),
        record {
          head = ap (λ z. z.head) em ∙ ap (head_view texts d) (sym eh);
          does = ap (named_code (naming texts d) d.tables) ec ∙ ap (λ z. Then z (Do (step_view texts d c.step))) a.does ∙ sym (ap (λ z. z.does) em);
          scope = ap (λ z. z.scope) em ∙ a.scope;
          known = subst (IsHead texts d) (sym eh) (is.takes params p).known;
        },
      )
