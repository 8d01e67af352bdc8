-- What expressions stand for, from what stands for their parts: the definition is rewritten by what is known of each part, and the
-- code of the whole leads from head to head as its parts do.
use Rattle.std.proofs.Common.{◌≡◌, ℕ, true, false, List}
use Rattle.std.proofs.Common.{Option, None, Result, Ok, Err, refl, sym, ap, ◌∙◌, subst}
use Rattle.vg_base.specs.declared.refusal.Refusal.{Refusal}
use Rattle.vg_base.specs.declared.refusal.Refusal.TheVariants.{Fault, NoMemory}
use Rattle.vg_meaning.specs.Code.{Code, Then, Do, If}
use Rattle.vg_meaning.specs.Shapes.{Fits}
use Rattle.vg_syntax.specs.Tree.{Node, Spot}
use Rattle.vg_syntax.specs.Tree as tree
use Rattle.vg_syntax.specs.declared.kind.Kind.{Kind}
use Rattle.vg_syntax.specs.declared.kind.Kind.TheVariants as kind
use Rattle.vg_syntax.specs.Numbering.{numbered, with_id}
use Rattle.vg_tree.specs.declared.node.Node as held_node
use Rattle.vg_source.specs.Types as source_type
use Rattle.vg_source.specs.Values.{Truth}
use Rattle.vg_source.specs.Steps as source
use Rattle.vg_source.specs.Resolved as resolved
use Rattle.vg_source.specs.Resolved.{Owner, Scope, Fresh, Onto, IsValue, index_suffix}
use Rattle.vg_rules.specs.Breach.{Breach, asks, ◌or◌}
use Rattle.vg_rules.specs.Bodies.{breach, primary_breach}
use Rattle.vg_rules.specs.Operands.{operands_keep}
use Rattle.vg_types_views.specs.declared.broken.Broken.{Broken}
use Rattle.vg_types_views.specs.Judges.{Judges}
use Rattle.vg_core.specs.declared.step.Step.{Step}
use Rattle.vg_core.specs.HeldProgram.{code_of}
use Rattle.vg_core.specs.Naming.{named_code}
use Rattle.vg_core.specs.Typing.{known}
use Rattle.vg_types_tables.specs.declared.declared.Declared.{Declared}
use Rattle.vg_types_tables.specs.declared.locals.Locals.{Locals}
use Rattle.vg_types_tables.specs.declared.body.BodyKind.{BodyKind}
use Rattle.vg_types_tables.specs.declared.judged.Head.{Head}
use Rattle.vg_types_tables.specs.declared.judged.Judged.{Judged}
use Rattle.vg_types_tables.specs.declared.judged.Standing.{Standing}
use Rattle.vg_types_tables.specs.Views.{declarations_at, naming, type_view, head_view, body_view, scope_view, code_view}
use Rattle.vg_types_tables.specs.Promises.{IsHead, waiting, Leads, Stands, Leaves}
use Rattle.vg_types_leaves.specs.Judgements.{Shows, Behind}
use Rattle.vg_types_expressions.specs.Nodes.{chain_node, part_node, is_name}
use Rattle.vg_types_operators.specs.Judged.{value_of}

-- what is in front of no name breaks what it breaks
pub no_name_front : (ds : Node) (o : Owner) (ls : Scope) (e s : Node) (b : Option Breach) → is_name e ≡ false → primary_breach ds o ls e s b ≡ b
no_name_front ds o ls (tree.Name at x) s b h = absurd (let clash : true ≡ false = h in cc)
no_name_front ds o ls e s b h = refl

module _ (texts : List (List ℕ)) (root : held_node.Node) (d : Declared) (k : BodyKind) (ls : Locals) where
  -- one code behind another
  pub two_lead : (h g e : Head) (a b c : Code Step) → c ≡ Then a b → Leads d.tables k ls h a g → Leads d.tables k ls g b e → Leads d.tables k ls h c e
  two_lead h g e a b c ec l m o x s =
      subst (λ z. Fits (known d.tables ls.declared o k.result) k.in_loop z (waiting h x) (waiting e x)) (sym ec) (waiting g x, l o x s, m o x s)

  pub chain_leaves : (id n m : ℕ) (at : Spot) (e p : Node) (f : Judged) (b t : Standing) → n ≡ m
      → breach (declarations_at texts root) (body_view texts d k) e Fresh (scope_view texts d ls) ≡ None → Stands texts root d k ls e f
      → breach (declarations_at texts root) (body_view texts d k) (numbered n p) (Onto (IsValue (type_view texts d f.type_))) (scope_view texts d ls) ≡ None
      → Leaves texts root d k ls (numbered n p) (Onto (IsValue (type_view texts d f.type_))) b → t.head ≡ b.head
      → code_of t.code ≡ Then (code_of f.code) (code_of b.code)
      → (breach (declarations_at texts root) (body_view texts d k) (chain_node id at e (numbered m p)) Fresh (scope_view texts d ls) ≡ None)
      × Leaves texts root d k ls (chain_node id at e (numbered m p)) Fresh t
  chain_leaves id n m at e p f b t en ke s kb l eh ec =
      let ds : Node = declarations_at texts root in
      let at_parts = ap (λ z. resolved.resolved ds (body_view texts d k).owner (numbered m p) (Onto z) (scope_view texts d ls)) s.head
      ∙ ap (λ z. resolved.resolved ds (body_view texts d k).owner (numbered z p) (Onto (IsValue (type_view texts d f.type_))) (scope_view texts d ls))
      (sym en) in (
        ap (λ z. z or breach ds (body_view texts d k) (numbered m p) (Onto
            (resolved.settled (resolved.resolved ds (body_view texts d k).owner e Fresh (scope_view texts d ls))).head)
            (scope_view texts d ls)) ke
            ∙ ap (λ z. breach ds (body_view texts d k) (numbered m p) (Onto z) (scope_view texts d ls)) s.head
            ∙ ap (λ z. breach ds (body_view texts d k) (numbered z p) (Onto (IsValue (type_view texts d f.type_))) (scope_view texts d ls)) (sym en) ∙ kb,
        record {
          head = ap (λ z. z.head) at_parts ∙ l.head ∙ ap (head_view texts d) (sym eh);
          does = ap (named_code (naming texts d) d.tables) ec ∙ ap (λ z. Then z (code_view texts d b.code)) s.does
              ∙ ap (Then (resolved.settled (resolved.resolved ds (body_view texts d k).owner e Fresh (scope_view texts d ls))).does)
              (l.does ∙ sym (ap (λ z. z.does) at_parts));
          scope = ap (λ z. z.scope) at_parts ∙ l.scope;
          known = subst (IsHead texts d) (sym eh) l.known;
        },
      )

-- what a part does is told from what its operand does, leaves and has in scope
part_same : (at : ℕ) (op : Kind) (h : resolved.Head) (m n : resolved.Resolved) → m.does ≡ n.does → m.head ≡ n.head → m.scope ≡ n.scope
    → resolved.part at op h m ≡ resolved.part at op h n
part_same at kind.AndAnd h m n ed eh es =
    ap (λ z. resolved.doing (If z (Do (source.Put (Truth false)))) (IsValue source_type.BoolType) m.scope) ed
    ∙ ap (λ z. resolved.doing (If n.does (Do (source.Put (Truth false)))) (IsValue source_type.BoolType) z) es
part_same at kind.OrOr h m n ed eh es =
    ap (λ z. resolved.doing (If (Do (source.Put (Truth true))) z) (IsValue source_type.BoolType) m.scope) ed
    ∙ ap (λ z. resolved.doing (If (Do (source.Put (Truth true))) n.does) (IsValue source_type.BoolType) z) es
part_same at op h m n ed eh es =
    ap (λ z. resolved.doing (Then z (Do (source.Operate at (resolved.operator_of op)))) (resolved.result_of (resolved.operator_of op) h m.head) m.scope) ed
    ∙ ap (λ z. resolved.doing (Then n.does (Do (source.Operate at (resolved.operator_of op)))) (resolved.result_of (resolved.operator_of op) h z) m.scope) eh
    ∙ ap (λ z. resolved.doing (Then n.does (Do (source.Operate at (resolved.operator_of op)))) (resolved.result_of (resolved.operator_of op) h n.head) z) es

module _ (texts : List (List ℕ)) (root : held_node.Node) (d : Declared) (k : BodyKind) (ls : Locals) where
  -- a part with an operand
  pub part_judged : (id : ℕ) (at : Spot) (op : Kind) (e : Node) (h : Head) (j : Judged) (r : Result Standing (Refusal Broken))
      → breach (declarations_at texts root) (body_view texts d k) e Fresh (scope_view texts d ls) ≡ None → Stands texts root d k ls e j
      → Judges (Shows texts d ls (resolved.part id op (head_view texts d h) (value_of texts d ls j))) r
      (asks (operands_keep (declarations_at texts root) op (head_view texts d h) (IsValue (type_view texts d j.type_))) 18 (with_id id at))
      → Behind texts root d k ls (part_node id at op e) (Onto (head_view texts d h)) r
  part_judged id at op e h j r kept s = by r
    where
      value : resolved.Resolved
      value = resolved.settled (resolved.resolved (declarations_at texts root) (body_view texts d k).owner e Fresh (scope_view texts d ls))

      same : resolved.part id op (head_view texts d h) value ≡ resolved.part id op (head_view texts d h) (value_of texts d ls j)
      same = part_same id op (head_view texts d h) value (value_of texts d ls j) (sym s.does) s.head s.scope

      asked : breach (declarations_at texts root) (body_view texts d k) (part_node id at op e) (Onto (head_view texts d h)) (scope_view texts d ls)
          ≡ asks (operands_keep (declarations_at texts root) op (head_view texts d h) (IsValue (type_view texts d j.type_))) 18 (with_id id at)
      asked =
          ap (λ z. z or asks (operands_keep (declarations_at texts root) op (head_view texts d h) value.head) 18 (with_id id at)) kept
          ∙ ap (λ z. asks (operands_keep (declarations_at texts root) op (head_view texts d h) z) 18 (with_id id at)) s.head

      by : (q : Result Standing (Refusal Broken))
          → Judges (Shows texts d ls (resolved.part id op (head_view texts d h) (value_of texts d ls j))) q
          (asks (operands_keep (declarations_at texts root) op (head_view texts d h) (IsValue (type_view texts d j.type_))) 18 (with_id id at))
          → Behind texts root d k ls (part_node id at op e) (Onto (head_view texts d h)) q
      by (Ok t) (b, shown) = (
        asked ∙ b,
        record {
          head = ap (λ z. z.head) same ∙ shown.head;
          does = shown.does ∙ sym (ap (λ z. z.does) same);
          scope = ap (λ z. z.scope) same ∙ shown.scope;
          known = shown.known;
        },
      )
      by (Err (Fault f)) b = asked ∙ b
      by (Err NoMemory) b = b

-- `this` is no place
pub this_no_place : (o : Owner) (ls : Scope) → (resolved.this_in o ls).store ≡ None
this_no_place (resolved.InClass c) ls = refl
this_no_place (resolved.InComponent c) ls = refl
this_no_place resolved.NoOwner ls = refl
