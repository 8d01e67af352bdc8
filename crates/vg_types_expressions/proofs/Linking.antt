-- Rows of suffixes or parts, one after another: each link puts its code behind those before it, and what is left goes on from what it
-- leaves. The last link ends the row.
use Rattle.std.proofs.Common.{◌≡◌, ℕ, ◌+◌, List, [], ◌∷◌, ◌++◌, Some, None, refl, sym, ap, ◌∙◌, subst, arith}
use Rattle.vg_meaning.specs.Code.{Code, Then}
use Rattle.vg_meaning.specs.Shapes.{Fits}
use Rattle.vg_syntax.specs.Tree.{Node}
use Rattle.vg_syntax.specs.Tree as tree
use Rattle.vg_syntax.specs.Numbering.{count_nodes, numbered}
use Rattle.vg_tree.specs.declared.node.Node as held_node
use Rattle.vg_source.specs.Resolved.{Resolved, Onto, in_front}
use Rattle.vg_rules.specs.Breach.{Breach, ◌or◌}
use Rattle.vg_rules.specs.Bodies.{breach}
use Rattle.vg_core.specs.declared.step.Step.{Step}
use Rattle.vg_core.specs.declared.code.Code as held
use Rattle.vg_core.specs.HeldProgram.{code_of, code_chain}
use Rattle.vg_core.specs.Naming.{named_code}
use Rattle.vg_core.specs.Typing.{known}
use Rattle.vg_types_tables.specs.declared.declared.Declared.{Declared}
use Rattle.vg_types_tables.specs.declared.locals.Locals.{Locals}
use Rattle.vg_types_tables.specs.declared.body.BodyKind.{BodyKind}
use Rattle.vg_types_tables.specs.declared.judged.Head.{Head}
use Rattle.vg_types_tables.specs.declared.judged.Standing.{Standing}
use Rattle.vg_types_tables.specs.Views.{declarations_at, naming, body_view, scope_view, head_view, code_view}
use Rattle.vg_types_tables.specs.Promises.{IsHead, waiting, meant, Leaves, Leads}
use Rattle.vg_types_expressions.specs.Links.{code_behind, behind_all, Linking}

-- one more link
pub code_more : (cs : List held.Code) (c : held.Code) (e : Code Step) → code_behind (cs ++ c ∷ []) e ≡ code_behind cs (Then (code_of c) e)
code_more [] c e = refl
code_more (d ∷ cs) c e = ap (Then (code_of d)) (code_more cs c e)

-- a chain is its last code behind the others
pub chain_behind : (cs : List held.Code) (c : held.Code) → code_chain (cs ++ c ∷ []) ≡ code_behind cs (code_of c)
chain_behind [] c = refl
chain_behind (d ∷ []) c = refl
chain_behind (d ∷ e ∷ cs) c = ap (Then (code_of d)) (chain_behind (e ∷ cs) c)

module _ (texts : List (List ℕ)) (d : Declared) where
  pub behind_more : (cs : List held.Code) (c : held.Code) (m : Resolved)
      → behind_all texts d (cs ++ c ∷ []) m ≡ behind_all texts d cs (in_front (code_view texts d c) m)
  behind_more [] c m = refl
  behind_more (e ∷ cs) c m = ap (in_front (code_view texts d e)) (behind_more cs c m)

  pub behind_head : (cs : List held.Code) (m : Resolved) → (behind_all texts d cs m).head ≡ m.head
  behind_head [] m = refl
  behind_head (e ∷ cs) m = behind_head cs m

  pub behind_scope : (cs : List held.Code) (m : Resolved) → (behind_all texts d cs m).scope ≡ m.scope
  behind_scope [] m = refl
  behind_scope (e ∷ cs) m = behind_scope cs m

  pub behind_does : (cs : List held.Code) (c : Code Step) (m : Resolved) → named_code (naming texts d) d.tables c ≡ m.does
      → named_code (naming texts d) d.tables (code_behind cs c) ≡ (behind_all texts d cs m).does
  behind_does [] c m e = e
  behind_does (b ∷ cs) c m e = ap (Then (code_view texts d b)) (behind_does cs c m e)

module _ (texts : List (List ℕ)) (root : held_node.Node) (d : Declared) (k : BodyKind) (ls : Locals) where
  pub starts : (h : Head) (id : ℕ) (all : Node) → IsHead texts d h → Linking texts root d k ls h id all [] h id all
  starts h id all is = record {
    from = omega arith;
    count = refl;
    broken = refl;
    stands = refl;
    along = λ o x s c y f. f;
    known_head = is;
  }

  pub one_link : (first : Head) (id : ℕ) (all : Node) (codes : List held.Code) (h : Head) (next : ℕ) (e second more : Node) (j : Standing)
      → Linking texts root d k ls first id all codes h next (tree.Then e (tree.Then second more))
      → breach (declarations_at texts root) (body_view texts d k) (numbered next e) (Onto (head_view texts d h)) (scope_view texts d ls) ≡ None
      → Leaves texts root d k ls (numbered next e) (Onto (head_view texts d h)) j → Leads d.tables k ls h (code_of j.code) j.head
      → j.next ≡ next + count_nodes e
      → Linking texts root d k ls first id all (codes ++ j.code ∷ []) j.head j.next (tree.Then second more)
  one_link first id all codes h next e second more j r b s l n =
      let ds : Node = declarations_at texts root in
      let rest : Node = tree.Then second more in record {
        from = let f = r.from in omega (arith, f, n);
        count = let rc = r.count in omega (arith, rc, n);
        broken = r.broken
            ∙ ap (λ z. z or breach ds (body_view texts d k) (numbered (next + count_nodes e) rest)
            (Onto (meant texts root d k ls (numbered next e) (Onto (head_view texts d h))).head) (scope_view texts d ls)) b
            ∙ ap (λ z. breach ds (body_view texts d k) (numbered (next + count_nodes e) rest) (Onto z) (scope_view texts d ls)) s.head
            ∙ ap (λ z. breach ds (body_view texts d k) (numbered z rest) (Onto (head_view texts d j.head)) (scope_view texts d ls)) (sym n);
        stands = r.stands
            ∙ ap (λ z. behind_all texts d codes (in_front z (meant texts root d k ls (numbered (next + count_nodes e) rest)
            (Onto (meant texts root d k ls (numbered next e) (Onto (head_view texts d h))).head)))) (sym s.does)
            ∙ ap (λ z. behind_all texts d codes (in_front (code_view texts d j.code)
            (meant texts root d k ls (numbered (next + count_nodes e) rest) (Onto z)))) s.head
            ∙ ap (λ z. behind_all texts d codes (in_front (code_view texts d j.code)
            (meant texts root d k ls (numbered z rest) (Onto (head_view texts d j.head)))))
            (sym n)
            ∙ sym (behind_more texts d codes j.code (meant texts root d k ls (numbered j.next rest) (Onto (head_view texts d j.head))));
        along = λ o x sees c y f.
            subst (λ z. Fits (known d.tables ls.declared o k.result) k.in_loop z (waiting first x) y) (sym (code_more codes j.code c))
            (r.along o x sees (Then (code_of j.code) c) y (waiting j.head x, l o x sees, f));
        known_head = s.known;
      }

  -- the last link ends the row
  pub row_leaves : (first : Head) (id : ℕ) (all : Node) (codes : List held.Code) (h : Head) (next : ℕ) (e : Node) (j t : Standing)
      → Linking texts root d k ls first id all codes h next (tree.Then e tree.Nothing)
      → breach (declarations_at texts root) (body_view texts d k) (numbered next e) (Onto (head_view texts d h)) (scope_view texts d ls) ≡ None
      → Leaves texts root d k ls (numbered next e) (Onto (head_view texts d h)) j → t.head ≡ j.head → code_of t.code ≡ code_chain (codes ++ j.code ∷ [])
      → (breach (declarations_at texts root) (body_view texts d k) (numbered id all) (Onto (head_view texts d first)) (scope_view texts d ls) ≡ None)
      × Leaves texts root d k ls (numbered id all) (Onto (head_view texts d first)) t
  row_leaves first id all codes h next e j t r b s eh ec =
      let m : Resolved = meant texts root d k ls (numbered next e) (Onto (head_view texts d h)) in (
        r.broken ∙ ap (λ z. z or None) b,
        record {
          head = ap (λ z. z.head) r.stands ∙ behind_head texts d codes m ∙ s.head ∙ ap (head_view texts d) (sym eh);
          does = ap (named_code (naming texts d) d.tables) (ec ∙ chain_behind codes j.code) ∙ behind_does texts d codes (code_of j.code) m s.does
              ∙ sym (ap (λ z. z.does) r.stands);
          scope = ap (λ z. z.scope) r.stands ∙ behind_scope texts d codes m ∙ s.scope;
          known = subst (IsHead texts d) (sym eh) s.known;
        },
      )

  pub row_leads : (first : Head) (id : ℕ) (all : Node) (codes : List held.Code) (h : Head) (next : ℕ) (e : Node) (j t : Standing)
      → Linking texts root d k ls first id all codes h next (tree.Then e tree.Nothing) → Leads d.tables k ls h (code_of j.code) j.head
      → t.head ≡ j.head → code_of t.code ≡ code_chain (codes ++ j.code ∷ []) → Leads d.tables k ls first (code_of t.code) t.head
  row_leads first id all codes h next e j t r l eh ec o x sees =
      subst (λ z. Fits (known d.tables ls.declared o k.result) k.in_loop z (waiting first x) (waiting t.head x)) (sym (ec ∙ chain_behind codes j.code))
      (subst (λ z. Fits (known d.tables ls.declared o k.result) k.in_loop (code_behind codes (code_of j.code)) (waiting first x) (waiting z x)) (sym eh)
      (r.along o x sees (code_of j.code) (waiting j.head x) (l o x sees)))

  -- a breach of the last link is that of the row
  pub last_broken : (first : Head) (id : ℕ) (all : Node) (codes : List held.Code) (h : Head) (next : ℕ) (e : Node) (f : Breach)
      → Linking texts root d k ls first id all codes h next (tree.Then e tree.Nothing)
      → breach (declarations_at texts root) (body_view texts d k) (numbered next e) (Onto (head_view texts d h)) (scope_view texts d ls) ≡ Some f
      → breach (declarations_at texts root) (body_view texts d k) (numbered id all) (Onto (head_view texts d first)) (scope_view texts d ls) ≡ Some f
  last_broken first id all codes h next e f r b = r.broken ∙ ap (λ z. z or None) b

  pub link_broken : (first : Head) (id : ℕ) (all : Node) (codes : List held.Code) (h : Head) (next : ℕ) (e more : Node) (f : Breach)
      → Linking texts root d k ls first id all codes h next (tree.Then e more)
      → breach (declarations_at texts root) (body_view texts d k) (numbered next e) (Onto (head_view texts d h)) (scope_view texts d ls) ≡ Some f
      → breach (declarations_at texts root) (body_view texts d k) (numbered id all) (Onto (head_view texts d first)) (scope_view texts d ls) ≡ Some f
  link_broken first id all codes h next e more f r b =
      r.broken ∙ ap (λ z. z or breach (declarations_at texts root) (body_view texts d k) (numbered (next + count_nodes e) more)
      (Onto (meant texts root d k ls (numbered next e) (Onto (head_view texts d h))).head) (scope_view texts d ls)) b
