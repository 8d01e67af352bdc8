-- Rules on values that are written: what is returned, and what a local is set to. The value keeps the rules, so what is left of the
-- breach is the rule at the node; that the code runs is read off the typing of the value and of the step behind it.
use Rattle.std.proofs.Common.{◌≡◌, ℕ, Bool, true, false, List, [], ◌∷◌, ◌++◌, length, map, not, is_some, slice_get, Some}
use Rattle.std.proofs.Common.{None, if◌then◌else◌, refl, sym, ap, ◌∙◌, subst}
use Rattle.std.proofs.lemmas.List.{length-reverse, length-map}
use Rattle.vg_meaning.specs.Code.{Code, Nothing, Then, Do, Return}
use Rattle.vg_syntax.specs.Tree.{Spot, TypeTree, Node}
use Rattle.vg_syntax.specs.Numbering.{with_id}
use Rattle.vg_tree.specs.declared.node.Node as held_node
use Rattle.vg_tree.specs.Nothing.{is_nothing}
use Rattle.vg_source.specs.Names.{Name}
use Rattle.vg_source.specs.Types.{StaticType, NoType}
use Rattle.vg_source.specs.Declared.{written_type}
use Rattle.vg_source.specs.Steps as source
use Rattle.vg_source.specs.Resolved.{IsValue, Fresh, Scope, declare, find_local, settled, resolved, or_default}
use Rattle.vg_rules.specs.Breach.{asks, ◌or◌}
use Rattle.vg_rules.specs.Fits.{fits}
use Rattle.vg_rules.specs.Written.{type_keeps}
use Rattle.vg_rules.specs.Bodies.{Body, head, head_fits, return_keeps, initialiser_keeps}
use Rattle.vg_rules.specs.Inherited.{has_no_type}
use Rattle.vg_core.specs.declared.types.CoreType.{CoreType}
use Rattle.vg_core.specs.declared.types.CoreType.TheVariants as core
use Rattle.vg_core.specs.declared.step.Step.{Step}
use Rattle.vg_core.specs.declared.step.Step.TheVariants.{SetLocal, Put}
use Rattle.vg_core.specs.declared.program.Tables.{Tables}
use Rattle.vg_core.specs.HeldProgram.{code_of}
use Rattle.vg_core.specs.Heap.{default}
use Rattle.vg_core.specs.Naming.{named_code}
use Rattle.vg_core.specs.Types.{HasType}
use Rattle.vg_core.specs.Typing.{Sub, same, t_put, t_set_local}
use Rattle.vg_types_tables.specs.declared.declared.Declared.{Declared}
use Rattle.vg_types_tables.specs.declared.locals.Locals.{Locals}
use Rattle.vg_types_tables.specs.declared.body.BodyKind.{BodyKind}
use Rattle.vg_types_tables.specs.declared.judged.Judged.{Judged}
use Rattle.vg_types_tables.specs.declared.judged.Done.{Done}
use Rattle.vg_types_tables.specs.Views.{declarations_at, naming, type_view, body_view, scope_view}
use Rattle.vg_types_tables.specs.Promises.{Stands, Does, Puts, Runs}
use Rattle.vg_types_simple.specs.Nodes.{return_node, local_node}
use Rattle.vg_types_simple.specs.Grows.{first_breach}
use Rattle.vg_types_simple.specs.Asked.{asked, return_fits, declaration_breach}
use Rattle.vg_types_simple.proofs.Judging.{asks_is, or_behind}
use Rattle.vg_types_simple.proofs.Typing.{puts_more}
use Rattle.vg_types_simple.proofs.Written.{return_of_none, return_written, default_written, initialiser_written}

-- ---- what is returned

return_is : (ds : Node) (k : Body) (r : StaticType) (e : Node) (ls : Scope) (t : StaticType) → is_nothing e ≡ false → head ds k e ls ≡ IsValue t
    → return_keeps ds k r e ls ≡ return_fits ds t r
return_is ds k r e ls t n h = by (has_no_type r) refl
  where
    by : (b : Bool) → has_no_type r ≡ b → return_keeps ds k r e ls ≡ (if b then false else fits ds t r)
    by true q = return_of_none ds k r e ls n q
    by false q = return_written ds k r e ls n q ∙ ap (λ z. head_fits ds z r) h

module _ (texts : List (List ℕ)) (root : held_node.Node) (d : Declared) (k : BodyKind) (ls : Locals) where
  return_asks : (id : ℕ) (at : Spot) (e : Node) (j : Judged) (b : Bool) → is_nothing e ≡ false → first_breach texts root d k ls e ≡ None
      → Stands texts root d k ls e j → return_fits (declarations_at texts root) (type_view texts d j.type_) (type_view texts d k.result) ≡ b
      → first_breach texts root d k ls (return_node id at e) ≡ asked b 23 id
  return_asks id at e j b n f s q =
      ap (λ z. z or asks (return_keeps (declarations_at texts root) (body_view texts d k) (type_view texts d k.result) e (scope_view texts d ls)) 23
      (with_id id at)) f
      ∙ ap (λ z. asks z 23 (with_id id at))
      (return_is (declarations_at texts root) (body_view texts d k) (type_view texts d k.result) e (scope_view texts d ls) (type_view texts d
      j.type_) n s.head ∙ q)
      ∙ asks_is b 23 id at

  pub return_refused : (id : ℕ) (at : Spot) (e : Node) (j : Judged) → is_nothing e ≡ false → first_breach texts root d k ls e ≡ None
      → Stands texts root d k ls e j → return_fits (declarations_at texts root) (type_view texts d j.type_) (type_view texts d k.result) ≡ false
      → first_breach texts root d k ls (return_node id at e) ≡ Some (record { rule = 23; node = id })
  return_refused id at e j n f s q = return_asks id at e j false n f s q

  pub return_done : (id : ℕ) (at : Spot) (e : Node) (j : Judged) (r : Done) → is_nothing e ≡ false → first_breach texts root d k ls e ≡ None
      → Stands texts root d k ls e j → return_fits (declarations_at texts root) (type_view texts d j.type_) (type_view texts d k.result) ≡ true
      → code_of r.code ≡ Then (code_of j.code) Return
      → (first_breach texts root d k ls (return_node id at e) ≡ None) × Does texts root d k ls (return_node id at e) ls r
  return_done id at e j r n f s q c = (
    return_asks id at e j true n f s q,
    record {
      head = refl;
      does = ap (named_code (naming texts d) d.tables) c ∙ ap (λ z. Then z Return) s.does
          ∙ ap (λ z. Then z.does Return) (sym (default_written NoType e (settled (resolved (declarations_at texts root) (body_view texts d k).owner e
          Fresh (scope_view texts d ls))) n));
      scope = refl;
    },
  )

-- ---- what a local is set to

got_last : {A : Type 0} (xs : List A) (x : A) → slice_get (xs ++ x ∷ []) (length xs) ≡ Some x
got_last [] x = refl
got_last (y ∷ xs) x = got_last xs x

pub local_runs : (p : Tables) (k : BodyKind) (old new : Locals) (c code : Code Step) (t u : CoreType) → Puts p k old c u → Sub p u t
    → new.declared ≡ old.declared ++ t ∷ [] → code ≡ Then c (Do (SetLocal (length old.declared) t)) → Runs p k new code
local_runs p k old new c code t u h s e f =
    subst (Runs p k new) (sym f)
    (λ o q. (
      u ∷ [],
      puts_more p k old.declared (t ∷ []) new.declared c u e h o [] q,
      t_set_local (subst (λ z. slice_get z (length old.declared) ≡ Some t) (sym e) (got_last old.declared t)) s,
    ))

default_has : (p : Tables) (t : CoreType) → HasType p [] (default t) t
default_has p core.IntType = tt
default_has p core.BoolType = tt
default_has p core.CharType = tt
default_has p (core.RawType k) = refl
default_has p core.NullType = tt
default_has p (core.ClassType c) = tt
default_has p (core.ArrayType t) = tt
default_has p (core.FunctionType ps r) = tt
default_has p core.NoType = tt
default_has p (core.MoreTypes t rest) = tt

pub default_runs : (p : Tables) (k : BodyKind) (old new : Locals) (c code : Code Step) (t : CoreType) → c ≡ Then (Do (Put (default t))) Nothing
    → new.declared ≡ old.declared ++ t ∷ [] → code ≡ Then c (Do (SetLocal (length old.declared) t)) → Runs p k new code
default_runs p k old new c code t h e f =
    local_runs p k old new c code t t (subst (λ z. Puts p k old z t) (sym h) (λ o x q. (t ∷ x, t_put (default_has p t), refl))) same e f

module _ (texts : List (List ℕ)) (root : held_node.Node) (d : Declared) (k : BodyKind) (old : Locals) where
  local_asks : (id : ℕ) (at : Spot) (x : Name) (t : TypeTree) (e : Node) (j : Judged) (w : CoreType) (b : Bool) → is_nothing e ≡ false
      → first_breach texts root d k old e ≡ None → Stands texts root d k old e j
      → declaration_breach (declarations_at texts root) id x t (scope_view texts d old) ≡ None → type_view texts d w ≡ written_type t
      → fits (declarations_at texts root) (type_view texts d j.type_) (type_view texts d w) ≡ b
      → first_breach texts root d k old (local_node id at x t e) ≡ asked b 21 id
  local_asks id at x t e j w b n f s dn tw q =
      ap (λ z. z or (asks new 11 (with_id id at) or (asks good 8 (with_id id at) or asks kept 21 (with_id id at)))) f
      ∙ ap (λ z. z or (asks good 8 (with_id id at) or asks kept 21 (with_id id at))) (asks_is new 11 id at)
      ∙ ap (λ z. asked new 11 id or (z or asks kept 21 (with_id id at))) (asks_is good 8 id at)
      ∙ sym (or_behind (asked new 11 id) (asked good 8 id) (asks kept 21 (with_id id at)))
      ∙ ap (λ z. z or asks kept 21 (with_id id at)) dn
      ∙ ap (λ z. asks z 21 (with_id id at))
      (initialiser_written (declarations_at texts root) (body_view texts d k) (written_type t) e (scope_view texts d old) n
      ∙ ap (λ z. head_fits (declarations_at texts root) z (written_type t)) s.head
      ∙ ap (fits (declarations_at texts root) (type_view texts d j.type_)) (sym tw) ∙ q)
      ∙ asks_is b 21 id at
    where
      new : Bool
      new = not (is_some (find_local (scope_view texts d old).names x))

      good : Bool
      good = type_keeps (declarations_at texts root) t

      kept : Bool
      kept = initialiser_keeps (declarations_at texts root) (body_view texts d k) (written_type t) e (scope_view texts d old)

  pub local_refused : (id : ℕ) (at : Spot) (x : Name) (t : TypeTree) (e : Node) (j : Judged) (w : CoreType) → is_nothing e ≡ false
      → first_breach texts root d k old e ≡ None → Stands texts root d k old e j
      → declaration_breach (declarations_at texts root) id x t (scope_view texts d old) ≡ None → type_view texts d w ≡ written_type t
      → fits (declarations_at texts root) (type_view texts d j.type_) (type_view texts d w) ≡ false
      → first_breach texts root d k old (local_node id at x t e) ≡ Some (record { rule = 21; node = id })
  local_refused id at x t e j w n f s dn tw q = local_asks id at x t e j w false n f s dn tw q

  pub local_done : (id : ℕ) (at : Spot) (x : Name) (t : TypeTree) (e : Node) (j : Judged) (w : CoreType) (new : Locals) (r : Done) → is_nothing e ≡ false
      → first_breach texts root d k old e ≡ None → Stands texts root d k old e j
      → declaration_breach (declarations_at texts root) id x t (scope_view texts d old) ≡ None → type_view texts d w ≡ written_type t
      → fits (declarations_at texts root) (type_view texts d j.type_) (type_view texts d w) ≡ true
      → code_of r.code ≡ Then (code_of j.code) (Do (SetLocal (length old.declared) w))
      → scope_view texts d new ≡ declare x (type_view texts d w) (scope_view texts d old)
      → (first_breach texts root d k old (local_node id at x t e) ≡ None) × Does texts root d k old (local_node id at x t e) new r
  local_done id at x t e j w new r n f s dn tw q c sc = (
    local_asks id at x t e j w true n f s dn tw q,
    record {
      head = refl;
      does = ap (named_code (naming texts d) d.tables) c
          ∙ ap (λ z. Then z (Do (source.SetLocal (length old.declared)))) s.does
          ∙ ap (λ z. Then z.does (Do (source.SetLocal (length old.declared))))
          (sym (default_written (written_type t) e (settled (resolved (declarations_at texts root) (body_view texts d k).owner e Fresh (scope_view
          texts d old))) n))
          ∙ ap (λ z. Then (or_default (written_type t) e (settled (resolved (declarations_at texts root) (body_view texts d k).owner e Fresh
          (scope_view texts d old)))).does
          (Do (source.SetLocal z))) (sym (length-reverse (map (type_view texts d) old.declared) ∙ length-map old.declared (type_view texts d)));
      scope = ap (λ z. declare x z (scope_view texts d old)) (sym tw) ∙ sym sc;
    },
  )
