-- Bodies as the routines of the source program, and their typing. A routine is made of its parts, and each part is an equation on the parts
-- of the body.
use Rattle.std.proofs.Common.{◌≡◌, ℕ, false, List, [], ◌++◌, length, drop, map, Option, Some, None, refl, sym, ap, ◌∙◌, subst}
use Rattle.vg_meaning.specs.Code.{Code, Then}
use Rattle.vg_meaning.specs.Shapes.{Fits}
use Rattle.vg_syntax.specs.Tree.{Node}
use Rattle.vg_tree.specs.declared.node.Node as held_node
use Rattle.vg_source.specs.Names.{Name}
use Rattle.vg_source.specs.Values as source_value
use Rattle.vg_source.specs.Steps as source
use Rattle.vg_source.specs.Resolved.{Fresh, resolved}
use Rattle.vg_source.specs.Program.{Constructor, scope_of, defaults_of, super_of, initialisers, own_initialiser, its_initialiser}
use Rattle.vg_core.specs.declared.types.CoreType.{CoreType}
use Rattle.vg_core.specs.declared.types.CoreType.TheVariants.{NoType}
use Rattle.vg_core.specs.declared.program.Owner.TheVariants.{InClass, InComponent}
use Rattle.vg_core.specs.declared.program.Tables.{Tables}
use Rattle.vg_core.specs.declared.code.Code as held
use Rattle.vg_core.specs.HeldProgram.{code_of, code_row}
use Rattle.vg_core.specs.Heap.{default}
use Rattle.vg_core.specs.Naming.{named_value, named_code}
use Rattle.vg_core.specs.Typing.{known}
use Rattle.vg_types_tables.specs.declared.declared.Declared.{Declared}
use Rattle.vg_types_tables.specs.Views.{declarations_at, naming, owner_view}
use Rattle.vg_types_statements.specs.Arms.{RunsIn}
use Rattle.vg_types_simple.proofs.MoreLocals.{more_locals}
use Rattle.vg_types_bodies.specs.Initial.{super_code, above_name, SuperRuns}
use Rattle.vg_types_bodies.specs.Fields.{making_kind}
use Rattle.vg_types_bodies.specs.Routines.{MethodIs, MakingIs, StartIs, MakingTyped, StartTyped, IsBelow, making_signature}
use Rattle.vg_types_bodies.proofs.Others.{default_named}
use Rattle.vg_types_bodies.proofs.Signatures.{typed_body}

-- a routine of its parts
abbrev routine : source.Target → (number params : ℕ) → List source_value.Value → source_value.Value → Code source.Step → source.Routine
routine t n k os v c = record { target = t; number = n; params = k; others = os; missing = v; body = c }

routine_same : (t : source.Target) (n k l : ℕ) (os us : List source_value.Value) (v w : source_value.Value) (c e : Code source.Step) → k ≡ l → os ≡ us → v ≡ w
    → c ≡ e → routine t n k os v c ≡ routine t n l us w e
routine_same t n k l os us v w c e p q r s =
    ap (λ z. routine t n z os v c) p ∙ ap (λ z. routine t n l z v c) q ∙ ap (λ z. routine t n l us z c) r ∙ ap (routine t n l us w) s

super_same : (ds : Node) (above : Option Name) (k : Constructor) → super_code ds above k.arguments (scope_of k.params) ≡ super_of ds above k
super_same ds None k = refl
super_same ds (Some c) k = refl

pub method_is : (texts : List (List ℕ)) (root : held_node.Node) (d : Declared) → MethodIs texts root d
method_is texts root d m y ps t body b l r i =
    routine_same _ m _ _ _ _ _ _ _ _ l
    (i.others ∙ ap (λ z. drop z (defaults_of (resolved (declarations_at texts root) (owner_view texts d (Some y.owner)) body Fresh (scope_of ps)).scope)) l)
    (default_named texts d y.result ∙ ap source_value.default r) i.does

pub making_is : (texts : List (List ℕ)) (root : held_node.Node) (d : Declared) → MakingIs texts root d
making_is texts root d c above members k ts made inits b i l n m =
    routine_same _ 0 _ _ _ _ _ _ _ _ l (ap (λ z. map (named_value (naming texts d) d.tables) (map default z)) m.others ∙ i.body.others) refl
    (ap (named_code (naming texts d) d.tables) m.code
    ∙ ap (λ z. Then z (Then (named_code (naming texts d) d.tables (code_row inits)) (named_code (naming texts d) d.tables (code_of made.body.code))))
    (i.before ∙ super_same (declarations_at texts root) (above_name texts d above) k)
    ∙ ap (λ z. Then (super_of (declarations_at texts root) (above_name texts d above) k) (Then z (named_code (naming texts d) d.tables (code_of
    made.body.code)))) n
    ∙ ap (λ z. Then (super_of (declarations_at texts root) (above_name texts d above) k)
    (Then (initialisers (own_initialiser (declarations_at texts root) ((naming texts d).class c)) members) z)) i.body.does)

pub start_is : (texts : List (List ℕ)) (root : held_node.Node) (d : Declared) → StartIs texts root d
start_is texts root d c above members k made inits b e i n m =
    routine_same _ 0 _ _ _ _ _ _ _ _ refl
    (ap (λ z. map (named_value (naming texts d) d.tables) (map default z)) m.others ∙ i.body.others
    ∙ ap (λ z. drop (length z) (defaults_of (resolved (declarations_at texts root) (owner_view texts d (Some (InComponent c))) k.body Fresh (scope_of
    z)).scope)) e)
    refl
    (ap (named_code (naming texts d) d.tables) m.code
    ∙ ap (λ z. Then z (named_code (naming texts d) d.tables (code_of made.body.code))) n
    ∙ ap (Then (initialisers (its_initialiser (declarations_at texts root) ((naming texts d).component c)) members)) (i.body.does
    ∙ ap (λ z. (resolved (declarations_at texts root) (owner_view texts d (Some (InComponent c))) k.body Fresh (scope_of z)).does) e))

super_more : (p : Tables) (c : ℕ) (above : Option ℕ) (ts more : List CoreType) (k : held.Code) → IsBelow p c above → SuperRuns p above ts k
    → Fits (known p (ts ++ more) (InClass c) NoType) false (code_of k) [] []
super_more p c None ts more k b h = subst (λ z. Fits (known p (ts ++ more) (InClass c) NoType) false z [] []) (sym h) refl
super_more p c (Some e) ts more k b h = more_locals p ts more (InClass c) NoType false (code_of k) [] [] (h c b)

pub making_typed : MakingTyped
making_typed p c above ts made inits b below r i m =
    typed_body p (making_kind (InClass c)) (making_signature (InClass c) ts) b ts refl refl refl refl
    (subst (λ z. RunsIn p (making_kind (InClass c)) (ts ++ z) (code_of b.code)) (sym m.others)
    (subst (RunsIn p (making_kind (InClass c)) (ts ++ made.body.others)) (sym m.code)
    (λ o s. (
      [],
      subst (λ z. Fits (known p (ts ++ made.body.others) z NoType) false (code_of made.before) [] []) s
          (super_more p c above ts made.body.others made.before below r.before),
      ([], i (ts ++ made.body.others) o s, r.body o s),
    ))))

pub start_typed : StartTyped
start_typed p c above made inits b r i m =
    typed_body p (making_kind (InComponent c)) (making_signature (InComponent c) []) b [] refl refl refl refl
    (subst (RunsIn p (making_kind (InComponent c)) b.others) (sym m.code)
    (subst (λ z. RunsIn p (making_kind (InComponent c)) z (Then (code_row inits) (code_of made.body.code))) (sym m.others)
    (λ o s. ([], i made.body.others o s, r.body o s))))
