-- Bodies that run are typed by their signature.
use Rattle.std.proofs.Common.{◌≡◌, ℕ, false, List, [], ◌∷◌, ◌++◌, length, Some, Result, refl, sym, ap, ◌∙◌, subst}
use Rattle.std.specs.List.{AllByRecursion}
use Rattle.vg_base.specs.declared.refusal.Refusal.{Refusal}
use Rattle.vg_syntax.specs.Tree.{Node}
use Rattle.vg_tree.specs.declared.node.Node as held_node
use Rattle.vg_meaning.specs.Shapes.{Fits}
use Rattle.vg_source.specs.Types.{StaticType, MoreTypes}
use Rattle.vg_source.specs.Resolved.{Scope, Fresh, resolved}
use Rattle.vg_rules.specs.Bodies.{breach}
use Rattle.vg_core.specs.declared.types.CoreType.{CoreType}
use Rattle.vg_core.specs.declared.program.Body.{Body}
use Rattle.vg_core.specs.declared.program.Tables.{Tables}
use Rattle.vg_core.specs.HeldProgram.{code_of, body_at}
use Rattle.vg_core.specs.State.{onto}
use Rattle.vg_core.specs.Program.{Signature}
use Rattle.vg_core.specs.Typing.{known, TypedBody}
use Rattle.vg_types_views.specs.declared.broken.Broken.{Broken}
use Rattle.vg_types_views.specs.Judges.{Judges}
use Rattle.vg_types_tables.specs.declared.declared.Declared.{Declared}
use Rattle.vg_types_tables.specs.declared.locals.Locals.{Locals}
use Rattle.vg_types_tables.specs.declared.body.BodyKind.{BodyKind}
use Rattle.vg_types_tables.specs.Views.{declarations_at, row_view, owner_view, body_view, scope_view}
use Rattle.vg_types_tables.specs.Declares.{IsKnown, Declares}
use Rattle.vg_types_tables.specs.Promises.{Sees, meant}
use Rattle.vg_types_tables.proofs.OneClass.{one_type}
use Rattle.vg_types_simple.specs.Grows.{first_breach}
use Rattle.vg_types_statements.specs.Arms.{RunsIn}
use Rattle.vg_types_bodies.specs.Bodies.{IsBodyOf}

onto_onto : {A : Type 0} (xs acc ys : List A) → onto (onto xs acc) ys ≡ onto acc (xs ++ ys)
onto_onto [] acc ys = refl
onto_onto (x ∷ xs) acc ys = onto_onto xs (x ∷ acc) ys

pub typed_body : (p : Tables) (k : BodyKind) (g : Signature) (b : Body) (ts : List CoreType) → k.owner ≡ Some g.owner → k.result ≡ g.result
    → k.in_loop ≡ false
    → ts ≡ g.params → RunsIn p k (ts ++ b.others) (code_of b.code) → TypedBody p g (body_at b)
typed_body p k g b ts o r l e h =
    subst (λ z. Fits (known p z g.owner g.result) false (code_of b.code) [] []) (ap (λ z. z ++ b.others) e ∙ sym (onto_onto g.params [] b.others))
    (subst (λ z. Fits (known p (ts ++ b.others) g.owner z) false (code_of b.code) [] []) r
    (subst (λ z. Fits (known p (ts ++ b.others) g.owner k.result) z (code_of b.code) [] []) l (h g.owner (sees o))))
  where
    sees : k.owner ≡ Some g.owner → Sees k.owner g.owner
    sees q = subst (λ z. Sees z g.owner) (sym q) refl

module _ (texts : List (List ℕ)) (root : held_node.Node) (d : Declared) (h : Declares texts root d) where
  first_of : (a b s t : StaticType) → MoreTypes a s ≡ MoreTypes b t → a ≡ b
  first_of a b s t e = cc

  rest_of : (a b s t : StaticType) → MoreTypes a s ≡ MoreTypes b t → s ≡ t
  rest_of a b s t e = cc

  -- two rows of types of the tables that stand for one row are one
  pub same_row : (ts us : List CoreType) → AllByRecursion (IsKnown d.tables) ts → AllByRecursion (IsKnown d.tables) us
      → row_view texts d ts ≡ row_view texts d us → ts ≡ us
  same_row [] [] k l e = refl
  same_row [] (u ∷ us) k l e = absurd (cc)
  same_row (t ∷ ts) [] k l e = absurd (cc)
  same_row (t ∷ ts) (u ∷ us) (k, ks) (l, ls) e =
      ap (λ z. z ∷ ts) (one_type texts root d h t u k l (first_of _ _ _ _ e)) ∙ ap (λ z. u ∷ z) (same_row ts us ks ls (rest_of _ _ _ _ e))

-- what is judged in one scope is judged in that scope, however it is told
pub judged_in : (texts : List (List ℕ)) (root : held_node.Node) (d : Declared) (k : BodyKind) (ls : Locals) (s : Scope) (n : ℕ) (e : Node)
    (r : Result Body (Refusal Broken)) → scope_view texts d ls ≡ s → length ls.declared ≡ n
    → Judges (IsBodyOf texts d (length ls.declared) (meant texts root d k ls e Fresh)) r (first_breach texts root d k ls e)
    → Judges (IsBodyOf texts d n (resolved (declarations_at texts root) (owner_view texts d k.owner) e Fresh s)) r
    (breach (declarations_at texts root) (body_view texts d k) e Fresh s)
judged_in texts root d k ls s n e r q l h =
    subst (λ z. Judges (IsBodyOf texts d n (resolved (declarations_at texts root) (owner_view texts d k.owner) e Fresh z)) r
    (breach (declarations_at texts root) (body_view texts d k) e Fresh z)) q
    (subst (λ z. Judges (IsBodyOf texts d z (meant texts root d k ls e Fresh)) r (first_breach texts root d k ls e)) l h)
