-- What is made of fields and constructors.
use Rattle.std.proofs.Common.{◌≡◌, ℕ, suc, List, [], ◌∷◌, ◌++◌, length, slice_get, Option, Some, None, IfSome, refl, sym, ap, ◌∙◌, subst}
use Rattle.vg_meaning.specs.Code.{Code}
use Rattle.vg_syntax.specs.Tree.{Param, Node}
use Rattle.vg_syntax.specs.Numbering.{numbered}
use Rattle.vg_tree.specs.declared.node.Node as held_node
use Rattle.vg_source.specs.Types.{StaticType, NoType, MoreTypes}
use Rattle.vg_source.specs.Declared.{row_of}
use Rattle.vg_source.specs.Resolved.{Scope, Fresh, resolved}
use Rattle.vg_source.specs.Program.{scope_of}
use Rattle.vg_rules.specs.Breach.{◌or◌}
use Rattle.vg_rules.specs.Bodies.{breach}
use Rattle.vg_rules.specs.Legal.{body_of}
use Rattle.vg_core.specs.declared.types.CoreType.{CoreType}
use Rattle.vg_core.specs.declared.types.CoreType.TheVariants.{ClassType}
use Rattle.vg_core.specs.declared.step.Step.{Step}
use Rattle.vg_core.specs.declared.program.Field.{Field}
use Rattle.vg_core.specs.declared.program.Owner.{Owner}
use Rattle.vg_core.specs.declared.program.Owner.TheVariants.{InClass, InComponent}
use Rattle.vg_core.specs.declared.program.Tables.{Tables}
use Rattle.vg_core.specs.declared.code.Code as held
use Rattle.vg_core.specs.HeldProgram.{code_of}
use Rattle.vg_core.specs.Typing.{Sub, t_this, t_set_field, t_set_component_field}
use Rattle.vg_types_tables.specs.declared.declared.Declared.{Declared}
use Rattle.vg_types_tables.specs.declared.locals.Locals.{Locals}
use Rattle.vg_types_tables.specs.Views.{declarations_at, owner_view, row_view, scope_view, code_view}
use Rattle.vg_types_tables.specs.Promises.{meant}
use Rattle.vg_types_simple.specs.Grows.{first_breach}
use Rattle.vg_types_statements.specs.Arms.{RunsIn}
use Rattle.vg_types_bodies.specs.declared.making.Constructed.{Constructed}
use Rattle.vg_types_bodies.specs.Bodies.{IsBodyOf}
use Rattle.vg_types_bodies.specs.Initial.{above_name, super_breach, super_code, PutsInitial, SuperRuns}
use Rattle.vg_types_bodies.specs.Fields.{making_kind, Has, stored_code}
use Rattle.vg_types_bodies.specs.Makings.{constructor_breach, IsConstructed, ConstructedRuns}

-- ---- fields

pub stored_runs : (p : Tables) (o : Owner) (f : ℕ) (w : CoreType) (c : held.Code) (code : Code Step) (id : ℕ)
    → (y : Field) × (slice_get p.fields f ≡ Some y) × (y.type_ ≡ w) × Has p o y → PutsInitial p w c → code ≡ stored_code o f (code_of c) id
    → (ts : List CoreType) → RunsIn p (making_kind o) ts code
stored_runs p (InClass k) f w c code id (y, e, t, (a, i, b)) h q ts o r =
    subst (λ z. RunsIn p (making_kind (InClass k)) ts z) (sym q)
    (λ n s. let u = h ts n (ClassType k ∷ []) in
    (ClassType k ∷ [], t_this (sym s), (u.0 ∷ ClassType k ∷ [], u.2, t_set_field y e i b (subst (Sub p u.0) (sym t) u.1)))) o r
stored_runs p (InComponent k) f w c code id (y, e, t, (a, i)) h q ts o r =
    subst (λ z. RunsIn p (making_kind (InComponent k)) ts z) (sym q)
    (λ n s. let u = h ts n [] in (u.0 ∷ [], u.2, t_set_component_field y e i (subst (Sub p u.0) (sym t) u.1))) o r

-- the same for what is known to be the value
pub stored_runs_that : (p : Tables) (o : Owner) (f : ℕ) (w : CoreType) (found : Option held.Code) (v c : held.Code) → v ≡ c → found ≡ Some c
    → (code : Code Step) (id : ℕ) → (y : Field) × (slice_get p.fields f ≡ Some y) × (y.type_ ≡ w) × Has p o y → IfSome found (PutsInitial p w)
    → code ≡ stored_code o f (code_of v) id → (ts : List CoreType) → RunsIn p (making_kind o) ts code
stored_runs_that p o f w found v c q r code id h g e =
    stored_runs p o f w c code id h (subst (λ z. IfSome z (PutsInitial p w)) r g) (e ∙ ap (λ z. stored_code o f (code_of z) id) q)

-- ---- constructors

more_clash : {X : Type 0} (a s : StaticType) → NoType ≡ MoreTypes a s → X
more_clash a s e = absurd (cc)

rest_of : (a b s t : StaticType) → MoreTypes a s ≡ MoreTypes b t → s ≡ t
rest_of a b s t e = cc

pub row_length : (texts : List (List ℕ)) (d : Declared) (ts : List CoreType) (ps : List Param) → row_view texts d ts ≡ row_of ps → length ts ≡ length ps
row_length texts d [] [] e = refl
row_length texts d [] (p ∷ ps) e = more_clash _ _ e
row_length texts d (t ∷ ts) [] e = more_clash _ _ (sym e)
row_length texts d (t ∷ ts) (p ∷ ps) e = ap suc (row_length texts d ts ps (rest_of _ _ _ _ e))

module _ (texts : List (List ℕ)) (root : held_node.Node) (d : Declared) (o : Owner) (above : Option ℕ) (ps : List Param) (args b : Node) (id : ℕ) (c
    : Constructed) where
  abbrev Made : Scope → (count i : ℕ) → Type 0
  Made s count i = (super_breach (declarations_at texts root) (above_name texts d above) args s id
      or breach (declarations_at texts root) (body_of (owner_view texts d (Some o)) NoType) (numbered i b) Fresh s ≡ None)
      × (code_view texts d c.before ≡ super_code (declarations_at texts root) (above_name texts d above) args s)
      × IsBodyOf texts d count (resolved (declarations_at texts root) (owner_view texts d (Some o)) (numbered i b) Fresh s) c.body

  pub constructor_done : (ls : Locals) (n m : ℕ) → n ≡ m → scope_view texts d ls ≡ scope_of ps → length ls.declared ≡ length ps
      → (super_breach (declarations_at texts root) (above_name texts d above) args (scope_view texts d ls) id ≡ None)
      × (code_view texts d c.before ≡ super_code (declarations_at texts root) (above_name texts d above) args (scope_view texts d ls))
      → (first_breach texts root d (making_kind o) ls (numbered n b) ≡ None)
      × IsBodyOf texts d (length ls.declared) (meant texts root d (making_kind o) ls (numbered n b) Fresh) c.body
      → (constructor_breach texts root d o above ps args (numbered m b) id ≡ None) × IsConstructed texts root d o above ps args (numbered m b) c
  constructor_done ls n m q s l (f, g) (h, k) =
      let start : Made (scope_view texts d ls) (length ls.declared) n
      = (
        ap (λ z. z or breach (declarations_at texts root) (body_of (owner_view texts d (Some o)) NoType) (numbered n b) Fresh (scope_view texts d
            ls)) f ∙ h,
        g,
        k,
      ) in
      let w = subst (Made (scope_of ps) (length ps)) q (subst (λ z. Made (scope_of ps) z n) l (subst (λ z. Made z (length ls.declared) n) s start)) in
      (w.0, record { before = w.1; body = w.2 })

pub constructed_runs : (p : Tables) (o : Owner) (above : Option ℕ) (ts us : List CoreType) (c : Constructed) → ts ≡ us → SuperRuns p above ts c.before
    → RunsIn p (making_kind o) (ts ++ c.body.others) (code_of c.body.code) → ConstructedRuns p o above us c
constructed_runs p o above ts us c e f g = record {
  before = subst (λ z. SuperRuns p above z c.before) e f;
  body = subst (λ z. RunsIn p (making_kind o) (z ++ c.body.others) (code_of c.body.code)) e g;
}
