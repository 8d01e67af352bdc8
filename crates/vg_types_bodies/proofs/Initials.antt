-- Values that see no members: initialisers of fields, and arguments of `super`. What is known of an expression in a body and a scope is
-- carried over to the body and the scope that the rules name, which are the same.
use Rattle.std.proofs.Common.{◌≡◌, ℕ, Bool, true, false, List, [], ◌∷◌, ◌++◌, map, reverse, slice_get, Some, None, refl, sym, ap, ◌∙◌, subst}
use Rattle.vg_meaning.specs.Code.{Code, Then, Do}
use Rattle.vg_meaning.specs.Shapes.{Fits}
use Rattle.vg_syntax.specs.Tree.{Node}
use Rattle.vg_tree.specs.declared.node.Node as held_node
use Rattle.vg_tree.specs.Nothing.{is_nothing}
use Rattle.vg_source.specs.Types.{StaticType}
use Rattle.vg_source.specs.Steps.{Step as SourceStep}
use Rattle.vg_source.specs.Resolved.{Scope, IsValue, Fresh, no_names, settled, resolved}
use Rattle.vg_rules.specs.Breach.{◌or◌}
use Rattle.vg_rules.specs.Fits.{fits}
use Rattle.vg_rules.specs.Bodies.{Body, breach, head_fits, initialiser_keeps}
use Rattle.vg_rules.specs.Legal.{outside}
use Rattle.vg_core.specs.declared.types.CoreType.{CoreType}
use Rattle.vg_core.specs.declared.types.CoreType.TheVariants.{NoType}
use Rattle.vg_core.specs.declared.step.Step.{Step}
use Rattle.vg_core.specs.declared.step.Step.TheVariants.{Super}
use Rattle.vg_core.specs.declared.program.Class.{Class}
use Rattle.vg_core.specs.declared.program.Owner.TheVariants.{InClass}
use Rattle.vg_core.specs.declared.program.Tables.{Tables}
use Rattle.vg_core.specs.HeldProgram.{code_of}
use Rattle.vg_core.specs.Tables as tables
use Rattle.vg_core.specs.State.{onto}
use Rattle.vg_core.specs.Typing.{Sub, Subs, Takes, known, t_super}
use Rattle.vg_types_tables.specs.declared.declared.Declared.{Declared}
use Rattle.vg_types_tables.specs.declared.locals.InScope.{InScope}
use Rattle.vg_types_tables.specs.declared.locals.Locals.{Locals}
use Rattle.vg_types_tables.specs.declared.body.BodyKind.{BodyKind}
use Rattle.vg_types_tables.specs.declared.judged.Judged.{Judged}
use Rattle.vg_types_tables.specs.Views.{declarations_at, type_view, typed_view, body_view, scope_view, code_view}
use Rattle.vg_types_tables.specs.Promises.{Stands, Puts}
use Rattle.vg_types_expressions.specs.declared.argued.Argued.{Argued}
use Rattle.vg_types_expressions.specs.Arguments.{PutsFor}
use Rattle.vg_types_simple.specs.Grows.{first_breach}
use Rattle.vg_types_simple.specs.Asked.{asked}
use Rattle.vg_types_simple.proofs.MoreLocals.{more_locals}
use Rattle.vg_types_simple.proofs.Written.{initialiser_written}
use Rattle.vg_types_bodies.specs.Initial.{initial_breach, IsInitial, PutsInitial}

-- where no member is seen
abbrev pub unseen : BodyKind
unseen = record { owner = None; result = NoType; in_loop = false }

module _ (texts : List (List ℕ)) (root : held_node.Node) (d : Declared) where
  abbrev scope_from : List InScope → List CoreType → Scope
  scope_from names types = record { names = reverse (map (typed_view texts d) names); declared = reverse (map (type_view texts d) types) }

  empty_scope : (ls : Locals) → ls.in_scope ≡ [] → ls.declared ≡ [] → scope_view texts d ls ≡ no_names
  empty_scope ls e f = ap (λ z. scope_from z ls.declared) e ∙ ap (scope_from []) f

  -- what is known of an expression in a body and a scope
  abbrev Facts : Node → StaticType → Code SourceStep → Body → Scope → Type 0
  Facts e t c k s = (breach (declarations_at texts root) k e Fresh s ≡ None)
      × ((settled (resolved (declarations_at texts root) k.owner e Fresh s)).head ≡ IsValue t)
      × (c ≡ (settled (resolved (declarations_at texts root) k.owner e Fresh s)).does)

  facts : (k : BodyKind) (ls : Locals) (e : Node) (j : Judged) → k ≡ unseen → ls.in_scope ≡ [] → ls.declared ≡ []
      → (first_breach texts root d k ls e ≡ None) × Stands texts root d k ls e j
      → Facts e (type_view texts d j.type_) (code_view texts d j.code) outside no_names
  facts k ls e j q f g (b, s) =
      subst (λ z. Facts e (type_view texts d j.type_) (code_view texts d j.code) (body_view texts d z) no_names) q
      (subst (Facts e (type_view texts d j.type_) (code_view texts d j.code) (body_view texts d k)) (empty_scope ls f g) (b, s.head, s.does))

  initial_asks : (e : Node) (t : StaticType) (c : Code SourceStep) (w : StaticType) (id : ℕ) (b : Bool) → is_nothing e ≡ false
      → Facts e t c outside no_names → fits (declarations_at texts root) t w ≡ b → initial_breach (declarations_at texts root) w e id ≡ asked b 21 id
  initial_asks e t c w id b n (f, h, g) q =
      ap (λ z. z or asked (initialiser_keeps (declarations_at texts root) outside w e no_names) 21 id) f
      ∙ ap (λ z. asked z 21 id)
      (initialiser_written (declarations_at texts root) outside w e no_names n ∙ ap (λ z. head_fits (declarations_at texts root) z w) h ∙ q)

  pub initial_refused : (k : BodyKind) (ls : Locals) (e : Node) (j : Judged) (w : CoreType) (id : ℕ) → k ≡ unseen → ls.in_scope ≡ [] → ls.declared ≡ []
      → is_nothing e ≡ false → (first_breach texts root d k ls e ≡ None) × Stands texts root d k ls e j
      → fits (declarations_at texts root) (type_view texts d j.type_) (type_view texts d w) ≡ false
      → initial_breach (declarations_at texts root) (type_view texts d w) e id ≡ Some (record { rule = 21; node = id })
  initial_refused k ls e j w id q f g n s r =
      initial_asks e (type_view texts d j.type_) (code_view texts d j.code) (type_view texts d w) id false n (facts k ls e j q f g s) r

  pub initial_done : (k : BodyKind) (ls : Locals) (e : Node) (j : Judged) (w : CoreType) (id : ℕ) → k ≡ unseen → ls.in_scope ≡ [] → ls.declared ≡ []
      → is_nothing e ≡ false → (first_breach texts root d k ls e ≡ None) × Stands texts root d k ls e j
      → fits (declarations_at texts root) (type_view texts d j.type_) (type_view texts d w) ≡ true
      → (initial_breach (declarations_at texts root) (type_view texts d w) e id ≡ None) × IsInitial texts root d e (Some j.code)
  initial_done k ls e j w id q f g n s r =
      let h = facts k ls e j q f g s in
      (initial_asks e (type_view texts d j.type_) (code_view texts d j.code) (type_view texts d w) id true n h r, (n, h.2))

pub initial_puts : (p : Tables) (k : BodyKind) (ls : Locals) (j : Judged) (w : CoreType) → k ≡ unseen → ls.declared ≡ []
    → Puts p k ls (code_of j.code) j.type_ → Sub p j.type_ w → PutsInitial p w j.code
initial_puts p k ls j w q f h s ts o x = (
  j.type_,
  s,
  more_locals p [] ts o NoType false (code_of j.code) x (j.type_ ∷ x)
      (subst (λ z. Fits (known p z o NoType) false (code_of j.code) x (j.type_ ∷ x)) f
      (subst (λ (z : BodyKind). Puts p z ls (code_of j.code) j.type_) q h o x tt)),
)

pub super_runs : (p : Tables) (k : BodyKind) (ls : Locals) (params : List CoreType) (j : Argued) (c : ℕ) (l : Class) (code : Code Step) → k ≡ unseen
    → slice_get p.classes c ≡ Some l → params ≡ l.params → PutsFor p k ls params j → code ≡ Then (code_of j.code) (Do (Super c j.count))
    → (class : ℕ) → tables.is_below p class c ≡ true → Fits (known p ls.declared (InClass class) NoType) false code [] []
super_runs p k ls params j c l code q e m h f class b =
    let w = subst (λ (z : BodyKind). PutsFor p z ls params j) q h (InClass class) [] tt in
    subst (λ z. Fits (known p ls.declared (InClass class) NoType) false z [] []) (sym f) (
      w.0 ++ [],
      w.3,
      subst (λ z. Takes p ls.declared (InClass class) (Super c z) (w.0 ++ []) []) w.1
          (t_super l w.0 e (subst (λ z. Subs p w.0 (onto z [])) m w.2) refl b),
    )
