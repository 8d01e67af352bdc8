-- What a Member suffix stands for.
use Rattle.std.proofs.Common.{◌≡◌, ℕ, true, List, Option, Some, None, IfSome, refl, sym, ap, ◌∙◌, subst}
use Rattle.vg_meaning.specs.Code.{Code}
use Rattle.vg_meaning.specs.Shapes.{Fits}
use Rattle.vg_syntax.specs.Tree.{Spot}
use Rattle.vg_tree.specs.declared.node.Node as held_node
use Rattle.vg_source.specs.Names.{Name}
use Rattle.vg_source.specs.Resolved.{Onto, member_suffix}
use Rattle.vg_rules.specs.Breach.{asks}
use Rattle.vg_rules.specs.Bodies.{is_there, breach}
use Rattle.vg_core.specs.declared.types.CoreType.{CoreType}
use Rattle.vg_core.specs.declared.step.Step.{Step}
use Rattle.vg_core.specs.HeldProgram.{code_of}
use Rattle.vg_core.specs.Typing.{known}
use Rattle.vg_types_tables.specs.declared.declared.Declared.{Declared}
use Rattle.vg_types_tables.specs.declared.locals.Locals.{Locals}
use Rattle.vg_types_tables.specs.declared.body.BodyKind.{BodyKind}
use Rattle.vg_types_tables.specs.declared.judged.Head.{Head}
use Rattle.vg_types_tables.specs.declared.judged.Standing.{Standing}
use Rattle.vg_types_tables.specs.declared.judged.Storing.{Storing}
use Rattle.vg_types_tables.specs.Views.{declarations_at, head_view, body_view, scope_view}
use Rattle.vg_types_tables.specs.Promises.{waiting, Leads, Leaves, Aims, Stores}
use Rattle.vg_types_leaves.specs.declared.reached.Reached.{Reached}
use Rattle.vg_types_leaves.specs.declared.reached.Reached.TheVariants as reached
use Rattle.vg_types_leaves.specs.Nodes.{member_node}
use Rattle.vg_types_leaves.specs.Judgements.{Shows, AimsAt}
use Rattle.vg_types_leaves.specs.Reached.{front, reached_head, reached_code, reached_at, IsReached, Places, Reaches}
use Rattle.vg_types_leaves.proofs.Reading.{shows_reached, sets, places, no_places, reads_head}

module _ (texts : List (List ℕ)) (root : held_node.Node) (d : Declared) (k : BodyKind) (ls : Locals) where
  there : (at : ℕ) (r : Reached) → is_there (head_view texts d (reached_head at r)) ≡ true
  there at (reached.Local i t) = refl
  there at (reached.Field c f t) = refl
  there at (reached.Global f t) = refl
  there at (reached.Register a) = refl
  there at (reached.Length n) = refl
  there at (reached.OwnMethod c m) = refl
  there at (reached.ItsMethod m) = refl

  pub member_leaves : (h : Head) (at : ℕ) (spot : Spot) (x y : Name) (r : Reached) (j : Standing) → y ≡ x
      → Reaches texts d at ls (member_suffix (declarations_at texts root) at y (scope_view texts d ls) (head_view texts d h)) (Some r)
      → j.head ≡ reached_head at r → code_of j.code ≡ reached_code at r
      → (breach (declarations_at texts root) (body_view texts d k) (member_node at spot x) (Onto (head_view texts d h)) (scope_view texts d ls) ≡ None)
      × Leaves texts root d k ls (member_node at spot x) (Onto (head_view texts d h)) j
  member_leaves h at spot x y r j e (m, is) eh ec =
      let s : Shows texts d ls (member_suffix (declarations_at texts root) at y (scope_view texts d ls) (head_view texts d h)) j
      = subst (λ z. Shows texts d ls z j) (sym m) (shows_reached texts d ls at r j is eh ec) in
      subst (λ z. (breach (declarations_at texts root) (body_view texts d k) (member_node at spot z) (Onto (head_view texts d h)) (scope_view texts d ls)
      ≡ None)
      × Leaves texts root d k ls (member_node at spot z) (Onto (head_view texts d h)) j) e (
        ap (λ z. asks (is_there z) 16 (record { id = at; place = spot.place })) (s.head ∙ ap (head_view texts d) eh)
            ∙ ap (λ b. asks b 16 (record { id = at; place = spot.place })) (there at r),
        record { head = s.head; does = s.does; scope = s.scope; known = s.known },
      )

  -- code leads from what waits alike
  pub leads_from : (h g : Head) (c : Code Step) (e : Head) → ((x : List CoreType) → waiting h x ≡ waiting g x) → Leads d.tables k ls g c e
      → Leads d.tables k ls h c e
  leads_from h g c e w l o x s =
      subst (λ z. Fits (known d.tables ls.declared o k.result) k.in_loop c z (waiting e x)) (sym (w x)) (l o x s)

  -- what is reached as a target
  pub aims_at : (at : ℕ) (r : Reached) (o : Option Storing) → IsReached texts d ls r → Places at r o
      → AimsAt texts d (reached_at texts d at (scope_view texts d ls) r) o
  aims_at at r (Some s) h p = places texts d ls at r s h p
  aims_at at r None h p = no_places texts d ls at r p

  member_place : (h : Head) (at : ℕ) (spot : Spot) (x : Name) (o : Option Storing) (next : ℕ)
      → AimsAt texts d (member_suffix (declarations_at texts root) at x (scope_view texts d ls) (head_view texts d h)) o
      → Aims texts root d k ls (member_node at spot x) (Onto (head_view texts d h)) (record { place = o; next = next })
  member_place h at spot x (Some s) next p = record { head = p.head; aims = p.aims; store = p.store; known = p.known }
  member_place h at spot x None next p = p

  pub member_aims : (h : Head) (at : ℕ) (spot : Spot) (x y : Name) (r : Reached) (o : Option Storing) (next : ℕ) → y ≡ x
      → Reaches texts d at ls (member_suffix (declarations_at texts root) at y (scope_view texts d ls) (head_view texts d h)) (Some r) → Places at r o
      → (breach (declarations_at texts root) (body_view texts d k) (member_node at spot x) (Onto (head_view texts d h)) (scope_view texts d ls) ≡ None)
      × Aims texts root d k ls (member_node at spot x) (Onto (head_view texts d h)) (record { place = o; next = next })
  member_aims h at spot x y r o next e (m, is) p =
      let a = subst (λ z. AimsAt texts d z o) (sym m) (aims_at at r o is p) in
      subst (λ z. (breach (declarations_at texts root) (body_view texts d k) (member_node at spot z) (Onto (head_view texts d h)) (scope_view texts d ls)
      ≡ None)
      × Aims texts root d k ls (member_node at spot z) (Onto (head_view texts d h)) (record { place = o; next = next })) e (
        ap (λ z. asks (is_there z) 16 (record { id = at; place = spot.place })) (ap (λ z. z.head) m ∙ reads_head texts d ls at r)
            ∙ ap (λ b. asks b 16 (record { id = at; place = spot.place })) (there at r),
        member_place h at spot y o next a,
      )

  pub member_stores : (h : Head) (at : ℕ) (r : Reached) (o : Option Storing) → ((x : List CoreType) → waiting h x ≡ waiting (front r) x)
      → IsReached texts d ls r
      → Places at r o → IfSome o (Stores d.tables k ls h)
  member_stores h at r None w is p = tt
  member_stores h at r (Some s) w is p = λ o x sees.
      let inner = sets texts d ls k at r s is p o x sees in
      (inner.0, subst (λ z. Fits (known d.tables ls.declared o k.result) k.in_loop (code_of s.aims) z inner.0) (sym (w x)) inner.1, inner.2)
