-- What a name stands for that is no parameter or local: a member that is seen, where one is reached under the name; else it is the
-- name of a component or device, or breaks rule 14.
use Rattle.std.proofs.Common.{◌≡◌, ℕ, ◌||◌, Bool, true, false, List, Option, Some, None, is_some, refl, sym, ap, ◌∙◌, subst}
use Rattle.vg_meaning.specs.Code.{Do, Nothing as NoCode}
use Rattle.vg_syntax.specs.Tree.{Node, Spot}
use Rattle.vg_source.specs.Names.{Name}
use Rattle.vg_source.specs.Steps as source
use Rattle.vg_source.specs.Declared.{Member, AField, AMethod, class_member, component_member, component_named, device_named}
use Rattle.vg_source.specs.Resolved.{Scope, NoHead, IsValue, IsComponent, OwnMethod, ItsMethod, InClass, InComponent, Fresh, top_head}
use Rattle.vg_source.specs.Resolved.{nothing, in_front, object_member, its_member, own_member, near_member, top_name, find_local, local_or_outer, resolved_name}
use Rattle.vg_rules.specs.Breach.{asks}
use Rattle.vg_rules.specs.Bodies.{name_keeps, front_keeps}
use Rattle.vg_types_tables.specs.declared.declared.Declared.{Declared}
use Rattle.vg_types_leaves.specs.declared.reached.Reached.{Reached}
use Rattle.vg_types_leaves.specs.declared.reached.Reached.TheVariants as reached
use Rattle.vg_tree.specs.declared.node.Node as held_node
use Rattle.vg_core.specs.HeldProgram.{code_of}
use Rattle.vg_core.specs.Naming.{named_code}
use Rattle.vg_types_views.specs.ByText.{found}
use Rattle.vg_types_tables.specs.declared.locals.Locals.{Locals}
use Rattle.vg_types_tables.specs.declared.body.BodyKind.{BodyKind}
use Rattle.vg_types_tables.specs.declared.judged.Head.TheVariants.{Component}
use Rattle.vg_types_tables.specs.declared.judged.Standing.{Standing}
use Rattle.vg_types_tables.specs.Views.{declarations_at, naming, head_view, owner_view, scope_view}
use Rattle.vg_types_tables.specs.Declares.{Declares}
use Rattle.vg_types_tables.specs.Promises.{IsHead, Leaves}
use Rattle.vg_types_leaves.specs.Nodes.{name_node}
use Rattle.vg_types_leaves.specs.Judgements.{Shows}
use Rattle.vg_types_leaves.specs.Reached.{reached_at}

-- what is reached leaves something
has_head : (texts : List (List ℕ)) (d : Declared) (at : ℕ) (ls : Scope) (r : Reached) {X : Type 0} → NoHead ≡ (reached_at texts d at ls r).head → X
has_head texts d at ls (reached.Local k t) e = absurd (cc)
has_head texts d at ls (reached.Field c f t) e = absurd (cc)
has_head texts d at ls (reached.Global f t) e = absurd (cc)
has_head texts d at ls (reached.Register a) e = absurd (cc)
has_head texts d at ls (reached.Length n) e = absurd (cc)
has_head texts d at ls (reached.OwnMethod c m) e = absurd (cc)
has_head texts d at ls (reached.ItsMethod m) e = absurd (cc)

module _ (ds : Node) (x : Name) (ls : Scope) (none : find_local ls.names x ≡ None) where
  -- a name that is no local is kept where a member of its name is seen
  kept : (o : Option Member) (b : Bool) → is_some o ≡ b → (is_some (find_local ls.names x) || is_some o) ≡ b
  kept o b e = ap (λ z. is_some z || is_some o) none ∙ e

  own : (texts : List (List ℕ)) (d : Declared) (at : ℕ) (c : Name) (r : Reached) (o : Option Member) → object_member at c x o ls ≡ reached_at texts d at ls r
      → (is_some o ≡ true) × (own_member ds at c x o ls ≡ in_front (Do source.This) (reached_at texts d at ls r))
  own texts d at c r None e = has_head texts d at ls r (ap (λ m. m.head) e)
  own texts d at c r (Some m) e = (refl, ap (in_front (Do source.This)) e)

  no_own : (at : ℕ) (c : Name) (o : Option Member) → object_member at c x o ls ≡ nothing NoHead ls → (is_some o ≡ false)
      × (own_member ds at c x o ls ≡ top_name ds x ls)
  no_own at c None e = (refl, refl)
  no_own at c (Some (AField d t)) e = absurd (let clash : IsValue t ≡ NoHead = ap (λ m. m.head) e in cc)
  no_own at c (Some (AMethod ps r)) e = absurd (let clash : OwnMethod at c x ps r ≡ NoHead = ap (λ m. m.head) e in cc)

  near : (texts : List (List ℕ)) (d : Declared) (at : ℕ) (c : Name) (r : Reached) (o : Option Member) → its_member c x o ls ≡ reached_at texts d at ls r
      → (is_some o ≡ true) × (near_member ds c x o ls ≡ reached_at texts d at ls r)
  near texts d at c r None e = has_head texts d at ls r (ap (λ m. m.head) e)
  near texts d at c r (Some m) e = (refl, e)

  no_near : (c : Name) (o : Option Member) → its_member c x o ls ≡ nothing NoHead ls → (is_some o ≡ false) × (near_member ds c x o ls ≡ top_name ds x ls)
  no_near c None e = (refl, refl)
  no_near c (Some (AField d t)) e = absurd (let clash : IsValue t ≡ NoHead = ap (λ m. m.head) e in cc)
  no_near c (Some (AMethod ps r)) e = absurd (let clash : ItsMethod c x ps r ≡ NoHead = ap (λ m. m.head) e in cc)

  -- a member of the class around
  pub named_own : (texts : List (List ℕ)) (d : Declared) (at : ℕ) (c : Name) (r : Reached)
      → object_member at c x (class_member ds c x) ls ≡ reached_at texts d at ls r
      → (name_keeps ds (InClass c) x ls ≡ true) × (resolved_name ds (InClass c) at x ls ≡ in_front (Do source.This) (reached_at texts d at ls r))
  named_own texts d at c r e =
      let h = own texts d at c r (class_member ds c x) e in
      (kept (class_member ds c x) true h.0, ap (λ z. local_or_outer ds (InClass c) at x z ls) none ∙ h.1)

  pub named_none_own : (at : ℕ) (c : Name) → object_member at c x (class_member ds c x) ls ≡ nothing NoHead ls
      → (name_keeps ds (InClass c) x ls ≡ false) × (resolved_name ds (InClass c) at x ls ≡ top_name ds x ls)
  named_none_own at c e =
      let h = no_own at c (class_member ds c x) e in
      (kept (class_member ds c x) false h.0, ap (λ z. local_or_outer ds (InClass c) at x z ls) none ∙ h.1)

  -- a member of the component around
  pub named_near : (texts : List (List ℕ)) (d : Declared) (at : ℕ) (c : Name) (r : Reached)
      → its_member c x (component_member ds c x) ls ≡ reached_at texts d at ls r
      → (name_keeps ds (InComponent c) x ls ≡ true) × (resolved_name ds (InComponent c) at x ls ≡ reached_at texts d at ls r)
  named_near texts d at c r e =
      let h = near texts d at c r (component_member ds c x) e in
      (kept (component_member ds c x) true h.0, ap (λ z. local_or_outer ds (InComponent c) at x z ls) none ∙ h.1)

  pub named_none_near : (at : ℕ) (c : Name) → its_member c x (component_member ds c x) ls ≡ nothing NoHead ls
      → (name_keeps ds (InComponent c) x ls ≡ false) × (resolved_name ds (InComponent c) at x ls ≡ top_name ds x ls)
  named_none_near at c e =
      let h = no_near c (component_member ds c x) e in
      (kept (component_member ds c x) false h.0, ap (λ z. local_or_outer ds (InComponent c) at x z ls) none ∙ h.1)

module _ (texts : List (List ℕ)) (root : held_node.Node) (d : Declared) (all : Declares texts root d) (k : BodyKind) (ls : Locals) where
  -- a name that is no local and no member, but a component
  front_component : (at c : ℕ) (spot : Spot) (x : Name) (j : Standing)
      → name_keeps (declarations_at texts root) (owner_view texts d k.owner) x (scope_view texts d ls) ≡ false
      → resolved_name (declarations_at texts root) (owner_view texts d k.owner) at x (scope_view texts d ls)
      ≡ top_name (declarations_at texts root) x (scope_view texts d ls) → found x d.components ≡ Some c → j.head ≡ Component c → code_of j.code ≡ NoCode
      → (asks (front_keeps (declarations_at texts root) (owner_view texts d k.owner) x (scope_view texts d ls)) 14 spot ≡ None)
      × Leaves texts root d k ls (name_node at spot x) Fresh j
  front_component at c spot x j ek er ec eh eo =
      let ds : Node = declarations_at texts root in
      let there : is_some (component_named ds x) ≡ true = sym (all.components x) ∙ ap is_some ec in
      let is = all.component_names x c ec in
      let shown : Shows texts d ls (top_name ds x (scope_view texts d ls)) j = record {
        head = by (component_named ds x) there ∙ ap IsComponent (sym is.1) ∙ ap (head_view texts d) (sym eh);
        does = ap (named_code (naming texts d) d.tables) eo;
        scope = refl;
        known = subst (IsHead texts d) (sym eh) is.0;
      } in (
        ap (λ b. asks (b || is_some (component_named ds x) || is_some (device_named ds x)) 14 spot) ek
            ∙ ap (λ b. asks (b || is_some (device_named ds x)) 14 spot) there,
        record {
          head = ap (λ m. m.head) er ∙ shown.head;
          does = shown.does ∙ sym (ap (λ m. m.does) er);
          scope = ap (λ m. m.scope) er ∙ shown.scope;
          known = shown.known;
        },
      )
    where
      by : (o : Option Node) → is_some o ≡ true → top_head o x ≡ IsComponent x
      by None e = absurd (let clash : false ≡ true = e in cc)
      by (Some m) e = refl

  pub front_is_component : (at c : ℕ) (spot : Spot) (x y : Name) (j : Standing) → y ≡ x
      → name_keeps (declarations_at texts root) (owner_view texts d k.owner) y (scope_view texts d ls) ≡ false
      → resolved_name (declarations_at texts root) (owner_view texts d k.owner) at y (scope_view texts d ls)
      ≡ top_name (declarations_at texts root) y (scope_view texts d ls) → found y d.components ≡ Some c → j.head ≡ Component c → code_of j.code ≡ NoCode
      → (asks (front_keeps (declarations_at texts root) (owner_view texts d k.owner) x (scope_view texts d ls)) 14 spot ≡ None)
      × Leaves texts root d k ls (name_node at spot x) Fresh j
  front_is_component at c spot x y j e ek er ec eh eo =
      subst (λ z. (asks (front_keeps (declarations_at texts root) (owner_view texts d k.owner) z (scope_view texts d ls)) 14 spot ≡ None)
      × Leaves texts root d k ls (name_node at spot z) Fresh j) e (front_component at c spot y j ek er ec eh eo)
