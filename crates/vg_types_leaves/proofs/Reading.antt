-- What is reached is read and set as its step says. Each law goes by the cases of what is reached: its step stands for what the name
-- stands for, and what the tables have of it types the step.
use Rattle.std.proofs.Common.{◌≡◌, ℕ, List, ◌∷◌, Some, None, refl, sym, ap, ◌∙◌, subst}
use Rattle.vg_meaning.specs.Code.{Nothing as SourceNothing, Then, Do}
use Rattle.vg_meaning.specs.Shapes.{Fits}
use Rattle.vg_source.specs.Steps as source
use Rattle.vg_source.specs.Resolved.{Resolved, IsValue, in_front}
use Rattle.vg_core.specs.declared.types.CoreType.{CoreType}
use Rattle.vg_core.specs.declared.types.CoreType.TheVariants.{RawType, ClassType}
use Rattle.vg_core.specs.declared.step.Step.{Step}
use Rattle.vg_core.specs.declared.step.Step.TheVariants as step
use Rattle.vg_core.specs.declared.program.Owner.{Owner}
use Rattle.vg_core.specs.declared.program.Owner.TheVariants.{InClass}
use Rattle.vg_core.specs.HeldProgram.{code_of}
use Rattle.vg_core.specs.Naming.{named_code}
use Rattle.vg_core.specs.Typing.{Takes, Sub, same, known, t_this, t_local, t_field, t_component_field, t_register, t_length}
use Rattle.vg_core.specs.Typing.{t_set_local, t_set_field, t_set_component_field, t_set_register}
use Rattle.vg_types_tables.specs.declared.declared.Declared.{Declared}
use Rattle.vg_types_tables.specs.declared.locals.Locals.{Locals}
use Rattle.vg_types_tables.specs.declared.body.BodyKind.{BodyKind}
use Rattle.vg_types_tables.specs.declared.judged.Head.{Head}
use Rattle.vg_types_tables.specs.declared.judged.Head.TheVariants as head
use Rattle.vg_types_tables.specs.declared.judged.Standing.{Standing}
use Rattle.vg_types_tables.specs.declared.judged.Storing.{Storing}
use Rattle.vg_types_tables.specs.Views.{naming, type_view, step_view, head_view, scope_view}
use Rattle.vg_types_tables.specs.Declares.{IsKnown}
use Rattle.vg_types_tables.specs.Promises.{IsHead, Sees, waiting, Leads, Stores}
use Rattle.vg_types_leaves.specs.declared.reached.Reached.{Reached}
use Rattle.vg_types_leaves.specs.declared.reached.Reached.TheVariants as reached
use Rattle.vg_types_leaves.specs.Judgements.{Shows, ShowsPlace}
use Rattle.vg_types_leaves.specs.Reached.{front, reached_head, reached_code, reached_at, IsReached, SetBy, Places}

module _ (texts : List (List ℕ)) (d : Declared) (ls : Locals) where
  -- what is reached leads from what waits for it to what it leaves
  pub reads : (k : BodyKind) (at : ℕ) (r : Reached) → IsReached texts d ls r → Leads d.tables k ls (front r) (reached_code at r) (reached_head at r)
  reads k at (reached.Local i t) h o x s = t_local h.0
  reads k at (reached.Field c f t) h o x s =
      subst (λ u. Takes d.tables ls.declared o (step.Field at f) (ClassType c ∷ x) (u ∷ x)) h.2 (t_field h.0 h.1 h.4.1 h.4.2)
  reads k at (reached.Global f t) h o x s =
      subst (λ u. Takes d.tables ls.declared o (step.ComponentField f) x (u ∷ x)) h.2 (t_component_field h.0 h.1 h.4.1)
  reads k at (reached.Register a) h o x s = t_register
  reads k at (reached.Length n) h o x s = t_length
  reads k at (reached.OwnMethod c m) h o x s = refl
  reads k at (reached.ItsMethod m) h o x s = refl

  pub reads_head : (at : ℕ) (r : Reached) → (reached_at texts d at (scope_view texts d ls) r).head ≡ head_view texts d (reached_head at r)
  reads_head at (reached.Local i t) = refl
  reads_head at (reached.Field c f t) = refl
  reads_head at (reached.Global f t) = refl
  reads_head at (reached.Register a) = refl
  reads_head at (reached.Length n) = refl
  reads_head at (reached.OwnMethod c m) = refl
  reads_head at (reached.ItsMethod m) = refl

  reads_does : (at : ℕ) (r : Reached) → named_code (naming texts d) d.tables (reached_code at r) ≡ (reached_at texts d at (scope_view texts d ls) r).does
  reads_does at (reached.Local i t) = refl
  reads_does at (reached.Field c f t) = refl
  reads_does at (reached.Global f t) = refl
  reads_does at (reached.Register a) = refl
  reads_does at (reached.Length n) = refl
  reads_does at (reached.OwnMethod c m) = refl
  reads_does at (reached.ItsMethod m) = refl

  reads_scope : (at : ℕ) (r : Reached) → (reached_at texts d at (scope_view texts d ls) r).scope ≡ scope_view texts d ls
  reads_scope at (reached.Local i t) = refl
  reads_scope at (reached.Field c f t) = refl
  reads_scope at (reached.Global f t) = refl
  reads_scope at (reached.Register a) = refl
  reads_scope at (reached.Length n) = refl
  reads_scope at (reached.OwnMethod c m) = refl
  reads_scope at (reached.ItsMethod m) = refl

  reads_known : (at : ℕ) (r : Reached) → IsReached texts d ls r → IsHead texts d (reached_head at r)
  reads_known at (reached.Local i t) h = h.1
  reads_known at (reached.Field c f t) h = h.3
  reads_known at (reached.Global f t) h = h.3
  reads_known at (reached.Register a) h = tt
  reads_known at (reached.Length n) h = tt
  reads_known at (reached.OwnMethod c m) h = h
  reads_known at (reached.ItsMethod m) h = h

  -- what is reached, as it is left
  pub shows_reached : (at : ℕ) (r : Reached) (j : Standing) → IsReached texts d ls r → j.head ≡ reached_head at r → code_of j.code ≡ reached_code at r
      → Shows texts d ls (reached_at texts d at (scope_view texts d ls) r) j
  shows_reached at r j h eh ec = record {
    head = reads_head at r ∙ ap (head_view texts d) (sym eh);
    does = ap (named_code (naming texts d) d.tables) ec ∙ reads_does at r;
    scope = reads_scope at r;
    known = subst (IsHead texts d) (sym eh) (reads_known at r h);
  }

  pub leads_reached : (k : BodyKind) (at : ℕ) (r : Reached) (j : Standing) → IsReached texts d ls r → j.head ≡ reached_head at r
      → code_of j.code ≡ reached_code at r → Leads d.tables k ls (front r) (code_of j.code) j.head
  leads_reached k at r j h eh ec =
      subst (λ z. Leads d.tables k ls (front r) z j.head) (sym ec) (subst (Leads d.tables k ls (front r) (reached_code at r)) (sym eh) (reads k at r h))

  -- with `this` in front of it
  pub shows_this : (at : ℕ) (r : Reached) (j : Standing) → IsReached texts d ls r → j.head ≡ reached_head at r
      → code_of j.code ≡ Then (Do step.This) (reached_code at r)
      → Shows texts d ls (in_front (Do source.This) (reached_at texts d at (scope_view texts d ls) r)) j
  shows_this at r j h eh ec = record {
    head = reads_head at r ∙ ap (head_view texts d) (sym eh);
    does = ap (named_code (naming texts d) d.tables) ec ∙ ap (Then (Do source.This)) (reads_does at r);
    scope = reads_scope at r;
    known = subst (IsHead texts d) (sym eh) (reads_known at r h);
  }

  pub leads_this : (k : BodyKind) (at c : ℕ) (r : Reached) (j : Standing) → IsReached texts d ls r → front r ≡ head.Value (ClassType c)
      → k.owner ≡ Some (InClass c)
      → j.head ≡ reached_head at r → code_of j.code ≡ Then (Do step.This) (reached_code at r) → Leads d.tables k ls head.Nothing (code_of j.code) j.head
  leads_this k at c r j h ef eo eh ec o x s =
      let is : InClass c ≡ o = subst (λ z. Sees z o) eo s in
      let reading : Fits (known d.tables ls.declared o k.result) k.in_loop (reached_code at r) (ClassType c ∷ x) (waiting (reached_head at r) x)
      = subst (λ z. Fits (known d.tables ls.declared o k.result) k.in_loop (reached_code at r) (waiting z x) (waiting (reached_head at r) x)) ef
      (reads k at r h o x s) in
      subst (λ z. Fits (known d.tables ls.declared o k.result) k.in_loop z x (waiting j.head x)) (sym ec) (
        ClassType c ∷ x,
        t_this (sym is),
        subst (λ z. Fits (known d.tables ls.declared o k.result) k.in_loop (reached_code at r) (ClassType c ∷ x) (waiting z x)) (sym eh) reading,
      )

  -- what is set by one step, where what waits for it is there
  stores_by : (k : BodyKind) (h : Head) (s : Storing) (st : Step) (t : CoreType) → SetBy st t (Some s)
      → ((o : Owner) (x : List CoreType) (u : CoreType) → Sub d.tables u t → Takes d.tables ls.declared o st (u ∷ waiting h x) x) → Stores d.tables k ls h s
  stores_by k h s st t (ea, es, et) f o x sees = (
    waiting h x,
    subst (λ z. Fits (known d.tables ls.declared o k.result) k.in_loop z (waiting h x) (waiting h x)) (sym ea) refl,
    λ u sub. subst (λ z. Takes d.tables ls.declared o z (u ∷ waiting h x) x) (sym es) (f o x u (subst (Sub d.tables u) et sub)),
  )

  set_register : (o : Owner) (a : ℕ) (x : List CoreType) (u : CoreType) → Sub d.tables u (RawType 8)
      → Takes d.tables ls.declared o (step.SetRegister a) (u ∷ x) x
  set_register o a x u same = t_set_register

  pub sets : (k : BodyKind) (at : ℕ) (r : Reached) (s : Storing) → IsReached texts d ls r → Places at r (Some s) → Stores d.tables k ls (front r) s
  sets k at (reached.Local i t) s h p = stores_by k head.Nothing s (step.SetLocal i t) t p (λ o x u sub. t_set_local h.0 sub)
  sets k at (reached.Field c f t) s h p = stores_by k (head.Value (ClassType c)) s (step.SetField at f) t p
      (λ o x u sub. t_set_field h.0 h.1 h.4.1 h.4.2 (subst (Sub d.tables u) (sym h.2) sub))
  sets k at (reached.Global f t) s h p = stores_by k head.Nothing s (step.SetComponentField f) t p
      (λ o x u sub. t_set_component_field h.0 h.1 h.4.1 (subst (Sub d.tables u) (sym h.2) sub))
  sets k at (reached.Register a) s h p = stores_by k head.Nothing s (step.SetRegister a) (RawType 8) p (λ o x u sub. set_register o a x u sub)
  sets k at (reached.Length n) s h p = absurd p
  sets k at (reached.OwnMethod c m) s h p = absurd p
  sets k at (reached.ItsMethod m) s h p = absurd p

  pub sets_this : (k : BodyKind) (at c : ℕ) (r : Reached) (s t : Storing) → IsReached texts d ls r → Places at r (Some s)
      → front r ≡ head.Value (ClassType c) → k.owner ≡ Some (InClass c) → code_of t.aims ≡ Then (Do step.This) (code_of s.aims) → t.store ≡ s.store
      → t.type_ ≡ s.type_ → Stores d.tables k ls head.Nothing t
  sets_this k at c r s t h p ef eo ea es et o x sees =
      let is : InClass c ≡ o = subst (λ z. Sees z o) eo sees in
      let inner = subst (λ z. Stores d.tables k ls z s) ef (sets k at r s h p) o x sees in (
        inner.0,
        subst (λ z. Fits (known d.tables ls.declared o k.result) k.in_loop z x inner.0) (sym ea) (ClassType c ∷ x, t_this (sym is), inner.1),
        λ u sub. subst (λ z. Takes d.tables ls.declared o z (u ∷ inner.0) x) (sym es) (inner.2 u (subst (Sub d.tables u) et sub)),
      )

  -- what is set by one step is that place
  place_by : (m : Resolved) (s : Storing) (st : Step) (t : CoreType) → SetBy st t (Some s) → IsKnown d.tables t → m.head ≡ IsValue (type_view texts d t)
      → m.aims ≡ SourceNothing → m.store ≡ Some (step_view texts d st) → ShowsPlace texts d m s
  place_by m s st t (ea, es, et) k h a e = record {
    head = h ∙ ap (λ z. IsValue (type_view texts d z)) (sym et);
    aims = ap (named_code (naming texts d) d.tables) ea ∙ sym a;
    store = e ∙ ap (λ z. Some (step_view texts d z)) (sym es);
    known = subst (IsKnown d.tables) (sym et) k;
  }

  pub places : (at : ℕ) (r : Reached) (s : Storing) → IsReached texts d ls r → Places at r (Some s)
      → ShowsPlace texts d (reached_at texts d at (scope_view texts d ls) r) s
  places at (reached.Local i t) s h p = place_by _ s (step.SetLocal i t) t p h.1 refl refl refl
  places at (reached.Field c f t) s h p = place_by _ s (step.SetField at f) t p h.3 refl refl refl
  places at (reached.Global f t) s h p = place_by _ s (step.SetComponentField f) t p h.3 refl refl refl
  places at (reached.Register a) s h p = place_by _ s (step.SetRegister a) (RawType 8) p tt refl refl refl
  places at (reached.Length n) s h p = absurd p
  places at (reached.OwnMethod c m) s h p = absurd p
  places at (reached.ItsMethod m) s h p = absurd p

  pub places_this : (m : Resolved) (s t : Storing) → ShowsPlace texts d m s → code_of t.aims ≡ Then (Do step.This) (code_of s.aims) → t.store ≡ s.store
      → t.type_ ≡ s.type_ → ShowsPlace texts d (in_front (Do source.This) m) t
  places_this m s t p ea es et = record {
    head = p.head ∙ ap (λ z. IsValue (type_view texts d z)) (sym et);
    aims = ap (named_code (naming texts d) d.tables) ea ∙ ap (Then (Do source.This)) p.aims;
    store = p.store ∙ ap (λ z. Some (step_view texts d z)) (sym es);
    known = subst (IsKnown d.tables) (sym et) p.known;
  }

  -- what is no place
  pub no_places : (at : ℕ) (r : Reached) → Places at r None → (reached_at texts d at (scope_view texts d ls) r).store ≡ None
  no_places at (reached.Local i t) p = absurd p
  no_places at (reached.Field c f t) p = absurd p
  no_places at (reached.Global f t) p = absurd p
  no_places at (reached.Register a) p = absurd p
  no_places at (reached.Length n) p = refl
  no_places at (reached.OwnMethod c m) p = refl
  no_places at (reached.ItsMethod m) p = refl
