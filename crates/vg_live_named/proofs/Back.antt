-- What is live under names is live under numbers.
use Rattle.std.proofs.Common.{◌≡◌, ℕ, true, List, [], Option, Some, None, slice_get}
use Rattle.std.proofs.Common.{refl, sym, ap, ◌∙◌, subst, map}
use Rattle.std.proofs.lemmas.Option.{slice_get-map}
use Rattle.vg_source.specs.Names.{Name}
use Rattle.vg_source.specs.Values as source_value
use Rattle.vg_source.specs.Steps as source_step
use Rattle.vg_source.specs.State as source_state
use Rattle.vg_core.specs.declared.member.Member.{Member}
use Rattle.vg_core.specs.declared.member.Member.TheVariants.{Method, Field, Cell}
use Rattle.vg_core.specs.declared.value.CoreValue.{CoreValue}
use Rattle.vg_core.specs.declared.value.CoreValue.TheVariants.{Int, Bool as Truth, Char, Raw, Null, Obj, Arr, Bound}
use Rattle.vg_core.specs.declared.step.Step.{Step}
use Rattle.vg_core.specs.declared.step.Step.TheVariants.{ComponentField, Field as FieldOf}
use Rattle.vg_core.specs.declared.heap.Heap.{Heap}
use Rattle.vg_core.specs.declared.heap.Cell.TheVariants.{Object}
use Rattle.vg_core.specs.declared.program.Class.{Class}
use Rattle.vg_core.specs.declared.program.Method as program
use Rattle.vg_core.specs.declared.program.Field as field
use Rattle.vg_core.specs.declared.program.Handler.{Handler}
use Rattle.vg_core.specs.Tables.{methods_in, find_selector, is_below, dispatch}
use Rattle.vg_core.specs.Program.{Program}
use Rattle.vg_core.specs.Heap.{Kind, Place, OfComponent, OfObject, OfArray, class_in}
use Rattle.vg_core.specs.Types.{HasFields}
use Rattle.vg_core.specs.Naming.{Naming, named_value, named_step, named_heap, named_handler, named}
use Rattle.vg_core.specs.Typing.{WellTyped}
use Rattle.vg_sound.specs.Good.{TypedHeap}
use Rattle.vg_sound.proofs.Values.{the_same, none_some}
use Rattle.vg_renamed.specs.NamesTell.{NamesTell}
use Rattle.vg_renamed.proofs.Named.{is_named}
use Rattle.vg_live.specs.Uses.{steps_of, component_method, Asked, asked}
use Rattle.vg_live.specs.Rules.{cell_in, Keeps, holder, owner, Rule, Live}
use Rattle.vg_live.specs.Rules as rules
use Rattle.vg_live_source.specs.Members as source
use Rattle.vg_live_source.specs.Uses as source_uses
use Rattle.vg_live_source.specs.Rules as source_rules
use Rattle.vg_live_named.specs.Members.{named_member, named_one}
use Rattle.vg_live_named.proofs.Names.{mapped, asked_named, method_named, field_named, component_same, asked_same}
use Rattle.vg_live_named.proofs.Names.{global_back, field_back, literal_back, step_back}
use Rattle.vg_live_named.proofs.Cells.{object_at}
use Rattle.vg_live_named.proofs.Held.{HeldAt, cell_same, class_back, component_back, object_back, array_back}
use Rattle.vg_live_named.proofs.There.{MethodThere, FieldThere, MethodFound, asked_there, live_method, live_field, live_step, object_finds, there}

module _ (n : Naming) (p : Program) (tell : NamesTell n p) (good : WellTyped p) (h : Heap) (κ : List Kind) (typed : TypedHeap p.tables κ h) where
  -- ---- members under the names that they have

  -- a live member, where one is named, has this name
  abbrev pub Origin : Option source.Member → Option Member → Type 0
  Origin z o = (z ≡ named_one n o) × Live p h o

  -- a live method has these names
  data FromMethod (c m : Name) : Option Member → Type 0 where
    from_method : (k : ℕ) (y : program.Method) → slice_get p.tables.methods k ≡ Some y → c ≡ (n.method k).owner → m ≡ (n.method k).name
        → Live p h (Some (Method k)) → FromMethod c m (Some (Method k))

  data FromField (c f : Name) : Option Member → Type 0 where
    from_field : (k : ℕ) (y : field.Field) → slice_get p.tables.fields k ≡ Some y → c ≡ (n.field k).owner → f ≡ (n.field k).name
        → FromField c f (Some (Field k))

  data FromCell (k : ℕ) : Option Member → Type 0 where
    from_cell : FromCell k (Some (Cell k))

  data FromNone : Option Member → Type 0 where
    from_none : FromNone None

  origin_method : (c m : Name) (o : Option Member) → Origin (Some (source.Method c m)) o → FromMethod c m o
  origin_method c m (Some (Method k)) (e, a) = by (live_method p h good κ typed k a)
    where
      by : MethodThere p.tables k → FromMethod c m (Some (Method k))
      by (y, ey) = from_method k y ey (ap owner_in e) (ap name_in e) a
        where
          owner_in : Option source.Member → Name
          owner_in (Some (source.Method d x)) = d
          owner_in _ = []

          name_in : Option source.Member → Name
          name_in (Some (source.Method d x)) = x
          name_in _ = []
  origin_method c m (Some (Field k)) (e, a) = absurd (let clash : Some (source.Method c m) ≡ named_one n (Some (Field k)) = e in cc)
  origin_method c m (Some (Cell k)) (e, a) = absurd (let clash : Some (source.Method c m) ≡ named_one n (Some (Cell k)) = e in cc)
  origin_method c m None (e, a) = absurd (let clash : Some (source.Method c m) ≡ None = e in cc)

  origin_field : (c f : Name) (o : Option Member) → Origin (Some (source.Field c f)) o → FromField c f o
  origin_field c f (Some (Field k)) (e, a) = by (live_field p h good κ typed k a)
    where
      by : FieldThere p.tables k → FromField c f (Some (Field k))
      by (y, ey) = from_field k y ey (ap owner_in e) (ap name_in e)
        where
          owner_in : Option source.Member → Name
          owner_in (Some (source.Field d x)) = d
          owner_in _ = []

          name_in : Option source.Member → Name
          name_in (Some (source.Field d x)) = x
          name_in _ = []
  origin_field c f (Some (Method k)) (e, a) = absurd (let clash : Some (source.Field c f) ≡ named_one n (Some (Method k)) = e in cc)
  origin_field c f (Some (Cell k)) (e, a) = absurd (let clash : Some (source.Field c f) ≡ named_one n (Some (Cell k)) = e in cc)
  origin_field c f None (e, a) = absurd (let clash : Some (source.Field c f) ≡ None = e in cc)

  origin_cell : (k : ℕ) (o : Option Member) → Origin (Some (source.Cell k)) o → FromCell k o
  origin_cell k (Some (Cell j)) (e, a) = subst (λ z. FromCell z (Some (Cell j))) (sym (number e)) from_cell
    where
      number : Some (source.Cell k) ≡ Some (source.Cell j) → k ≡ j
      number q = cc
  origin_cell k (Some (Method j)) (e, a) = absurd (let clash : Some (source.Cell k) ≡ named_one n (Some (Method j)) = e in cc)
  origin_cell k (Some (Field j)) (e, a) = absurd (let clash : Some (source.Cell k) ≡ named_one n (Some (Field j)) = e in cc)
  origin_cell k None (e, a) = absurd (let clash : Some (source.Cell k) ≡ None = e in cc)

  origin_none : (o : Option Member) → Origin None o → FromNone o
  origin_none None (e, a) = from_none
  origin_none (Some y) (e, a) = none_some (named_member n y) e

  -- ---- rules

  -- the rule under numbers
  abbrev pub RuleHere : source.Member → ℕ → Option Member → Option Member → Type 0
  RuleHere z k from also = (y : Member) × (z ≡ named_member n y) × Rule p h y k from also

  -- a step of the method of these names
  abbrev StepHere : ℕ → ℕ → source_step.Step → Type 0
  StepHere k i t = (s : Step) × (slice_get (steps_of p k) i ≡ Some s) × (t ≡ named_step n p.tables s)

  step_here : (c m : Name) (k i : ℕ) (y : program.Method) (t : source_step.Step) → slice_get p.tables.methods k ≡ Some y → c ≡ (n.method k).owner
      → m ≡ (n.method k).name → slice_get (source_uses.steps_of (named n p) c m) i ≡ Some t → StepHere k i t
  step_here c m k i y t ey ec em e = step_back n p tell good k i y t ey
      (ap (λ z. slice_get (source_uses.steps_of (named n p) z (n.method k).name) i) (sym ec)
      ∙ (ap (λ z. slice_get (source_uses.steps_of (named n p) c z) i) (sym em) ∙ e))

  entry_back : (i : ℕ) (e : source_step.Handler) (c m : Name) → slice_get (map (named_handler n p.tables) p.handlers) i ≡ Some e
      → e.target ≡ source_step.Method c m → RuleHere (source.Method c m) 2 None None
  entry_back i e c m q t =
      by (mapped (named_handler n p.tables) (slice_get p.handlers i) e (sym (slice_get-map (named_handler n p.tables) p.handlers i) ∙ q))
    where
      member : source_step.Target → source.Member
      member (source_step.Method d x) = source.Method d x
      member _ = source.Cell 0

      by : ((x : Handler) × (slice_get p.handlers i ≡ Some x) × (e ≡ named_handler n p.tables x)) → RuleHere (source.Method c m) 2 None None
      by (x, ex, q) = (Method x.method, ap member (sym t) ∙ ap (λ (z : source_step.Handler). member z.target) q, rules.entry i ex)

  main_back : (c m : Name) → source_step.Method (n.method p.main).owner (n.method p.main).name ≡ source_step.Method c m
      → RuleHere (source.Method c m) 1 None None
  main_back c m t = (Method p.main, ap member (sym t), rules.main)
    where
      member : source_step.Target → source.Member
      member (source_step.Method d x) = source.Method d x
      member _ = source.Cell 0

  component_method_back : (i k : ℕ) (t : source_step.Step) (z : source.Member) → StepHere k i t → source_uses.component_method t ≡ Some z
      → RuleHere z 3 (Some (Method k)) None
  component_method_back i k t z (s, es, q) e =
      by (mapped (method_named n p.tables) (component_method s) z (sym (component_same n p.tables s) ∙ (ap source_uses.component_method (sym q) ∙ e)))
    where
      by : ((m : ℕ) × (component_method s ≡ Some m) × (z ≡ method_named n p.tables m)) → RuleHere z 3 (Some (Method k)) None
      by (m, em, ez) = (Method m, ez, rules.of_component i s es em)

  global_read_back : (i k : ℕ) (c f : Name) → StepHere k i (source_step.ComponentField c f) → RuleHere (source.Field c f) 5 (Some (Method k)) None
  global_read_back i k c f (s, es, q) = by (global_back n p.tables s c f q)
    where
      by : ((g : ℕ) × (s ≡ ComponentField g) × (source.Field c f ≡ field_named n p.tables g)) → RuleHere (source.Field c f) 5 (Some (Method k)) None
      by (g, eg, ez) = (Field g, ez, rules.component_field i (es ∙ ap Some eg))

  field_read_back : (i k at : ℕ) (c f : Name) → StepHere k i (source_step.Field at c f) → RuleHere (source.Field c f) 6 (Some (Method k)) None
  field_read_back i k at c f (s, es, q) = by (field_back n p.tables s at c f q)
    where
      by : ((g : ℕ) × (s ≡ FieldOf at g) × (source.Field c f ≡ field_named n p.tables g)) → RuleHere (source.Field c f) 6 (Some (Method k)) None
      by (g, eg, ez) = (Field g, ez, rules.class_field i at (es ∙ ap Some eg))

  literal_used_back : (i k j : ℕ) → StepHere k i (source_step.Literal j) → RuleHere (source.Cell j) 11 (Some (Method k)) None
  literal_used_back i k j (s, es, q) = (Cell j, refl, rules.literal i (es ∙ ap Some (literal_back n p.tables s j q)))

  -- ---- what a live object finds

  class_found : (x : Asked) → MethodFound p.tables x → (l : Class) × (slice_get p.tables.classes x.class ≡ Some l)
  class_found x (m, y, ed, e) = by (slice_get p.tables.classes x.class) refl ed
    where
      by : (o : Option Class) → slice_get p.tables.classes x.class ≡ o → find_selector p.tables (methods_in o) x.selector ≡ Some m
          → (l : Class) × (slice_get p.tables.classes x.class ≡ Some l)
      by (Some l) eo q = (l, eo)
      by None eo q = none_some m q

  module _ (i k j : ℕ) (s : Step) (x : Asked) (o : Name) (a : Live p h (Some (Method k))) (es : slice_get (steps_of p k) i ≡ Some s)
      (ea : asked s ≡ Some x) where
    abbrev Finds : Type 0
    Finds = RuleHere (source.Method o (n.selector x.selector)) 4 (Some (Method k)) (Some (Cell j))

    finds : (c : ℕ) → class_in (slice_get h.cells j) ≡ Some c → is_below p.tables c x.class ≡ true
        → source_state.owner_of (named n p) (n.class c) (n.selector x.selector) ≡ Some o
        → ((m : ℕ) × (dispatch p.tables c x.selector ≡ Some m) × MethodThere p.tables m) → Finds
    finds c ec eb eo (m, em, t) = (
      Method m,
      ap (λ z. source.Method z (n.selector x.selector)) (the_same _ _ (sym eo ∙ (is_named n p tell).dispatches c x.selector m em))
          ∙ ap (source.Method (n.method m).owner) ((is_named n p tell).selectors c x.selector m em),
      rules.of_object i s x c es ea ec eb em,
    )

    found : MethodFound p.tables x → (c : ℕ) (vs : List CoreValue) → slice_get h.cells j ≡ Some (Object c vs)
        → source_state.is_below (named n p) (n.class c) (n.class x.class) ≡ true
        → source_state.owner_of (named n p) (n.class c) (n.selector x.selector) ≡ Some o → Finds
    found typed_step c vs ec eb eo = by (object_at p.tables κ h typed j c vs ec) (class_found x typed_step)
      where
        by : ((l : Class) × (slice_get p.tables.classes c ≡ Some l) × HasFields p.tables κ l.fields vs)
            → ((l : Class) × (slice_get p.tables.classes x.class ≡ Some l)) → Finds
        by (l, el, f) (g, eg) =
            let below : is_below p.tables c x.class ≡ true = sym ((is_named n p tell).below c x.class l g el eg) ∙ eb in
            finds c (ap class_in ec) below eo (object_finds p h good κ typed c x below typed_step)

    of_class : (d : Name) → source_state.is_below (named n p) d (n.class x.class) ≡ true
        → source_state.owner_of (named n p) d (n.selector x.selector) ≡ Some o
        → ((c : ℕ) × (vs : List CoreValue) × (slice_get h.cells j ≡ Some (Object c vs)) × (d ≡ n.class c)) → Finds
    of_class d eb eo (c, vs, ec, ed) = found (asked_there p.tables s x (live_step p h good κ typed k i s a es) ea) c vs ec
        (ap (λ z. source_state.is_below (named n p) z (n.class x.class)) (sym ed) ∙ eb)
        (ap (λ z. source_state.owner_of (named n p) z (n.selector x.selector)) (sym ed) ∙ eo)

  object_back_rule : (i k j : ℕ) (t : source_step.Step) (z : source_uses.Asked) (d o : Name) → Live p h (Some (Method k)) → StepHere k i t
      → source_uses.asked t ≡ Some z → source_state.class_at (named_heap n p.tables h) j ≡ Some d → source_state.is_below (named n p) d z.class ≡ true
      → source_state.owner_of (named n p) d z.name ≡ Some o → RuleHere (source.Method o z.name) 4 (Some (Method k)) (Some (Cell j))
  object_back_rule i k j t z d o a (s, es, q) e ed eb eo =
      by (mapped (asked_named n p.tables) (asked s) z (sym (asked_same n p.tables s) ∙ (ap source_uses.asked (sym q) ∙ e)))
    where
      by : ((x : Asked) × (asked s ≡ Some x) × (z ≡ asked_named n p.tables x)) → RuleHere (source.Method o z.name) 4 (Some (Method k)) (Some (Cell j))
      by (x, ex, ez) =
          subst (λ w. RuleHere (source.Method o w) 4 (Some (Method k)) (Some (Cell j))) (sym (ap (λ (w : source_uses.Asked). w.name) ez))
          (of_class i k j s x o a es ex d
          (ap (source_state.is_below (named n p) d) (sym (ap (λ (w : source_uses.Asked). w.class) ez)) ∙ eb)
          (ap (source_state.owner_of (named n p) d) (sym (ap (λ (w : source_uses.Asked). w.name) ez)) ∙ eo)
          (class_back n p.tables tell.fields good.tables h j d ed))

  -- ---- what places hold

  abbrev Held : Place → source_value.Value → Type 0
  Held x v = HeldAt n p.tables tell.fields good.tables h x v

  refers : (u : CoreValue) (v : source_value.Value) (k : ℕ) → v ≡ named_value n p.tables u → source_rules.cell_in v ≡ Some k → cell_in u ≡ Some k
  refers u v k e q = sym (cell_same n p.tables u) ∙ (ap source_rules.cell_in (sym e) ∙ q)

  component_cell : (f k : ℕ) (v : source_value.Value) → Held (OfComponent f) v → source_rules.cell_in v ≡ Some k
      → RuleHere (source.Cell k) 7 (Some (Field f)) None
  component_cell f k v (u, eu, ev) q = (Cell k, refl, rules.in_component u eu (refers u v k ev q))

  object_cell : (o f k : ℕ) (v : source_value.Value) → Held (OfObject o f) v → source_rules.cell_in v ≡ Some k
      → RuleHere (source.Cell k) 9 (Some (Field f)) (Some (Cell o))
  object_cell o f k v (u, eu, ev) q = (Cell k, refl, rules.in_object u eu (refers u v k ev q))

  array_cell : (a i k : ℕ) (v : source_value.Value) → Held (OfArray a i) v → source_rules.cell_in v ≡ Some k
      → RuleHere (source.Cell k) 10 (Some (Cell a)) None
  array_cell a i k v (u, eu, ev) q = (Cell k, refl, rules.in_array i u eu (refers u v k ev q))

  keeps_back : (u : CoreValue) (z : source.Member) → source_rules.Keeps (named_value n p.tables u) z → (y : Member) × (z ≡ named_member n y) × Keeps u y
  keeps_back (Bound r m) _ source_rules.method = (Method m, refl, rules.method)
  keeps_back (Bound (Some k) m) _ source_rules.receiver = (Cell k, refl, rules.receiver)
  keeps_back (Int i) z q = elim q [ ]
  keeps_back (Truth b) z q = elim q [ ]
  keeps_back (Char c) z q = elim q [ ]
  keeps_back (Raw j i) z q = elim q [ ]
  keeps_back Null z q = elim q [ ]
  keeps_back (Obj k) z q = elim q [ ]
  keeps_back (Arr k) z q = elim q [ ]

  delegate_back : (x : Place) (v : source_value.Value) (z : source.Member) → Held x v → source_rules.Keeps v z → RuleHere z 8 (holder x) (owner x)
  delegate_back x v z (u, eu, ev) q = by (keeps_back u z (subst (λ w. source_rules.Keeps w z) ev q))
    where
      by : ((y : Member) × (z ≡ named_member n y) × Keeps u y) → RuleHere z 8 (holder x) (owner x)
      by (y, ey, ky) = (y, ey, rules.in_delegate x u eu ky)

  component_held : (c f : Name) (k : ℕ) (y : field.Field) (v : source_value.Value) → slice_get p.tables.fields k ≡ Some y → c ≡ (n.field k).owner
      → f ≡ (n.field k).name → source.value_at (named_heap n p.tables h) (source.OfComponent c f) ≡ Some v → Held (OfComponent k) v
  component_held c f k y v ey ec ef e = component_back n p.tables tell.fields good.tables h κ typed k y v ey
      (ap (λ z. source.value_at (named_heap n p.tables h) (source.OfComponent z (n.field k).name)) (sym ec)
      ∙ (ap (λ z. source.value_at (named_heap n p.tables h) (source.OfComponent c z)) (sym ef) ∙ e))

  object_held : (o : ℕ) (c f : Name) (k : ℕ) (y : field.Field) (v : source_value.Value) → slice_get p.tables.fields k ≡ Some y → c ≡ (n.field k).owner
      → f ≡ (n.field k).name → source.value_at (named_heap n p.tables h) (source.OfObject o c f) ≡ Some v → Held (OfObject o k) v
  object_held o c f k y v ey ec ef e = object_back n p.tables tell.fields good.tables h κ typed o k y v ey
      (ap (λ z. source.value_at (named_heap n p.tables h) (source.OfObject o z (n.field k).name)) (sym ec)
      ∙ (ap (λ z. source.value_at (named_heap n p.tables h) (source.OfObject o c z)) (sym ef) ∙ e))

  array_held : (a i : ℕ) (v : source_value.Value) → source.value_at (named_heap n p.tables h) (source.OfArray a i) ≡ Some v → Held (OfArray a i) v
  array_held a i v e = array_back n p.tables tell.fields good.tables h κ typed a i v e

  -- ---- the rules, one by one

  by_component : (t : source_step.Step) {c m : Name} (z : source.Member) (i : ℕ) (from also : Option Member) → FromMethod c m from → FromNone also
      → slice_get (source_uses.steps_of (named n p) c m) i ≡ Some t → source_uses.component_method t ≡ Some z → RuleHere z 3 from also
  by_component t {c} {m} z i _ _ (from_method k y ey ec em a) from_none es q = component_method_back i k t z (step_here c m k i y t ey ec em es) q

  by_object : (t : source_step.Step) {c m : Name} (x : source_uses.Asked) (d o : Name) (i j : ℕ) (from also : Option Member) → FromMethod c m from
      → FromCell j also → slice_get (source_uses.steps_of (named n p) c m) i ≡ Some t → source_uses.asked t ≡ Some x
      → source_state.class_at (named_heap n p.tables h) j ≡ Some d → source_state.is_below (named n p) d x.class ≡ true
      → source_state.owner_of (named n p) d x.name ≡ Some o → RuleHere (source.Method o x.name) 4 from also
  by_object t {c} {m} x d o i j _ _ (from_method k y ey ec em a) from_cell es q ed eb eo =
      object_back_rule i k j t x d o a (step_here c m k i y t ey ec em es) q ed eb eo

  by_global : {c m : Name} (d f : Name) (i : ℕ) (from also : Option Member) → FromMethod c m from → FromNone also
      → slice_get (source_uses.steps_of (named n p) c m) i ≡ Some (source_step.ComponentField d f) → RuleHere (source.Field d f) 5 from also
  by_global {c} {m} d f i _ _ (from_method k y ey ec em a) from_none es = global_read_back i k d f (step_here c m k i y _ ey ec em es)

  by_field : {c m : Name} (d f : Name) (i at : ℕ) (from also : Option Member) → FromMethod c m from → FromNone also
      → slice_get (source_uses.steps_of (named n p) c m) i ≡ Some (source_step.Field at d f) → RuleHere (source.Field d f) 6 from also
  by_field {c} {m} d f i at _ _ (from_method k y ey ec em a) from_none es = field_read_back i k at d f (step_here c m k i y _ ey ec em es)

  by_literal : {c m : Name} (i j : ℕ) (from also : Option Member) → FromMethod c m from → FromNone also
      → slice_get (source_uses.steps_of (named n p) c m) i ≡ Some (source_step.Literal j) → RuleHere (source.Cell j) 11 from also
  by_literal {c} {m} i j _ _ (from_method k y ey ec em a) from_none es = literal_used_back i k j (step_here c m k i y _ ey ec em es)

  by_component_cell : {c f : Name} (k : ℕ) (v : source_value.Value) (from also : Option Member) → FromField c f from → FromNone also
      → source.value_at (named_heap n p.tables h) (source.OfComponent c f) ≡ Some v → source_rules.cell_in v ≡ Some k
      → RuleHere (source.Cell k) 7 from also
  by_component_cell {c} {f} k v _ _ (from_field g y ey ec ef) from_none e q = component_cell g k v (component_held c f g y v ey ec ef e) q

  by_object_cell : {c f : Name} (o k : ℕ) (v : source_value.Value) (from also : Option Member) → FromField c f from → FromCell o also
      → source.value_at (named_heap n p.tables h) (source.OfObject o c f) ≡ Some v → source_rules.cell_in v ≡ Some k
      → RuleHere (source.Cell k) 9 from also
  by_object_cell {c} {f} o k v _ _ (from_field g y ey ec ef) from_cell e q = object_cell o g k v (object_held o c f g y v ey ec ef e) q

  by_array_cell : (a i k : ℕ) (v : source_value.Value) (from also : Option Member) → FromCell a from → FromNone also
      → source.value_at (named_heap n p.tables h) (source.OfArray a i) ≡ Some v → source_rules.cell_in v ≡ Some k
      → RuleHere (source.Cell k) 10 from also
  by_array_cell a i k v _ _ from_cell from_none e q = array_cell a i k v (array_held a i v e) q

  by_delegate : (x : source.Place) (v : source_value.Value) (z : source.Member) (from also : Option Member) → Origin (source_rules.holder x) from
      → Origin (source_rules.owner x) also → source.value_at (named_heap n p.tables h) x ≡ Some v → source_rules.Keeps v z → RuleHere z 8 from also
  by_delegate (source.OfComponent c f) v z from also a b e q = by from also (origin_field c f from a) (origin_none also b)
    where
      by : (from also : Option Member) → FromField c f from → FromNone also → RuleHere z 8 from also
      by _ _ (from_field g y ey ec ef) from_none = delegate_back (OfComponent g) v z (component_held c f g y v ey ec ef e) q
  by_delegate (source.OfObject o c f) v z from also a b e q = by from also (origin_field c f from a) (origin_cell o also b)
    where
      by : (from also : Option Member) → FromField c f from → FromCell o also → RuleHere z 8 from also
      by _ _ (from_field g y ey ec ef) from_cell = delegate_back (OfObject o g) v z (object_held o c f g y v ey ec ef e) q
  by_delegate (source.OfArray o i) v z from also a b e q = by from also (origin_cell o from a) (origin_none also b)
    where
      by : (from also : Option Member) → FromCell o from → FromNone also → RuleHere z 8 from also
      by _ _ from_cell from_none = delegate_back (OfArray o i) v z (array_held o i v e) q

  by_main : (c m : Name) (from also : Option Member) → FromNone from → FromNone also → (named n p).main ≡ source_step.Method c m
      → RuleHere (source.Method c m) 1 from also
  by_main c m _ _ from_none from_none e = main_back c m e

  by_entry : (i : ℕ) (e : source_step.Handler) (c m : Name) (from also : Option Member) → FromNone from → FromNone also
      → slice_get (named n p).handlers i ≡ Some e → e.target ≡ source_step.Method c m → RuleHere (source.Method c m) 2 from also
  by_entry i e c m _ _ from_none from_none q t = entry_back i e c m q t

  pub rule_back : (z : source.Member) (k : ℕ) (a b : Option source.Member) → source_rules.Rule (named n p) (named_heap n p.tables h) z k a b
      → (from also : Option Member) → Origin a from → Origin b also → RuleHere z k from also
  rule_back _ _ _ _ (source_rules.main {c} {m} e) from also a b = by_main c m from also (origin_none from a) (origin_none also b) e
  rule_back _ _ _ _ (source_rules.entry i {e} {c} {m} q t) from also a b = by_entry i e c m from also (origin_none from a) (origin_none also b) q t
  rule_back _ _ _ _ (source_rules.of_component i t {c} {m} {y} es q) from also a b =
      by_component t y i from also (origin_method c m from a) (origin_none also b) es q
  rule_back _ _ _ _ (source_rules.of_object i t x d {c} {m} {o} {k} es q ed eb eo) from also a b =
      by_object t x d o i k from also (origin_method c m from a) (origin_cell k also b) es q ed eb eo
  rule_back _ _ _ _ (source_rules.component_field i {c} {m} {d} {f} es) from also a b =
      by_global d f i from also (origin_method c m from a) (origin_none also b) es
  rule_back _ _ _ _ (source_rules.class_field i at {c} {m} {d} {f} es) from also a b =
      by_field d f i at from also (origin_method c m from a) (origin_none also b) es
  rule_back _ _ _ _ (source_rules.in_component v {c} {f} {k} e q) from also a b =
      by_component_cell k v from also (origin_field c f from a) (origin_none also b) e q
  rule_back _ _ _ _ (source_rules.in_delegate x v {y} e q) from also a b = by_delegate x v y from also a b e q
  rule_back _ _ _ _ (source_rules.in_object v {c} {f} {o} {k} e q) from also a b =
      by_object_cell o k v from also (origin_field c f from a) (origin_cell o also b) e q
  rule_back _ _ _ _ (source_rules.in_array i v {a = j} {k = k} e q) from also a b =
      by_array_cell j i k v from also (origin_cell j from a) (origin_none also b) e q
  rule_back _ _ _ _ (source_rules.literal i {c} {m} {k} es) from also a b = by_literal i k from also (origin_method c m from a) (origin_none also b) es

  -- ---- what is live

  abbrev pub Back : Option source.Member → Type 0
  Back z = (o : Option Member) × (z ≡ named_one n o) × Live p h o

  conclude : (z : source.Member) (k : ℕ) (a b : Option source.Member) → source_rules.Rule (named n p) (named_heap n p.tables h) z k a b
      → Back a → Back b → Back (Some z)
  conclude z k a b rule (from, ea, la) (also, eb, lb) = by (rule_back z k a b rule from also (ea, la) (eb, lb))
    where
      by : RuleHere z k from also → Back (Some z)
      by (y, ey, r) = (Some y, ap Some ey, rules.by r (there p h good κ typed y k from also r la lb) la lb)

  pub back : (z : Option source.Member) → source_rules.Live (named n p) (named_heap n p.tables h) z → Back z
  back _ source_rules.none = (None, refl, rules.none)
  back _ (source_rules.by {y} {n = k} {from} {also} rule a b) = conclude y k from also rule (back from a) (back also b)
