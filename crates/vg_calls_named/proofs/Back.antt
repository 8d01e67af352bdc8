-- The calls of a text are calls of its typed program.
use Rattle.std.proofs.Common.{◌≡◌, inl, inr, ℕ, suc, ◌==◌, Bool, true, false, List, [], ◌∷◌, Option, Some, None, slice_get, if◌then◌else◌, refl, sym, ap, ◌∙◌, subst}
use Rattle.std.proofs.lemmas.Option.{slice_get-map, slice_get_within}
use Rattle.vg_syntax.specs.Tree.{Node}
use Rattle.vg_source.specs.Names.{Name}
use Rattle.vg_source.specs.Types.{StaticType}
use Rattle.vg_source.specs.Program.{source_of}
use Rattle.vg_source.specs.Steps as source_step
use Rattle.vg_source.specs.State as source_state
use Rattle.vg_source.specs.Values as source_value
use Rattle.vg_core.specs.declared.member.Member.{Member}
use Rattle.vg_core.specs.declared.member.Member.TheVariants.{Method, Field, Cell}
use Rattle.vg_core.specs.declared.value.CoreValue.{CoreValue}
use Rattle.vg_core.specs.declared.value.CoreValue.TheVariants.{Bound}
use Rattle.vg_core.specs.declared.step.Step.{Step}
use Rattle.vg_core.specs.declared.step.Step.TheVariants as step
use Rattle.vg_core.specs.declared.types.CoreType.{CoreType}
use Rattle.vg_core.specs.declared.types.CoreType.TheVariants.{FunctionType}
use Rattle.vg_core.specs.declared.heap.Heap.{Heap}
use Rattle.vg_core.specs.declared.program.Class.{Class}
use Rattle.vg_core.specs.declared.program.Handler.{Handler}
use Rattle.vg_core.specs.declared.program.Method as program
use Rattle.vg_core.specs.declared.program.Tables.{Tables}
use Rattle.vg_core.specs.declared.program.Target.TheVariants.{Run}
use Rattle.vg_core.specs.Tables.{methods_in, find_selector, is_below}
use Rattle.vg_core.specs.Program.{Program}
use Rattle.vg_core.specs.Session as session
use Rattle.vg_core.specs.Heap.{Kind, Place, class_in, value_at}
use Rattle.vg_core.specs.Naming.{Naming, named_step, named_heap, named_target, naming_of, named, params_named, result_named}
use Rattle.vg_core.specs.Typing.{Takes, t_call_value, HasFunction, WellTyped}
use Rattle.vg_sound.specs.Good.{TypedHeap}
use Rattle.vg_sound.proofs.Values.{the_same, none_some}
use Rattle.vg_renamed.specs.NamesTell.{NamesTell}
use Rattle.vg_renamed.proofs.Named.{is_named}
use Rattle.vg_live.specs.Rules.{Keeps, Rule, Live, holder, owner}
use Rattle.vg_live.specs.Rules as rules
use Rattle.vg_live.specs.Uses.{Asked, asked}
use Rattle.vg_live_source.specs.Members as members
use Rattle.vg_live_source.specs.Rules as source_rules
use Rattle.vg_live_named.specs.Members.{named_member}
use Rattle.vg_live_named.proofs.Back.{back, rule_back}
use Rattle.vg_live_named.proofs.Cells.{object_at}
use Rattle.vg_live_named.proofs.Held.{class_back}
use Rattle.vg_live_named.proofs.Names.{mapped, step_back}
use Rattle.vg_live_named.proofs.Steps.{StepTyped}
use Rattle.vg_live_named.proofs.There.{MethodFound, asked_there, live_method, live_step, object_finds}
use Rattle.vg_live_named.proofs.Whole.{live_back, live_there, one_member}
use Rattle.vg_packed.specs.Uses as typed
use Rattle.vg_written.specs.Written.{AreWritten, named_method}
use Rattle.vg_calls_source.specs.Methods.{DeclaredMethod, MethodName, HasTypes}
use Rattle.vg_calls_source.specs.Calls as source
use Rattle.vg_calls_packed.specs.Typed.{IsEntry}
use Rattle.vg_calls_packed.proofs.Live.{concluded, callee_live, delegate_live}
use Rattle.vg_calls_named.specs.Names.{name_of}
use Rattle.vg_calls_named.proofs.Forth.{types_at, handler_named}
use Rattle.vg_calls_named.proofs.Steps.{value_call, component_call_back, object_call_back, value_call_back, component_value_back, object_value_back}

-- ---- members by their names

abbrev owner_in : members.Member → Name
owner_in (members.Method c m) = c
owner_in _ = []

abbrev name_in : members.Member → Name
name_in (members.Method c m) = m
name_in _ = []

abbrev cell_in : members.Member → ℕ
cell_in (members.Cell k) = k
cell_in _ = 0

named_so : (m : MethodName) (c x : Name) → m.owner ≡ c → m.name ≡ x → m ≡ record { owner = c; name = x }
named_so m c x e g = ap (λ z. record { owner = z; name = m.name }) e ∙ ap (λ z. record { owner = c; name = z }) g

module _ (n : Naming) where
  method_of : (m : MethodName) (y : Member) → members.Method m.owner m.name ≡ named_member n y → (k : ℕ) × (y ≡ Method k) × (m ≡ name_of n k)
  method_of m (Method k) e = (k, refl, named_so m (n.method k).owner (n.method k).name (ap owner_in e) (ap name_in e))
  method_of m (Field k) e = absurd (let clash : members.Method m.owner m.name ≡ named_member n (Field k) = e in cc)
  method_of m (Cell k) e = absurd (let clash : members.Method m.owner m.name ≡ named_member n (Cell k) = e in cc)

  cell_of : (j : ℕ) (y : Member) → members.Cell j ≡ named_member n y → y ≡ Cell j
  cell_of j (Cell k) e = sym (ap (λ z. Cell (cell_in z)) e)
  cell_of j (Method k) e = absurd (let clash : members.Cell j ≡ named_member n (Method k) = e in cc)
  cell_of j (Field k) e = absurd (let clash : members.Cell j ≡ named_member n (Field k) = e in cc)

-- ---- the rule of delegates

-- what a delegate in a live place keeps
record KeptIn (p : Program) (h : Heap) (y : Member) (from also : Option Member) : Type 0 where
  place : Place
  value : CoreValue
  there : value_at p.tables h place ≡ Some value
  keeps : Keeps value y
  holds : holder place ≡ from
  owns : owner place ≡ also

other_rule : {X : Type 0} (k : ℕ) → k ≡ 8 → (k ≡ 8 → ⊥) → X
other_rule k e h = absurd (h e)

kept_in : (p : Program) (h : Heap) (y : Member) (k : ℕ) (from also : Option Member) → Rule p h y k from also → k ≡ 8 → KeptIn p h y from also
kept_in p h _ _ _ _ (rules.in_delegate x v e keeps) q =
    record { place = x; value = v; there = e; keeps = keeps; holds = refl; owns = refl }
kept_in p h _ _ _ _ rules.main q = absurd (let clash : 1 ≡ 8 = q in cc)
kept_in p h _ _ _ _ (rules.entry i e) q = absurd (let clash : 2 ≡ 8 = q in cc)
kept_in p h _ _ _ _ (rules.of_component i s e f) q = absurd (let clash : 3 ≡ 8 = q in cc)
kept_in p h _ _ _ _ (rules.of_object i s x c e f g a b) q = absurd (let clash : 4 ≡ 8 = q in cc)
kept_in p h _ _ _ _ (rules.component_field i e) q = absurd (let clash : 5 ≡ 8 = q in cc)
kept_in p h _ _ _ _ (rules.class_field i at e) q = absurd (let clash : 6 ≡ 8 = q in cc)
kept_in p h _ _ _ _ (rules.in_component v e f) q = absurd (let clash : 7 ≡ 8 = q in cc)
kept_in p h _ _ _ _ (rules.in_object v e f) q = absurd (let clash : 9 ≡ 8 = q in cc)
kept_in p h _ _ _ _ (rules.in_array i v e f) q = absurd (let clash : 10 ≡ 8 = q in cc)
kept_in p h _ _ _ _ (rules.literal i e) q = absurd (let clash : 11 ≡ 8 = q in cc)

abbrev number_of : Member → ℕ
number_of (Method m) = m
number_of _ = 0

kept_method : (v : CoreValue) (y : Member) (k : ℕ) → Keeps v y → y ≡ Method k → (r : Option ℕ) × (v ≡ Bound r k)
kept_method _ _ k (rules.method {r} {m}) e = (r, ap (λ z. Bound r (number_of z)) e)
kept_method _ _ k (rules.receiver {k = j} {m}) e = absurd (let clash : Cell j ≡ Method k = e in cc)

-- ---- the function type of a call

value_function : (p : Tables) (at count f : ℕ) → StepTyped p (step.CallValue at count f) → (ps r : ℕ) × (slice_get p.types f ≡ Some (FunctionType ps r))
value_function p at count f (ts, o, (x, y, t)) = by (step.CallValue at count f) x y (at, count, f) t refl
  where
    by : (s : Step) (x y : List CoreType) (z : ℕ × ℕ × ℕ) → Takes p ts o s x y → value_call s ≡ Some z
        → (ps r : ℕ) × (slice_get p.types z.2 ≡ Some (FunctionType ps r))
    by _ _ _ z (t_call_value {ps = ps} {r = r} params us e row er subs) q = (ps, r, ap (λ (w : ℕ × ℕ × ℕ). slice_get p.types w.2) (sym (the_same _ _ q)) ∙ e)
    by _ _ _ z _ q = none_some z q

-- ---- handlers

handler_there : (hs : List Handler) (v m : ℕ) → session.handler_of hs v ≡ Some m → (i : ℕ) × (e : Handler) × (slice_get hs i ≡ Some e) × (e.method ≡ m)
handler_there [] v m e = none_some m e
handler_there (x ∷ hs) v m e = by (x.vector == v) e (handler_there hs v m)
  where
    by : (b : Bool) → (if b then Some x.method else session.handler_of hs v) ≡ Some m
        → (session.handler_of hs v ≡ Some m → (i : ℕ) × (y : Handler) × (slice_get hs i ≡ Some y) × (y.method ≡ m))
        → (i : ℕ) × (y : Handler) × (slice_get (x ∷ hs) i ≡ Some y) × (y.method ≡ m)
    by true q go = (0, x, refl, the_same _ _ q)
    by false q go = let (i, y, ey, em) = go q in (suc i, y, ey, em)

module _ (n : Naming) (p : Program) (tell : NamesTell n p) (good : WellTyped p) (h : Heap) (κ : List Kind) (heap : TypedHeap p.tables κ h) where
  abbrev there : source_value.Heap
  there = named_heap n p.tables h

  -- a live method under its name
  pub live_method_back : (m : MethodName) → source.IsLive (named n p) there m → (k : ℕ) × (m ≡ name_of n k) × Live p h (Some (Method k))
  live_method_back m a =
      let (y, e, l) = live_back n p tell good h κ heap (members.Method m.owner m.name) a in
      let (k, ey, em) = method_of n m y e in
      (k, em, subst (λ z. Live p h (Some z)) ey l)

  live_cell_back : (j : ℕ) → source_rules.Live (named n p) there (Some (members.Cell j)) → Live p h (Some (Cell j))
  live_cell_back j a =
      let (y, e, l) = live_back n p tell good h κ heap (members.Cell j) a in
      subst (λ z. Live p h (Some z)) (cell_of n j y e) l

  -- two live methods of one name are one
  pub one_method : (j k : ℕ) → Live p h (Some (Method j)) → Live p h (Some (Method k)) → name_of n j ≡ name_of n k → j ≡ k
  one_method j k a b e =
      ap number_of (one_member n p tell h (Method j) (Method k) (live_there p h (Method j) a) (live_there p h (Method k) b)
      (ap (λ (z : MethodName). members.Method z.owner z.name) e))

  -- a step of a live method
  has_back : (k : ℕ) (t : source_step.Step) → Live p h (Some (Method k)) → source.Has (named n p) there (name_of n k) t
      → (s : Step) × typed.Has p h k s × (t ≡ named_step n p.tables s)
  has_back k t a has =
      let (y, ey) = live_method p h good κ heap k a in
      let (s, es, e) = step_back n p tell good k has.place y t ey has.stands in
      (s, record { live = a; place = has.place; stands = es }, e)

  -- ---- what a live object finds

  class_found : (x : Asked) → MethodFound p.tables x → (l : Class) × (slice_get p.tables.classes x.class ≡ Some l)
  class_found x (m, y, ed, e) = by (slice_get p.tables.classes x.class) refl ed
    where
      by : (o : Option Class) → slice_get p.tables.classes x.class ≡ o → find_selector p.tables (methods_in o) x.selector ≡ Some m
          → (l : Class) × (slice_get p.tables.classes x.class ≡ Some l)
      by (Some l) eo q = (l, eo)
      by None eo q = none_some m q

  finds_back : (x : Asked) (m : MethodName) → MethodFound p.tables x → source.Finds (named n p) there (n.class x.class) (n.selector x.selector) m
      → (k : ℕ) × (m ≡ name_of n k) × typed.Finds p h x.class x.selector k
  finds_back x m found f =
      let (c, vs, ec, ed) = class_back n p.tables tell.fields good.tables h f.cell f.class f.is in
      let (l, el, fields) = object_at p.tables κ h heap f.cell c vs ec in
      let (g, eg) = class_found x found in
      let below : is_below p.tables c x.class ≡ true = sym ((is_named n p tell).below c x.class l g el eg)
      ∙ ap (λ z. source_state.is_below (named n p) z (n.class x.class)) (sym ed) ∙ f.below in
      let (k, ek, kt) = object_finds p h good κ heap c x below found in
      let owner : m.owner ≡ (n.method k).owner = the_same _ _
      (sym f.finds ∙ ap (λ z. source_state.owner_of (named n p) z (n.selector x.selector)) ed ∙ (is_named n p tell).dispatches c x.selector k ek) in
      let name : m.name ≡ (n.method k).name = f.named ∙ (is_named n p tell).selectors c x.selector k ek in (
        k,
        named_so m (n.method k).owner (n.method k).name owner name,
        record { cell = f.cell; class = c; live = live_cell_back f.cell f.live; is = ap class_in ec; below = below; finds = ek },
      )

  found_for : (k : ℕ) (s : Step) (x : Asked) → typed.Has p h k s → asked s ≡ Some x → MethodFound p.tables x
  found_for k s x has e = asked_there p.tables s x (live_step p h good κ heap k has.place s has.live has.stands) e

  -- what is found by names is found by the numbers that have them
  finds_by : (x : Asked) (c name : Name) (m : MethodName) → MethodFound p.tables x → c ≡ n.class x.class → name ≡ n.selector x.selector
      → source.Finds (named n p) there c name m → (k : ℕ) × (m ≡ name_of n k) × typed.Finds p h x.class x.selector k
  finds_by x c name m found ec ex f =
      finds_back x m found (subst (λ z. source.Finds (named n p) there (n.class x.class) z m) ex (subst (λ z. source.Finds (named n p) there z name m) ec f))

  -- ---- delegates

  pub delegates_back : (m : MethodName) → source.HasDelegates (named n p) there m → (k : ℕ) × (m ≡ name_of n k) × typed.HasDelegates p h k
  delegates_back _ (source.of_component d m has) =
      let (j, ed, a) = live_method_back d has.live in
      let (s, here, e) = has_back j _ a (subst (λ z. source.Has (named n p) there z (source_step.ComponentMethod m.owner m.name)) ed has) in
      let (k, es, em) = component_value_back n p.tables s m e in
      (k, em, typed.of_component j (subst (typed.Has p h j) es here))
  delegates_back _ (source.of_object d m at c x has finds) =
      let (j, ed, a) = live_method_back d has.live in
      let (s, here, e) = has_back j _ a (subst (λ z. source.Has (named n p) there z (source_step.MethodOf at c x)) ed has) in
      let (cn, sn, es, ec, ex) = object_value_back n p.tables s at c x e in
      let here' : typed.Has p h j (step.MethodOf at cn sn) = subst (typed.Has p h j) es here in
      let found = found_for j (step.MethodOf at cn sn) (record { class = cn; selector = sn }) here' refl in
      let (k, em, f) = finds_by (record { class = cn; selector = sn }) c x m found ec ex finds in
      (k, em, typed.of_object j at cn sn here' f)
  delegates_back _ (source.held m x receiver a b e) =
      let (from, ef, lf) = back n p tell good h κ heap (source_rules.holder x) a in
      let (also, ea, la) = back n p tell good h κ heap (source_rules.owner x) b in
      let (y, ey, rule) = rule_back n p tell good h κ heap (members.Method m.owner m.name) 8 (source_rules.holder x) (source_rules.owner x)
      (source_rules.in_delegate x _ e source_rules.method) from also (ef, lf) (ea, la) in
      let (k, ek, em) = method_of n m y ey in
      let kept = kept_in p h y 8 from also rule refl in
      let (r, er) = kept_method kept.value y k kept.keeps ek in (
        k,
        em,
        typed.held kept.place r (subst (Live p h) (sym kept.holds) lf) (subst (Live p h) (sym kept.owns) la) (kept.there ∙ ap Some er),
      )

module _ (texts : List Name) (text : Node) (p : Program) (same : source_of text ≡ named (naming_of texts p.tables) p) (good : WellTyped p)
    (tell : NamesTell (naming_of texts p.tables) p) (written : AreWritten texts text p.tables) (h : Heap) (κ : List Kind) (heap : TypedHeap p.tables κ h) where
  abbrev n : Naming
  n = naming_of texts p.tables

  abbrev at_names : source_value.Heap
  at_names = named_heap n p.tables h

  -- what a node stands for
  abbrev pub IsOf : MethodName → ℕ → Type 0
  IsOf m k = (m ≡ name_of n k) × Live p h (Some (Method k))

  has_of : (m : MethodName) (k : ℕ) (t : source_step.Step) → IsOf m k → source.Has (source_of text) at_names m t
      → (s : Step) × typed.Has p h k s × (t ≡ named_step n p.tables s)
  has_of m k t (e, a) has =
      has_back n p tell good h κ heap k t a
      (subst (λ z. source.Has (named n p) at_names z t) e (subst (λ q. source.Has q at_names m t) same has))

  -- the method of declared types is the one of this name
  typed_so : (m : MethodName) (k : ℕ) (y : program.Method) (ps r : StaticType) → slice_get p.tables.methods k ≡ Some y → Live p h (Some (Method k))
      → m ≡ name_of n k → HasTypes text m ps r
      → (ps ≡ params_named n p.tables (slice_get p.tables.types y.function)) × (r ≡ result_named n p.tables (slice_get p.tables.types y.function))
  typed_so m k y ps r ey a em (i, e) =
      let (z, ez, shown) = mapped (named_method texts p.tables) (slice_get p.tables.methods i) (record { method = m; params = ps; result = r })
      (sym (slice_get-map (named_method texts p.tables) p.tables.methods i) ∙ ap (λ w. slice_get w i) written.methods ∙ e) in
      let here = the_same _ _ (sym e ∙ types_at texts text p same good tell written h κ heap i z ez) in
      let one : i ≡ k = ap number_of (one_member n p tell h (Method i) (Method k) (live_or i z ez) (live_there p h (Method k) a)
      (ap (λ (w : MethodName). members.Method w.owner w.name) (sym (ap (λ (w : DeclaredMethod). w.method) here) ∙ em))) in
      let y_is : z ≡ y = the_same _ _ (sym ez ∙ ap (slice_get p.tables.methods) one ∙ ey) in (
        ap (λ (w : DeclaredMethod). w.params) here ∙ ap (λ (w : program.Method). params_named n p.tables (slice_get p.tables.types w.function)) y_is,
        ap (λ (w : DeclaredMethod). w.result) here ∙ ap (λ (w : program.Method). result_named n p.tables (slice_get p.tables.types w.function)) y_is,
      )
    where
      live_or : (i : ℕ) (z : program.Method) → slice_get p.tables.methods i ≡ Some z → rules.IsThere p h (Method i)
      live_or i z ez = slice_get_within p.tables.methods i z ez

  -- function types of the same types have one number
  one_function : (f : ℕ) (k : ℕ) (y : program.Method) → slice_get p.tables.methods k ≡ Some y
      → (ps r : ℕ) × (slice_get p.tables.types f ≡ Some (FunctionType ps r))
      → params_named n p.tables (slice_get p.tables.types f) ≡ params_named n p.tables (slice_get p.tables.types y.function)
      → result_named n p.tables (slice_get p.tables.types f) ≡ result_named n p.tables (slice_get p.tables.types y.function) → f ≡ y.function
  one_function f k y ey (ps, r, e) same_params same_result = by (good.tables.functions k y ey)
    where
      by : HasFunction p.tables y → f ≡ y.function
      by (qs, t, g, row, et) =
          written.functions f y.function ps r qs t e g
          (sym (ap (params_named n p.tables) e) ∙ same_params ∙ ap (params_named n p.tables) g)
          (sym (ap (result_named n p.tables) e) ∙ same_result ∙ ap (result_named n p.tables) g)

  abbrev Leads : ℕ → MethodName → Type 0
  Leads j m = (k : ℕ) × IsOf m k × typed.Calls p h j k

  led : (j : ℕ) (m : MethodName) (k : ℕ) → m ≡ name_of n k → typed.Calls p h j k → Leads j m
  led j m k e calls = (k, (e, callee_live p h good κ heap j k calls), calls)

  pub calls_back : (d : MethodName) (j : ℕ) (m : MethodName) → IsOf d j → source.Calls text at_names d m → Leads j m
  calls_back d j _ of (source.of_component m count has) =
      let (s, here, e) = has_of d j (source_step.CallComponent m.owner m.name count) of has in
      let (k, es, em) = component_call_back n p.tables s m count e in
      led j m k em (typed.of_component count (subst (typed.Has p h j) es here))
  calls_back d j _ of (source.of_object m at c x count has finds) =
      let (s, here, e) = has_of d j (source_step.CallMethod at c x count) of has in
      let (cn, sn, es, ec, ex) = object_call_back n p.tables s at c x count e in
      let here' : typed.Has p h j (step.CallMethod at cn sn count) = subst (typed.Has p h j) es here in
      let found = found_for n p tell good h κ heap j (step.CallMethod at cn sn count) (record { class = cn; selector = sn }) here' refl in
      let (k, em, f) = finds_by n p tell good h κ heap (record { class = cn; selector = sn }) c x m found ec ex
      (subst (λ q. source.Finds q at_names c x m) same finds) in
      led j m k em (typed.of_object at cn sn count here' f)
  calls_back d j _ of (source.by_delegate m at count ps r has delegates types) =
      let (s, here, e) = has_of d j (source_step.CallValue at count ps r) of has in
      let (f, es, eps, er) = value_call_back n p.tables s at count ps r e in
      let here' : typed.Has p h j (step.CallValue at count f) = subst (typed.Has p h j) es here in
      let function = value_function p.tables at count f (live_step p h good κ heap j here'.place _ here'.live here'.stands) in
      let (k, em, delegate) = delegates_back n p tell good h κ heap m (subst (λ q. source.HasDelegates q at_names m) same delegates) in
      let live = delegate_live p h good κ heap k delegate in
      let (y, ey) = live_method p h good κ heap k live in
      let (fps, fr) = typed_so m k y ps r ey live em types in
      let one = one_function f k y ey function (sym eps ∙ fps) (sym er ∙ fr) in
      led j m k em (typed.by_delegate at count y (subst (λ z. typed.Has p h j (step.CallValue at count z)) one here') ey delegate)

  -- ---- entries

  abbrev target_owner : source_step.Target → Name
  target_owner (source_step.Method c x) = c
  target_owner _ = []

  abbrev target_name : source_step.Target → Name
  target_name (source_step.Method c x) = x
  target_name _ = []

  entry_named : (m : MethodName) (k : ℕ) → source_step.Method m.owner m.name ≡ named_target n p.tables (Run k) → m ≡ name_of n k
  entry_named m k e = named_so m (n.method k).owner (n.method k).name (ap target_owner e) (ap target_name e)

  -- what an entry has is live
  pub entry_live : (k : ℕ) → IsEntry p k → Live p h (Some (Method k))
  entry_live k (inl e) =
      subst (λ z. Live p h (Some (Method z))) (sym e) (concluded p h good κ heap (Method p.main) 1 None None rules.main rules.none rules.none)
  entry_live k (inr (v, e)) =
      let (i, x, ex, ei) = handler_there p.handlers v k e in
      subst (λ z. Live p h (Some (Method z))) ei (concluded p h good κ heap (Method x.method) 2 None None (rules.entry i ex) rules.none rules.none)

  pub entry_back : (m : MethodName) → source.IsEntry text m → (k : ℕ) × IsOf m k × IsEntry p k
  entry_back m (inl e) = (
    p.main,
    (entry_named m p.main (sym e ∙ ap (λ q. q.main) same), entry_live p.main (inl refl)),
    inl refl,
  )
  entry_back m (inr (v, e)) =
      let (k, ek, et) = mapped (λ k. named_target n p.tables (Run k)) (session.handler_of p.handlers v) (source_step.Method m.owner m.name)
      (sym (handler_named n p tell good h κ heap p.handlers v) ∙ ap (λ q. source_state.handler_of q.handlers v) (sym same) ∙ e) in
      (k, (entry_named m k et, entry_live k (inr (v, ek))), inr (v, ek))

  pub one_of : (m : MethodName) (j k : ℕ) → IsOf m j → IsOf m k → j ≡ k
  one_of m j k (ej, a) (ek, b) = one_method n p tell good h κ heap j k a b (sym ej ∙ ek)
