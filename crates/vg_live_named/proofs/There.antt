-- Each rule with live premises concludes a member that is there.
use Rattle.std.proofs.Common.{◌≡◌, ℕ, zero, suc, true, List, [], ◌∷◌, length, Option, Some, slice_get}
use Rattle.std.proofs.Common.{sym, ap, ◌∙◌, subst}
use Rattle.std.specs.Prelude.{◌<◌}
use Rattle.std.proofs.lemmas.Option.{slice_get_within}
use Rattle.vg_core.specs.declared.member.Member.{Member}
use Rattle.vg_core.specs.declared.member.Member.TheVariants.{Method, Field}
use Rattle.vg_core.specs.declared.types.CoreType.{CoreType}
use Rattle.vg_core.specs.declared.types.CoreType.TheVariants.{ClassType, ArrayType, FunctionType}
use Rattle.vg_core.specs.declared.value.CoreValue.{CoreValue}
use Rattle.vg_core.specs.declared.value.CoreValue.TheVariants.{Int, Bool as Truth, Char, Raw, Null, Obj, Arr, Bound}
use Rattle.vg_core.specs.declared.step.Step.{Step}
use Rattle.vg_core.specs.declared.step.Step.TheVariants.{Literal, ComponentField, Field as FieldOf}
use Rattle.vg_core.specs.declared.heap.Heap.{Heap}
use Rattle.vg_core.specs.declared.program.Owner.{Owner}
use Rattle.vg_core.specs.declared.program.Owner.TheVariants.{InClass, InComponent}
use Rattle.vg_core.specs.declared.program.Method as program
use Rattle.vg_core.specs.declared.program.Field as field
use Rattle.vg_core.specs.declared.program.Handler.{Handler}
use Rattle.vg_core.specs.declared.program.Tables.{Tables}
use Rattle.vg_core.specs.Tables.{is_below, dispatch}
use Rattle.vg_core.specs.Program.{Program}
use Rattle.vg_core.specs.Heap.{Kind, Place, OfComponent, OfObject, OfArray, value_at}
use Rattle.vg_core.specs.Types.{IsDelegate, ReceiverOf, HasType}
use Rattle.vg_core.specs.Typing.{Takes, t_literal, t_component_field, t_component_method, t_field, t_method_of, t_call_method, t_call_component}
use Rattle.vg_core.specs.Typing.{Overrides, IsEntry, AreEntries, WellTyped}
use Rattle.vg_sound.specs.Good.{TypedHeap}
use Rattle.vg_sound.proofs.Values.{the_same, none_some}
use Rattle.vg_live.specs.Uses.{steps_of, component_method, Asked, asked}
use Rattle.vg_live.specs.Rules.{cell_in, Keeps, Rule, IsThere, Live}
use Rattle.vg_live.specs.Rules as rules
use Rattle.vg_live_named.proofs.Steps.{within, StepTyped, step_typed}
use Rattle.vg_live_named.proofs.Cells.{value_typed, object_there, array_there}

module _ (p : Tables) where
  -- ---- what typed steps name

  -- a method that is there
  abbrev pub MethodThere : ℕ → Type 0
  MethodThere m = (y : program.Method) × (slice_get p.methods m ≡ Some y)

  abbrev pub FieldThere : ℕ → Type 0
  FieldThere f = (y : field.Field) × (slice_get p.fields f ≡ Some y)

  -- the method that objects of a static class find
  abbrev pub MethodFound : Asked → Type 0
  MethodFound x = (m : ℕ) × (y : program.Method) × (dispatch p x.class x.selector ≡ Some m) × (slice_get p.methods m ≡ Some y)

  module _ (ts : List CoreType) (o : Owner) where
    component_typed : (s : Step) (x y : List CoreType) (m : ℕ) → Takes p ts o s x y → component_method s ≡ Some m → MethodThere m
    component_typed _ _ _ m (t_component_method y e o' f) q = (y, ap (slice_get p.methods) (sym (the_same _ _ q)) ∙ e)
    component_typed _ _ _ m (t_call_component y us e o' f) q = (y, ap (slice_get p.methods) (sym (the_same _ _ q)) ∙ e)
    component_typed _ _ _ m _ q = none_some m q

    asked_typed : (s : Step) (x y : List CoreType) (a : Asked) → Takes p ts o s x y → asked s ≡ Some a → MethodFound a
    asked_typed _ _ _ a (t_method_of m y ed e f) q = subst MethodFound (the_same _ _ q) (m, y, ed, e)
    asked_typed _ _ _ a (t_call_method m y us ed e f) q = subst MethodFound (the_same _ _ q) (m, y, ed, e)
    asked_typed _ _ _ a _ q = none_some a q

    global_typed : (x y : List CoreType) (f : ℕ) → Takes p ts o (ComponentField f) x y → FieldThere f
    global_typed _ _ f (t_component_field y e o') = (y, e)

    field_typed : (x y : List CoreType) (at f : ℕ) → Takes p ts o (FieldOf at f) x y → FieldThere f
    field_typed _ _ at f (t_field y e o' b) = (y, e)

    literal_typed : (x y : List CoreType) (k : ℕ) → Takes p ts o (Literal k) x y → (bytes : List ℕ) × (slice_get p.literals k ≡ Some bytes)
    literal_typed _ _ k (t_literal bytes e) = (bytes, e)

  pub component_there : (s : Step) (m : ℕ) → StepTyped p s → component_method s ≡ Some m → MethodThere m
  component_there s m (ts, o, (x, y, t)) q = component_typed ts o s x y m t q

  pub asked_there : (s : Step) (a : Asked) → StepTyped p s → asked s ≡ Some a → MethodFound a
  asked_there s a (ts, o, (x, y, t)) q = asked_typed ts o s x y a t q

  pub global_there : (f : ℕ) → StepTyped p (ComponentField f) → FieldThere f
  global_there f (ts, o, (x, y, t)) = global_typed ts o x y f t

  pub field_there : (at f : ℕ) → StepTyped p (FieldOf at f) → FieldThere f
  field_there at f (ts, o, (x, y, t)) = field_typed ts o x y at f t

  pub literal_there : (k : ℕ) → StepTyped p (Literal k) → (bytes : List ℕ) × (slice_get p.literals k ≡ Some bytes)
  literal_there k (ts, o, (x, y, t)) = literal_typed ts o x y k t

  -- ---- what typed values refer to

  module _ (κ : List Kind) (h : Heap) (typed : TypedHeap p κ h) where
    pub cell_there : (v : CoreValue) (t : CoreType) (k : ℕ) → HasType p κ v t → cell_in v ≡ Some k → k < length h.cells
    cell_there (Obj j) (ClassType d) k a q = subst (λ z. z < length h.cells) (the_same _ _ q) (object_there p κ h typed j d a)
    cell_there (Arr j) (ArrayType t) k (n, a) q = subst (λ z. z < length h.cells) (the_same _ _ q) (array_there p κ h typed j t n a)
    cell_there (Int j) t k a q = none_some k q
    cell_there (Truth j) t k a q = none_some k q
    cell_there (Char j) t k a q = none_some k q
    cell_there (Raw i j) t k a q = none_some k q
    cell_there Null t k a q = none_some k q
    cell_there (Bound r m) t k a q = none_some k q
    cell_there (Obj j) _ k a q = absurd a
    cell_there (Arr j) _ k a q = absurd a

    delegate_of : (r : Option ℕ) (m : ℕ) (t : CoreType) → HasType p κ (Bound r m) t → (ps u : ℕ) × IsDelegate p κ r m ps u
    delegate_of r m (FunctionType ps u) a = (ps, u, a)
    delegate_of r m _ a = absurd a

    pub bound_there : (r : Option ℕ) (m : ℕ) (t : CoreType) → HasType p κ (Bound r m) t → MethodThere m
    bound_there r m t a = by (delegate_of r m t a)
      where
        by : ((ps u : ℕ) × IsDelegate p κ r m ps u) → MethodThere m
        by (ps, u, (x, ex, f, b)) = (x, ex)

    pub receiver_there : (k m : ℕ) (t : CoreType) → HasType p κ (Bound (Some k) m) t → k < length h.cells
    receiver_there k m t a = by (delegate_of (Some k) m t a)
      where
        of_owner : (o : Owner) → ReceiverOf p κ (Some k) o → k < length h.cells
        of_owner (InClass d) b = object_there p κ h typed k d b
        of_owner (InComponent d) b = absurd b

        by : ((ps u : ℕ) × IsDelegate p κ (Some k) m ps u) → k < length h.cells
        by (ps, u, (x, ex, f, b)) = of_owner x.owner b

-- a handler's method is an entry
entry_at : (p : Program) (hs : List Handler) (i : ℕ) (e : Handler) → AreEntries p hs → slice_get hs i ≡ Some e → IsEntry p e.method
entry_at p [] i e a q = none_some e q
entry_at p (x ∷ hs) zero e (a, b) q = subst (λ z. IsEntry p z.method) (the_same _ _ q) a
entry_at p (x ∷ hs) (suc i) e (a, b) q = entry_at p hs i e b q

module _ (p : Program) (h : Heap) (good : WellTyped p) (κ : List Kind) (typed : TypedHeap p.tables κ h) where
  -- a live method is there
  pub live_method : (m : ℕ) → Live p h (Some (Method m)) → MethodThere p.tables m
  live_method m (rules.by rule there a b) = within p.tables.methods m there

  pub live_field : (f : ℕ) → Live p h (Some (Field f)) → FieldThere p.tables f
  live_field f (rules.by rule there a b) = within p.tables.fields f there

  -- the steps of a live method are typed
  pub live_step : (m i : ℕ) (s : Step) → Live p h (Some (Method m)) → slice_get (steps_of p m) i ≡ Some s → StepTyped p.tables s
  live_step m i s a e = by (live_method m a)
    where
      by : MethodThere p.tables m → StepTyped p.tables s
      by (y, ey) = step_typed p good m i y s ey e

  -- what an object finds for a method name that is typed on a static class
  pub object_finds : (c : ℕ) (x : Asked) → is_below p.tables c x.class ≡ true → MethodFound p.tables x → (n : ℕ) × (dispatch p.tables c x.selector ≡ Some n)
      × MethodThere p.tables n
  object_finds c x b (m, y, ed, e) = by (good.tables.overrides c x.class x.selector m y b ed e)
    where
      by : Overrides p.tables c x.selector y → (n : ℕ) × (dispatch p.tables c x.selector ≡ Some n) × MethodThere p.tables n
      by (n, d, z, en, ez, f, o, q) = (n, en, (z, ez))

  method_below : (m : ℕ) → MethodThere p.tables m → m < length p.tables.methods
  method_below m (y, e) = slice_get_within p.tables.methods m y e

  field_below : (f : ℕ) → FieldThere p.tables f → f < length p.tables.fields
  field_below f (y, e) = slice_get_within p.tables.fields f y e

  held_there : (x : Place) (v : CoreValue) (k : ℕ) → value_at p.tables h x ≡ Some v → cell_in v ≡ Some k → k < length h.cells
  held_there x v k e q = by (value_typed p.tables κ h typed x v e)
    where
      by : ((t : CoreType) × HasType p.tables κ v t) → k < length h.cells
      by (t, a) = cell_there p.tables κ h typed v t k a q

  kept_there : (v : CoreValue) (y : Member) → ((t : CoreType) × HasType p.tables κ v t) → Keeps v y → IsThere p h y
  kept_there _ _ (t, a) (rules.method {r} {m}) = method_below m (bound_there p.tables κ h typed r m t a)
  kept_there _ _ (t, a) (rules.receiver {k} {m}) = receiver_there p.tables κ h typed k m t a

  pub there : (y : Member) (n : ℕ) (from also : Option Member) → Rule p h y n from also → Live p h from → Live p h also → IsThere p h y
  there _ _ _ _ rules.main a b = slice_get_within p.tables.methods p.main _ good.main.is
  there _ _ _ _ (rules.entry i {e} q) a b = slice_get_within p.tables.methods e.method _ (entry_at p p.handlers i e good.handlers q).is
  there _ _ _ _ (rules.of_component i s {m} {n} es q) a b = method_below n (component_there p.tables s n (live_step m i s a es) q)
  there _ _ _ _ (rules.of_object i s x c {m} {k} {n} es q ec eb ed) a b =
      by (object_finds c x eb (asked_there p.tables s x (live_step m i s a es) q))
    where
      by : ((n' : ℕ) × (dispatch p.tables c x.selector ≡ Some n') × MethodThere p.tables n') → n < length p.tables.methods
      by (n', e', t) = subst (λ z. z < length p.tables.methods) (the_same _ _ (sym e' ∙ ed)) (method_below n' t)
  there _ _ _ _ (rules.component_field i {m} {f} es) a b = field_below f (global_there p.tables f (live_step m i _ a es))
  there _ _ _ _ (rules.class_field i at {m} {f} es) a b = field_below f (field_there p.tables at f (live_step m i _ a es))
  there _ _ _ _ (rules.in_component v {f} {k} e q) a b = held_there (OfComponent f) v k e q
  there _ _ _ _ (rules.in_delegate x v {y} e q) a b = kept_there v y (value_typed p.tables κ h typed x v e) q
  there _ _ _ _ (rules.in_object v {f} {o} {k} e q) a b = held_there (OfObject o f) v k e q
  there _ _ _ _ (rules.in_array i v {a = c} {k = k} e q) a b = held_there (OfArray c i) v k e q
  there _ _ _ _ (rules.literal i {m} {k} es) a b = by (literal_there p.tables k (live_step m i _ a es))
    where
      by : ((bytes : List ℕ) × (slice_get p.tables.literals k ≡ Some bytes)) → k < length h.cells
      by (bytes, e) = array_there p.tables κ h typed k _ _ (typed.literals k bytes e)
