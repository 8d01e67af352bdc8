-- The calls of a typed program are calls of its text.
use Rattle.std.proofs.Common.{◌≡◌, inl, inr, ℕ, ◌==◌, Bool, true, false, List, [], ◌∷◌, map, Option, Some, None, option_map, slice_get, if◌then◌else◌, refl, sym, ap, ◌∙◌, subst}
use Rattle.std.proofs.lemmas.Option.{slice_get-map}
use Rattle.vg_syntax.specs.Tree.{Node}
use Rattle.vg_source.specs.Names.{Name}
use Rattle.vg_source.specs.Program.{source_of}
use Rattle.vg_source.specs.Peak.{costs, cost_of}
use Rattle.vg_source.specs.Steps as source_step
use Rattle.vg_source.specs.State as source_state
use Rattle.vg_source.specs.Values as source_value
use Rattle.vg_core.specs.declared.member.Member.TheVariants.{Method, Cell}
use Rattle.vg_core.specs.declared.step.Step.{Step}
use Rattle.vg_core.specs.declared.step.Step.TheVariants as step
use Rattle.vg_core.specs.declared.heap.Heap.{Heap}
use Rattle.vg_core.specs.declared.program.Class.{Class}
use Rattle.vg_core.specs.declared.program.Handler.{Handler}
use Rattle.vg_core.specs.declared.program.Method as program
use Rattle.vg_core.specs.Tables.{above_in, is_in, is_below}
use Rattle.vg_core.specs.Program.{Program}
use Rattle.vg_core.specs.Session as session
use Rattle.vg_core.specs.Heap.{Kind, Place, OfComponent, OfObject, OfArray}
use Rattle.vg_core.specs.Naming.{Naming, named_step, named_heap, named_handler, named_target, naming_of, named, params_named, result_named, method_key}
use Rattle.vg_core.specs.declared.program.Target.TheVariants.{Run}
use Rattle.vg_core.specs.Typing.{WellTyped}
use Rattle.vg_sound.specs.Good.{TypedHeap}
use Rattle.vg_renamed.specs.NamesTell.{NamesTell}
use Rattle.vg_renamed.proofs.Named.{is_named}
use Rattle.vg_live.specs.Rules.{Live, holder, owner}
use Rattle.vg_live_source.specs.Making as making
use Rattle.vg_live_source.specs.Rules as source_rules
use Rattle.vg_live_named.proofs.Forth.{forth}
use Rattle.vg_live_named.proofs.Held.{named_place, value_forth, class_forth}
use Rattle.vg_live_named.proofs.Names.{step_forth, routine_there}
use Rattle.vg_live_named.proofs.There.{live_method}
use Rattle.vg_packed.specs.Uses as typed
use Rattle.vg_written.specs.Written.{AreWritten, named_method}
use Rattle.vg_calls_source.specs.Methods.{methods_of}
use Rattle.vg_calls_source.specs.Calls as source
use Rattle.vg_calls_source.specs.Bounds.{cost_at, method_cost}
use Rattle.vg_calls_packed.specs.Typed.{IsEntry}
use Rattle.vg_calls_named.specs.Names.{name_of}

class_of_below : (d : ℕ) (o : Option Class) → is_in (above_in o) d ≡ true → (k : Class) × (o ≡ Some k)
class_of_below d (Some k) e = (k, refl)
class_of_below d None e = absurd (let clash : is_in (above_in None) d ≡ true = e in cc)

module _ (n : Naming) (p : Program) (tell : NamesTell n p) (good : WellTyped p) (h : Heap) (κ : List Kind) (heap : TypedHeap p.tables κ h) where
  abbrev there : source_value.Heap
  there = named_heap n p.tables h

  live_forth : (m : ℕ) → Live p h (Some (Method m)) → source.IsLive (named n p) there (name_of n m)
  live_forth m a = forth n p tell good h κ heap (Some (Method m)) a

  has_forth : (m : ℕ) (s : Step) → typed.Has p h m s → source.Has (named n p) there (name_of n m) (named_step n p.tables s)
  has_forth m s has =
      let (y, ey) = live_method p h good κ heap m has.live in
      record { live = live_forth m has.live; place = has.place; stands = step_forth n p tell good m has.place y s ey has.stands }

  below_forth : (c d : ℕ) → is_below p.tables c d ≡ true → source_state.is_below (named n p) (n.class c) (n.class d) ≡ true
  below_forth c d e =
      let (k, ek) = class_of_below d (slice_get p.tables.classes c) e in
      let (l, el) = tell.above c d e in
      (is_named n p tell).below c d k l ek el ∙ e

  finds_forth : (c s k : ℕ) → typed.Finds p h c s k → source.Finds (named n p) there (n.class c) (n.selector s) (name_of n k)
  finds_forth c s k f = record {
    cell = f.cell;
    class = n.class f.class;
    live = forth n p tell good h κ heap (Some (Cell f.cell)) f.live;
    is = class_forth n p.tables tell.fields good.tables h f.cell f.class f.is;
    below = below_forth f.class c f.below;
    finds = (is_named n p tell).dispatches f.class s k f.finds;
    named = sym ((is_named n p tell).selectors f.class s k f.finds);
  }

  holder_forth : (x : Place) → Live p h (holder x) → source_rules.Live (named n p) there (source_rules.holder (named_place n p.tables x))
  holder_forth (OfComponent f) a = forth n p tell good h κ heap _ a
  holder_forth (OfObject k f) a = forth n p tell good h κ heap _ a
  holder_forth (OfArray k i) a = forth n p tell good h κ heap _ a

  owner_forth : (x : Place) → Live p h (owner x) → source_rules.Live (named n p) there (source_rules.owner (named_place n p.tables x))
  owner_forth (OfComponent f) a = forth n p tell good h κ heap _ a
  owner_forth (OfObject k f) a = forth n p tell good h κ heap _ a
  owner_forth (OfArray k i) a = forth n p tell good h κ heap _ a

  pub delegates_forth : (k : ℕ) → typed.HasDelegates p h k → source.HasDelegates (named n p) there (name_of n k)
  delegates_forth k (typed.of_component m has) = source.of_component (name_of n m) (name_of n k) (has_forth m _ has)
  delegates_forth k (typed.of_object m at c s has finds) =
      source.of_object (name_of n m) (name_of n k) at (n.class c) (n.selector s) (has_forth m _ has) (finds_forth c s k finds)
  delegates_forth k (typed.held x receiver a b e) =
      source.held (name_of n k) (named_place n p.tables x) receiver (holder_forth x a) (owner_forth x b)
      (value_forth n p.tables tell.fields good.tables h x _ e)

  -- ---- entries

  pub handler_named : (hs : List Handler) (v : ℕ)
      → source_state.handler_of (map (named_handler n p.tables) hs) v ≡ option_map (λ m. named_target n p.tables (Run m)) (session.handler_of hs v)
  handler_named [] v = refl
  handler_named (x ∷ hs) v = by (x.vector == v) (handler_named hs v)
    where
      by : (b : Bool)
          → source_state.handler_of (map (named_handler n p.tables) hs) v ≡ option_map (λ m. named_target n p.tables (Run m)) (session.handler_of hs v)
          → (if b then Some (named_target n p.tables (Run x.method)) else source_state.handler_of (map (named_handler n p.tables) hs) v)
          ≡ option_map (λ m. named_target n p.tables (Run m)) (if b then Some x.method else session.handler_of hs v)
      by true rest = refl
      by false rest = rest

  -- ---- costs

  number_named : (m : ℕ) (y : program.Method) → slice_get p.tables.methods m ≡ Some y
      → making.number_of (named n p) (n.method m).owner (n.method m).name ≡ Some m
  number_named m y ey =
      let (g, b, eb, er) = routine_there n p tell good m y ey in
      ap making.number_in er

module _ (texts : List Name) (text : Node) (p : Program) (same : source_of text ≡ named (naming_of texts p.tables) p) (good : WellTyped p)
    (tell : NamesTell (naming_of texts p.tables) p) (written : AreWritten texts text p.tables) (h : Heap) (κ : List Kind) (heap : TypedHeap p.tables κ h) where
  abbrev n : Naming
  n = naming_of texts p.tables

  -- the types of a method
  pub types_at : (k : ℕ) (y : program.Method) → slice_get p.tables.methods k ≡ Some y
      → slice_get (methods_of text) k ≡ Some (record {
        method = name_of n k;
        params = params_named n p.tables (slice_get p.tables.types y.function);
        result = result_named n p.tables (slice_get p.tables.types y.function);
      })
  types_at k y ey =
      ap (λ z. slice_get z k) (sym written.methods) ∙ slice_get-map (named_method texts p.tables) p.tables.methods k
      ∙ ap (option_map (named_method texts p.tables)) ey
      ∙ ap (λ o. Some (record {
        method = record { owner = (method_key texts p.tables o).owner; name = (method_key texts p.tables o).name };
        params = params_named n p.tables (slice_get p.tables.types y.function);
        result = result_named n p.tables (slice_get p.tables.types y.function);
      })) (sym ey)

  has_text : (m : ℕ) (s : Step) → typed.Has p h m s → source.Has (source_of text) (there n p tell good h κ heap) (name_of n m) (named_step n p.tables s)
  has_text m s has =
      subst (λ q. source.Has q (there n p tell good h κ heap) (name_of n m) (named_step n p.tables s)) (sym same) (has_forth n p tell good h κ heap m s has)

  pub calls_forth : (m k : ℕ) → typed.Calls p h m k → source.Calls text (there n p tell good h κ heap) (name_of n m) (name_of n k)
  calls_forth m k (typed.of_component count has) =
      source.of_component (name_of n k) count (has_text m (step.CallComponent k count) has)
  calls_forth m k (typed.of_object at c s count has finds) =
      source.of_object (name_of n k) at (n.class c) (n.selector s) count (has_text m (step.CallMethod at c s count) has)
      (subst (λ q. source.Finds q (there n p tell good h κ heap) (n.class c) (n.selector s) (name_of n k)) (sym same)
      (finds_forth n p tell good h κ heap c s k finds))
  calls_forth m k (typed.by_delegate at count y has ey delegates) =
      source.by_delegate (name_of n k) at count (params_named n p.tables (slice_get p.tables.types y.function))
      (result_named n p.tables (slice_get p.tables.types y.function))
      (has_text m (step.CallValue at count y.function) has)
      (subst (λ q. source.HasDelegates q (there n p tell good h κ heap) (name_of n k)) (sym same) (delegates_forth n p tell good h κ heap k delegates))
      (k, types_at k y ey)

  pub entry_forth : (m : ℕ) → IsEntry p m → source.IsEntry text (name_of n m)
  entry_forth m (inl e) =
      inl (ap (λ q. q.main) same ∙ ap (λ k. source_step.Method (n.method k).owner (n.method k).name) (sym e))
  entry_forth m (inr (v, e)) =
      inr (
        v,
        ap (λ q. source_state.handler_of q.handlers v) same ∙ handler_named n p tell good h κ heap p.handlers v
            ∙ ap (option_map (λ k. named_target n p.tables (Run k))) e,
      )

  pub cost_forth : (m : ℕ) → Live p h (Some (Method m)) → cost_of (costs text) m ≡ method_cost text (name_of n m)
  cost_forth m a =
      let (y, ey) = live_method p h good κ heap m a in
      sym (ap (cost_at (costs text)) (ap (λ q. making.number_of q (n.method m).owner (n.method m).name) same ∙ number_named n p tell good h κ heap m y ey))
