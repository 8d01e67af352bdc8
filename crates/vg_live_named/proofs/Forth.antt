-- What is live under numbers is live under names, by the same rules.
use Rattle.std.proofs.Common.{◌≡◌, ℕ, true, List, Option, Some, None, slice_get}
use Rattle.std.proofs.Common.{refl, ap, ◌∙◌, subst, option_map}
use Rattle.std.proofs.lemmas.Option.{slice_get-map}
use Rattle.vg_source.specs.State as source_state
use Rattle.vg_core.specs.declared.member.Member.{Member}
use Rattle.vg_core.specs.declared.member.Member.TheVariants.{Method}
use Rattle.vg_core.specs.declared.value.CoreValue.{CoreValue}
use Rattle.vg_core.specs.declared.step.Step.{Step}
use Rattle.vg_core.specs.declared.heap.Heap.{Heap}
use Rattle.vg_core.specs.declared.program.Class.{Class}
use Rattle.vg_core.specs.Tables.{above_in, is_in, is_below}
use Rattle.vg_core.specs.Program.{Program}
use Rattle.vg_core.specs.Heap.{Kind, Place, OfComponent, OfObject, OfArray, value_at}
use Rattle.vg_core.specs.Naming.{Naming, named_value, named_step, named_heap, named_handler, named}
use Rattle.vg_core.specs.Typing.{WellTyped}
use Rattle.vg_sound.specs.Good.{TypedHeap}
use Rattle.vg_renamed.specs.NamesTell.{NamesTell}
use Rattle.vg_renamed.proofs.Named.{is_named}
use Rattle.vg_live.specs.Uses.{steps_of}
use Rattle.vg_live.specs.Rules.{cell_in, Keeps, holder, owner, Rule, Live}
use Rattle.vg_live.specs.Rules as rules
use Rattle.vg_live_source.specs.Members as source
use Rattle.vg_live_source.specs.Uses as source_uses
use Rattle.vg_live_source.specs.Rules as source_rules
use Rattle.vg_live_named.specs.Members.{named_member, named_one}
use Rattle.vg_live_named.proofs.Names.{asked_named, method_named, component_same, asked_same, step_forth}
use Rattle.vg_live_named.proofs.Held.{named_place, cell_same, keeps_forth, value_forth, class_forth}
use Rattle.vg_live_named.proofs.There.{MethodThere, live_method}

module _ (n : Naming) (p : Program) (tell : NamesTell n p) (good : WellTyped p) (h : Heap) (κ : List Kind) (typed : TypedHeap p.tables κ h) where
  -- the rules under names
  abbrev pub RuleThere : source.Member → ℕ → Option source.Member → Option source.Member → Type 0
  RuleThere y k from also = source_rules.Rule (named n p) (named_heap n p.tables h) y k from also

  abbrev pub LiveThere : Option source.Member → Type 0
  LiveThere y = source_rules.Live (named n p) (named_heap n p.tables h) y

  -- a step of a live method
  live_forth : (m i : ℕ) (s : Step) → Live p h (Some (Method m)) → slice_get (steps_of p m) i ≡ Some s
      → slice_get (source_uses.steps_of (named n p) (n.method m).owner (n.method m).name) i ≡ Some (named_step n p.tables s)
  live_forth m i s a e = by (live_method p h good κ typed m a)
    where
      by : MethodThere p.tables m → slice_get (source_uses.steps_of (named n p) (n.method m).owner (n.method m).name) i ≡ Some (named_step n p.tables s)
      by (y, ey) = step_forth n p tell good m i y s ey e

  -- ---- classes

  class_of_below : (c d : ℕ) (o : Option Class) → is_in (above_in o) d ≡ true → (k : Class) × (o ≡ Some k)
  class_of_below c d (Some k) e = (k, refl)
  class_of_below c d None e = absurd (let clash : is_in (above_in None) d ≡ true = e in cc)

  below_forth : (c d : ℕ) → is_below p.tables c d ≡ true → source_state.is_below (named n p) (n.class c) (n.class d) ≡ true
  below_forth c d e = by (class_of_below c d (slice_get p.tables.classes c) e) (tell.above c d e)
    where
      by : ((k : Class) × (slice_get p.tables.classes c ≡ Some k)) → ((l : Class) × (slice_get p.tables.classes d ≡ Some l))
          → source_state.is_below (named n p) (n.class c) (n.class d) ≡ true
      by (k, ek) (l, el) = (is_named n p tell).below c d k l ek el ∙ e

  -- ---- rules

  holder_forth : (x : Place) → source_rules.holder (named_place n p.tables x) ≡ named_one n (holder x)
  holder_forth (OfComponent f) = refl
  holder_forth (OfObject k f) = refl
  holder_forth (OfArray k i) = refl

  owner_forth : (x : Place) → source_rules.owner (named_place n p.tables x) ≡ named_one n (owner x)
  owner_forth (OfComponent f) = refl
  owner_forth (OfObject k f) = refl
  owner_forth (OfArray k i) = refl

  held : (x : Place) (v : CoreValue) → value_at p.tables h x ≡ Some v
      → source.value_at (named_heap n p.tables h) (named_place n p.tables x) ≡ Some (named_value n p.tables v)
  held x v e = value_forth n p.tables tell.fields good.tables h x v e

  refers : (v : CoreValue) (k : ℕ) → cell_in v ≡ Some k → source_rules.cell_in (named_value n p.tables v) ≡ Some k
  refers v k e = cell_same n p.tables v ∙ e

  pub rule_forth : (y : Member) (k : ℕ) (from also : Option Member) → Rule p h y k from also → Live p h from
      → RuleThere (named_member n y) k (named_one n from) (named_one n also)
  rule_forth _ _ _ _ rules.main a = source_rules.main refl
  rule_forth _ _ _ _ (rules.entry i {e} q) a =
      source_rules.entry i (slice_get-map (named_handler n p.tables) p.handlers i ∙ ap (option_map (named_handler n p.tables)) q) refl
  rule_forth _ _ _ _ (rules.of_component i s {m} es q) a =
      source_rules.of_component i (named_step n p.tables s) (live_forth m i s a es) (component_same n p.tables s ∙ ap (option_map (method_named n p.tables)) q)
  rule_forth _ _ _ _ (rules.of_object i s x c {m} {k} {n = f} es q ec eb ed) a =
      subst (λ z. RuleThere (source.Method (n.method f).owner z) 4 (Some (source.Method (n.method m).owner (n.method m).name)) (Some (source.Cell k)))
      ((is_named n p tell).selectors c x.selector f ed)
      (source_rules.of_object i (named_step n p.tables s) (asked_named n p.tables x) (n.class c) (live_forth m i s a es)
      (asked_same n p.tables s ∙ ap (option_map (asked_named n p.tables)) q)
      (class_forth n p.tables tell.fields good.tables h k c ec) (below_forth c x.class eb) ((is_named n p tell).dispatches c x.selector f ed))
  rule_forth _ _ _ _ (rules.component_field i {m} {f} es) a = source_rules.component_field i (live_forth m i _ a es)
  rule_forth _ _ _ _ (rules.class_field i at {m} {f} es) a = source_rules.class_field i at (live_forth m i _ a es)
  rule_forth _ _ _ _ (rules.in_component v {f} {k} e q) a =
      source_rules.in_component (named_value n p.tables v) (held (OfComponent f) v e) (refers v k q)
  rule_forth _ _ _ _ (rules.in_delegate x v {y} e q) a =
      subst (λ z. RuleThere (named_member n y) 8 z (named_one n (owner x))) (holder_forth x)
      (subst (λ z. RuleThere (named_member n y) 8 (source_rules.holder (named_place n p.tables x)) z) (owner_forth x)
      (source_rules.in_delegate (named_place n p.tables x) (named_value n p.tables v) (held x v e) (keeps_forth n p.tables v y q)))
  rule_forth _ _ _ _ (rules.in_object v {f} {o} {k} e q) a =
      source_rules.in_object (named_value n p.tables v) (held (OfObject o f) v e) (refers v k q)
  rule_forth _ _ _ _ (rules.in_array i v {a = c} {k = k} e q) a =
      source_rules.in_array i (named_value n p.tables v) (held (OfArray c i) v e) (refers v k q)
  rule_forth _ _ _ _ (rules.literal i {m} {k} es) a = source_rules.literal i (live_forth m i _ a es)

  -- ---- what is live

  pub forth : (y : Option Member) → Live p h y → LiveThere (named_one n y)
  forth _ rules.none = source_rules.none
  forth _ (rules.by {y} {n = k} {from} {also} rule there a b) = source_rules.by (rule_forth y k from also rule a) (forth from a) (forth also b)
