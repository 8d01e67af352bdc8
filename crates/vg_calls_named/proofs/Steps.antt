-- Steps that call methods or name them as values, under numbers and under names.
use Rattle.std.proofs.Common.{◌≡◌, ℕ, Option, Some, None, option_map, slice_get, refl, sym, ap, ◌∙◌}
use Rattle.vg_source.specs.Names.{Name}
use Rattle.vg_source.specs.Types.{StaticType}
use Rattle.vg_source.specs.Steps as source
use Rattle.vg_core.specs.declared.step.Step.{Step}
use Rattle.vg_core.specs.declared.step.Step.TheVariants as step
use Rattle.vg_core.specs.declared.program.Tables.{Tables}
use Rattle.vg_core.specs.Naming.{Naming, named_step, params_named, result_named}
use Rattle.vg_sound.proofs.Values.{the_same, none_some}
use Rattle.vg_live_named.proofs.Names.{mapped}
use Rattle.vg_calls_source.specs.Methods.{MethodName}
use Rattle.vg_calls_named.specs.Names.{name_of}

-- a method and a number
abbrev component_call : Step → Option (ℕ × ℕ)
component_call (step.CallComponent m count) = Some (m, count)
component_call _ = None

abbrev source_component_call : source.Step → Option (MethodName × ℕ)
source_component_call (source.CallComponent c x count) = Some (record { owner = c; name = x }, count)
source_component_call _ = None

-- a node, a class, a name and a number
abbrev object_call : Step → Option (ℕ × ℕ × ℕ × ℕ)
object_call (step.CallMethod at c s count) = Some (at, c, s, count)
object_call _ = None

abbrev source_object_call : source.Step → Option (ℕ × Name × Name × ℕ)
source_object_call (source.CallMethod at c x count) = Some (at, c, x, count)
source_object_call _ = None

-- a node, a number and a function type
abbrev pub value_call : Step → Option (ℕ × ℕ × ℕ)
value_call (step.CallValue at count f) = Some (at, count, f)
value_call _ = None

abbrev source_value_call : source.Step → Option (ℕ × ℕ × StaticType × StaticType)
source_value_call (source.CallValue at count ps r) = Some (at, count, ps, r)
source_value_call _ = None

abbrev component_value : Step → Option ℕ
component_value (step.ComponentMethod m) = Some m
component_value _ = None

abbrev source_component_value : source.Step → Option MethodName
source_component_value (source.ComponentMethod c x) = Some (record { owner = c; name = x })
source_component_value _ = None

abbrev object_value : Step → Option (ℕ × ℕ × ℕ)
object_value (step.MethodOf at c s) = Some (at, c, s)
object_value _ = None

abbrev source_object_value : source.Step → Option (ℕ × Name × Name)
source_object_value (source.MethodOf at c x) = Some (at, c, x)
source_object_value _ = None

module _ (n : Naming) (p : Tables) where
  -- ---- what is read of a step under its names is what is read of it, under its names

  component_call_same : (s : Step) → source_component_call (named_step n p s) ≡ option_map (λ z. (name_of n z.0, z.1)) (component_call s)
  component_call_same (step.CallComponent m count) = refl
  component_call_same _ = refl

  object_call_same : (s : Step) → source_object_call (named_step n p s) ≡ option_map (λ z. (z.0, n.class z.1, n.selector z.2, z.3)) (object_call s)
  object_call_same (step.CallMethod at c s count) = refl
  object_call_same _ = refl

  abbrev types_of : ℕ × ℕ × ℕ → ℕ × ℕ × StaticType × StaticType
  types_of z = (z.0, z.1, params_named n p (slice_get p.types z.2), result_named n p (slice_get p.types z.2))

  value_call_same : (s : Step) → source_value_call (named_step n p s) ≡ option_map types_of (value_call s)
  value_call_same (step.CallValue at count f) = refl
  value_call_same _ = refl

  component_value_same : (s : Step) → source_component_value (named_step n p s) ≡ option_map (name_of n) (component_value s)
  component_value_same (step.ComponentMethod m) = refl
  component_value_same _ = refl

  object_value_same : (s : Step) → source_object_value (named_step n p s) ≡ option_map (λ z. (z.0, n.class z.1, n.selector z.2)) (object_value s)
  object_value_same (step.MethodOf at c s) = refl
  object_value_same _ = refl

-- ---- a step of which this is read is that step

is_component_call : (s : Step) (z : ℕ × ℕ) → component_call s ≡ Some z → s ≡ step.CallComponent z.0 z.1
is_component_call (step.CallComponent m count) z e = ap (λ (w : ℕ × ℕ). step.CallComponent w.0 w.1) (the_same _ _ e)
is_component_call _ z e = none_some z e

is_object_call : (s : Step) (z : ℕ × ℕ × ℕ × ℕ) → object_call s ≡ Some z → s ≡ step.CallMethod z.0 z.1 z.2 z.3
is_object_call (step.CallMethod at c x count) z e = ap (λ (w : ℕ × ℕ × ℕ × ℕ). step.CallMethod w.0 w.1 w.2 w.3) (the_same _ _ e)
is_object_call _ z e = none_some z e

is_value_call : (s : Step) (z : ℕ × ℕ × ℕ) → value_call s ≡ Some z → s ≡ step.CallValue z.0 z.1 z.2
is_value_call (step.CallValue at count f) z e = ap (λ (w : ℕ × ℕ × ℕ). step.CallValue w.0 w.1 w.2) (the_same _ _ e)
is_value_call _ z e = none_some z e

is_component_value : (s : Step) (m : ℕ) → component_value s ≡ Some m → s ≡ step.ComponentMethod m
is_component_value (step.ComponentMethod k) m e = ap step.ComponentMethod (the_same _ _ e)
is_component_value _ m e = none_some m e

is_object_value : (s : Step) (z : ℕ × ℕ × ℕ) → object_value s ≡ Some z → s ≡ step.MethodOf z.0 z.1 z.2
is_object_value (step.MethodOf at c x) z e = ap (λ (w : ℕ × ℕ × ℕ). step.MethodOf w.0 w.1 w.2) (the_same _ _ e)
is_object_value _ z e = none_some z e

-- ---- steps by their names

module _ (n : Naming) (p : Tables) where
  pub component_call_back : (s : Step) (m : MethodName) (count : ℕ) → source.CallComponent m.owner m.name count ≡ named_step n p s
      → (k : ℕ) × (s ≡ step.CallComponent k count) × (m ≡ name_of n k)
  component_call_back s m count e =
      let (z, es, same) = mapped (λ z. (name_of n z.0, z.1)) (component_call s) (m, count) (sym (component_call_same n p s) ∙ ap source_component_call (sym e)) in (
        z.0,
        is_component_call s z es ∙ ap (step.CallComponent z.0) (sym (ap (λ (w : MethodName × ℕ). w.1) same)),
        ap (λ (w : MethodName × ℕ). w.0) same,
      )

  pub object_call_back : (s : Step) (at : ℕ) (c x : Name) (count : ℕ) → source.CallMethod at c x count ≡ named_step n p s
      → (d k : ℕ) × (s ≡ step.CallMethod at d k count) × (c ≡ n.class d) × (x ≡ n.selector k)
  object_call_back s at c x count e =
      let (z, es, same) = mapped (λ z. (z.0, n.class z.1, n.selector z.2, z.3)) (object_call s) (at, c, x, count)
      (sym (object_call_same n p s) ∙ ap source_object_call (sym e)) in (
        z.1,
        z.2,
        is_object_call s z es ∙ ap (λ w. step.CallMethod w z.1 z.2 z.3) (sym (ap (λ (w : ℕ × Name × Name × ℕ). w.0) same))
            ∙ ap (step.CallMethod at z.1 z.2) (sym (ap (λ (w : ℕ × Name × Name × ℕ). w.3) same)),
        ap (λ (w : ℕ × Name × Name × ℕ). w.1) same,
        ap (λ (w : ℕ × Name × Name × ℕ). w.2) same,
      )

  pub value_call_back : (s : Step) (at count : ℕ) (ps r : StaticType) → source.CallValue at count ps r ≡ named_step n p s
      → (f : ℕ) × (s ≡ step.CallValue at count f) × (ps ≡ params_named n p (slice_get p.types f)) × (r ≡ result_named n p (slice_get p.types f))
  value_call_back s at count ps r e =
      let (z, es, same) = mapped (types_of n p) (value_call s) (at, count, ps, r) (sym (value_call_same n p s) ∙ ap source_value_call (sym e)) in (
        z.2,
        is_value_call s z es ∙ ap (λ w. step.CallValue w z.1 z.2) (sym (ap (λ (w : ℕ × ℕ × StaticType × StaticType). w.0) same))
            ∙ ap (λ w. step.CallValue at w z.2) (sym (ap (λ (w : ℕ × ℕ × StaticType × StaticType). w.1) same)),
        ap (λ (w : ℕ × ℕ × StaticType × StaticType). w.2) same,
        ap (λ (w : ℕ × ℕ × StaticType × StaticType). w.3) same,
      )

  pub component_value_back : (s : Step) (m : MethodName) → source.ComponentMethod m.owner m.name ≡ named_step n p s
      → (k : ℕ) × (s ≡ step.ComponentMethod k) × (m ≡ name_of n k)
  component_value_back s m e =
      let (k, es, same) = mapped (name_of n) (component_value s) m (sym (component_value_same n p s) ∙ ap source_component_value (sym e)) in
      (k, is_component_value s k es, same)

  pub object_value_back : (s : Step) (at : ℕ) (c x : Name) → source.MethodOf at c x ≡ named_step n p s
      → (d k : ℕ) × (s ≡ step.MethodOf at d k) × (c ≡ n.class d) × (x ≡ n.selector k)
  object_value_back s at c x e =
      let (z, es, same) = mapped (λ z. (z.0, n.class z.1, n.selector z.2)) (object_value s) (at, c, x)
      (sym (object_value_same n p s) ∙ ap source_object_value (sym e)) in (
        z.1,
        z.2,
        is_object_value s z es ∙ ap (λ w. step.MethodOf w z.1 z.2) (sym (ap (λ (w : ℕ × Name × Name). w.0) same)),
        ap (λ (w : ℕ × Name × Name). w.1) same,
        ap (λ (w : ℕ × Name × Name). w.2) same,
      )
