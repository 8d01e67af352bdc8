-- The steps of a method under numbers and under names.
use Rattle.std.proofs.Common.{◌≡◌, ℕ, ◌++◌, map, Option, Some, None, option_map, slice_get}
use Rattle.std.proofs.Common.{refl, sym, ap, ◌∙◌}
use Rattle.std.proofs.lemmas.List.{map-append}
use Rattle.std.proofs.lemmas.Option.{slice_get-map}
use Rattle.vg_meaning.specs.Code.{Code, Nothing, Then, Do, If, Loop, Break, Continue, Return}
use Rattle.vg_source.specs.Names.{Name}
use Rattle.vg_source.specs.Steps as source_step
use Rattle.vg_source.specs.State as source_state
use Rattle.vg_core.specs.declared.step.Step.{Step}
use Rattle.vg_core.specs.declared.step.Step.TheVariants as step
use Rattle.vg_core.specs.declared.program.Method.{Method}
use Rattle.vg_core.specs.declared.program.Target.TheVariants.{Run}
use Rattle.vg_core.specs.declared.program.Tables.{Tables}
use Rattle.vg_core.specs.Program.{Body, Program, Signature, signature_of}
use Rattle.vg_core.specs.Naming.{Naming, named_step, named_code, named_routine, named}
use Rattle.vg_core.specs.Typing.{TypedBody, WellTyped}
use Rattle.vg_sound.proofs.Values.{the_same, none_some}
use Rattle.vg_renamed.specs.NamesTell.{NamesTell}
use Rattle.vg_renamed.proofs.Named.{is_named}
use Rattle.vg_live.specs.Uses.{uses, steps_in, steps_of, component_method, Asked, asked, made_at}
use Rattle.vg_live_source.specs.Members as source
use Rattle.vg_live_source.specs.Uses as source_uses
use Rattle.vg_live_named.proofs.Steps.{method_body}

-- what was mapped
pub mapped : {A B : Type 0} (f : A → B) (o : Option A) (b : B) → option_map f o ≡ Some b → (a : A) × (o ≡ Some a) × (b ≡ f a)
mapped f (Some a) b e = (a, refl, sym (the_same _ _ e))
mapped f None b e = none_some b e

module _ (n : Naming) (p : Tables) where
  uses_named : (c : Code Step) → source_uses.uses (named_code n p c) ≡ map (named_step n p) (uses c)
  uses_named Nothing = refl
  uses_named (Then a b) = ap (λ z. z ++ source_uses.uses (named_code n p b)) (uses_named a) ∙ (ap (λ z. map (named_step n p) (uses a) ++ z) (uses_named b)
      ∙ sym (map-append (named_step n p) (uses a) (uses b)))
  uses_named (Do s) = refl
  uses_named (If a b) = ap (λ z. z ++ source_uses.uses (named_code n p b)) (uses_named a) ∙ (ap (λ z. map (named_step n p) (uses a) ++ z) (uses_named b)
      ∙ sym (map-append (named_step n p) (uses a) (uses b)))
  uses_named (Loop a b c) =
      ap (λ z. z ++ source_uses.uses (named_code n p b) ++ source_uses.uses (named_code n p c)) (uses_named a)
      ∙ (ap (λ z. map (named_step n p) (uses a) ++ z ++ source_uses.uses (named_code n p c)) (uses_named b)
      ∙ (ap (λ z. z ++ source_uses.uses (named_code n p c)) (sym (map-append (named_step n p) (uses a) (uses b)))
      ∙ (ap (λ z. map (named_step n p) (uses a ++ uses b) ++ z) (uses_named c)
      ∙ sym (map-append (named_step n p) (uses a ++ uses b) (uses c)))))
  uses_named Break = refl
  uses_named Continue = refl
  uses_named Return = refl

  -- what a step calls or names, under its names
  abbrev pub asked_named : Asked → source_uses.Asked
  asked_named x = record { class = n.class x.class; name = n.selector x.selector }

  abbrev pub method_named : ℕ → source.Member
  method_named m = source.Method (n.method m).owner (n.method m).name

  pub component_same : (s : Step) → source_uses.component_method (named_step n p s) ≡ option_map method_named (component_method s)
  component_same (step.CallComponent m count) = refl
  component_same (step.ComponentMethod m) = refl
  component_same _ = refl

  pub asked_same : (s : Step) → source_uses.asked (named_step n p s) ≡ option_map asked_named (asked s)
  asked_same (step.CallMethod at c x count) = refl
  asked_same (step.MethodOf at c x) = refl
  asked_same _ = refl

  pub made_same : (s : Step) → source_uses.made_at (named_step n p s) ≡ made_at s
  made_same (step.NewObject at c count) = refl
  made_same (step.NewArray at t) = refl
  made_same _ = refl

  -- ---- what a step reads

  -- the field of a component
  abbrev pub global_read : Step → Option ℕ
  global_read (step.ComponentField f) = Some f
  global_read _ = None

  abbrev pub source_global_read : source_step.Step → Option source.Member
  source_global_read (source_step.ComponentField c f) = Some (source.Field c f)
  source_global_read _ = None

  -- the node and the field of a class
  pub record Read : Type 0 where
    pub at : ℕ
    pub field : ℕ

  pub record SourceRead : Type 0 where
    pub at : ℕ
    pub field : source.Member

  abbrev pub field_read : Step → Option Read
  field_read (step.Field at f) = Some (record { at = at; field = f })
  field_read _ = None

  abbrev pub source_field_read : source_step.Step → Option SourceRead
  source_field_read (source_step.Field at c f) = Some (record { at = at; field = source.Field c f })
  source_field_read _ = None

  -- the literal
  abbrev pub literal_used : Step → Option ℕ
  literal_used (step.Literal k) = Some k
  literal_used _ = None

  abbrev pub source_literal_used : source_step.Step → Option ℕ
  source_literal_used (source_step.Literal k) = Some k
  source_literal_used _ = None

  abbrev pub read_named : Read → SourceRead
  read_named r = record { at = r.at; field = source.Field (n.field r.field).owner (n.field r.field).name }

  abbrev pub field_named : ℕ → source.Member
  field_named f = source.Field (n.field f).owner (n.field f).name

  global_same : (s : Step) → source_global_read (named_step n p s) ≡ option_map field_named (global_read s)
  global_same (step.ComponentField f) = refl
  global_same _ = refl

  field_same : (s : Step) → source_field_read (named_step n p s) ≡ option_map read_named (field_read s)
  field_same (step.Field at f) = refl
  field_same _ = refl

  literal_same : (s : Step) → source_literal_used (named_step n p s) ≡ literal_used s
  literal_same (step.Literal k) = refl
  literal_same _ = refl

  is_global : (s : Step) (f : ℕ) → global_read s ≡ Some f → s ≡ step.ComponentField f
  is_global (step.ComponentField g) f e = ap step.ComponentField (the_same _ _ e)
  is_global _ f e = none_some f e

  is_field : (s : Step) (r : Read) → field_read s ≡ Some r → s ≡ step.Field r.at r.field
  is_field (step.Field at f) r e = ap (λ z. step.Field z.at z.field) (the_same _ _ e)
  is_field _ r e = none_some r e

  is_literal : (s : Step) (k : ℕ) → literal_used s ≡ Some k → s ≡ step.Literal k
  is_literal (step.Literal j) k e = ap step.Literal (the_same _ _ e)
  is_literal _ k e = none_some k e

  -- a step whose named form reads a field of a component
  pub global_back : (s : Step) (c f : Name) → source_step.ComponentField c f ≡ named_step n p s
      → (g : ℕ) × (s ≡ step.ComponentField g) × (source.Field c f ≡ field_named g)
  global_back s c f e = by (mapped field_named (global_read s) (source.Field c f) (sym (global_same s) ∙ ap source_global_read (sym e)))
    where
      by : ((g : ℕ) × (global_read s ≡ Some g) × (source.Field c f ≡ field_named g))
          → (g : ℕ) × (s ≡ step.ComponentField g) × (source.Field c f ≡ field_named g)
      by (g, eg, q) = (g, is_global s g eg, q)

  abbrev source_read : ℕ → Name → Name → SourceRead
  source_read at c f = record { at = at; field = source.Field c f }

  pub field_back : (s : Step) (at : ℕ) (c f : Name) → source_step.Field at c f ≡ named_step n p s
      → (g : ℕ) × (s ≡ step.Field at g) × (source.Field c f ≡ field_named g)
  field_back s at c f e = by (mapped read_named (field_read s) (source_read at c f) (sym (field_same s) ∙ ap source_field_read (sym e)))
    where
      by : ((r : Read) × (field_read s ≡ Some r) × (source_read at c f ≡ read_named r))
          → (g : ℕ) × (s ≡ step.Field at g) × (source.Field c f ≡ field_named g)
      by (r, er, q) =
          (r.field, is_field s r er ∙ ap (λ z. step.Field z r.field) (sym (ap (λ (z : SourceRead). z.at) q)), ap (λ (z : SourceRead). z.field) q)

  pub literal_back : (s : Step) (k : ℕ) → source_step.Literal k ≡ named_step n p s → s ≡ step.Literal k
  literal_back s k e = is_literal s k (sym (literal_same s) ∙ ap source_literal_used (sym e))

module _ (n : Naming) (p : Program) (tell : NamesTell n p) (good : WellTyped p) where
  -- the routine of a method
  pub routine_there : (m : ℕ) (y : Method) → slice_get p.tables.methods m ≡ Some y
      → (g : Signature) × (b : Body) × (slice_get p.methods m ≡ Some b)
      × (source_state.find_routine (named n p).routines (source_step.Method (n.method m).owner (n.method m).name)
      ≡ Some (named_routine n p.tables (Run m) g b))
  routine_there m y e = by (method_body p good m y e)
    where
      by : ((g : Signature) × (b : Body) × (signature_of p.tables (Run m) ≡ Some g) × (slice_get p.methods m ≡ Some b) × TypedBody p.tables g b)
          → (g : Signature) × (b : Body) × (slice_get p.methods m ≡ Some b)
          × (source_state.find_routine (named n p).routines (source_step.Method (n.method m).owner (n.method m).name)
          ≡ Some (named_routine n p.tables (Run m) g b))
      by (g, b, eg, eb, t) = (g, b, eb, (is_named n p tell).routines (Run m) g b eg eb)

  -- its steps
  pub steps_named : (m : ℕ) (y : Method) → slice_get p.tables.methods m ≡ Some y
      → source_uses.steps_of (named n p) (n.method m).owner (n.method m).name ≡ map (named_step n p.tables) (steps_of p m)
  steps_named m y e = by (routine_there m y e)
    where
      by : ((g : Signature) × (b : Body) × (slice_get p.methods m ≡ Some b)
          × (source_state.find_routine (named n p).routines (source_step.Method (n.method m).owner (n.method m).name)
          ≡ Some (named_routine n p.tables (Run m) g b)))
          → source_uses.steps_of (named n p) (n.method m).owner (n.method m).name ≡ map (named_step n p.tables) (steps_of p m)
      by (g, b, eb, er) = ap source_uses.steps_in er ∙ (uses_named n p.tables b.code ∙ ap (λ z. map (named_step n p.tables) (steps_in z)) (sym eb))

  pub step_forth : (m i : ℕ) (y : Method) (s : Step) → slice_get p.tables.methods m ≡ Some y → slice_get (steps_of p m) i ≡ Some s
      → slice_get (source_uses.steps_of (named n p) (n.method m).owner (n.method m).name) i ≡ Some (named_step n p.tables s)
  step_forth m i y s e q =
      ap (λ z. slice_get z i) (steps_named m y e) ∙ (slice_get-map (named_step n p.tables) (steps_of p m) i ∙ ap (option_map (named_step n p.tables)) q)

  pub step_back : (m i : ℕ) (y : Method) (t : source_step.Step) → slice_get p.tables.methods m ≡ Some y
      → slice_get (source_uses.steps_of (named n p) (n.method m).owner (n.method m).name) i ≡ Some t
      → (s : Step) × (slice_get (steps_of p m) i ≡ Some s) × (t ≡ named_step n p.tables s)
  step_back m i y t e q = mapped (named_step n p.tables) (slice_get (steps_of p m) i) t
      (sym (slice_get-map (named_step n p.tables) (steps_of p m) i) ∙ (ap (λ z. slice_get z i) (sym (steps_named m y e)) ∙ q))
