-- The arguments of calls.
use Rattle.std.proofs.Common.{◌≡◌, refl, ap, arith, ℕ, suc, ◌+◌, ◌≤◌, List, [], ◌∷◌, length, Option, Some, None, slice_get}
use Rattle.vg_syntax.specs.Tree.{Node}
use Rattle.vg_source.specs.Program.{source_of}
use Rattle.vg_rules.specs.Refusal.{refusal_of}
use Rattle.vg_core.specs.declared.types.CoreType.{CoreType}
use Rattle.vg_core.specs.declared.program.Method.{Method}
use Rattle.vg_core.specs.declared.program.Owner.{Owner}
use Rattle.vg_core.specs.declared.program.Tables.{Tables}
use Rattle.vg_core.specs.declared.program.Target.{Target}
use Rattle.vg_core.specs.declared.program.Target.TheVariants.{Run}
use Rattle.vg_core.specs.declared.step.Step.{Step}
use Rattle.vg_core.specs.Naming.{Naming}
use Rattle.vg_core.specs.Naming as naming
use Rattle.vg_core.specs.Program.{Body, Program, Signature, signature_of, body_of, method_signature}
use Rattle.vg_core.specs.State.{onto}
use Rattle.vg_core.specs.Typing.{Subs, Takes, WellTyped, t_call_method, t_call_component}
use Rattle.vg_renamed.specs.NamesTell.{NamesTell}
use Rattle.vg_live.specs.Uses.{steps_in, steps_of}
use Rattle.vg_live_named.proofs.Steps.{StepTyped, step_typed}
use Rattle.vg_text_limits.specs.Calls.{IsShortCall}
use Rattle.vg_text_limits.proofs.Parameters.{few_parameters}

as_many : (p : Tables) (us ts : List CoreType) → Subs p us ts → length us ≡ length ts
as_many p [] [] h = refl
as_many p (u ∷ us) (t ∷ ts) (a, h) = ap suc (as_many p us ts h)
as_many p [] (t ∷ ts) h = absurd h
as_many p (u ∷ us) [] h = absurd h

turned : (ts us : List CoreType) → length (onto ts us) ≡ length ts + length us
turned [] us = omega arith
turned (t ∷ ts) us = let h = turned ts (t ∷ us) in omega (arith, h)

module _ (p : Tables) (few : (m : ℕ) (y : Method) → slice_get p.methods m ≡ Some y → length y.params ≤ 60) where
  short : (m : ℕ) (y : Method) (us : List CoreType) → slice_get p.methods m ≡ Some y → Subs p us (onto y.params []) → length us ≤ 60
  short m y us e h =
      let a = as_many p us (onto y.params []) h in
      let b = turned y.params [] in
      let c = few m y e in omega (arith, a, b, c)

  taken : (ts : List CoreType) (o : Owner) (s : Step) (x y : List CoreType) → Takes p ts o s x y → IsShortCall s
  taken ts o _ _ _ (t_call_method m y us ed e h) = short m y us e h
  taken ts o _ _ _ (t_call_component y us e eo h) = short _ y us e h
  taken ts o _ _ _ _ = tt

module _ (text : Node) (n : Naming) (p : Program) (legal : refusal_of text ≡ None) (is : source_of text ≡ naming.named n p) (told : NamesTell n p)
    (good : WellTyped p) (called : (t : Target) (b : Body) → body_of p t ≡ Some b → (g : Signature) × (signature_of p.tables t ≡ Some g)) where
  few : (m : ℕ) (y : Method) → slice_get p.tables.methods m ≡ Some y → length y.params ≤ 60
  few m y e = few_parameters text n p legal is told (Run m) _ (ap method_signature e)

  its_method : (m : ℕ) (g : Signature) → signature_of p.tables (Run m) ≡ Some g → (y : Method) × (slice_get p.tables.methods m ≡ Some y)
  its_method m g e = by (slice_get p.tables.methods m) refl e
    where
      by : (o : Option Method) → slice_get p.tables.methods m ≡ o → method_signature o ≡ Some g → (y : Method) × (slice_get p.tables.methods m ≡ Some y)
      by None q h = absurd (let clash : None ≡ Some g = h in cc)
      by (Some y) q h = (y, q)

  pub calls_are_short : (m i : ℕ) (s : Step) → slice_get (steps_of p m) i ≡ Some s → IsShortCall s
  calls_are_short m i s e = by (slice_get p.methods m) refl e
    where
      at : (y : Method) → slice_get p.tables.methods m ≡ Some y → StepTyped p.tables s → IsShortCall s
      at y ey (ts, o, (x, z, t)) = taken p.tables few ts o s x z t

      by : (o : Option Body) → slice_get p.methods m ≡ o → slice_get (steps_in o) i ≡ Some s → IsShortCall s
      by None q h = absurd (let clash : None ≡ Some s = h in cc)
      by (Some b) q h =
          let g = called (Run m) b q in
          let y = its_method m g.0 g.1 in at y.0 y.1 (step_typed p good m i y.0 s y.1 e)
