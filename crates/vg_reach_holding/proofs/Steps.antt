-- What a step makes live by itself is live by a rule.
use Rattle.std.proofs.Common.{◌≡◌, ℕ, Option, Some, None, slice_get, refl, sym, subst, ◌∙◌}
use Rattle.std.proofs.lemmas.Option.{same_Some, none-some}
use Rattle.vg_core.specs.declared.member.Member.TheVariants.{Method}
use Rattle.vg_core.specs.declared.step.Step.{Step}
use Rattle.vg_core.specs.declared.step.Step.TheVariants.{Put, Literal, This, Local, ComponentField, Register, ComponentMethod, Apply, Operate}
use Rattle.vg_core.specs.declared.step.Step.TheVariants.{CastTo, IsBelow, Field as FieldOf, Item, Length, MethodOf, CallMethod, CallValue, CallComponent}
use Rattle.vg_core.specs.declared.step.Step.TheVariants.{NewObject, NewArray, SetLocal, SetComponentField, SetRegister, SetField, SetItem, Forget, Super}
use Rattle.vg_core.specs.declared.heap.Heap.{Heap}
use Rattle.vg_core.specs.Program.{Program}
use Rattle.vg_live.specs.Uses.{steps_of}
use Rattle.vg_live.specs.Rules.{Rule, of_component, component_field, class_field, literal}
use Rattle.vg_reach_marks.specs.Marked.{Marked}
use Rattle.vg_reach_marks.specs.Growing.{Draws, Drawn}
use Rattle.vg_reach_marks.proofs.Marking.{stays}
use Rattle.vg_reach_holding.specs.declared.naming.Named.{Named}
use Rattle.vg_reach_holding.specs.Done.{named_by, NamesAll}

named_rule : (p : Program) (h : Heap) (m i : ℕ) (s : Step) (y : Named) → slice_get (steps_of p m) i ≡ Some s → named_by s ≡ Some y
    → Rule p h y.member y.rule (Some (Method m)) None
named_rule p h o i (Put v) y g e = absurd (none-some y e)
named_rule p h o i (Literal k) y g e = subst (λ z. Rule p h z.member z.rule (Some (Method o)) None) (same_Some _ y e) (literal i g)
named_rule p h o i This y g e = absurd (none-some y e)
named_rule p h o i (Local k) y g e = absurd (none-some y e)
named_rule p h o i (ComponentField f) y g e = subst (λ z. Rule p h z.member z.rule (Some (Method o)) None) (same_Some _ y e) (component_field i g)
named_rule p h o i (Register a) y g e = absurd (none-some y e)
named_rule p h o i (ComponentMethod m) y g e = subst (λ z. Rule p h z.member z.rule (Some (Method o)) None) (same_Some _ y e) (of_component i (ComponentMethod m) g refl)
named_rule p h o i (Apply op t) y g e = absurd (none-some y e)
named_rule p h o i (Operate at op t u) y g e = absurd (none-some y e)
named_rule p h o i (CastTo at t u) y g e = absurd (none-some y e)
named_rule p h o i (IsBelow c) y g e = absurd (none-some y e)
named_rule p h o i (FieldOf at f) y g e = subst (λ z. Rule p h z.member z.rule (Some (Method o)) None) (same_Some _ y e) (class_field i at g)
named_rule p h o i (Item at t) y g e = absurd (none-some y e)
named_rule p h o i (Length at t) y g e = absurd (none-some y e)
named_rule p h o i (MethodOf at c s) y g e = absurd (none-some y e)
named_rule p h o i (CallMethod at c s count) y g e = absurd (none-some y e)
named_rule p h o i (CallValue at count t) y g e = absurd (none-some y e)
named_rule p h o i (CallComponent m count) y g e = subst (λ z. Rule p h z.member z.rule (Some (Method o)) None) (same_Some _ y e) (of_component i (CallComponent m count) g refl)
named_rule p h o i (NewObject at c count) y g e = absurd (none-some y e)
named_rule p h o i (NewArray at t) y g e = absurd (none-some y e)
named_rule p h o i (SetLocal k t) y g e = absurd (none-some y e)
named_rule p h o i (SetComponentField f) y g e = absurd (none-some y e)
named_rule p h o i (SetRegister a) y g e = absurd (none-some y e)
named_rule p h o i (SetField at f) y g e = absurd (none-some y e)
named_rule p h o i (SetItem at t) y g e = absurd (none-some y e)
named_rule p h o i Forget y g e = absurd (none-some y e)
named_rule p h o i (Super c count) y g e = absurd (none-some y e)

pub names_one : (a b : Marked) (m : ℕ) (s : Step) (y : Named) → named_by s ≡ Some y → Draws a b y.member y.rule (Some (Method m)) None → NamesAll a b m s
names_one a b m s y e d p h i q im g =
    let z = d p h q (named_rule p h m i s y g e) im tt in (z.0, λ x f. subst (λ u. Drawn p h b u.member) (same_Some y x (sym e ∙ f)) z.1)

pub names_nothing : (a : Marked) (m : ℕ) (s : Step) → named_by s ≡ None → NamesAll a a m s
names_nothing a m s e p h i q im g = (stays p h a q, λ y f. absurd (none-some y (sym e ∙ f)))
