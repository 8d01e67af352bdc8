-- What packing needs of ranges.
use Rattle.std.proofs.Common.{◌≡◌, refl, sym, ap, ◌∙◌, ℕ, ◌<◌, List, Option, Some, None, option_map, slice_get}
use Rattle.std.proofs.lemmas.Option.{slice_get-map}
use Rattle.vg_core.specs.declared.heap.Cell.{Cell}
use Rattle.vg_core.specs.declared.heap.Cell.TheVariants.{Object, Array}
use Rattle.vg_core.specs.declared.heap.Heap.{Heap}
use Rattle.vg_core.specs.declared.member.Member.TheVariants as member
use Rattle.vg_core.specs.declared.program.Target.TheVariants.{Run}
use Rattle.vg_core.specs.declared.step.Step.{Step}
use Rattle.vg_core.specs.declared.step.Step.TheVariants.{Put, Literal, This, Local, ComponentField, Register, ComponentMethod, Apply, Operate, CastTo}
use Rattle.vg_core.specs.declared.step.Step.TheVariants.{IsBelow, Field as FieldOf, Item, Length, MethodOf, CallMethod, CallValue, CallComponent}
use Rattle.vg_core.specs.declared.step.Step.TheVariants.{NewObject, NewArray, SetLocal, SetComponentField, SetRegister, SetField, SetItem, Forget, Super}
use Rattle.vg_core.specs.Heap.{ObjectOf, ArrayOf, kind_of}
use Rattle.vg_core.specs.Program.{Body, Program, method_signature}
use Rattle.vg_core.specs.Session.{Started, started}
use Rattle.vg_core.specs.Typing.{WellFormed}
use Rattle.vg_live.specs.Rules.{Live}
use Rattle.vg_live.specs.Uses.{steps_in, steps_of}
use Rattle.vg_number.specs.Numbering.{kinds_of}
use Rattle.vg_placement.specs.Columns.{column_width}
use Rattle.vg_packed.specs.Plain.{IsPlainStep, IsPlain, AreRanged}
use Rattle.vg_reach.specs.Reaches.{made_in}
use Rattle.vg_packed.specs.Given.{HaveWidth}
use Rattle.vg_packed.specs.Ready.{IsReady}
use Rattle.vg_packed.specs.Ranges.{IsRangedStep, HaveRanges}
use Rattle.vg_packed.proofs.Ranged.{cell_get}
use Rattle.vg_packed.proofs.Storing.{place_ranged}
use Rattle.vg_packed.proofs.Runs.{started_kept}

module _ (p : Program) (ranges : HaveRanges p) where
  plain_step : (s : Step) → IsRangedStep p.tables s → ((c count : ℕ) → s ≡ Super c count → ⊥) → IsPlainStep s
  plain_step (Put v) a n = a
  plain_step (CastTo at t u) a n = a
  plain_step (Super c count) a n = n c count refl
  plain_step (Literal k) a n = tt
  plain_step This a n = tt
  plain_step (Local k) a n = tt
  plain_step (ComponentField f) a n = tt
  plain_step (Register r) a n = tt
  plain_step (ComponentMethod m) a n = tt
  plain_step (Apply op t) a n = tt
  plain_step (Operate at op t u) a n = tt
  plain_step (IsBelow c) a n = tt
  plain_step (FieldOf at f) a n = tt
  plain_step (Item at t) a n = tt
  plain_step (Length at t) a n = tt
  plain_step (MethodOf at c s) a n = tt
  plain_step (CallMethod at c s count) a n = tt
  plain_step (CallValue at count t) a n = tt
  plain_step (CallComponent m count) a n = tt
  plain_step (NewObject at c count) a n = tt
  plain_step (NewArray at t) a n = tt
  plain_step (SetLocal k t) a n = tt
  plain_step (SetComponentField f) a n = tt
  plain_step (SetRegister r) a n = tt
  plain_step (SetField at f) a n = tt
  plain_step (SetItem at t) a n = tt
  plain_step Forget a n = tt

  its_step : (m i : ℕ) (s : Step) → slice_get (steps_of p m) i ≡ Some s → IsRangedStep p.tables s
  its_step m i s e = by (slice_get p.methods m) refl e
    where
      by : (o : Option Body) → slice_get p.methods m ≡ o → slice_get (steps_in o) i ≡ Some s → IsRangedStep p.tables s
      by None q h = absurd (let clash : None ≡ Some s = h in cc)
      by (Some b) q h = ranges.steps (Run m) b i s q h

  pub is_plain : IsPlain p
  is_plain =
      record {
        steps = λ m i s e. plain_step s (its_step m i s e) (λ c count q. ranges.constructors m i c count (e ∙ ap Some q));
        locals = λ m b e. ranges.others (Run m) b e;
        results = λ m y e. ranges.results (Run m) _ (ap method_signature e);
      }

  module _ (formed : WellFormed p.tables) (clock : ℕ) (h : Heap) (starts : started p clock ≡ Started h) where
    pub scalars : AreRanged p.tables h
    scalars x v e = let k = started_kept p formed ranges clock h starts in place_ranged p.tables h k.0 k.1 x v e

    pub elements : HaveWidth p.tables (kinds_of h)
    elements j t size e ek ee = by (slice_get h.cells j) refl (sym (slice_get-map kind_of h.cells j) ∙ ek)
      where
        one_type : (a b m n : ℕ) → ArrayOf a m ≡ ArrayOf b n → a ≡ b
        one_type a b m n q = cc

        by : (o : Option Cell) → slice_get h.cells j ≡ o → option_map kind_of o ≡ Some (ArrayOf t size) → 0 < column_width e
        by None ec q = absurd (let clash : None ≡ Some (ArrayOf t size) = q in cc)
        by (Some (Object c vs)) ec q = absurd (let clash : Some (ObjectOf c) ≡ Some (ArrayOf t size) = q in cc)
        by (Some (Array u vs)) ec q =
            let w = (cell_get p.tables h.cells j (Array u vs) (started_kept p formed ranges clock h starts).0 ec).2 in
            (w e (ap (slice_get p.tables.types) (same u vs q) ∙ ee)).1
          where
            same : (a : ℕ) (us : List _) → option_map kind_of (Some (Array a us)) ≡ Some (ArrayOf t size) → a ≡ t
            same a us z = cc

    pub is_ready : ((m : ℕ) → Live p h (Some (member.Method m)) → made_in p m ≡ None) → IsReady p h
    is_ready makes =
        record { plain = is_plain; ranged = scalars; wide = ranges.wide; few_arguments = ranges.few_arguments; makes_nothing = makes }
