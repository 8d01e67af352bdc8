-- The worked program is well typed and plain, and so is its heap.
use Rattle.std.proofs.Common.{◌≡◌, refl, sym, ap, subst, ◌∙◌, arith, ℕ, zero, suc, true, false, List, [], ◌∷◌, Some, slice_get, pos}
use Rattle.vg_core.specs.declared.types.CoreType.{CoreType}
use Rattle.vg_core.specs.declared.types.CoreType.TheVariants.{IntType, CharType, ClassType, NoType}
use Rattle.vg_core.specs.declared.value.CoreValue.TheVariants.{Int}
use Rattle.vg_core.specs.declared.step.Step.{Step}
use Rattle.vg_core.specs.declared.step.Step.TheVariants.{ComponentField, Field as FieldOf, Forget}
use Rattle.vg_core.specs.declared.program.Class.{Class}
use Rattle.vg_core.specs.declared.program.Method.{Method}
use Rattle.vg_core.specs.declared.program.Target.{Target}
use Rattle.vg_core.specs.declared.program.Target.TheVariants.{Run, Construct, Start}
use Rattle.vg_core.specs.Heap.{OfComponent, OfObject, OfArray}
use Rattle.vg_core.specs.Program.{Body, Signature, signature_of, body_of}
use Rattle.vg_core.specs.Tables.{is_below, top, dispatch, slot_of, global_slot}
use Rattle.vg_core.specs.Typing.{same, t_component_field, t_field, t_forget, t_new_object, t_set_component_field, TypedBody, Overrides, HasFunction, WellFormed}
use Rattle.vg_core.specs.Typing.{WellTyped}
use Rattle.vg_sound.specs.Good.{HasTypedHeap}
use Rattle.vg_sound.proofs.Values.{the_same, none_some}
use Rattle.vg_live.specs.Uses.{steps_of}
use Rattle.vg_packing.specs.Allowed.{IsSmall, AreSmall}
use Rattle.vg_packed.specs.Plain.{IsRanged, AreRanged, IsPlainStep, IsPlain}
use Rattle.vg_start_examples.specs.Worked.{program, heap, kinds}

false_true : {X : Type 0} → false ≡ true → X
false_true e = absurd (let clash : false ≡ true = e in cc)

trans : (c d e : ℕ) → is_below program.tables c d ≡ true → is_below program.tables d e ≡ true → is_below program.tables c e ≡ true
trans zero zero e a b = b
trans zero (suc d) e a b = false_true b
trans (suc c) d e a b = false_true a

one_top : (c d : ℕ) → is_below program.tables c d ≡ true → top program.tables c ≡ top program.tables d
one_top zero zero a = refl
one_top zero (suc d) a = absurd (not_below d a)
  where
    not_below : (d : ℕ) → is_below program.tables 0 (suc d) ≡ true → ⊥
    not_below d e = grind arith
one_top (suc c) d a = false_true a

itself : (c : ℕ) (k : Class) → slice_get program.tables.classes c ≡ Some k → is_below program.tables c c ≡ true
itself zero k e = refl
itself (suc c) k e = none_some k e

-- the fields of the class, and those of components
abbrev own : List ℕ
own = 0 ∷ []

abbrev shared : List ℕ
shared = 1 ∷ []

slot_to : (i f : ℕ) → slice_get own i ≡ Some f → slot_of program.tables 0 f ≡ Some i
slot_to zero f e = subst (λ z. slot_of program.tables 0 z ≡ Some 0) (the_same _ _ e) refl
slot_to (suc i) f e = none_some f e

slot_from : (i f : ℕ) → slot_of program.tables 0 f ≡ Some i → slice_get own i ≡ Some f
slot_from i zero e = subst (λ z. slice_get own z ≡ Some 0) (the_same _ _ e) refl
slot_from i (suc zero) e = none_some i e
slot_from i (suc (suc f)) e = none_some i e

slots : (c i f : ℕ) (k : Class) → slice_get program.tables.classes c ≡ Some k
    → (slice_get k.fields i ≡ Some f → slot_of program.tables c f ≡ Some i) × (slot_of program.tables c f ≡ Some i → slice_get k.fields i ≡ Some f)
slots zero i f k e =
    subst (λ z. (slice_get z.fields i ≡ Some f → slot_of program.tables 0 f ≡ Some i) × (slot_of program.tables 0 f ≡ Some i → slice_get z.fields i ≡ Some f))
    (the_same _ _ e) (slot_to i f, slot_from i f)
slots (suc c) i f k e = none_some k e

global_to : (i f : ℕ) → slice_get shared i ≡ Some f → global_slot program.tables f ≡ Some i
global_to zero f e = subst (λ z. global_slot program.tables z ≡ Some 0) (the_same _ _ e) refl
global_to (suc i) f e = none_some f e

global_from : (i f : ℕ) → global_slot program.tables f ≡ Some i → slice_get shared i ≡ Some f
global_from i zero e = none_some i e
global_from i (suc zero) e = subst (λ z. slice_get shared z ≡ Some 1) (the_same _ _ e) refl
global_from i (suc (suc f)) e = none_some i e

overrides : (c d s m : ℕ) (y : Method) → is_below program.tables c d ≡ true → dispatch program.tables d s ≡ Some m
    → slice_get program.tables.methods m ≡ Some y → Overrides program.tables c s y
overrides c zero s m y a b e = none_some m b
overrides c (suc d) s m y a b e = none_some m b

functions : (m : ℕ) (y : Method) → slice_get program.tables.methods m ≡ Some y → HasFunction program.tables y
functions zero y e = subst (HasFunction program.tables) (the_same _ _ e) (1, 1, refl, refl, refl)
functions (suc m) y e = none_some y e

-- the number of a type among the three
abbrev number_of : CoreType → ℕ
number_of CharType = 0
number_of NoType = 1
number_of _ = 2

numbered : (i : ℕ) (t : CoreType) → slice_get program.tables.types i ≡ Some t → i ≡ number_of t
numbered zero t e = ap number_of (the_same _ _ e)
numbered (suc zero) t e = ap number_of (the_same _ _ e)
numbered (suc (suc zero)) t e = ap number_of (the_same _ _ e)
numbered (suc (suc (suc i))) t e = none_some t e

formed : WellFormed program.tables
formed = record {
  itself = itself;
  trans = trans;
  one_top = one_top;
  slots = slots;
  global_slots = λ i f. (global_to i f, global_from i f);
  overrides = overrides;
  functions = functions;
  one_number = λ i j t a b. numbered i t a ∙ sym (numbered j t b);
  char_type = refl;
}

abbrev HasBody : Target → Signature → Type 0
HasBody t g = (b : Body) × (body_of program t ≡ Some b) × TypedBody program.tables g b

bodies : (t : Target) (g : Signature) → signature_of program.tables t ≡ Some g → HasBody t g
bodies (Run zero) g e =
    subst (HasBody (Run 0)) (the_same _ _ e)
    (_, refl, (ClassType 0 ∷ [], t_component_field _ refl refl, (IntType ∷ [], t_field _ refl refl refl, t_forget)))
bodies (Run (suc m)) g e = none_some g e
bodies (Construct zero) g e = subst (HasBody (Construct 0)) (the_same _ _ e) (_, refl, refl)
bodies (Construct (suc c)) g e = none_some g e
bodies (Start zero) g e =
    subst (HasBody (Start 0)) (the_same _ _ e)
    (_, refl, (ClassType 0 ∷ [], t_new_object _ [] refl tt, t_set_component_field _ refl refl same))
bodies (Start (suc k)) g e = none_some g e

pub typed : WellTyped program
typed = record {
  tables = formed;
  bodies = bodies;
  main = record { method = _; component = 0; is = refl; owner = refl; params = refl };
  handlers = tt;
}

pub typed_heap : HasTypedHeap program.tables heap
typed_heap = (
  kinds,
  record {
    cells = ((refl, _, refl, ((_, refl, tt), tt)), tt);
    globals = ((_, refl, (0, refl, refl)), tt);
    literals = λ k bytes e. none_some bytes e;
  },
)

pub ranged : AreRanged program.tables heap
ranged (OfComponent zero) v e = none_some v e
ranged (OfComponent (suc zero)) v e = subst IsRanged (the_same _ _ e) tt
ranged (OfComponent (suc (suc f))) v e = none_some v e
ranged (OfObject zero zero) v e = subst IsRanged (the_same (Int (pos 0)) v e) (omega arith)
ranged (OfObject zero (suc zero)) v e = none_some v e
ranged (OfObject zero (suc (suc f))) v e = none_some v e
ranged (OfObject (suc j) f) v e = none_some v e
ranged (OfArray zero i) v e = none_some v e
ranged (OfArray (suc j) i) v e = none_some v e

plain_steps : (m i : ℕ) (s : Step) → slice_get (steps_of program m) i ≡ Some s → IsPlainStep s
plain_steps zero zero s e = subst IsPlainStep (the_same (ComponentField 1) s e) tt
plain_steps zero (suc zero) s e = subst IsPlainStep (the_same (FieldOf 8 0) s e) tt
plain_steps zero (suc (suc zero)) s e = subst IsPlainStep (the_same Forget s e) tt
plain_steps zero (suc (suc (suc i))) s e = none_some s e
plain_steps (suc m) i s e = none_some s e

plain_locals : (m : ℕ) (b : Body) → slice_get program.methods m ≡ Some b → AreSmall b.others
plain_locals zero b e = subst (λ z. AreSmall z.others) (the_same _ _ e) tt
plain_locals (suc m) b e = none_some b e

plain_results : (m : ℕ) (y : Method) → slice_get program.tables.methods m ≡ Some y → IsSmall y.result
plain_results zero y e = subst (λ z. IsSmall z.result) (the_same _ _ e) tt
plain_results (suc m) y e = none_some y e

pub plain : IsPlain program
plain = record { steps = plain_steps; locals = plain_locals; results = plain_results }
