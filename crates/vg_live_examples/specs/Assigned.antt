-- A field that is only assigned is dead, and the field of a component that is read is live.
use Rattle.std.proofs.Common.{◌≡◌, refl, ap, arith, ℕ, zero, suc, ◌+◌, List, [], ◌∷◌, Option, Some, None, slice_get}
use Rattle.std.specs.Prelude.{pos}
use Rattle.vg_meaning.specs.Code.{Nothing, Then, Do}
use Rattle.vg_core.specs.declared.types.CoreType.TheVariants.{IntType, CharType, ClassType, FunctionType, NoType}
use Rattle.vg_core.specs.declared.value.CoreValue.TheVariants.{Int}
use Rattle.vg_core.specs.declared.member.Member.{Member}
use Rattle.vg_core.specs.declared.member.Member.TheVariants.{Method, Field, Cell}
use Rattle.vg_core.specs.declared.heap.Heap.{Heap}
use Rattle.vg_core.specs.declared.step.Step.{Step}
use Rattle.vg_core.specs.declared.step.Step.TheVariants.{Put, ComponentField, SetField, Field as FieldOf}
use Rattle.vg_core.specs.declared.program.Owner.TheVariants.{InClass, InComponent}
use Rattle.vg_core.specs.declared.program.Target.TheVariants.{Run, Construct, Start}
use Rattle.vg_core.specs.Program.{Program}
use Rattle.vg_core.specs.Session.{started, Started, first_heap}
use Rattle.vg_live.specs.Uses.{steps_of}
use Rattle.vg_live.specs.Rules.{Rule, main, entry, of_component, of_object, component_field, class_field, in_component, in_delegate, in_object, in_array, literal, Keeps, method, receiver, Live, none, by, IsThere, InSet}
use Rattle.vg_live.specs.Least.{least}

--   class A { field log: int; }
--   component Main { field a: A; method main() { a.log = 5; } }
--   program P { entry main = Main.main; }
abbrev pub assigned : Program
assigned = record {
  tables = record {
    classes = record { name = 0; above = 0 ∷ []; fields = 0 ∷ []; methods = []; params = [] } ∷ [];
    components = 2 ∷ [];
    fields = record { name = 1; owner = InClass 0; type_ = IntType; slot = 0 } ∷ record { name = 3; owner = InComponent 0; type_ = ClassType 0; slot = 0 } ∷ [];
    globals = 1 ∷ [];
    methods = record { name = 4; owner = InComponent 0; selector = 0; function = 2; params = []; result = NoType; nodes = 5 } ∷ [];
    targets = Construct 0 ∷ Start 0 ∷ Run 0 ∷ [];
    types = CharType ∷ NoType ∷ FunctionType 1 1 ∷ [];
    literals = [];
    char_type = 0;
  };
  methods = record { others = []; code = Then (Do (ComponentField 1)) (Then (Do (Put (Int (pos 5)))) (Then (Do (SetField 9 0)) Nothing)) } ∷ [];
  makings = record { others = []; code = Nothing } ∷ [];
  starts = record { others = []; code = Nothing } ∷ [];
  main = 0;
  handlers = [];
}

-- The heap that its constructors leave.
abbrev pub heap : Heap
heap = first_heap assigned

started_so : started assigned 1000 ≡ Started heap
started_so = refl

main_live : Live assigned heap (Some (Method 0))
main_live = by main (omega arith) none none

-- `a`, by rule 5 from `main`
pub a_live : Live assigned heap (Some (Field 1))
a_live = by (component_field 0 refl) (omega arith) main_live none

-- ---- `log` is dead

-- one more than the number of the field that a step reads
abbrev read_in : Option Step → ℕ
read_in (Some (ComponentField f)) = suc f
read_in (Some (FieldOf at f)) = suc f
read_in _ = 0

not_read : (m i : ℕ) → read_in (slice_get (steps_of assigned m) i) ≡ 1 → ⊥
not_read zero zero e = omega (arith, e)
not_read zero (suc zero) e = omega (arith, e)
not_read zero (suc (suc zero)) e = omega (arith, e)
not_read zero (suc (suc (suc i))) e = omega (arith, e)
not_read (suc m) i e = omega (arith, e)

-- all members but `log`
abbrev Others : Member → Type 0
Others (Method m) = Unit {0}
Others (Field zero) = ⊥
Others (Field (suc f)) = Unit {0}
Others (Cell k) = Unit {0}

read_others : (f m i : ℕ) → read_in (slice_get (steps_of assigned m) i) ≡ suc f → Others (Field f)
read_others zero m i e = not_read m i e
read_others (suc f) m i e = tt

kept_others : (v : _) (y : Member) → Keeps v y → Others y
kept_others _ _ method = tt
kept_others _ _ receiver = tt

closed : (y : Member) (n : ℕ) (from also : Option Member) → Rule assigned heap y n from also → IsThere assigned heap y
    → InSet Others from → InSet Others also → Others y
closed _ _ _ _ main t a b = tt
closed _ _ _ _ (entry i e) t a b = tt
closed _ _ _ _ (of_component i s e f) t a b = tt
closed _ _ _ _ (of_object i s x c e f g h k) t a b = tt
closed _ _ _ _ (component_field i {m} {f} e) t a b = read_others f m i (ap read_in e)
closed _ _ _ _ (class_field i at {m} {f} e) t a b = read_others f m i (ap read_in e)
closed _ _ _ _ (in_component v e c) t a b = tt
closed _ _ _ _ (in_delegate x v {y} e k) t a b = kept_others v y k
closed _ _ _ _ (in_object v e c) t a b = tt
closed _ _ _ _ (in_array i v e c) t a b = tt
closed _ _ _ _ (literal i e) t a b = tt

pub log_dead : Live assigned heap (Some (Field 0)) → ⊥
log_dead live = least assigned heap Others closed (Some (Field 0)) live
