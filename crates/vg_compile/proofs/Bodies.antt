-- The packed form of steps that name the chip alone does so.
use Rattle.std.proofs.Common.{◌≡◌, refl, ℕ, zero, suc, Bool, true, false, nat_lt, if◌then◌else◌, List, [], ◌∷◌, ◌++◌, Option, Some, None}
use Rattle.std.proofs.Common.{slice_get}
use Rattle.std.specs.List.{AllByRecursion}
use Rattle.vg_meaning.specs.Code.{Code, Nothing, Then, Do, If, Loop, Break, Continue, Return, replaced}
use Rattle.vg_codes.specs.Codes.{Codes}
use Rattle.vg_core.specs.declared.types.CoreType.{CoreType}
use Rattle.vg_core.specs.declared.types.CoreType.TheVariants.{IntType, CharType, RawType, ClassType}
use Rattle.vg_core.specs.declared.operator.Prefix.{Prefix}
use Rattle.vg_core.specs.declared.program.Method.{Method}
use Rattle.vg_core.specs.declared.program.Tables.{Tables}
use Rattle.vg_core.specs.declared.step.Step.{Step}
use Rattle.vg_core.specs.declared.step.Step.TheVariants.{Put, Literal, This, Local, ComponentField, Register, ComponentMethod, Apply, Operate, CastTo}
use Rattle.vg_core.specs.declared.step.Step.TheVariants.{IsBelow, Field, Item, Length, MethodOf, CallMethod, CallValue, CallComponent, NewObject, NewArray}
use Rattle.vg_core.specs.declared.step.Step.TheVariants.{SetLocal, SetComponentField, SetRegister, SetField, SetItem, Forget, Super}
use Rattle.vg_core.specs.Program.{Body}
use Rattle.vg_core.specs.Tables.{field_type}
use Rattle.vg_firm.specs.declared.step.Step.{Step as FirmStep}
use Rattle.vg_firm.specs.declared.step.Step.TheVariants as firm
use Rattle.vg_firm.specs.declared.step.Prefix.{Prefix as FirmPrefix}
use Rattle.vg_firm.specs.Program.{Procedure}
use Rattle.vg_coded.specs.Operators.{cut_for}
use Rattle.vg_live.specs.Sets.{flat}
use Rattle.vg_live.specs.Uses.{uses}
use Rattle.vg_number.specs.declared.numbers.Numbers.{Numbers}
use Rattle.vg_packing.specs.Layout.{Column, Layout, first_with}
use Rattle.vg_packing.specs.Pass.{width_in, load, store, load_at, store_at, cut, cast, forgets, call_value, move}
use Rattle.vg_pack_code.specs.declared.plan.Plan.{Plan}
use Rattle.vg_pack_code.specs.Plans.{few_step, layout_by, moved, no_codes}
use Rattle.vg_pack_bodies.specs.Procedures.{packed_here, unless_none, packed_if, packed_methods}
use Rattle.vg_pairs.specs.Pairs.{prefix_in, behind, paired, unpaired}
use Rattle.vg_fit_code.specs.Making.{CodeApt, StepApt}
use Rattle.vg_text_chip.specs.Chip.{IsOfChip, AreOfChip}

abbrev Waiting : Type 0
Waiting = Option (Prefix × CoreType)

-- ---- steps

load_apt : (c : Option Column) → StepApt (load c)
load_apt (Some c) = tt
load_apt None = tt

store_apt : (c : Option Column) (width : ℕ) → StepApt (store c width)
store_apt (Some c) width = tt
store_apt None width = tt

load_at_apt : (c : Option Column) (first : ℕ) → StepApt (load_at c first)
load_at_apt (Some c) first = tt
load_at_apt None first = tt

store_at_apt : (c : Option Column) (first width : ℕ) → StepApt (store_at c first width)
store_at_apt (Some c) first width = tt
store_at_apt None first width = tt

cut_apt : (o : Option FirmPrefix) → CodeApt (cut o)
cut_apt (Some op) = tt
cut_apt None = tt

cast_apt : (l : Layout) (t u : CoreType) → CodeApt (cast l t u)
cast_apt l t IntType = cut_apt (cut_for t IntType)
cast_apt l t CharType = cut_apt (cut_for t CharType)
cast_apt l t (RawType k) = cut_apt (cut_for t (RawType k))
cast_apt l t (ClassType c) = tt
cast_apt l t _ = tt

forgets_apt : (count : ℕ) → CodeApt (forgets count (Do firm.LoadNothing))
forgets_apt zero = tt
forgets_apt (suc count) = (tt, forgets_apt count)

value_apt : (count : ℕ) → CodeApt (call_value count)
value_apt count = by (nat_lt count 61)
  where
    by : (b : Bool) → CodeApt (if b then Do (firm.CallValue count) else forgets count (Do firm.LoadNothing))
    by true = tt
    by false = forgets_apt count

module _ (p : Tables) (l : Layout) (k : Codes) where
  step_apt : (s : Step) → IsOfChip s → CodeApt (move p l k s)
  step_apt (Put v) h = tt
  step_apt (Literal a) h = tt
  step_apt This h = tt
  step_apt (Local i) h = tt
  step_apt (ComponentField f) h = load_apt (l.column f)
  step_apt (Register a) h = λ to. h
  step_apt (ComponentMethod m) h = tt
  step_apt (Apply op t) h = tt
  step_apt (Operate at op t u) h = tt
  step_apt (CastTo at t u) h = cast_apt l t u
  step_apt (IsBelow c) h = tt
  step_apt (Field at f) h = load_at_apt (l.column f) (first_with p l f)
  step_apt (Item at t) h = tt
  step_apt (Length at t) h = tt
  step_apt (MethodOf at c s) h = λ to a. tt
  step_apt (CallMethod at c s count) h = λ to a. tt
  step_apt (CallValue at count t) h = value_apt count
  step_apt (CallComponent m count) h = tt
  step_apt (NewObject at c count) h = tt
  step_apt (NewArray at t) h = tt
  step_apt (SetLocal i t) h = tt
  step_apt (SetComponentField f) h = store_apt (l.column f) (width_in l (field_type p f))
  step_apt (SetRegister a) h = λ b. h
  step_apt (SetField at f) h = store_at_apt (l.column f) (first_with p l f) (width_in l (field_type p f))
  step_apt (SetItem at t) h = tt
  step_apt Forget h = tt
  step_apt (Super c count) h = tt

few_of_chip : (s : Step) → IsOfChip s → IsOfChip (few_step s)
few_of_chip (CallMethod at c s count) h = tt
few_of_chip (CallComponent m count) h = tt
few_of_chip _ h = h

-- ---- code

halves : (xs ys : List Step) → AreOfChip (xs ++ ys) → AreOfChip xs × AreOfChip ys
halves [] ys h = (tt, h)
halves (x ∷ xs) ys (a, h) = let q = halves xs ys h in ((a, q.0), q.1)

module _ (go : Step → Code FirmStep) (each : (s : Step) → IsOfChip s → CodeApt (go s)) where
  abbrev Apt : Code Step → Type 0
  Apt c = CodeApt (replaced go c)

  behind_apt : (o : Waiting) (c : Code Step) → Apt c → Apt (behind o c)
  behind_apt None c h = h
  behind_apt (Some (op, t)) c h = (each (Apply op t) tt, h)

  paired_apt : (o this : Waiting) (c : Code Step) (rest : Waiting → Code Step) → Apt c → ((w : Waiting) → Apt (rest w)) → Apt (paired o this c rest)
  paired_apt None None c rest h g = (h, g None)
  paired_apt None (Some q) c rest h g = g (Some q)
  paired_apt (Some (op, t)) None c rest h g = (each (Apply op t) tt, (h, g None))
  paired_apt (Some w) (Some q) c rest h g = (tt, g None)

  all_apt : (c : Code Step) (o : Waiting) → AreOfChip (uses c) → Apt (unpaired o c)
  all_apt Nothing o h = behind_apt o Nothing tt
  all_apt (Then a b) o h =
      let q = halves (uses a) (uses b) h in
      paired_apt o (prefix_in a) (unpaired None a) (λ this. unpaired this b) (all_apt a None q.0) (λ w. all_apt b w q.1)
  all_apt (Do s) o h = behind_apt o (Do s) (each s h.0)
  all_apt (If a b) o h =
      let q = halves (uses a) (uses b) h in
      behind_apt o (If (unpaired None a) (unpaired None b)) (all_apt a None q.0, all_apt b None q.1)
  all_apt (Loop c body next) o h =
      let q = halves (uses c ++ uses body) (uses next) h in
      let r = halves (uses c) (uses body) q.0 in
      behind_apt o (Loop (unpaired None c) (unpaired None body) (unpaired None next)) (all_apt c None r.0, all_apt body None r.1, all_apt next None q.1)
  all_apt Break o h = behind_apt o Break tt
  all_apt Continue o h = behind_apt o Continue tt
  all_apt Return o h = behind_apt o Return tt

-- ---- procedures

abbrev pub BodiesApt : List Procedure → Type 0
BodiesApt = AllByRecursion (λ (m : Procedure). CodeApt m.body)

bodies_both : (xs ys : List Procedure) → BodiesApt xs → BodiesApt ys → BodiesApt (xs ++ ys)
bodies_both [] ys h g = g
bodies_both (x ∷ xs) ys (a, h) g = (a, bodies_both xs ys h g)

module _ (p : Tables) (n : Numbers) (x : Plan) where
  here_apt : (m : ℕ) (y : Method) (b : Body) → AreOfChip (uses b.code) → BodiesApt (packed_if p n x m y b)
  here_apt m y b h = by (flat (slice_get x.procedures m))
    where
      by : (o : Option ℕ) → BodiesApt (unless_none o (packed_here p n x m y b))
      by (Some q) = (all_apt (moved p n x) (λ s c. step_apt p (layout_by [] n x) no_codes (few_step s) (few_of_chip s c)) b.code None h, tt)
      by None = tt

  pub methods_apt : (m : ℕ) (ys : List Method) (bs : List Body) → ((j : ℕ) (b : Body) → slice_get bs j ≡ Some b → AreOfChip (uses b.code))
      → BodiesApt (packed_methods p n x m ys bs)
  methods_apt m (y ∷ ys) (b ∷ bs) h =
      bodies_both (packed_if p n x m y b) (packed_methods p n x (suc m) ys bs) (here_apt m y b (h 0 b refl))
      (methods_apt (suc m) ys bs (λ j c e. h (suc j) c e))
  methods_apt m [] bs h = tt
  methods_apt m (y ∷ ys) [] h = tt
