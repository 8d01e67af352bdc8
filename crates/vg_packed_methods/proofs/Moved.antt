-- The packed form of code does not idle, and calls procedures that there are.
use Rattle.std.proofs.Common.{◌≡◌, refl, ℕ, zero, suc, ◌<◌, Bool, true, false, nat_lt, if◌then◌else◌, List, [], ◌∷◌, ◌++◌, Option, Some, None}
use Rattle.std.proofs.Common.{slice_get}
use Rattle.vg_meaning.specs.Code.{Code, Nothing, Then, Do, If, Loop, Break, Continue, Return, replaced}
use Rattle.vg_codes.specs.Codes.{Codes}
use Rattle.vg_core.specs.declared.types.CoreType.{CoreType}
use Rattle.vg_core.specs.declared.types.CoreType.TheVariants.{IntType, CharType, RawType, ClassType}
use Rattle.vg_core.specs.declared.operator.Prefix.{Prefix}
use Rattle.vg_core.specs.declared.program.Method.{Method}
use Rattle.vg_core.specs.declared.program.Tables.{Tables}
use Rattle.vg_core.specs.declared.step.Step.{Step}
use Rattle.vg_core.specs.declared.step.Step.TheVariants.{Put, Literal, This, Local, ComponentField, Register, ComponentMethod, Apply, Operate, CastTo}
use Rattle.vg_core.specs.declared.step.Step.TheVariants.{IsBelow, Field, Item, Length, MethodOf, CallMethod, CallValue, CallComponent, NewObject, NewArray}
use Rattle.vg_core.specs.declared.step.Step.TheVariants.{SetLocal, SetComponentField, SetRegister, SetField, SetItem, Forget, Super}
use Rattle.vg_core.specs.Program.{Body}
use Rattle.vg_core.specs.Tables.{field_type}
use Rattle.vg_firm.specs.declared.step.Step.{Step as FirmStep}
use Rattle.vg_firm.specs.declared.step.Step.TheVariants as firm
use Rattle.vg_firm.specs.declared.step.Prefix.{Prefix as FirmPrefix}
use Rattle.vg_firm.specs.Program.{Procedure}
use Rattle.vg_coded.specs.Numbers.{known}
use Rattle.vg_coded.specs.Operators.{cut_for}
use Rattle.vg_live.specs.Sets.{flat}
use Rattle.vg_number.specs.declared.numbers.Numbers.{Numbers}
use Rattle.vg_packing.specs.Layout.{Column, Layout, first_with}
use Rattle.vg_packing.specs.Pass.{width_in, load, store, load_at, store_at, cut, cast, forgets, call_value, move}
use Rattle.vg_pack_code.specs.declared.plan.Plan.{Plan}
use Rattle.vg_pack_code.specs.Plans.{few_step, layout_by, moved, no_codes}
use Rattle.vg_pack_bodies.specs.Procedures.{packed_here, unless_none, packed_if, packed_methods}
use Rattle.vg_pairs.specs.Pairs.{prefix_in, behind, paired, unpaired}
use Rattle.vg_flat_frames.specs.Methods.{IsStepBefore, CallsBefore}
use Rattle.vg_packed_methods.specs.Methods.{AllCallBefore}

abbrev Waiting : Type 0
Waiting = Option (Prefix × CoreType)

module _ (start : ℕ) where
  -- ---- steps

  before_load : (c : Option Column) → IsStepBefore start (load c)
  before_load (Some c) = tt
  before_load None = tt

  before_store : (c : Option Column) (width : ℕ) → IsStepBefore start (store c width)
  before_store (Some c) width = tt
  before_store None width = tt

  before_load_at : (c : Option Column) (first : ℕ) → IsStepBefore start (load_at c first)
  before_load_at (Some c) first = tt
  before_load_at None first = tt

  before_store_at : (c : Option Column) (first width : ℕ) → IsStepBefore start (store_at c first width)
  before_store_at (Some c) first width = tt
  before_store_at None first width = tt

  before_cut : (o : Option FirmPrefix) → CallsBefore start (cut o)
  before_cut (Some op) = tt
  before_cut None = tt

  before_cast : (l : Layout) (t u : CoreType) → CallsBefore start (cast l t u)
  before_cast l t IntType = before_cut (cut_for t IntType)
  before_cast l t CharType = before_cut (cut_for t CharType)
  before_cast l t (RawType k) = before_cut (cut_for t (RawType k))
  before_cast l t (ClassType c) = tt
  before_cast l t _ = tt

  before_forgets : (count : ℕ) → CallsBefore start (forgets count (Do firm.LoadNothing))
  before_forgets zero = tt
  before_forgets (suc count) = (tt, before_forgets count)

  before_value : (count : ℕ) → CallsBefore start (call_value count)
  before_value count = by (nat_lt count 61)
    where
      by : (b : Bool) → CallsBefore start (if b then Do (firm.CallValue count) else forgets count (Do firm.LoadNothing))
      by true = tt
      by false = before_forgets count

  -- a method without a procedure is called as the first one
  before_known : 0 < start → (o : Option ℕ) → ((q : ℕ) → o ≡ Some q → q < start) → known o < start
  before_known some (Some q) there = there q refl
  before_known some None there = some

  module _ (some : 0 < start) (p : Tables) (l : Layout) (k : Codes) (there : (m q : ℕ) → l.numbering.procedure m ≡ Some q → q < start) where
    before_step : (s : Step) → CallsBefore start (move p l k s)
    before_step (Put v) = tt
    before_step (Literal a) = tt
    before_step This = tt
    before_step (Local i) = tt
    before_step (ComponentField f) = before_load (l.column f)
    before_step (Register a) = tt
    before_step (ComponentMethod m) = tt
    before_step (Apply op t) = tt
    before_step (Operate at op t u) = tt
    before_step (CastTo at t u) = before_cast l t u
    before_step (IsBelow c) = tt
    before_step (Field at f) = before_load_at (l.column f) (first_with p l f)
    before_step (Item at t) = tt
    before_step (Length at t) = tt
    before_step (MethodOf at c s) = tt
    before_step (CallMethod at c s count) = tt
    before_step (CallValue at count t) = before_value count
    before_step (CallComponent m count) = before_known some (l.numbering.procedure m) (λ q e. there m q e)
    before_step (NewObject at c count) = tt
    before_step (NewArray at t) = tt
    before_step (SetLocal i t) = tt
    before_step (SetComponentField f) = before_store (l.column f) (width_in l (field_type p f))
    before_step (SetRegister a) = tt
    before_step (SetField at f) = before_store_at (l.column f) (first_with p l f) (width_in l (field_type p f))
    before_step (SetItem at t) = tt
    before_step Forget = tt
    before_step (Super c count) = tt

  -- ---- code

  module _ (go : Step → Code FirmStep) (each : (s : Step) → CallsBefore start (go s)) where
    abbrev Before : Code Step → Type 0
    Before c = CallsBefore start (replaced go c)

    before_behind : (o : Waiting) (c : Code Step) → Before c → Before (behind o c)
    before_behind None c h = h
    before_behind (Some (op, t)) c h = (each (Apply op t), h)

    before_paired : (o this : Waiting) (c : Code Step) (rest : Waiting → Code Step) → Before c → ((w : Waiting) → Before (rest w))
        → Before (paired o this c rest)
    before_paired None None c rest h g = (h, g None)
    before_paired None (Some q) c rest h g = g (Some q)
    before_paired (Some (op, t)) None c rest h g = (each (Apply op t), (h, g None))
    before_paired (Some w) (Some q) c rest h g = (tt, g None)

    before_unpaired : (c : Code Step) (o : Waiting) → Before (unpaired o c)
    before_unpaired Nothing o = before_behind o Nothing tt
    before_unpaired (Then a b) o =
        before_paired o (prefix_in a) (unpaired None a) (λ this. unpaired this b) (before_unpaired a None) (λ w. before_unpaired b w)
    before_unpaired (Do s) o = before_behind o (Do s) (each s)
    before_unpaired (If a b) o = before_behind o (If (unpaired None a) (unpaired None b)) (before_unpaired a None, before_unpaired b None)
    before_unpaired (Loop c body next) o =
        before_behind o (Loop (unpaired None c) (unpaired None body) (unpaired None next))
        (before_unpaired c None, before_unpaired body None, before_unpaired next None)
    before_unpaired Break o = before_behind o Break tt
    before_unpaired Continue o = before_behind o Continue tt
    before_unpaired Return o = before_behind o Return tt

  -- ---- procedures

  before_both : (xs ys : List Procedure) → AllCallBefore start xs → AllCallBefore start ys → AllCallBefore start (xs ++ ys)
  before_both [] ys h g = g
  before_both (x ∷ xs) ys (a, h) g = (a, before_both xs ys h g)

  module _ (some : 0 < start) (p : Tables) (n : Numbers) (x : Plan) (there : (m q : ℕ) → flat (slice_get x.procedures m) ≡ Some q → q < start) where
    before_here : (m : ℕ) (y : Method) (b : Body) → AllCallBefore start (packed_if p n x m y b)
    before_here m y b = by (flat (slice_get x.procedures m))
      where
        by : (o : Option ℕ) → AllCallBefore start (unless_none o (packed_here p n x m y b))
        by (Some q) = (before_unpaired (moved p n x) (λ s. before_step some p (layout_by [] n x) no_codes there (few_step s)) b.code None, tt)
        by None = tt

    pub before_methods : (m : ℕ) (ys : List Method) (bs : List Body) → AllCallBefore start (packed_methods p n x m ys bs)
    before_methods m (y ∷ ys) (b ∷ bs) =
        before_both (packed_if p n x m y b) (packed_methods p n x (suc m) ys bs) (before_here m y b) (before_methods (suc m) ys bs)
    before_methods m [] bs = tt
    before_methods m (y ∷ ys) [] = tt
