-- The calls of what stands for code.
use Rattle.std.proofs.Common.{◌≡◌, ℕ, zero, suc, Bool, true, false, nat_lt, if◌then◌else◌, List, [], ◌∷◌, ◌++◌, Option, Some, None, is_some, refl, sym}
use Rattle.std.proofs.Common.{ap, ◌∙◌}
use Rattle.vg_meaning.specs.Code.{Code, Nothing, Then, Do, If, Loop, Break, Continue, Return, replaced}
use Rattle.vg_codes.specs.Codes.{Codes}
use Rattle.vg_core.specs.declared.types.CoreType.{CoreType}
use Rattle.vg_core.specs.declared.types.CoreType.TheVariants.{IntType, CharType, RawType, ClassType}
use Rattle.vg_core.specs.declared.operator.Prefix.{Prefix}
use Rattle.vg_core.specs.declared.program.Tables.{Tables}
use Rattle.vg_core.specs.declared.step.Step.{Step}
use Rattle.vg_core.specs.declared.step.Step.TheVariants.{Put, Literal, This, Local, ComponentField, Register, ComponentMethod, Apply, Operate, CastTo}
use Rattle.vg_core.specs.declared.step.Step.TheVariants.{IsBelow, Field, Item, Length, MethodOf, CallMethod, CallValue, CallComponent, NewObject, NewArray}
use Rattle.vg_core.specs.declared.step.Step.TheVariants.{SetLocal, SetComponentField, SetRegister, SetField, SetItem, Forget, Super}
use Rattle.vg_core.specs.Tables.{field_type}
use Rattle.vg_core.specs.Program.{Body, Signature}
use Rattle.vg_firm.specs.declared.step.Step.{Step as FirmStep}
use Rattle.vg_firm.specs.declared.step.Step.TheVariants as firm
use Rattle.vg_firm.specs.declared.step.Prefix.{Prefix as FirmPrefix}
use Rattle.vg_coded.specs.Operators.{cut_for}
use Rattle.vg_packing.specs.Layout.{Column, Layout, first_with}
use Rattle.vg_packing.specs.Pass.{width_in, load, store, load_at, store_at, cut, cast, forgets, call_value, move, packed}
use Rattle.vg_pairs.specs.Pairs.{prefix_in, behind, paired, unpaired}
use Rattle.vg_packed_calls.specs.Calls.{Called, Delegated, calls_of, packed_calls, typed_calls}

abbrev Waiting : Type 0
Waiting = Option (Prefix × CoreType)

abbrev called : Code FirmStep → List Called
called c = calls_of packed_calls c

load_calls : (c : Option Column) → packed_calls (load c) ≡ []
load_calls (Some c) = refl
load_calls None = refl

store_calls : (c : Option Column) (width : ℕ) → packed_calls (store c width) ≡ []
store_calls (Some c) width = refl
store_calls None width = refl

load_at_calls : (c : Option Column) (first : ℕ) → packed_calls (load_at c first) ≡ []
load_at_calls (Some c) first = refl
load_at_calls None first = refl

store_at_calls : (c : Option Column) (first width : ℕ) → packed_calls (store_at c first width) ≡ []
store_at_calls (Some c) first width = refl
store_at_calls None first width = refl

cut_calls : (o : Option FirmPrefix) → called (cut o) ≡ []
cut_calls (Some op) = refl
cut_calls None = refl

cast_calls : (l : Layout) (t u : CoreType) → called (cast l t u) ≡ []
cast_calls l t IntType = cut_calls (cut_for t IntType)
cast_calls l t CharType = cut_calls (cut_for t CharType)
cast_calls l t (RawType k) = cut_calls (cut_for t (RawType k))
cast_calls l t (ClassType c) = refl
cast_calls l t _ = refl

forgets_calls : (count : ℕ) → called (forgets count (Do firm.LoadNothing)) ≡ []
forgets_calls zero = refl
forgets_calls (suc count) = forgets_calls count

value_calls : (count : ℕ) → called (call_value count) ≡ (if nat_lt count 61 then Delegated ∷ [] else [])
value_calls count = by (nat_lt count 61)
  where
    by : (b : Bool) → called (if b then Do (firm.CallValue count) else forgets count (Do firm.LoadNothing)) ≡ (if b then Delegated ∷ [] else [])
    by true = refl
    by false = forgets_calls count

module _ (p : Tables) (l : Layout) (k : Codes) where
  step_calls : (s : Step) → called (move p l k s) ≡ typed_calls l s
  step_calls (Put v) = refl
  step_calls (Literal a) = refl
  step_calls This = refl
  step_calls (Local i) = refl
  step_calls (ComponentField f) = load_calls (l.column f)
  step_calls (Register a) = refl
  step_calls (ComponentMethod m) = refl
  step_calls (Apply op t) = refl
  step_calls (Operate at op t u) = refl
  step_calls (CastTo at t u) = cast_calls l t u
  step_calls (IsBelow c) = refl
  step_calls (Field at f) = load_at_calls (l.column f) (first_with p l f)
  step_calls (Item at t) = refl
  step_calls (Length at t) = refl
  step_calls (MethodOf at c s) = refl
  step_calls (CallMethod at c s count) = refl
  step_calls (CallValue at count t) = value_calls count
  step_calls (CallComponent m count) = refl
  step_calls (NewObject at c count) = refl
  step_calls (NewArray at t) = refl
  step_calls (SetLocal i t) = refl
  step_calls (SetComponentField f) = store_calls (l.column f) (width_in l (field_type p f))
  step_calls (SetRegister a) = refl
  step_calls (SetField at f) = store_at_calls (l.column f) (first_with p l f) (width_in l (field_type p f))
  step_calls (SetItem at t) = refl
  step_calls Forget = refl
  step_calls (Super c count) = refl

  abbrev moved : Code Step → List Called
  moved c = called (replaced (move p l k) c)

  abbrev typed : Code Step → List Called
  typed c = calls_of (typed_calls l) c

  -- an operator before an operand calls nothing
  prefix_step : (s : Step) → is_some (prefix_in (Do s)) ≡ true → typed_calls l s ≡ []
  prefix_step (Apply op t) e = refl
  prefix_step _ e = cc

  prefix_calls : (a : Code Step) → is_some (prefix_in a) ≡ true → typed a ≡ []
  prefix_calls (Do s) e = prefix_step s e
  prefix_calls _ e = cc

  behind_calls : (o : Waiting) (c : Code Step) → moved (behind o c) ≡ moved c
  behind_calls None c = refl
  behind_calls (Some (op, t)) c = refl

  both : (a b : Code Step) (xs ys : List Called) → moved a ≡ xs → moved b ≡ ys → moved (Then a b) ≡ xs ++ ys
  both a b xs ys e f = ap (λ z. z ++ moved b) e ∙ ap (λ z. xs ++ z) f

  alone : (a : List Called) (xs ys : List Called) → xs ≡ [] → a ≡ ys → a ≡ xs ++ ys
  alone a xs ys e f = f ∙ sym (ap (λ z. z ++ ys) e)

  paired_calls : (o this : Waiting) (c : Code Step) (rest : Waiting → Code Step) (xs ys : List Called) → moved c ≡ xs
      → (is_some this ≡ true → xs ≡ []) → ((w : Waiting) → moved (rest w) ≡ ys) → moved (paired o this c rest) ≡ xs ++ ys
  paired_calls None None c rest xs ys e none f = both c (rest None) xs ys e (f None)
  paired_calls None (Some q) c rest xs ys e none f = alone (moved (rest (Some q))) xs ys (none refl) (f (Some q))
  paired_calls (Some (op, t)) None c rest xs ys e none f = both c (rest None) xs ys e (f None)
  paired_calls (Some w) (Some q) c rest xs ys e none f = alone (moved (rest None)) xs ys (none refl) (f None)

  same : (c : Code Step) (o : Waiting) → moved (unpaired o c) ≡ typed c
  same Nothing o = behind_calls o Nothing
  same (Then a b) o =
      paired_calls o (prefix_in a) (unpaired None a) (λ this. unpaired this b) (typed a) (typed b) (same a None) (prefix_calls a) (same b)
  same (Do s) o = behind_calls o (Do s) ∙ step_calls s
  same (If a b) o =
      behind_calls o (If (unpaired None a) (unpaired None b)) ∙ both (unpaired None a) (unpaired None b) (typed a) (typed b) (same a None) (same b None)
  same (Loop c body next) o =
      behind_calls o (Loop (unpaired None c) (unpaired None body) (unpaired None next))
      ∙ both (unpaired None c) (Then (unpaired None body) (unpaired None next)) (typed c) (typed body ++ typed next) (same c None)
      (both (unpaired None body) (unpaired None next) (typed body) (typed next) (same body None) (same next None))
  same Break o = behind_calls o Break
  same Continue o = behind_calls o Continue
  same Return o = behind_calls o Return

pub same_calls : (p : Tables) (l : Layout) (k : Codes) (m : ℕ) (g : Signature) (b : Body)
    → calls_of packed_calls (packed p l k m g b).body ≡ calls_of (typed_calls l) b.code
same_calls p l k m g b = same p l k b.code None
