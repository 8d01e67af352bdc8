-- The weight of what stands for code.
use Rattle.std.proofs.Common.{◌≡◌, ◌≤◌, ℕ, zero, suc, ◌+◌, ◌*◌, Bool, true, false, nat_lt, if◌then◌else◌, Option, Some, None, is_some, refl, arith}
use Rattle.vg_meaning.specs.Code.{Code, Nothing, Then, Do, If, Loop, Break, Continue, Return, replaced}
use Rattle.vg_code_sizes.specs.Sizes.{is_one, waits, and_rest, unpaired_size}
use Rattle.vg_codes.specs.Codes.{Codes}
use Rattle.vg_core.specs.declared.types.CoreType.{CoreType}
use Rattle.vg_core.specs.declared.types.CoreType.TheVariants.{IntType, CharType, RawType, ClassType}
use Rattle.vg_core.specs.declared.operator.Prefix.{Prefix}
use Rattle.vg_core.specs.declared.program.Tables.{Tables}
use Rattle.vg_core.specs.declared.step.Step.{Step}
use Rattle.vg_core.specs.declared.step.Step.TheVariants.{Put, Literal, This, Local, ComponentField, Register, ComponentMethod, Apply, Operate, CastTo}
use Rattle.vg_core.specs.declared.step.Step.TheVariants.{IsBelow, Field, Item, Length, MethodOf, CallMethod, CallValue, CallComponent, NewObject, NewArray}
use Rattle.vg_core.specs.declared.step.Step.TheVariants.{SetLocal, SetComponentField, SetRegister, SetField, SetItem, Forget, Super}
use Rattle.vg_core.specs.Naming.{Naming, named_step, named_code}
use Rattle.vg_core.specs.Tables.{field_type}
use Rattle.vg_core.specs.Program.{Body, Signature}
use Rattle.vg_source_sizes.specs.Sizes.{weight as source_weight, is_prefix}
use Rattle.vg_source_weights.specs.Weights.{extra, extras, code_weight}
use Rattle.vg_firm.specs.declared.step.Step.{Step as FirmStep}
use Rattle.vg_firm.specs.declared.step.Step.TheVariants as firm
use Rattle.vg_firm.specs.declared.step.Prefix.{Prefix as FirmPrefix}
use Rattle.vg_flat_sizes.specs.Weights.{step_weight, flat_weight}
use Rattle.vg_coded.specs.Operators.{cut_for}
use Rattle.vg_packing.specs.Layout.{Column, Layout, first_with}
use Rattle.vg_packing.specs.Pass.{width_in, load, store, load_at, store_at, cut, cast, forgets, call_value, move, packed}
use Rattle.vg_pairs.specs.Pairs.{prefix_in, behind, paired, unpaired}

abbrev Waiting : Type 0
Waiting = Option (Prefix × CoreType)

cut_weight : (o : Option FirmPrefix) → flat_weight (cut o) ≤ 20
cut_weight (Some op) = omega arith
cut_weight None = omega arith

cast_weight : (l : Layout) (t u : CoreType) → flat_weight (cast l t u) ≤ 20
cast_weight l t IntType = cut_weight (cut_for t IntType)
cast_weight l t CharType = cut_weight (cut_for t CharType)
cast_weight l t (RawType k) = cut_weight (cut_for t (RawType k))
cast_weight l t (ClassType c) = omega arith
cast_weight l t _ = omega arith

forgets_weight : (count : ℕ) (c : Code FirmStep) → flat_weight (forgets count c) ≡ 4 * count + flat_weight c
forgets_weight zero c = omega arith
forgets_weight (suc count) c = let e = forgets_weight count c in omega (arith, e)

call_weight : (count : ℕ) → flat_weight (call_value count) ≤ 20 + 4 * count
call_weight count = by (nat_lt count 61)
  where
    by : (b : Bool) → flat_weight (if b then Do (firm.CallValue count) else forgets count (Do firm.LoadNothing)) ≤ 20 + 4 * count
    by true = omega arith
    by false = let e = forgets_weight count (Do firm.LoadNothing) in omega (arith, e)

load_weight : (o : Option Column) → step_weight (load o) ≤ 20
load_weight (Some c) = omega arith
load_weight None = omega arith

load_at_weight : (o : Option Column) (first : ℕ) → step_weight (load_at o first) ≤ 20
load_at_weight (Some c) first = omega arith
load_at_weight None first = omega arith

store_weight : (o : Option Column) (width : ℕ) → step_weight (store o width) ≤ 20
store_weight (Some c) width = omega arith
store_weight None width = omega arith

store_at_weight : (o : Option Column) (first width : ℕ) → step_weight (store_at o first width) ≤ 20
store_at_weight (Some c) first width = omega arith
store_at_weight None first width = omega arith

module _ (n : Naming) (p : Tables) (l : Layout) (k : Codes) where
  move_weight : (s : Step) → flat_weight (move p l k s) ≤ 20 * source_weight (named_step n p s) + 4 * extra (named_step n p s)
  move_weight (Put v) = omega arith
  move_weight (Literal a) = omega arith
  move_weight This = omega arith
  move_weight (Local i) = omega arith
  move_weight (ComponentField f) = load_weight (l.column f)
  move_weight (Register a) = omega arith
  move_weight (ComponentMethod m) = omega arith
  move_weight (Apply op t) = omega arith
  move_weight (Operate at op t u) = omega arith
  move_weight (CastTo at t u) = cast_weight l t u
  move_weight (IsBelow c) = omega arith
  move_weight (Field at f) = load_at_weight (l.column f) (first_with p l f)
  move_weight (Item at t) = omega arith
  move_weight (Length at t) = omega arith
  move_weight (MethodOf at c s) = omega arith
  move_weight (CallMethod at c s count) = omega arith
  move_weight (CallValue at count t) = call_weight count
  move_weight (CallComponent m count) = omega arith
  move_weight (NewObject at c count) = omega arith
  move_weight (NewArray at t) = omega arith
  move_weight (SetLocal i t) = omega arith
  move_weight (SetComponentField f) = store_weight (l.column f) (width_in l (field_type p f))
  move_weight (SetRegister a) = omega arith
  move_weight (SetField at f) = store_at_weight (l.column f) (first_with p l f) (width_in l (field_type p f))
  move_weight (SetItem at t) = omega arith
  move_weight Forget = omega arith
  move_weight (Super c count) = omega arith

  -- an operator before an operand has a name that is one
  prefix_step : (s : Step) → is_some (prefix_in (Do s)) ≡ is_prefix (named_step n p s)
  prefix_step (Apply op t) = refl
  prefix_step _ = refl

  prefix_same : (a : Code Step) → is_some (prefix_in a) ≡ is_one is_prefix (named_code n p a)
  prefix_same (Do s) = prefix_step s
  prefix_same _ = refl

  abbrev moved : Code Step → ℕ
  moved c = flat_weight (replaced (move p l k) c)

  behind_weight : (o : Waiting) (c : Code Step) → moved (behind o c) ≡ 20 * waits (is_some o) + moved c
  behind_weight None c = omega arith
  behind_weight (Some (op, t)) c = omega arith

  -- code of size i and extras x, behind an operator that may wait, and then the rest of extras y
  paired_weight : (o this : Waiting) (t : Bool) → is_some this ≡ t → (c : Code Step) (rest : Waiting → Code Step) (i x y : ℕ) (f : Bool → ℕ)
      → moved c ≤ 20 * i + 4 * x → ((w : Waiting) → moved (rest w) ≤ 20 * f (is_some w) + 4 * y)
      → moved (paired o this c rest) ≤ 20 * and_rest (is_some o) t i f + 4 * (x + y)
  paired_weight None None false e c rest i x y f g h = let r = h None in omega (arith, g, r)
  paired_weight None None true e c rest i x y f g h = cc
  paired_weight None (Some q) true e c rest i x y f g h = let r = h (Some q) in omega (arith, r)
  paired_weight None (Some q) false e c rest i x y f g h = cc
  paired_weight (Some (op, u)) None false e c rest i x y f g h = let r = h None in omega (arith, g, r)
  paired_weight (Some (op, u)) None true e c rest i x y f g h = cc
  paired_weight (Some w) (Some q) true e c rest i x y f g h = let r = h None in omega (arith, r)
  paired_weight (Some w) (Some q) false e c rest i x y f g h = cc

  within : (c : Code Step) (o : Waiting)
      → moved (unpaired o c) ≤ 20 * unpaired_size source_weight is_prefix (is_some o) (named_code n p c) + 4 * extras (named_code n p c)
  within Nothing o = let e = behind_weight o Nothing in omega (arith, e)
  within (Then a b) o =
      paired_weight o (prefix_in a) (is_one is_prefix (named_code n p a)) (prefix_same a) (unpaired None a) (λ this. unpaired this b)
      (unpaired_size source_weight is_prefix false (named_code n p a)) (extras (named_code n p a)) (extras (named_code n p b))
      (λ this. unpaired_size source_weight is_prefix this (named_code n p b)) (within a None) (within b)
  within (Do s) o = let e = behind_weight o (Do s) in let f = move_weight s in omega (arith, e, f)
  within (If a b) o =
      let e = behind_weight o (If (unpaired None a) (unpaired None b)) in
      let f = within a None in
      let g = within b None in
      omega (arith, e, f, g)
  within (Loop c body next) o =
      let e = behind_weight o (Loop (unpaired None c) (unpaired None body) (unpaired None next)) in
      let f = within c None in
      let g = within body None in
      let h = within next None in
      omega (arith, e, f, g, h)
  within Break o = let e = behind_weight o Break in omega (arith, e)
  within Continue o = let e = behind_weight o Continue in omega (arith, e)
  within Return o = let e = behind_weight o Return in omega (arith, e)

pub packed_weight : (n : Naming) (p : Tables) (l : Layout) (k : Codes) (m : ℕ) (g : Signature) (b : Body)
    → flat_weight (packed p l k m g b).body ≤ code_weight (named_code n p b.code)
packed_weight n p l k m g b = within n p l k b.code None
