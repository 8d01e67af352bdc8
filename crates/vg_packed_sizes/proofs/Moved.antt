-- The size of what stands for code.
use Rattle.std.proofs.Common.{◌≡◌, ◌≤◌, ℕ, zero, suc, ◌+◌, Bool, true, false, nat_lt, if◌then◌else◌, Option, Some, None, is_some, refl, arith}
use Rattle.vg_meaning.specs.Code.{Code, Nothing, Then, Do, If, Loop, Break, Continue, Return, replaced}
use Rattle.vg_code_sizes.specs.Sizes.{is_one, waits, and_rest, unpaired_size}
use Rattle.vg_codes.specs.Codes.{Codes}
use Rattle.vg_core.specs.declared.types.CoreType.{CoreType}
use Rattle.vg_core.specs.declared.types.CoreType.TheVariants.{IntType, CharType, RawType, ClassType}
use Rattle.vg_core.specs.declared.operator.Prefix.{Prefix}
use Rattle.vg_core.specs.declared.program.Tables.{Tables}
use Rattle.vg_core.specs.declared.step.Step.{Step}
use Rattle.vg_core.specs.declared.step.Step.TheVariants.{Put, Literal, This, Local, ComponentField, Register, ComponentMethod, Apply, Operate, CastTo}
use Rattle.vg_core.specs.declared.step.Step.TheVariants.{IsBelow, Field, Item, Length, MethodOf, CallMethod, CallValue, CallComponent, NewObject, NewArray}
use Rattle.vg_core.specs.declared.step.Step.TheVariants.{SetLocal, SetComponentField, SetRegister, SetField, SetItem, Forget, Super}
use Rattle.vg_core.specs.Naming.{Naming, named_step, named_code}
use Rattle.vg_core.specs.Tables.{field_type}
use Rattle.vg_core.specs.Program.{Body, Signature}
use Rattle.vg_source_sizes.specs.Sizes.{weight as source_weight, is_prefix, code_size as source_size}
use Rattle.vg_firm.specs.declared.step.Step.{Step as FirmStep}
use Rattle.vg_firm.specs.declared.step.Step.TheVariants as firm
use Rattle.vg_firm.specs.declared.step.Prefix.{Prefix as FirmPrefix}
use Rattle.vg_firm_sizes.specs.Sizes.{weight, code_size}
use Rattle.vg_coded.specs.Operators.{cut_for}
use Rattle.vg_packing.specs.Layout.{Layout, first_with}
use Rattle.vg_packing.specs.Pass.{width_in, load, store, load_at, store_at, cut, cast, forgets, call_value, move, packed}
use Rattle.vg_pairs.specs.Pairs.{prefix_in, behind, paired, unpaired}

abbrev Waiting : Type 0
Waiting = Option (Prefix × CoreType)

light : (s : FirmStep) → weight s ≤ 1
light (firm.Number n) = omega arith
light firm.This = omega arith
light firm.Forget = omega arith
light _ = omega arith

cut_size : (o : Option FirmPrefix) → code_size (cut o) ≤ 1
cut_size (Some op) = omega arith
cut_size None = omega arith

cast_size : (l : Layout) (t u : CoreType) → code_size (cast l t u) ≤ 1
cast_size l t IntType = cut_size (cut_for t IntType)
cast_size l t CharType = cut_size (cut_for t CharType)
cast_size l t (RawType k) = cut_size (cut_for t (RawType k))
cast_size l t (ClassType c) = omega arith
cast_size l t _ = omega arith

forgets_size : (count : ℕ) (c : Code FirmStep) → code_size (forgets count c) ≡ code_size c
forgets_size zero c = refl
forgets_size (suc count) c = let e = forgets_size count c in omega (arith, e)

call_size : (count : ℕ) → code_size (call_value count) ≤ 1
call_size count = by (nat_lt count 61)
  where
    by : (b : Bool) → code_size (if b then Do (firm.CallValue count) else forgets count (Do firm.LoadNothing)) ≤ 1
    by true = omega arith
    by false = let e = forgets_size count (Do firm.LoadNothing) in omega (arith, e)

module _ (n : Naming) (p : Tables) (l : Layout) (k : Codes) where
  step_size : (s : Step) → code_size (move p l k s) ≤ source_weight (named_step n p s)
  step_size (Put v) = omega arith
  step_size (Literal a) = omega arith
  step_size This = omega arith
  step_size (Local i) = omega arith
  step_size (ComponentField f) = light (load (l.column f))
  step_size (Register a) = omega arith
  step_size (ComponentMethod m) = omega arith
  step_size (Apply op t) = omega arith
  step_size (Operate at op t u) = omega arith
  step_size (CastTo at t u) = cast_size l t u
  step_size (IsBelow c) = omega arith
  step_size (Field at f) = light (load_at (l.column f) (first_with p l f))
  step_size (Item at t) = omega arith
  step_size (Length at t) = omega arith
  step_size (MethodOf at c s) = omega arith
  step_size (CallMethod at c s count) = omega arith
  step_size (CallValue at count t) = call_size count
  step_size (CallComponent m count) = omega arith
  step_size (NewObject at c count) = omega arith
  step_size (NewArray at t) = omega arith
  step_size (SetLocal i t) = omega arith
  step_size (SetComponentField f) = light (store (l.column f) (width_in l (field_type p f)))
  step_size (SetRegister a) = omega arith
  step_size (SetField at f) = light (store_at (l.column f) (first_with p l f) (width_in l (field_type p f)))
  step_size (SetItem at t) = omega arith
  step_size Forget = omega arith
  step_size (Super c count) = omega arith

  -- an operator before an operand has a name that is one
  prefix_step : (s : Step) → is_some (prefix_in (Do s)) ≡ is_prefix (named_step n p s)
  prefix_step (Apply op t) = refl
  prefix_step _ = refl

  prefix_same : (a : Code Step) → is_some (prefix_in a) ≡ is_one is_prefix (named_code n p a)
  prefix_same (Do s) = prefix_step s
  prefix_same _ = refl

  abbrev moved : Code Step → ℕ
  moved c = code_size (replaced (move p l k) c)

  behind_size : (o : Waiting) (c : Code Step) → moved (behind o c) ≡ waits (is_some o) + moved c
  behind_size None c = omega arith
  behind_size (Some (op, t)) c = omega arith

  paired_size : (o this : Waiting) (t : Bool) → is_some this ≡ t → (c : Code Step) (rest : Waiting → Code Step) (i : ℕ) (f : Bool → ℕ)
      → moved c ≤ i → ((w : Waiting) → moved (rest w) ≤ f (is_some w)) → moved (paired o this c rest) ≤ and_rest (is_some o) t i f
  paired_size None None false e c rest i f g h = let r = h None in omega (arith, g, r)
  paired_size None None true e c rest i f g h = cc
  paired_size None (Some q) true e c rest i f g h = h (Some q)
  paired_size None (Some q) false e c rest i f g h = cc
  paired_size (Some (op, u)) None false e c rest i f g h = let r = h None in omega (arith, g, r)
  paired_size (Some (op, u)) None true e c rest i f g h = cc
  paired_size (Some w) (Some q) true e c rest i f g h = let r = h None in omega (arith, r)
  paired_size (Some w) (Some q) false e c rest i f g h = cc

  within : (c : Code Step) (o : Waiting) → moved (unpaired o c) ≤ unpaired_size source_weight is_prefix (is_some o) (named_code n p c)
  within Nothing o = let e = behind_size o Nothing in omega (arith, e)
  within (Then a b) o =
      paired_size o (prefix_in a) (is_one is_prefix (named_code n p a)) (prefix_same a) (unpaired None a) (λ this. unpaired this b)
      (unpaired_size source_weight is_prefix false (named_code n p a)) (λ this. unpaired_size source_weight is_prefix this (named_code n p b))
      (within a None) (within b)
  within (Do s) o = let e = behind_size o (Do s) in let f = step_size s in omega (arith, e, f)
  within (If a b) o =
      let e = behind_size o (If (unpaired None a) (unpaired None b)) in
      let f = within a None in
      let g = within b None in
      omega (arith, e, f, g)
  within (Loop c body next) o =
      let e = behind_size o (Loop (unpaired None c) (unpaired None body) (unpaired None next)) in
      let f = within c None in
      let g = within body None in
      let h = within next None in
      omega (arith, e, f, g, h)
  within Break o = let e = behind_size o Break in omega (arith, e)
  within Continue o = let e = behind_size o Continue in omega (arith, e)
  within Return o = let e = behind_size o Return in omega (arith, e)

pub packed_size : (n : Naming) (p : Tables) (l : Layout) (k : Codes) (m : ℕ) (g : Signature) (b : Body)
    → code_size (packed p l k m g b).body ≤ source_size (named_code n p b.code)
packed_size n p l k m g b = within n p l k b.code None
