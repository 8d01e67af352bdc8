-- That what stands for a step takes few values at a time.
use Rattle.std.specs.Prelude.{ℕ, zero, suc, ◌<◌, Bool, true, false, nat_lt, if◌then◌else◌, List, [], length, Option, Some, None}
use Rattle.std.proofs.Common.{◌≡◌, refl, arith}
use Rattle.vg_meaning.specs.Code.{Code, Nothing, Then, Do, If, Loop, Break, Continue, Return, replaced}
use Rattle.vg_meaning.specs.Shapes.{Fits}
use Rattle.vg_code_counts.specs.Each.{EachStep}
use Rattle.vg_codes.specs.Codes.{Codes}
use Rattle.vg_core.specs.declared.program.Owner.{Owner}
use Rattle.vg_core.specs.declared.program.Tables.{Tables}
use Rattle.vg_core.specs.declared.types.CoreType.{CoreType}
use Rattle.vg_core.specs.declared.types.CoreType.TheVariants.{IntType, BoolType, CharType, RawType, NullType, ClassType, ArrayType, FunctionType}
use Rattle.vg_core.specs.declared.types.CoreType.TheVariants.{NoType, MoreTypes}
use Rattle.vg_core.specs.declared.step.Step.{Step}
use Rattle.vg_core.specs.declared.step.Step.TheVariants.{Put, Literal, This, Local, ComponentField, Register, ComponentMethod, Apply, Operate, CastTo}
use Rattle.vg_core.specs.declared.step.Step.TheVariants.{IsBelow, Field, Item, Length, MethodOf, CallMethod, CallValue, CallComponent, NewObject, NewArray}
use Rattle.vg_core.specs.declared.step.Step.TheVariants.{SetLocal, SetComponentField, SetRegister, SetField, SetItem, Forget, Super}
use Rattle.vg_core.specs.declared.operator.Prefix.{Prefix as Operation}
use Rattle.vg_core.specs.State.{onto}
use Rattle.vg_core.specs.Tables.{field_type}
use Rattle.vg_core.specs.Typing.{Takes, Subs, t_call_method, t_call_component}
use Rattle.vg_sound.proofs.Values.{subs_length, onto_length}
use Rattle.vg_firm.specs.declared.step.Step.{Step as FirmStep}
use Rattle.vg_firm.specs.declared.step.Step.TheVariants as firm
use Rattle.vg_firm.specs.declared.step.Prefix.{Prefix}
use Rattle.vg_firm.specs.Program.{Program as FirmProgram}
use Rattle.vg_firm_typed_any.specs.TypedFor.{TakesFew}
use Rattle.vg_coded.specs.Operators.{cut_for}
use Rattle.vg_packing.specs.Layout.{Column, Layout, first_with}
use Rattle.vg_packing.specs.Pass.{width_in, load, store, load_at, store_at, cut, cast, forgets, call_value, move}
use Rattle.vg_pairs.specs.Pairs.{prefix_in, behind, paired, unpaired, without_pairs}
use Rattle.vg_packing.specs.Allowed.{Allowed, allowing}
use Rattle.vg_packed_typed.specs.Suits.{HaveFewParameters}

-- ---- code

-- what holds of each step of code without pairs, if it holds of all operators before an operand
module _ (P : Step → Type 0) (applies : (op : Operation) (t : CoreType) → P (Apply op t)) where
  behind_each : (w : Option (Operation × CoreType)) (c : Code Step) → EachStep P c → EachStep P (behind w c)
  behind_each None c h = h
  behind_each (Some (op, t)) c h = (applies op t, h)

  paired_each : (w this : Option (Operation × CoreType)) (a : Code Step) (rest : Option (Operation × CoreType) → Code Step) → EachStep P a
      → ((o : Option (Operation × CoreType)) → EachStep P (rest o)) → EachStep P (paired w this a rest)
  paired_each None None a rest h r = (h, r None)
  paired_each None (Some this) a rest h r = r (Some this)
  paired_each (Some (op, t)) None a rest h r = (applies op t, (h, r None))
  paired_each (Some v) (Some this) a rest h r = (tt, r None)

  unpaired_each : (c : Code Step) (w : Option (Operation × CoreType)) → EachStep P c → EachStep P (unpaired w c)
  unpaired_each Nothing w h = behind_each w Nothing h
  unpaired_each (Then a b) w (h, g) =
      paired_each w (prefix_in a) (unpaired None a) (λ this. unpaired this b) (unpaired_each a None h) (λ o. unpaired_each b o g)
  unpaired_each (Do s) w h = behind_each w (Do s) h
  unpaired_each (If a b) w (h, g) = behind_each w (If (unpaired None a) (unpaired None b)) (unpaired_each a None h, unpaired_each b None g)
  unpaired_each (Loop a b c) w (h, g, i) =
      behind_each w (Loop (unpaired None a) (unpaired None b) (unpaired None c)) (unpaired_each a None h, unpaired_each b None g, unpaired_each c None i)
  unpaired_each Break w h = behind_each w Break h
  unpaired_each Continue w h = behind_each w Continue h
  unpaired_each Return w h = behind_each w Return h

-- what holds of each step of what stands for a step
replaced_each : {P Q : Type 0} (R : Q → Type 0) (f : P → Code Q) (c : Code P) → EachStep (λ p. EachStep R (f p)) c → EachStep R (replaced f c)
replaced_each R f Nothing h = tt
replaced_each R f (Then a b) (h, g) = (replaced_each R f a h, replaced_each R f b g)
replaced_each R f (Do s) h = h
replaced_each R f (If a b) (h, g) = (replaced_each R f a h, replaced_each R f b g)
replaced_each R f (Loop a b c) (h, g, i) = (replaced_each R f a h, replaced_each R f b g, replaced_each R f c i)
replaced_each R f Break h = tt
replaced_each R f Continue h = tt
replaced_each R f Return h = tt

module _ (p : Tables) (l : Layout) (k : Codes) (f : FirmProgram) (params : HaveFewParameters p) (ts : List CoreType) (calls : List ℕ) (o : Owner)
    (result : CoreType) where
  -- ---- steps

  abbrev Few : Code FirmStep → Type 0
  Few c = EachStep (TakesFew 189) c

  cut_few : (q : Option Prefix) → Few (cut q)
  cut_few (Some op) = omega arith
  cut_few None = tt

  cast_few : (t u : CoreType) → Few (cast l t u)
  cast_few t IntType = cut_few (cut_for t IntType)
  cast_few t CharType = cut_few (cut_for t CharType)
  cast_few t (RawType n) = cut_few (cut_for t (RawType n))
  cast_few t (ClassType d) = omega arith
  cast_few t BoolType = tt
  cast_few t NullType = tt
  cast_few t (ArrayType d) = tt
  cast_few t (FunctionType ps r) = tt
  cast_few t NoType = tt
  cast_few t (MoreTypes first rest) = tt

  load_few : (c : Option Column) → TakesFew 189 (load c)
  load_few (Some c) = omega arith
  load_few None = omega arith

  store_few : (c : Option Column) (width : ℕ) → TakesFew 189 (store c width)
  store_few (Some c) width = omega arith
  store_few None width = omega arith

  load_at_few : (c : Option Column) (first : ℕ) → TakesFew 189 (load_at c first)
  load_at_few (Some c) first = omega arith
  load_at_few None first = omega arith

  store_at_few : (c : Option Column) (first width : ℕ) → TakesFew 189 (store_at c first width)
  store_at_few (Some c) first width = omega arith
  store_at_few None first width = omega arith

  forgets_few : (count : ℕ) → Few (forgets count (Do firm.LoadNothing))
  forgets_few zero = omega arith
  forgets_few (suc n) = (omega arith, forgets_few n)

  call_few : (count : ℕ) → Few (call_value count)
  call_few count = by (nat_lt count 61) refl
    where
      by : (b : Bool) → nat_lt count 61 ≡ b → Few (if b then Do (firm.CallValue count) else forgets count (Do firm.LoadNothing))
      by true e = let lt : count < 61 = grind (arith, e) in omega (arith, lt)
      by false e = forgets_few count

  -- a call of a method has as many arguments as the method has parameters
  arguments_few : (us ps : List CoreType) → Subs p us (onto ps []) → length ps < 61 → length us < 61
  arguments_few us ps s few = let a = subs_length p us (onto ps []) s in let b = onto_length ps [] in omega (arith, a, b, few)

  step_few : (xs ys : List CoreType) (s : Step) → Takes p ts o s xs ys → Allowed p l f calls s → Few (move p l k s)
  step_few xs ys (Put v) t a = omega arith
  step_few xs ys (Literal i) t a = omega arith
  step_few xs ys This t a = omega arith
  step_few xs ys (Local i) t a = omega arith
  step_few xs ys (ComponentField i) t a = load_few (l.column i)
  step_few xs ys (Register i) t a = omega arith
  step_few xs ys (ComponentMethod m) t a = omega arith
  step_few xs ys (Apply op u) t a = omega arith
  step_few xs ys (Operate at op u v) t a = omega arith
  step_few xs ys (CastTo at u v) t a = cast_few u v
  step_few xs ys (IsBelow d) t a = omega arith
  step_few xs ys (Field at i) t a = load_at_few (l.column i) (first_with p l i)
  step_few xs ys (Item at u) t a = omega arith
  step_few xs ys (Length at u) t a = omega arith
  step_few xs ys (MethodOf at d s) t a = omega arith
  step_few xs ys (CallMethod at d s count) (t_call_method m y us found there subs) a =
      let few = arguments_few us y.params subs (params m y there) in omega (arith, few)
  step_few xs ys (CallValue at count u) t a = call_few count
  step_few xs ys (CallComponent m count) (t_call_component y us there of subs) a =
      let few = arguments_few us y.params subs (params m y there) in omega (arith, few)
  step_few xs ys (NewObject at d count) t a = absurd a
  step_few xs ys (NewArray at u) t a = absurd a
  step_few xs ys (SetLocal i u) t a = omega arith
  step_few xs ys (SetComponentField i) t a = store_few (l.column i) (width_in l (field_type p i))
  step_few xs ys (SetRegister i) t a = omega arith
  step_few xs ys (SetField at i) t a = store_at_few (l.column i) (first_with p l i) (width_in l (field_type p i))
  step_few xs ys (SetItem at u) t a = omega arith
  step_few xs ys Forget t a = omega arith
  step_few xs ys (Super d count) t a = absurd a

  -- ---- bodies

  body_few : (c : Code Step) (looped : Bool) (xs ys : List CoreType) → Fits (allowing p l f calls ts o result) looped c xs ys
      → EachStep (λ s. Few (move p l k s)) c
  body_few Nothing looped xs ys h = tt
  body_few (Then a b) looped xs ys (zs, h, g) = (body_few a looped xs zs h, body_few b looped zs ys g)
  body_few (Do s) looped xs ys h = step_few xs ys s h.0 h.1
  body_few (If a b) looped xs ys (zs, t, h, g) = (body_few a looped zs ys h, body_few b looped zs ys g)
  body_few (Loop a b c) looped xs ys (ex, ey, zs, h, t, g, i) = (body_few a looped [] zs h, body_few b true [] [] g, body_few c looped [] [] i)
  body_few Break looped xs ys h = tt
  body_few Continue looped xs ys h = tt
  body_few Return looped xs ys h = tt

  pub all_few : (c : Code Step) → Fits (allowing p l f calls ts o result) false c [] [] → Few (replaced (move p l k) (without_pairs c))
  all_few c h =
      replaced_each (TakesFew 189) (move p l k) (without_pairs c)
      (unpaired_each (λ s. Few (move p l k s)) (λ op t. omega arith) c None (body_few c false [] [] h))
