-- Packed programs do not idle: no step of a typed program does.
use Rattle.std.specs.Prelude.{ℕ, suc, Bool, true, false, List, [], ◌∷◌, ◌++◌, Option, Some, None, nat_lt, if◌then◌else◌, slice_get, zero}
use Rattle.std.specs.List.{AllByRecursion}
use Rattle.std.proofs.Common.{◌≡◌, refl, subst}
use Rattle.std.proofs.lemmas.Option.{same_Some, none-some}
use Rattle.vg_meaning.specs.Code.{Code, Nothing, Then, Do, If, Loop, Break, Continue, Return, replaced}
use Rattle.vg_meaning.specs.Shapes.{Fits}
use Rattle.vg_codes.specs.Codes.{Codes}
use Rattle.vg_core.specs.declared.program.Method.{Method}
use Rattle.vg_core.specs.declared.program.Tables.{Tables}
use Rattle.vg_core.specs.declared.step.Step.{Step}
use Rattle.vg_core.specs.declared.step.Step.TheVariants.{Put, Literal, This, Local, ComponentField, Register, ComponentMethod, Apply, Operate, CastTo}
use Rattle.vg_core.specs.declared.step.Step.TheVariants.{IsBelow, Field, Item, Length, MethodOf, CallMethod, CallValue, CallComponent, NewObject, NewArray}
use Rattle.vg_core.specs.declared.step.Step.TheVariants.{SetLocal, SetComponentField, SetRegister, SetField, SetItem, Forget, Super}
use Rattle.vg_core.specs.declared.types.CoreType.{CoreType}
use Rattle.vg_core.specs.declared.types.CoreType.TheVariants as types
use Rattle.vg_core.specs.Program.{Body}
use Rattle.vg_core.specs.Tables.{field_type}
use Rattle.vg_firm.specs.declared.step.Step.{Step as FirmStep}
use Rattle.vg_firm.specs.declared.step.Step.TheVariants as firm
use Rattle.vg_firm.specs.declared.step.Prefix.{Prefix}
use Rattle.vg_firm.specs.Program.{Procedure}
use Rattle.vg_live.specs.Sets.{flat}
use Rattle.vg_number.specs.declared.numbers.Numbers.{Numbers}
use Rattle.vg_coded.specs.Operators.{cut_for}
use Rattle.vg_packing.specs.Layout.{Column, Layout, first_with}
use Rattle.vg_packing.specs.Pass.{call_value, cast, cut, forgets, load, load_at, move, store, store_at, width_in}
use Rattle.vg_pairs.specs.Pairs.{without_pairs}
use Rattle.vg_pack_code.specs.declared.plan.Plan.{Plan}
use Rattle.vg_pack_code.specs.Plans.{few_step, layout_by, moved, no_codes}
use Rattle.vg_pack_bodies.specs.Procedures.{packed_here, packed_if, packed_methods, unless_none}
use Rattle.vg_walks.specs.Walks.{IsAwake, awake}

abbrev pub IsAwakeCode : Code FirmStep → Type 0
IsAwakeCode c = Fits awake true c (tt {0}) (tt {0})

load_awake : (o : Option Column) → IsAwake (load o)
load_awake (Some c) = tt
load_awake None = tt

store_awake : (o : Option Column) (width : ℕ) → IsAwake (store o width)
store_awake (Some c) width = tt
store_awake None width = tt

load_at_awake : (o : Option Column) (first : ℕ) → IsAwake (load_at o first)
load_at_awake (Some c) first = tt
load_at_awake None first = tt

store_at_awake : (o : Option Column) (first width : ℕ) → IsAwake (store_at o first width)
store_at_awake (Some c) first width = tt
store_at_awake None first width = tt

cut_awake : (o : Option Prefix) → IsAwakeCode (cut o)
cut_awake (Some op) = tt
cut_awake None = refl

cast_awake : (l : Layout) (t u : CoreType) → IsAwakeCode (cast l t u)
cast_awake l t types.IntType = cut_awake (cut_for t types.IntType)
cast_awake l t types.CharType = cut_awake (cut_for t types.CharType)
cast_awake l t (types.RawType k) = cut_awake (cut_for t (types.RawType k))
cast_awake l t (types.ClassType c) = tt
cast_awake l t types.BoolType = refl
cast_awake l t (types.ArrayType e) = refl
cast_awake l t (types.FunctionType ps r) = refl
cast_awake l t types.NullType = refl
cast_awake l t types.NoType = refl
cast_awake l t (types.MoreTypes h r) = refl

forgets_awake : (n : ℕ) (c : Code FirmStep) → IsAwakeCode c → IsAwakeCode (forgets n c)
forgets_awake zero c h = h
forgets_awake (suc n) c h = (tt, tt, forgets_awake n c h)

call_value_awake : (count : ℕ) → IsAwakeCode (call_value count)
call_value_awake count = by_few (nat_lt count 61)
  where
    by_few : (b : Bool) → IsAwakeCode (if b then Do (firm.CallValue count) else forgets count (Do firm.LoadNothing))
    by_few true = tt
    by_few false = forgets_awake count (Do firm.LoadNothing) tt

move_awake : (p : Tables) (l : Layout) (k : Codes) (s : Step) → IsAwakeCode (move p l k s)
move_awake p l k (Put v) = tt
move_awake p l k (Literal a) = tt
move_awake p l k This = tt
move_awake p l k (Local i) = tt
move_awake p l k (ComponentField f) = load_awake (l.column f)
move_awake p l k (Register a) = tt
move_awake p l k (ComponentMethod m) = tt
move_awake p l k (Apply op t) = tt
move_awake p l k (Operate at op t u) = tt
move_awake p l k (CastTo at t u) = cast_awake l t u
move_awake p l k (IsBelow c) = tt
move_awake p l k (Field at f) = load_at_awake (l.column f) (first_with p l f)
move_awake p l k (Item at t) = tt
move_awake p l k (Length at t) = tt
move_awake p l k (MethodOf at c s) = tt
move_awake p l k (CallMethod at c s count) = tt
move_awake p l k (CallValue at count t) = call_value_awake count
move_awake p l k (CallComponent m count) = tt
move_awake p l k (SetLocal i t) = tt
move_awake p l k (SetComponentField f) = store_awake (l.column f) (width_in l (field_type p f))
move_awake p l k (SetRegister a) = tt
move_awake p l k (SetField at f) = store_at_awake (l.column f) (first_with p l f) (width_in l (field_type p f))
move_awake p l k (SetItem at t) = tt
move_awake p l k Forget = tt
move_awake p l k (NewObject at c count) = refl
move_awake p l k (NewArray at t) = refl
move_awake p l k (Super c count) = refl

replaced_awake : (f : Step → Code FirmStep) → ((s : Step) → IsAwakeCode (f s)) → (c : Code Step) → IsAwakeCode (replaced f c)
replaced_awake f h Nothing = refl
replaced_awake f h (Then a b) = (tt, replaced_awake f h a, replaced_awake f h b)
replaced_awake f h (Do s) = h s
replaced_awake f h (If a b) = (tt, tt, replaced_awake f h a, replaced_awake f h b)
replaced_awake f h (Loop c body next) =
    (refl, refl, tt, replaced_awake f h c, tt, replaced_awake f h body, replaced_awake f h next)
replaced_awake f h Break = (refl, refl)
replaced_awake f h Continue = (refl, refl)
replaced_awake f h Return = tt

-- ---- procedures

abbrev pub HasAwakeCode : Procedure → Type 0
HasAwakeCode m = IsAwakeCode m.body

both : (xs ys : List Procedure) → AllByRecursion HasAwakeCode xs → AllByRecursion HasAwakeCode ys → AllByRecursion HasAwakeCode (xs ++ ys)
both [] ys h k = k
both (x ∷ xs) ys (h, hs) k = (h, both xs ys hs k)

here_awake : (p : Tables) (n : Numbers) (x : Plan) (m : ℕ) (y : Method) (b : Body) → HasAwakeCode (packed_here p n x m y b)
here_awake p n x m y b =
    replaced_awake (moved p n x) (λ s. move_awake p (layout_by [] n x) no_codes (few_step s)) (without_pairs b.code)

if_awake : (o : Option ℕ) (r : Procedure) → HasAwakeCode r → AllByRecursion HasAwakeCode (unless_none o r)
if_awake (Some q) r h = (h, tt)
if_awake None r h = tt

pub methods_awake : (p : Tables) (n : Numbers) (x : Plan) (m : ℕ) (ys : List Method) (bs : List Body)
    → AllByRecursion HasAwakeCode (packed_methods p n x m ys bs)
methods_awake p n x m [] bs = tt
methods_awake p n x m (y ∷ ys) [] = tt
methods_awake p n x m (y ∷ ys) (b ∷ bs) =
    both (packed_if p n x m y b) (packed_methods p n x (suc m) ys bs)
    (if_awake (flat (slice_get x.procedures m)) (packed_here p n x m y b) (here_awake p n x m y b)) (methods_awake p n x (suc m) ys bs)

pub awake_at : (ms : List Procedure) (q : ℕ) (m : Procedure) → AllByRecursion HasAwakeCode ms → slice_get ms q ≡ Some m → HasAwakeCode m
awake_at [] q m a e = absurd (none-some m e)
awake_at (x ∷ ms) zero m (h, a) e = subst HasAwakeCode (same_Some x m e) h
awake_at (x ∷ ms) (suc q) m (h, a) e = awake_at ms q m a e
