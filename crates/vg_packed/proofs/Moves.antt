-- What stands for steps and for code.
use Rattle.std.proofs.Common.{◌≡◌, refl, sym, ap, subst, ◌∙◌, arith, ℕ, zero, suc, ◌≤◌, List, [], ◌∷◌, ◌++◌, min, Option, Some, None, slice_get}
use Rattle.vg_meaning.specs.Code.{Code, Nothing, Then, Do, If, Loop, Break, Continue, Return, replaced}
use Rattle.vg_codes.specs.Codes.{Codes}
use Rattle.vg_core.specs.declared.operator.Prefix.{Prefix}
use Rattle.vg_core.specs.declared.program.Tables.{Tables}
use Rattle.vg_core.specs.declared.step.Step.{Step}
use Rattle.vg_core.specs.declared.step.Step.TheVariants as core
use Rattle.vg_core.specs.declared.types.CoreType.{CoreType}
use Rattle.vg_core.specs.declared.types.CoreType.TheVariants as types
use Rattle.vg_core.specs.declared.value.CoreValue.TheVariants.{Int, Bool as Truth, Char, Raw, Null, Obj, Arr, Bound}
use Rattle.vg_core.specs.Heap.{Kind}
use Rattle.vg_firm.specs.declared.step.Step.{Step as FirmStep}
use Rattle.vg_firm.specs.declared.step.Step.TheVariants as firm
use Rattle.vg_live.specs.Uses.{uses}
use Rattle.vg_number.specs.declared.numbers.Numbers.{Numbers}
use Rattle.vg_pairs.specs.Pairs.{prefix_in, behind, paired, unpaired}
use Rattle.vg_packing.specs.Pass.{move}
use Rattle.vg_pairs.proofs.Doing.{prefix_is}
use Rattle.vg_packed.specs.Plain.{IsPlainStep}
use Rattle.vg_pack_code.specs.declared.plan.Plan.{Plan}
use Rattle.vg_pack_code.specs.Plans.{layout_by, moved}
use Rattle.vg_packed.specs.Few.{HasFewArguments}

least : (n : ℕ) → n ≤ 255 → min n 255 ≡ n
least n le = omega (arith, le)

module _ (p : Tables) (κ : List Kind) (n : Numbers) (x : Plan) (k : Codes) where
  pub same_move : (s : Step) → IsPlainStep s → HasFewArguments s → move p (layout_by κ n x) k s ≡ moved p n x s
  same_move (core.Put (Int z)) a b = refl
  same_move (core.Put (Truth t)) a b = refl
  same_move (core.Put (Char c)) a b = refl
  same_move (core.Put (Raw j bits)) a b = refl
  same_move (core.Put Null) a b = refl
  same_move (core.Put (Obj c)) a b = absurd a
  same_move (core.Put (Arr c)) a b = absurd a
  same_move (core.Put (Bound r m)) a b = absurd a
  same_move (core.Literal c) a b = refl
  same_move core.This a b = refl
  same_move (core.Local i) a b = refl
  same_move (core.ComponentField f) a b = refl
  same_move (core.Register r) a b = refl
  same_move (core.ComponentMethod m) a b = refl
  same_move (core.Apply op t) a b = refl
  same_move (core.Operate at op t u) a b = refl
  same_move (core.CastTo at t u) a b = cast u
    where
      cast : (u : CoreType) → move p (layout_by κ n x) k (core.CastTo at t u) ≡ moved p n x (core.CastTo at t u)
      cast types.IntType = refl
      cast types.CharType = refl
      cast (types.RawType j) = refl
      cast (types.ClassType c) = refl
      cast types.BoolType = refl
      cast types.NullType = refl
      cast (types.ArrayType e) = refl
      cast (types.FunctionType ps r) = refl
      cast types.NoType = refl
      cast (types.MoreTypes i j) = refl
  same_move (core.IsBelow c) a b = refl
  same_move (core.Field at f) a b = refl
  same_move (core.Item at t) a b = refl
  same_move (core.Length at t) a b = refl
  same_move (core.MethodOf at c s) a b = refl
  same_move (core.CallMethod at c s count) a b = ap (λ z. Do (firm.CallFor ((layout_by κ n x).dispatch c s) z)) (sym (least count b))
  same_move (core.CallValue at count t) a b = refl
  same_move (core.CallComponent m count) a b = call
    where
      call : move p (layout_by κ n x) k (core.CallComponent m count) ≡ moved p n x (core.CallComponent m count)
      call = ap (λ z. move p (layout_by κ n x) k (core.CallComponent m z)) (sym (least count b))
  same_move (core.NewObject at c count) a b = refl
  same_move (core.NewArray at t) a b = refl
  same_move (core.SetLocal i t) a b = refl
  same_move (core.SetComponentField f) a b = refl
  same_move (core.SetRegister r) a b = refl
  same_move (core.SetField at f) a b = refl
  same_move (core.SetItem at t) a b = refl
  same_move core.Forget a b = refl
  same_move (core.Super c count) a b = refl

-- all of a list are so, as far as places go
abbrev Each : (Step → Type 0) → List Step → Type 0
Each P ss = (i : ℕ) (s : Step) → slice_get ss i ≡ Some s → P s

front : (P : Step → Type 0) (xs ys : List Step) → Each P (xs ++ ys) → Each P xs
front P [] ys h i s e = absurd (grind (arith, e))
front P (x ∷ xs) ys h zero s e = h zero s e
front P (x ∷ xs) ys h (suc i) s e = front P xs ys (λ j t d. h (suc j) t d) i s e

rear : (P : Step → Type 0) (xs ys : List Step) → Each P (xs ++ ys) → Each P ys
rear P [] ys h = h
rear P (x ∷ xs) ys h = rear P xs ys (λ j t d. h (suc j) t d)

-- What holds of an operator that may wait.
abbrev OfWaiting : (Step → Type 0) → Option (Prefix × CoreType) → Type 0
OfWaiting P None = Unit {0}
OfWaiting P (Some (op, t)) = P (core.Apply op t)

same_behind : (f g : Step → Code FirmStep) (w : Option (Prefix × CoreType)) (c : Code Step) → OfWaiting (λ s. f s ≡ g s) w
    → replaced f c ≡ replaced g c → replaced f (behind w c) ≡ replaced g (behind w c)
same_behind f g None c h e = e
same_behind f g (Some (op, t)) c h e = ap (λ z. Then z (replaced f c)) h ∙ ap (Then (g (core.Apply op t))) e

same_pair : (f g : Step → Code FirmStep) (w this : Option (Prefix × CoreType)) (a : Code Step) (rest : Option (Prefix × CoreType) → Code Step)
    → OfWaiting (λ s. f s ≡ g s) w → OfWaiting (λ s. f s ≡ g s) this → replaced f a ≡ replaced g a
    → ((o : Option (Prefix × CoreType)) → OfWaiting (λ s. f s ≡ g s) o → replaced f (rest o) ≡ replaced g (rest o))
    → replaced f (paired w this a rest) ≡ replaced g (paired w this a rest)
same_pair f g None None a rest hw ht ha hb = ap (λ z. Then z (replaced f (rest None))) ha ∙ ap (Then (replaced g a)) (hb None tt)
same_pair f g None (Some this) a rest hw ht ha hb = hb (Some this) ht
same_pair f g (Some w) None a rest hw ht ha hb =
    same_behind f g (Some w) (Then a (rest None)) hw (ap (λ z. Then z (replaced f (rest None))) ha ∙ ap (Then (replaced g a)) (hb None tt))
same_pair f g (Some w) (Some this) a rest hw ht ha hb = ap (Then Nothing) (hb None tt)

-- the operator that code is stands in it
this_same : (f g : Step → Code FirmStep) (a : Code Step) → Each (λ s. f s ≡ g s) (uses a) → OfWaiting (λ s. f s ≡ g s) (prefix_in a)
this_same f g a h = by (prefix_in a) refl
  where
    by : (o : Option (Prefix × CoreType)) → prefix_in a ≡ o → OfWaiting (λ s. f s ≡ g s) (prefix_in a)
    by None e = subst (OfWaiting (λ s. f s ≡ g s)) (sym e) tt
    by (Some (op, t)) e =
        subst (OfWaiting (λ s. f s ≡ g s)) (sym e) (subst (λ c. Each (λ s. f s ≡ g s) (uses c)) (prefix_is a op t e) h 0 (core.Apply op t) refl)

-- two passes that agree on the steps that stand in code agree on the code without pairs of operators
pub same_unpaired : (f g : Step → Code FirmStep) (c : Code Step) (w : Option (Prefix × CoreType)) → OfWaiting (λ s. f s ≡ g s) w
    → Each (λ s. f s ≡ g s) (uses c) → replaced f (unpaired w c) ≡ replaced g (unpaired w c)
same_unpaired f g Nothing w hw h = same_behind f g w Nothing hw refl
same_unpaired f g (Then a b) w hw h =
    same_pair f g w (prefix_in a) (unpaired None a) (λ this. unpaired this b) hw (this_same f g a (front (λ s. f s ≡ g s) (uses a) (uses b) h))
    (same_unpaired f g a None tt (front (λ s. f s ≡ g s) (uses a) (uses b) h))
    (λ o ho. same_unpaired f g b o ho (rear (λ s. f s ≡ g s) (uses a) (uses b) h))
same_unpaired f g (Do s) w hw h = same_behind f g w (Do s) hw (h 0 s refl)
same_unpaired f g (If a b) w hw h =
    same_behind f g w (If (unpaired None a) (unpaired None b)) hw
    (ap (λ z. If z (replaced f (unpaired None b))) (same_unpaired f g a None tt (front (λ s. f s ≡ g s) (uses a) (uses b) h))
    ∙ ap (If (replaced g (unpaired None a))) (same_unpaired f g b None tt (rear (λ s. f s ≡ g s) (uses a) (uses b) h)))
same_unpaired f g (Loop a b c) w hw h =
    let r = front (λ s. f s ≡ g s) (uses a ++ uses b) (uses c) h in
    same_behind f g w (Loop (unpaired None a) (unpaired None b) (unpaired None c)) hw
    (ap (λ z. Loop z (replaced f (unpaired None b)) (replaced f (unpaired None c))) (same_unpaired f g a None tt (front (λ s. f s ≡ g s) (uses a) (uses b) r))
    ∙ ap (λ z. Loop (replaced g (unpaired None a)) z (replaced f (unpaired None c)))
    (same_unpaired f g b None tt (rear (λ s. f s ≡ g s) (uses a) (uses b) r))
    ∙ ap (Loop (replaced g (unpaired None a)) (replaced g (unpaired None b)))
    (same_unpaired f g c None tt (rear (λ s. f s ≡ g s) (uses a ++ uses b) (uses c) h)))
same_unpaired f g Break w hw h = same_behind f g w Break hw refl
same_unpaired f g Continue w hw h = same_behind f g w Continue hw refl
same_unpaired f g Return w hw h = same_behind f g w Return hw refl
