-- What a type of the tables stands for is made of what its parts stand for. The types are named from the front, each by those before
-- it: what is named stays, and a type names the same by all types as by those before it, since its parts have lower numbers.
use Rattle.std.proofs.Common.{◌≡◌, ◌<◌, ℕ, zero, suc, ◌+◌, List, [], ◌∷◌, ◌++◌, length, Some}
use Rattle.std.proofs.Common.{refl, sym, ap, ◌∙◌, arith, length-append}
use Rattle.std.specs.List.{slice_get}
use Rattle.std.proofs.lemmas.Option.{same_Some, none-some}
use Rattle.vg_source.specs.Types as source
use Rattle.vg_source.specs.Types.{StaticType}
use Rattle.vg_core.specs.declared.types.CoreType.{CoreType}
use Rattle.vg_core.specs.declared.types.CoreType.TheVariants.{IntType, BoolType, CharType, RawType, NullType, ClassType}
use Rattle.vg_core.specs.declared.types.CoreType.TheVariants.{ArrayType, FunctionType, NoType, MoreTypes}
use Rattle.vg_core.specs.declared.program.Tables.{Tables}
use Rattle.vg_core.specs.Naming.{Naming, found_type, named_number, named_type_in, named_types, named_type}
use Rattle.vg_types_tables.specs.Declares.{IsMadeBelow, IsFormed}
use Rattle.vg_types_tables.proofs.Lists.{front, behind}

-- two lists of named types are the same below a number
abbrev Agree : (a b : List StaticType) → ℕ → Type 0
Agree a b m = (k : ℕ) → k < m → slice_get a k ≡ slice_get b k

-- a type whose parts are below the number is named the same by both
alike : (p : Tables) (n : Naming) (a b : List StaticType) (m : ℕ) → Agree a b m → (t : CoreType) → IsMadeBelow p m t
    → named_type_in n a t ≡ named_type_in n b t
alike p n a b m h (ArrayType t) l = ap (λ o. source.ArrayType (found_type o)) (h t l)
alike p n a b m h (FunctionType ps r) (l, g) =
    ap (λ o. source.FunctionType (found_type o) (named_number a r)) (h ps l) ∙ ap (λ o. source.FunctionType (named_number b ps) (found_type o)) (h r g)
alike p n a b m h (MoreTypes t rest) (l, g) =
    ap (λ o. source.MoreTypes (found_type o) (named_number a rest)) (h t l) ∙ ap (λ o. source.MoreTypes (named_number b t) (found_type o)) (h rest g)
alike p n a b m h IntType l = refl
alike p n a b m h BoolType l = refl
alike p n a b m h CharType l = refl
alike p n a b m h (RawType k) l = refl
alike p n a b m h NullType l = refl
alike p n a b m h (ClassType c) l = refl
alike p n a b m h NoType l = refl

module _ (p : Tables) (n : Naming) where
  -- the types named so far, with the next
  abbrev next : List StaticType → CoreType → List StaticType
  next done t = done ++ named_type_in n done t ∷ []

  longer : (done : List StaticType) (t : CoreType) → length (next done t) ≡ suc (length done)
  longer done t = length-append done (named_type_in n done t ∷ []) ∙ omega arith

  -- what is named stays
  stays : (ts : List CoreType) (done : List StaticType) (k : ℕ) → k < length done → slice_get (named_types n done ts) k ≡ slice_get done k
  stays [] done k l = refl
  stays (t ∷ ts) done k l = stays ts (next done t) k (omega (arith, longer done t, l)) ∙ front done (named_type_in n done t ∷ []) k l

  -- the type of a number, by all types
  pub entry : (ts : List CoreType) (done : List StaticType) (i k : ℕ) (t : CoreType) → k ≡ length done + i → slice_get ts i ≡ Some t → IsMadeBelow p k t
      → slice_get (named_types n done ts) k ≡ Some (named_type_in n (named_types n done ts) t)
  entry [] done i k t at e l = absurd (none-some t e)
  entry (u ∷ ts) done zero k t at e l =
      let all = named_types n done (u ∷ ts) in
      let here : k ≡ length done = omega (arith, at) in
      stays ts (next done u) k (omega (arith, longer done u, at)) ∙ behind done (named_type_in n done u) k here
      ∙ ap (λ x. Some (named_type_in n done x)) (same_Some u t e)
      ∙ ap Some (alike p n done all k (λ j h. sym (stays (u ∷ ts) done j (omega (arith, h, here)))) t l)
  entry (u ∷ ts) done (suc i) k t at e l = entry ts (next done u) i k t (omega (arith, longer done u, at)) e l

  -- a number in the tables stands for what its type stands for
  pub number_named : IsFormed p → (i : ℕ) (t : CoreType) → slice_get p.types i ≡ Some t → named_number (named_types n [] p.types) i ≡ named_type n p t
  number_named f i t e = ap found_type (entry p.types [] i i t (omega arith) e (f.made_below i t e))
