-- The test of types for sameness says whether they are one.
use Rattle.std.proofs.Common.{◌≡◌, Bool, true, false, ◌&&◌, refl, ap, ◌∙◌, arith}
use Rattle.std.proofs.lemmas.Bool.{false≢true}
use Rattle.std.proofs.lemmas.Slice.Eq.{bytes_eq-Decides}
use Rattle.vg_source.specs.Types.{StaticType, IntType, BoolType, CharType, RawType, NullType, ClassType, ArrayType, FunctionType, NoType, MoreTypes}
use Rattle.vg_rules.specs.Fits.{same_type}

pub false_true : {X : Type 0} → false ≡ true → X
false_true e = absurd (false≢true e)

both : (a b : Bool) → (a && b) ≡ true → (a ≡ true) × (b ≡ true)
both true b e = (refl, e)
both false b e = false_true e

-- types that the test finds the same are one
pub one_static : (t u : StaticType) → same_type t u ≡ true → t ≡ u
one_static IntType IntType e = refl
one_static BoolType BoolType e = refl
one_static CharType CharType e = refl
one_static (RawType j) (RawType k) e = ap RawType (grind arith)
one_static NullType NullType e = refl
one_static (ClassType c) (ClassType d) e = ap ClassType ((bytes_eq-Decides c d).0 e)
one_static (ArrayType t) (ArrayType u) e = ap ArrayType (one_static t u e)
one_static (FunctionType ps r) (FunctionType qs s) e =
    let h = both (same_type ps qs) (same_type r s) e in
    ap (λ x. FunctionType x r) (one_static ps qs h.0) ∙ ap (FunctionType qs) (one_static r s h.1)
one_static NoType NoType e = refl
one_static (MoreTypes t ts) (MoreTypes u us) e =
    let h = both (same_type t u) (same_type ts us) e in
    ap (λ x. MoreTypes x ts) (one_static t u h.0) ∙ ap (MoreTypes u) (one_static ts us h.1)
one_static t u e = false_true e

-- and the test finds each the same as itself
pub same_itself : (t : StaticType) → same_type t t ≡ true
same_itself IntType = refl
same_itself BoolType = refl
same_itself CharType = refl
same_itself (RawType k) = grind arith
same_itself NullType = refl
same_itself (ClassType c) = (bytes_eq-Decides c c).1 refl
same_itself (ArrayType t) = same_itself t
same_itself (FunctionType ps r) = ap (λ b. b && same_type r r) (same_itself ps) ∙ same_itself r
same_itself NoType = refl
same_itself (MoreTypes t ts) = ap (λ b. b && same_type ts ts) (same_itself t) ∙ same_itself ts
