-- Two types of the tables that stand for one type are one type, by induction on the numbers of their parts: those that stand for
-- one type are one type, so they have one number, and so the types that are made of them are one.
use Rattle.std.proofs.Common.{◌≡◌, ◌<◌, ◌≤◌, ℕ, zero, suc, [], length, get_or, Some, refl, sym, ap, ◌∙◌, subst, arith}
use Rattle.std.specs.List.{slice_get}
use Rattle.std.proofs.lemmas.Option.{slice_get_within, slice_get-get_or}
use Rattle.vg_source.specs.Types as source
use Rattle.vg_source.specs.Types.{StaticType}
use Rattle.vg_core.specs.declared.types.CoreType.{CoreType}
use Rattle.vg_core.specs.declared.types.CoreType.TheVariants.{IntType, BoolType, CharType, RawType, NullType, ClassType}
use Rattle.vg_core.specs.declared.types.CoreType.TheVariants.{ArrayType, FunctionType, NoType, MoreTypes}
use Rattle.vg_core.specs.declared.program.Tables.{Tables}
use Rattle.vg_core.specs.Naming.{Naming, named_number, named_types, named_type}
use Rattle.vg_types_tables.specs.Declares.{IsClass, IsKnown, IsMadeBelow, IsFormed}
use Rattle.vg_types_tables.proofs.TypeViews.{number_named}

module _ (n : Naming) (p : Tables) where
  abbrev number : ℕ → StaticType
  number i = named_number (named_types n [] p.types) i

  -- a type stands for this one, by its parts
  abbrev Is : CoreType → StaticType → Type 0
  Is IntType source.IntType = Unit {0}
  Is BoolType source.BoolType = Unit {0}
  Is CharType source.CharType = Unit {0}
  Is (RawType k) (source.RawType j) = k ≡ j
  Is NullType source.NullType = Unit {0}
  Is (ClassType c) (source.ClassType x) = n.class c ≡ x
  Is (ArrayType t) (source.ArrayType x) = number t ≡ x
  Is (FunctionType ps r) (source.FunctionType x y) = (number ps ≡ x) × (number r ≡ y)
  Is NoType source.NoType = Unit {0}
  Is (MoreTypes t rest) (source.MoreTypes x y) = (number t ≡ x) × (number rest ≡ y)
  Is _ _ = ⊥

  is_view : (t : CoreType) → Is t (named_type n p t)
  is_view IntType = tt
  is_view BoolType = tt
  is_view CharType = tt
  is_view (RawType k) = refl
  is_view NullType = tt
  is_view (ClassType c) = refl
  is_view (ArrayType t) = refl
  is_view (FunctionType ps r) = (refl, refl)
  is_view NoType = tt
  is_view (MoreTypes t rest) = (refl, refl)

  -- what is made of types with lower numbers
  raised : (i k : ℕ) → i ≤ k → (t : CoreType) → IsMadeBelow p i t → IsMadeBelow p k t
  raised i k h (ArrayType t) l = omega (arith, h, l)
  raised i k h (FunctionType ps r) (l, m) = (omega (arith, h, l), omega (arith, h, m))
  raised i k h (MoreTypes t rest) (l, m) = (omega (arith, h, l), omega (arith, h, m))
  raised i k h (ClassType c) l = l
  raised i k h IntType l = l
  raised i k h BoolType l = l
  raised i k h CharType l = l
  raised i k h (RawType j) l = l
  raised i k h NullType l = l
  raised i k h NoType l = l

  below_all : (t : CoreType) → IsKnown p t → IsMadeBelow p (length p.types) t
  below_all (ArrayType t) (x, e) = slice_get_within p.types t x e
  below_all (FunctionType ps r) ((x, e), (y, g)) = (slice_get_within p.types ps x e, slice_get_within p.types r y g)
  below_all (MoreTypes t rest) ((x, e), (y, g)) = (slice_get_within p.types t x e, slice_get_within p.types rest y g)
  below_all (ClassType c) k = k
  below_all IntType k = k
  below_all BoolType k = k
  below_all CharType k = k
  below_all (RawType j) k = k
  below_all NullType k = k
  below_all NoType k = k

  module _ (f : IsFormed p) (classes : (c d : ℕ) → IsClass p c → IsClass p d → n.class c ≡ n.class d → c ≡ d) where
    -- types below a number that stand for one type are one
    abbrev OneBelow : ℕ → Type 0
    OneBelow k = (i j : ℕ) (t u : CoreType) → i < k → j < k → slice_get p.types i ≡ Some t → slice_get p.types j ≡ Some u
        → named_type n p t ≡ named_type n p u → t ≡ u

    -- so have one number
    one_number : (k : ℕ) → k ≤ length p.types → OneBelow k → (i j : ℕ) → i < k → j < k → number i ≡ number j → i ≡ j
    one_number k h one i j l m e =
        let t = get_or p.types i IntType in
        let u = get_or p.types j IntType in
        let is_t : slice_get p.types i ≡ Some t = slice_get-get_or p.types i IntType (omega (arith, h, l)) in
        let is_u : slice_get p.types j ≡ Some u = slice_get-get_or p.types j IntType (omega (arith, h, m)) in
        let same : t ≡ u = one i j t u l m is_t is_u (sym (number_named p n f i t is_t) ∙ e ∙ number_named p n f j u is_u) in
        f.one_number i j u (is_t ∙ ap Some same) is_u

    made_one : (k : ℕ) → k ≤ length p.types → OneBelow k → (t u : CoreType) → IsMadeBelow p k t → IsMadeBelow p k u → Is t (named_type n p u) → t ≡ u
    made_one k h one IntType IntType l m e = refl
    made_one k h one BoolType BoolType l m e = refl
    made_one k h one CharType CharType l m e = refl
    made_one k h one (RawType i) (RawType j) l m e = ap RawType e
    made_one k h one NullType NullType l m e = refl
    made_one k h one (ClassType c) (ClassType d) l m e = ap ClassType (classes c d l m e)
    made_one k h one (ArrayType i) (ArrayType j) l m e = ap ArrayType (one_number k h one i j l m e)
    made_one k h one (FunctionType i r) (FunctionType j s) (l, a) (m, b) (e, g) =
        ap (λ x. FunctionType x r) (one_number k h one i j l m e) ∙ ap (FunctionType j) (one_number k h one r s a b g)
    made_one k h one NoType NoType l m e = refl
    made_one k h one (MoreTypes i r) (MoreTypes j s) (l, a) (m, b) (e, g) =
        ap (λ x. MoreTypes x r) (one_number k h one i j l m e) ∙ ap (MoreTypes j) (one_number k h one r s a b g)
    made_one k h one t u l m e = absurd e

    one_below : (k : ℕ) → k ≤ length p.types → OneBelow k
    one_below zero h i j t u l m is_t is_u e = absurd (omega (arith, l))
    one_below (suc k) h i j t u l m is_t is_u e =
        made_one k (omega (arith, h)) (one_below k (omega (arith, h))) t u (raised i k (omega (arith, l)) t (f.made_below i t is_t))
        (raised j k (omega (arith, m)) u (f.made_below j u is_u)) (subst (Is t) e (is_view t))

    -- two types of the tables that stand for one type are one
    pub one : (t u : CoreType) → IsKnown p t → IsKnown p u → named_type n p t ≡ named_type n p u → t ≡ u
    one t u k l e =
        made_one (length p.types) (omega arith) (one_below (length p.types) (omega arith)) t u (below_all t k) (below_all u l) (subst (Is t) e (is_view t))
