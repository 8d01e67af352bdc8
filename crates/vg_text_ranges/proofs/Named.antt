-- What is ranged under names is ranged under numbers.
use Rattle.std.proofs.Common.{◌≡◌, ◌⊎◌, refl, ap, subst, ◌∙◌, arith, ℕ, zero, suc, ◌<◌, ◌≤◌, ◌/◌, ◌+◌, ◌^◌, ◌&&◌, Bool, true, false, List, [], ◌∷◌, ◌++◌, length, map, flat_map, Option, Some}
use Rattle.std.proofs.Common.{None, slice_get}
use Rattle.std.specs.List.{AllByRecursion}
use mathlib.Core.Logic.{inl, inr}
use Rattle.vg_syntax.specs.Tree.{Node, Spot, Text}
use Rattle.vg_syntax.specs.Tree as tree
use Rattle.vg_meaning.specs.Code.{Code, Nothing, Then, Do, If, Loop, Break, Continue, Return}
use Rattle.vg_source.specs.Steps as source
use Rattle.vg_source.specs.Nodes.{nodes, literal_bytes}
use Rattle.vg_source.specs.Program.{source_of}
use Rattle.vg_rules.specs.Legal.{Legal}
use Rattle.vg_core.specs.declared.types.CoreType.{CoreType}
use Rattle.vg_core.specs.declared.types.CoreType.TheVariants as types
use Rattle.vg_core.specs.declared.value.CoreValue.TheVariants.{Int, Bool as Truth, Char, Raw, Null, Obj, Arr, Bound}
use Rattle.vg_core.specs.declared.program.Target.{Target}
use Rattle.vg_core.specs.declared.program.Target.TheVariants.{Run}
use Rattle.vg_core.specs.declared.step.Step.{Step}
use Rattle.vg_core.specs.declared.step.Step.TheVariants.{Put, CastTo, NewArray, Super}
use Rattle.vg_core.specs.Heap.{default}
use Rattle.vg_core.specs.Naming.{Naming, named_type, type_named, type_at, named_value, named_step, named_code, named_target, named_routine}
use Rattle.vg_core.specs.Naming as naming
use Rattle.vg_core.specs.Program.{Body, Program, Signature, signature_of, body_of}
use Rattle.vg_live.specs.Uses.{uses, steps_in}
use Rattle.vg_packing.specs.Allowed.{IsSmall, AreSmall}
use Rattle.vg_renamed.specs.NamesTell.{NamesTell}
use Rattle.vg_source_ranges.specs.Ranges as named
use Rattle.vg_source_ranges.specs.Spelled.{IsSpelled, AreSpelled}
use Rattle.vg_source_ranges.specs.Routines.{AreConstants, IsRangedRoutine, MayRunAbove, AreMembers, HaveMembers}
use Rattle.vg_source_ranges.proofs.Routines.{ranged_routine}
use Rattle.vg_types_declared.specs.Apart.{are_members, have_members}
use Rattle.vg_placement.specs.Columns.{column_width}
use Rattle.vg_text_limits.proofs.Standing.{stands_at}
use Rattle.vg_packed.specs.Ranges.{AreBytes, IsRangedStep, HaveRanges}
use Rattle.vg_text_ranges.specs.Beside.{IsSafeBeside}

-- ---- lists

one_of_both : (xs ys : List Step) (i : ℕ) (s : Step) → slice_get (xs ++ ys) i ≡ Some s
    → ((j : ℕ) × (slice_get xs j ≡ Some s)) ⊎ ((j : ℕ) × (slice_get ys j ≡ Some s))
one_of_both [] ys i s e = inr (i, e)
one_of_both (x ∷ xs) ys zero s e = inl (0, e)
one_of_both (x ∷ xs) ys (suc i) s e = by (one_of_both xs ys i s e)
  where
    by : ((j : ℕ) × (slice_get xs j ≡ Some s)) ⊎ ((j : ℕ) × (slice_get ys j ≡ Some s))
        → ((j : ℕ) × (slice_get (x ∷ xs) j ≡ Some s)) ⊎ ((j : ℕ) × (slice_get ys j ≡ Some s))
    by (inl (j, h)) = inl (suc j, h)
    by (inr h) = inr h

-- ---- members

both : (a b : Bool) → (a && b) ≡ true → (a ≡ true) × (b ≡ true)
both true true e = (refl, refl)
both true false e = absurd (let clash : false ≡ true = e in cc)
both false b e = absurd (let clash : false ≡ true = e in cc)

false_true : {B : Type 0} → false ≡ true → B
false_true e = absurd cc

members_only : (members : Node) → are_members members ≡ true → AreMembers members
members_only (tree.Then (tree.FieldDecl at x t e) rest) h = members_only rest h
members_only (tree.Then (tree.MethodDecl at x ps t body) rest) h = members_only rest h
members_only (tree.Then (tree.ConstructorDecl at ps calls args body) rest) h = members_only rest h
members_only (tree.Then _ rest) h = false_true h
members_only _ h = tt

pub declarations_only : (ds : Node) → have_members ds ≡ true → HaveMembers ds
declarations_only (tree.Then (tree.ClassDecl at c above members) rest) h =
    let q = both (are_members members) (have_members rest) h in (members_only members q.0, declarations_only rest q.1)
declarations_only (tree.Then (tree.ComponentDecl at c members) rest) h =
    let q = both (are_members members) (have_members rest) h in (members_only members q.0, declarations_only rest q.1)
declarations_only (tree.Then _ rest) h = declarations_only rest h
declarations_only _ h = tt

-- ---- literals

are_bytes : (bs : List ℕ) → AllByRecursion (λ b. b < 256) bs → AreBytes bs
are_bytes [] h = tt
are_bytes (b ∷ bs) (a, h) = (a, are_bytes bs h)

literal_spelled : (most : ℕ) (ns : List Node) → AllByRecursion (IsSpelled most) ns → (k : ℕ) (bytes : List ℕ)
    → slice_get (flat_map literal_bytes ns) k ≡ Some bytes → AreBytes bytes × (length bytes ≤ most)
literal_spelled most [] h k bytes e = absurd (grind (arith, e))
literal_spelled most (tree.StringLit at spelled ∷ ns) (a, h) zero bytes e =
    (subst AreBytes (same _ bytes e) (are_bytes _ a.0), subst (λ z. length z ≤ most) (same _ bytes e) a.1)
  where
    same : (xs ys : List ℕ) → Some xs ≡ Some ys → xs ≡ ys
    same xs ys q = cc
literal_spelled most (tree.StringLit at spelled ∷ ns) (a, h) (suc k) bytes e = literal_spelled most ns h k bytes e
literal_spelled most (_ ∷ ns) (a, h) k bytes e = literal_spelled most ns h k bytes e

-- ---- types and steps

module _ (n : Naming) (p : Program) where
  pub small_type : (t : CoreType) → named.IsSmall (named_type n p.tables t) → IsSmall t
  small_type (types.RawType k) h = h
  small_type types.IntType h = tt
  small_type types.BoolType h = tt
  small_type types.CharType h = tt
  small_type types.NullType h = tt
  small_type (types.ClassType c) h = tt
  small_type (types.ArrayType t) h = tt
  small_type (types.FunctionType ps r) h = tt
  small_type types.NoType h = tt
  small_type (types.MoreTypes t ts) h = tt

  raw_width : (k : ℕ) → 0 < k → 0 < (k + 7) / 8
  raw_width k h = omega (arith, h)

  pub wide_type : (t : CoreType) → named.IsWide (named_type n p.tables t) → 0 < column_width t
  wide_type (types.RawType k) h = raw_width k h
  wide_type types.IntType h = omega arith
  wide_type types.BoolType h = omega arith
  wide_type types.CharType h = omega arith
  wide_type types.NullType h = omega arith
  wide_type (types.ClassType c) h = omega arith
  wide_type (types.ArrayType t) h = omega arith
  wide_type (types.FunctionType ps r) h = omega arith
  wide_type types.NoType h = absurd h
  wide_type (types.MoreTypes t ts) h = absurd h

  small_default : (t : CoreType) → named.IsConstant (named_value n p.tables (default t)) → IsSmall t
  small_default (types.RawType k) h = h.0
  small_default types.IntType h = tt
  small_default types.BoolType h = tt
  small_default types.CharType h = tt
  small_default types.NullType h = tt
  small_default (types.ClassType c) h = tt
  small_default (types.ArrayType t) h = tt
  small_default (types.FunctionType ps r) h = tt
  small_default types.NoType h = tt
  small_default (types.MoreTypes t ts) h = tt

  small_defaults : (ts : List CoreType) → AreConstants (map (named_value n p.tables) (map default ts)) → AreSmall ts
  small_defaults [] h = tt
  small_defaults (t ∷ ts) (a, h) = (small_default t a, small_defaults ts h)

  -- a step that stands in code is ranged where the code is
  module _ (above : Type 0) where
    abbrev Stands : List Step → Step → Type 0
    Stands ss s = (i : ℕ) × (slice_get ss i ≡ Some s)

    abbrev RangedStep : Step → Type 0
    RangedStep s = named.IsRanged above (named_step n p.tables s)

    either : (s : Step) (ss us : List Step) → (Stands ss s → RangedStep s) → (Stands us s → RangedStep s) → Stands ss s ⊎ Stands us s → RangedStep s
    either s ss us f g (inl a) = f a
    either s ss us f g (inr b) = g b

    standing : (c : Code Step) → named.AreRanged above (named_code n p.tables c) → (s : Step) → Stands (uses c) s → RangedStep s
    standing Nothing h s (i, e) = absurd (grind (arith, e))
    standing (Then a b) (ha, hb) s (i, e) = either s (uses a) (uses b) (standing a ha s) (standing b hb s) (one_of_both (uses a) (uses b) i s e)
    standing (Do t) h s (zero, e) = let q : t ≡ s = cc in subst RangedStep q h
    standing (Do t) h s (suc i, e) = absurd (grind (arith, e))
    standing (If a b) (ha, hb) s (i, e) = either s (uses a) (uses b) (standing a ha s) (standing b hb s) (one_of_both (uses a) (uses b) i s e)
    standing (Loop a b c) (ha, hb, hc) s (i, e) =
        either s (uses a ++ uses b) (uses c)
        (λ st. either s (uses a) (uses b) (standing a ha s) (standing b hb s) (one_of_both (uses a) (uses b) st.0 s st.1)) (standing c hc s)
        (one_of_both (uses a ++ uses b) (uses c) i s e)
    standing Break h s (i, e) = absurd (grind (arith, e))
    standing Continue h s (i, e) = absurd (grind (arith, e))
    standing Return h s (i, e) = absurd (grind (arith, e))

  -- ---- what runs

  module _ (at : Spot) (ds : Node) (most : ℕ) (is : source_of (Text at ds) ≡ naming.named n p) (told : NamesTell n p) (legal : Legal (Text at ds))
      (have : HaveMembers ds) (spelled : AreSpelled most ds) (short : most < 2 ^ 31) (beside : IsSafeBeside p) where
    routine : (t : Target) (g : Signature) (b : Body) → signature_of p.tables t ≡ Some g → body_of p t ≡ Some b
        → IsRangedRoutine (MayRunAbove (named_target n p.tables t)) (named_routine n p.tables t g b)
    routine t g b eg eb =
        let k = told.targets t g b eg eb in
        let r = stands_at n p t g b eg eb p.tables.targets k.0 k.1 in
        ranged_routine most at ds legal have spelled r.0 (named_routine n p.tables t g b) (ap (λ s. slice_get (source.Source.routines s) r.0) is ∙ r.1)

    its_steps : (t : Target) (b : Body) (i : ℕ) (s : Step) → body_of p t ≡ Some b → slice_get (uses b.code) i ≡ Some s
        → named.IsRanged (MayRunAbove (named_target n p.tables t)) (named_step n p.tables s)
    its_steps t b i s eb e =
        let g = beside.signatures t b eb in
        standing (MayRunAbove (named_target n p.tables t)) b.code (routine t g.0 b g.1 eb).code s (i, e)

    ranged_step : (above : Type 0) (t : Target) (b : Body) (i : ℕ) (s : Step) → body_of p t ≡ Some b → slice_get (uses b.code) i ≡ Some s
        → named.IsRanged above (named_step n p.tables s) → IsRangedStep p.tables s
    ranged_step above t b i (Put (Int z)) eb e h = h
    ranged_step above t b i (Put (Truth x)) eb e h = tt
    ranged_step above t b i (Put (Char c)) eb e h = h
    ranged_step above t b i (Put (Raw k x)) eb e h = h
    ranged_step above t b i (Put Null) eb e h = tt
    ranged_step above t b i (Put (Obj k)) eb e h = absurd h
    ranged_step above t b i (Put (Arr k)) eb e h = absurd h
    ranged_step above t b i (Put (Bound r m)) eb e h = absurd h
    ranged_step above t b i (CastTo a x u) eb e h = small_type u h
    ranged_step above t b i (NewArray a u) eb e h =
        λ x ex. (
          small_type x (subst named.IsSmall (ap (type_named n p.tables) ex) h.0),
          wide_type x (subst named.IsWide (ap (type_named n p.tables) ex) h.1),
        )
    ranged_step above t b i _ eb e h = tt

    no_construction : (m i c count : ℕ) (o : Option Body) → body_of p (Run m) ≡ o → slice_get (steps_in o) i ≡ Some (Super c count) → ⊥
    no_construction m i c count None eb e = let clash : None ≡ Some (Super c count) = e in absurd cc
    no_construction m i c count (Some b) eb e = its_steps (Run m) b i (Super c count) eb e

    result_small : (t : Target) (g : Signature) → signature_of p.tables t ≡ Some g → IsSmall g.result
    result_small t g eg = let b = told.bodies t g eg in small_default g.result (routine t g b.0 eg b.1).missing

    its_literals : (k : ℕ) (bytes : List ℕ) → slice_get p.tables.literals k ≡ Some bytes → AreBytes bytes × (length bytes < 2 ^ 31)
    its_literals k bytes e =
        let q = literal_spelled most (nodes ds) spelled k bytes (ap (λ z. slice_get (source.Source.literals z) k) is ∙ e) in
        (q.0, (let a = q.1 in let b = short in omega (arith, a, b)))

    pub have_ranges : HaveRanges p
    have_ranges =
        record {
          steps = λ t b i s eb e. ranged_step (MayRunAbove (named_target n p.tables t)) t b i s eb e (its_steps t b i s eb e);
          others = λ t b eb. let g = beside.signatures t b eb in small_defaults b.others (routine t g.0 b g.1 eb).others;
          results = result_small;
          fields = beside.fields;
          literals = its_literals;
          wide = beside.wide;
          constructors = λ m i c count e. no_construction m i c count (body_of p (Run m)) refl e;
          few_arguments = beside.few_arguments;
        }
