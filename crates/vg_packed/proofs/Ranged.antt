-- Lists of values and cells whose scalars are in their ranges.
use Rattle.std.proofs.Common.{◌≡◌, refl, subst, arith, ℕ, zero, suc, ◌<◌, ◌^◌, List, [], ◌∷◌, ◌++◌, length, map, take, drop, replicate}
use Rattle.std.proofs.Common.{Option, Some, None, slice_get, slice_set, pos, FitsSigned}
use Rattle.std.specs.Int.{w32}
use Rattle.std.proofs.lemmas.Nat.{pow_pos}
use Rattle.vg_source.specs.Operators.{Scalar, AnInt, ATruth, AChar, Bits}
use Rattle.vg_core.specs.declared.types.CoreType.{CoreType}
use Rattle.vg_core.specs.declared.types.CoreType.TheVariants as types
use Rattle.vg_core.specs.declared.value.CoreValue.{CoreValue}
use Rattle.vg_core.specs.declared.value.CoreValue.TheVariants.{Char}
use Rattle.vg_core.specs.declared.heap.Cell.{Cell}
use Rattle.vg_core.specs.declared.heap.Cell.TheVariants.{Object, Array}
use Rattle.vg_core.specs.declared.program.Field.{Field}
use Rattle.vg_core.specs.declared.program.Tables.{Tables}
use Rattle.vg_core.specs.Heap.{default, with_value}
use Rattle.vg_core.specs.Meaning.{default_in, defaults}
use Rattle.vg_core.specs.Operators.{scalar_value}
use Rattle.vg_core.specs.State.{State, onto}
use Rattle.vg_core.specs.Tables.{type_in}
use Rattle.vg_coded.specs.Numbers.{IsInRange}
use Rattle.vg_packing.specs.Allowed.{IsSmall, AreSmall}
use Rattle.vg_packed.specs.Plain.{IsRanged}
use Rattle.vg_packed.specs.Ranges.{AreBytes, AreItems}

abbrev pub AllRanged : List CoreValue → Type 0
AllRanged [] = Unit {0}
AllRanged (v ∷ vs) = IsRanged v × AllRanged vs

-- the values of a cell are ranged; an array is short, and its elements have bytes
abbrev pub RangedCell : Tables → Cell → Type 0
RangedCell p (Object c vs) = AllRanged vs
RangedCell p (Array t vs) = AllRanged vs × (length vs < 2 ^ 31) × AreItems p t

abbrev pub RangedCells : Tables → List Cell → Type 0
RangedCells p [] = Unit {0}
RangedCells p (c ∷ cs) = RangedCell p c × RangedCells p cs

pub record Ranged (p : Tables) (s : State) : Type 0 where
  pub values : AllRanged s.values
  pub locals : AllRanged s.locals
  pub self : IsRanged s.self
  pub cells : RangedCells p s.heap.cells
  pub globals : AllRanged s.heap.globals

one_some : {A : Type 0} (a b : A) → Some a ≡ Some b → a ≡ b
one_some a b e = cc

-- ---- lists of values

pub ranged_get : (vs : List CoreValue) (i : ℕ) (v : CoreValue) → AllRanged vs → slice_get vs i ≡ Some v → IsRanged v
ranged_get [] i v h e = absurd (grind (arith, e))
ranged_get (u ∷ vs) zero v (a, h) e = subst IsRanged (one_some u v e) a
ranged_get (u ∷ vs) (suc i) v (a, h) e = ranged_get vs i v h e

pub ranged_set : (vs : List CoreValue) (i : ℕ) (v : CoreValue) → AllRanged vs → IsRanged v → AllRanged (slice_set vs i v)
ranged_set [] i v h a = tt
ranged_set (u ∷ vs) zero v (b, h) a = (a, h)
ranged_set (u ∷ vs) (suc i) v (b, h) a = (b, ranged_set vs i v h a)

pub ranged_with : (o : Option ℕ) (v : CoreValue) (vs : List CoreValue) → AllRanged vs → IsRanged v → AllRanged (with_value o v vs)
ranged_with None v vs h a = h
ranged_with (Some i) v vs h a = ranged_set vs i v h a

pub ranged_take : (n : ℕ) (vs : List CoreValue) → AllRanged vs → AllRanged (take n vs)
ranged_take zero vs h = tt
ranged_take (suc n) [] h = tt
ranged_take (suc n) (v ∷ vs) (a, h) = (a, ranged_take n vs h)

pub ranged_drop : (n : ℕ) (vs : List CoreValue) → AllRanged vs → AllRanged (drop n vs)
ranged_drop zero vs h = h
ranged_drop (suc n) [] h = tt
ranged_drop (suc n) (v ∷ vs) (a, h) = ranged_drop n vs h

pub ranged_both : (vs us : List CoreValue) → AllRanged vs → AllRanged us → AllRanged (vs ++ us)
ranged_both [] us h k = k
ranged_both (v ∷ vs) us (a, h) k = (a, ranged_both vs us h k)

pub ranged_onto : (vs us : List CoreValue) → AllRanged vs → AllRanged us → AllRanged (onto vs us)
ranged_onto [] us h k = k
ranged_onto (v ∷ vs) us (a, h) k = ranged_onto vs (v ∷ us) h (a, k)

pub ranged_replicate : (n : ℕ) (v : CoreValue) → IsRanged v → AllRanged (replicate n v)
ranged_replicate zero v a = tt
ranged_replicate (suc n) v a = (a, ranged_replicate n v a)

pub ranged_chars : (bytes : List ℕ) → AreBytes bytes → AllRanged (map Char bytes)
ranged_chars [] h = tt
ranged_chars (b ∷ bytes) (a, h) = (a, ranged_chars bytes h)

-- ---- cells

module _ (p : Tables) where
  pub cell_get : (cells : List Cell) (k : ℕ) (c : Cell) → RangedCells p cells → slice_get cells k ≡ Some c → RangedCell p c
  cell_get [] k c h e = absurd (grind (arith, e))
  cell_get (d ∷ cells) zero c (a, h) e = subst (RangedCell p) (one_some d c e) a
  cell_get (d ∷ cells) (suc k) c (a, h) e = cell_get cells k c h e

  pub cell_set : (cells : List Cell) (k : ℕ) (c : Cell) → RangedCells p cells → RangedCell p c → RangedCells p (slice_set cells k c)
  cell_set [] k c h a = tt
  cell_set (d ∷ cells) zero c (b, h) a = (a, h)
  cell_set (d ∷ cells) (suc k) c (b, h) a = (b, cell_set cells k c h a)

  pub cell_more : (cells : List Cell) (c : Cell) → RangedCells p cells → RangedCell p c → RangedCells p (cells ++ c ∷ [])
  cell_more [] c h a = (a, tt)
  cell_more (d ∷ cells) c (b, h) a = (b, cell_more cells c h a)

-- ---- numbers

-- a number of less than 32 bits is an int
pub small_int : (n : ℕ) → n < 2 ^ 31 → FitsSigned w32 (pos n)
small_int n h = omega (arith, h)

pub int_small : (n : ℕ) → FitsSigned w32 (pos n) → n < 2 ^ 31
int_small n h = omega (arith, h)

-- ---- defaults

pub default_ranged : (t : CoreType) → IsSmall t → IsRanged (default t)
default_ranged types.IntType h = small_int 0 (omega arith)
default_ranged types.BoolType h = tt
default_ranged types.CharType h = omega arith
default_ranged (types.RawType k) h = (h, pow_pos k)
default_ranged types.NullType h = tt
default_ranged (types.ClassType c) h = tt
default_ranged (types.ArrayType t) h = tt
default_ranged (types.FunctionType ps r) h = tt
default_ranged types.NoType h = tt
default_ranged (types.MoreTypes t ts) h = tt

pub defaults_of_types : (ts : List CoreType) → AreSmall ts → AllRanged (map default ts)
defaults_of_types [] h = tt
defaults_of_types (t ∷ ts) (a, h) = (default_ranged t a, defaults_of_types ts h)

module _ (p : Tables) (small : (f : ℕ) (y : Field) → slice_get p.fields f ≡ Some y → IsSmall y.type_) where
  pub defaults_ranged : (fs : List ℕ) → AllRanged (defaults p fs)
  defaults_ranged [] = tt
  defaults_ranged (f ∷ fs) = (by (slice_get p.fields f) refl, defaults_ranged fs)
    where
      by : (o : Option Field) → slice_get p.fields f ≡ o → IsRanged (default_in (type_in o))
      by None e = tt
      by (Some y) e = default_ranged y.type_ (small f y e)

-- ---- scalars

pub scalar_ranged : (x : Scalar) → IsInRange x → IsRanged (scalar_value x)
scalar_ranged (AnInt n) h = h
scalar_ranged (ATruth b) h = tt
scalar_ranged (AChar c) h = h
scalar_ranged (Bits k b) h = h
