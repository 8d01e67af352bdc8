-- The type of a scalar.
use Rattle.std.proofs.Common.{◌≡◌, ℕ, Bool, true, false, List, ℤ, refl, sym, ap}
use Rattle.std.specs.Cmp.{unsigned_Decides}
use Rattle.vg_core.specs.declared.types.CoreType.{CoreType}
use Rattle.vg_core.specs.declared.types.CoreType.TheVariants.{IntType, BoolType, CharType, RawType, NullType, ClassType, ArrayType, FunctionType, NoType}
use Rattle.vg_core.specs.declared.types.CoreType.TheVariants.{MoreTypes}
use Rattle.vg_core.specs.declared.value.CoreValue.TheVariants.{Int, Bool as Truth, Char, Raw}
use Rattle.vg_core.specs.declared.heap.Cell.{Cell}
use Rattle.vg_core.specs.declared.program.Tables.{Tables}
use Rattle.vg_core.specs.State.{is_of}

module _ (p : Tables) (cells : List Cell) where
  pub int_type : (t : CoreType) (n : ℤ) → is_of p cells t (Int n) ≡ true → t ≡ IntType
  int_type IntType n e = refl
  int_type BoolType n e = absurd (let clash : false ≡ true = e in cc)
  int_type CharType n e = absurd (let clash : false ≡ true = e in cc)
  int_type (RawType k) n e = absurd (let clash : false ≡ true = e in cc)
  int_type NullType n e = absurd (let clash : false ≡ true = e in cc)
  int_type (ClassType c) n e = absurd (let clash : false ≡ true = e in cc)
  int_type (ArrayType c) n e = absurd (let clash : false ≡ true = e in cc)
  int_type (FunctionType ps r) n e = absurd (let clash : false ≡ true = e in cc)
  int_type NoType n e = absurd (let clash : false ≡ true = e in cc)
  int_type (MoreTypes ps r) n e = absurd (let clash : false ≡ true = e in cc)

  pub bool_type : (t : CoreType) (b : Bool) → is_of p cells t (Truth b) ≡ true → t ≡ BoolType
  bool_type BoolType n e = refl
  bool_type IntType n e = absurd (let clash : false ≡ true = e in cc)
  bool_type CharType n e = absurd (let clash : false ≡ true = e in cc)
  bool_type (RawType k) n e = absurd (let clash : false ≡ true = e in cc)
  bool_type NullType n e = absurd (let clash : false ≡ true = e in cc)
  bool_type (ClassType c) n e = absurd (let clash : false ≡ true = e in cc)
  bool_type (ArrayType c) n e = absurd (let clash : false ≡ true = e in cc)
  bool_type (FunctionType ps r) n e = absurd (let clash : false ≡ true = e in cc)
  bool_type NoType n e = absurd (let clash : false ≡ true = e in cc)
  bool_type (MoreTypes ps r) n e = absurd (let clash : false ≡ true = e in cc)

  pub char_type : (t : CoreType) (c : ℕ) → is_of p cells t (Char c) ≡ true → t ≡ CharType
  char_type CharType n e = refl
  char_type IntType n e = absurd (let clash : false ≡ true = e in cc)
  char_type BoolType n e = absurd (let clash : false ≡ true = e in cc)
  char_type (RawType k) n e = absurd (let clash : false ≡ true = e in cc)
  char_type NullType n e = absurd (let clash : false ≡ true = e in cc)
  char_type (ClassType c) n e = absurd (let clash : false ≡ true = e in cc)
  char_type (ArrayType c) n e = absurd (let clash : false ≡ true = e in cc)
  char_type (FunctionType ps r) n e = absurd (let clash : false ≡ true = e in cc)
  char_type NoType n e = absurd (let clash : false ≡ true = e in cc)
  char_type (MoreTypes ps r) n e = absurd (let clash : false ≡ true = e in cc)

  pub raw_type : (t : CoreType) (j b : ℕ) → is_of p cells t (Raw j b) ≡ true → t ≡ RawType j
  raw_type (RawType k) j b e = ap RawType (sym ((unsigned_Decides j k).0 e))
  raw_type IntType j b e = absurd (let clash : false ≡ true = e in cc)
  raw_type BoolType j b e = absurd (let clash : false ≡ true = e in cc)
  raw_type CharType j b e = absurd (let clash : false ≡ true = e in cc)
  raw_type NullType j b e = absurd (let clash : false ≡ true = e in cc)
  raw_type (ClassType c) j b e = absurd (let clash : false ≡ true = e in cc)
  raw_type (ArrayType c) j b e = absurd (let clash : false ≡ true = e in cc)
  raw_type (FunctionType ps r) j b e = absurd (let clash : false ≡ true = e in cc)
  raw_type NoType j b e = absurd (let clash : false ≡ true = e in cc)
  raw_type (MoreTypes ps r) j b e = absurd (let clash : false ≡ true = e in cc)
