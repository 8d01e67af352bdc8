-- Ranges of what stands in source code.
use Rattle.std.specs.Prelude.{◌<◌, ◌≤◌, ◌^◌, List, [], ◌∷◌, FitsSigned}
use Rattle.std.specs.Int.{w32}
use Rattle.vg_meaning.specs.Code.{Code, Nothing, Then, Do, If, Loop, Break, Continue, Return}
use Rattle.vg_source.specs.Types.{StaticType, RawType, NoType, MoreTypes}
use Rattle.vg_source.specs.Values.{Value, Int, Truth, Char, Raw, Null, Obj, Arr, Bound}
use Rattle.vg_source.specs.Steps.{Step, Put, CastTo, NewArray, Super}

-- A bit string has at most 32 bits.
abbrev pub IsSmall : StaticType → Type 0
IsSmall (RawType k) = k ≤ 32
IsSmall _ = Unit {0}

abbrev pub AreSmall : List StaticType → Type 0
AreSmall [] = Unit {0}
AreSmall (t ∷ ts) = IsSmall t × AreSmall ts

-- Values of a type have bits.
abbrev pub IsWide : StaticType → Type 0
IsWide (RawType k) = 0 < k
IsWide NoType = ⊥
IsWide (MoreTypes first rest) = ⊥
IsWide _ = Unit {0}

-- A constant is a truth value, null, an int of 32 bits, a string of at most 32 bits and none above them, or a char, which is a byte.
abbrev pub IsConstant : Value → Type 0
IsConstant (Int n) = FitsSigned w32 n
IsConstant (Truth b) = Unit {0}
IsConstant (Char c) = c < 256
IsConstant (Raw width bits) = (width ≤ 32) × (bits < 2 ^ width)
IsConstant Null = Unit {0}
IsConstant (Obj k) = ⊥
IsConstant (Arr k) = ⊥
IsConstant (Bound receiver owner method) = ⊥

-- A step: it puts a constant, it casts to no longer bit string and makes no array of them, and the elements of an array have bits. Where `above`
-- does not hold it runs no construction of a class above.
abbrev pub IsRanged : (above : Type 0) → Step → Type 0
IsRanged above (Put v) = IsConstant v
IsRanged above (CastTo at t) = IsSmall t
IsRanged above (NewArray at t) = IsSmall t × IsWide t
IsRanged above (Super c count) = above
IsRanged above _ = Unit {0}

-- The same of all steps that stand in code.
abbrev pub AreRanged : (above : Type 0) → Code Step → Type 0
AreRanged above Nothing = Unit {0}
AreRanged above (Then a b) = AreRanged above a × AreRanged above b
AreRanged above (Do s) = IsRanged above s
AreRanged above (If a b) = AreRanged above a × AreRanged above b
AreRanged above (Loop a b c) = AreRanged above a × AreRanged above b × AreRanged above c
AreRanged above Break = Unit {0}
AreRanged above Continue = Unit {0}
AreRanged above Return = Unit {0}
