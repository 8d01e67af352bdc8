-- The operators that need a routine, at their edges. The results were worked outside, by the arithmetic of whole numbers: a quotient is
-- that of the magnitudes with its sign, a remainder is what is left of the dividend, and a shift is a product with a power of two or a
-- quotient by one.
use Rattle.std.specs.Prelude.{◌≡◌, refl, ℕ, Bool, true, false, ◌==◌, ◌&&◌, List, [], ◌∷◌, Option, Some, None}
use Rattle.vg_lin.specs.declared.instr.Operator.{Operator}
use Rattle.vg_lin.specs.declared.instr.Operator.TheVariants.{Times, Divide, Remainder, ShiftLeft, ShiftRight}
use Rattle.vg_lin.specs.Values.{computed}

-- An operator at a width, two numbers, and the result, where there is one.
pub record Edge : Type 0 where
  pub operator : Operator
  pub width : ℕ
  pub left : ℕ
  pub right : ℕ
  pub result : Option ℕ

abbrev pub edge : Operator → (width left right result : ℕ) → Edge
edge op w x y v = record { operator = op; width = w; left = x; right = y; result = Some v }

-- A division by 0.
abbrev pub no_result : Operator → (width left right : ℕ) → Edge
no_result op w x y = record { operator = op; width = w; left = x; right = y; result = None }

abbrev pub same_result : Option ℕ → Option ℕ → Bool
same_result (Some x) (Some y) = x == y
same_result None None = true
same_result _ _ = false

abbrev pub all_hold : List Edge → Bool
all_hold [] = true
all_hold (e ∷ es) = same_result (computed e.operator e.width e.left e.right) e.result && all_hold es

abbrev pub products : List Edge
products =
    edge Times 4 0xFFFF 0xFFFF 0xFFFE0001
    ∷ edge Times 4 0xFFFFFFFF 0xFFFFFFFF 1
    ∷ edge Times 4 0x80000000 2 0
    ∷ edge Times 4 0x80000000 3 0x80000000
    ∷ edge Times 4 0xFFFFFFF9 9 0xFFFFFFC1
    ∷ edge Times 4 0x10000 0x10000 0
    ∷ edge Times 4 0x12345678 0x9ABCDEF0 0x242D2080
    ∷ edge Times 4 0 0xFFFFFFFF 0
    ∷ edge Times 2 255 255 0xFE01
    ∷ edge Times 2 256 256 0
    ∷ edge Times 2 511 257 255
    ∷ edge Times 1 16 16 0
    ∷ edge Times 1 17 15 255
    ∷ edge Times 3 0xFFF 0x1001 0xFFFFFF
    ∷ edge Times 3 0xFFFFFF 0xFFFFFF 1
    ∷ []

products_hold : all_hold products ≡ true
products_hold = refl

abbrev pub quotients : List Edge
quotients =
    edge Divide 4 7 2 3
    ∷ edge Divide 4 0xFFFFFFF9 2 0xFFFFFFFD
    ∷ edge Divide 4 7 0xFFFFFFFE 0xFFFFFFFD
    ∷ edge Divide 4 0xFFFFFFF9 0xFFFFFFFE 3
    ∷ edge Divide 4 6 0xFFFFFFFD 0xFFFFFFFE
    ∷ edge Divide 4 0xFFFFFFFA 3 0xFFFFFFFE
    ∷ edge Divide 4 0 0xFFFFFFFB 0
    ∷ edge Divide 4 1 0x80000000 0
    ∷ edge Divide 4 0xFFFFFFFF 0x80000000 0
    ∷ edge Divide 4 0x80000000 1 0x80000000
    ∷ edge Divide 4 0x80000000 0xFFFFFFFF 0x80000000
    ∷ edge Divide 4 0x80000000 0x80000000 1
    ∷ edge Divide 4 0x80000000 0x7FFFFFFF 0xFFFFFFFF
    ∷ edge Divide 4 0x7FFFFFFF 0x80000000 0
    ∷ edge Divide 4 0x7FFFFFFF 0xFFFFFFFF 0x80000001
    ∷ edge Divide 4 0x7FFFFFFF 1 0x7FFFFFFF
    ∷ edge Divide 4 0x80000000 2 0xC0000000
    ∷ edge Divide 4 0x80000000 3 0xD5555556
    ∷ edge Divide 4 0xFFFFFFFF 0x7FFFFFFF 0
    ∷ no_result Divide 4 100 0
    ∷ no_result Divide 4 0x80000000 0
    ∷ no_result Divide 4 0 0
    ∷ edge Divide 1 0xFFFFFC18 7 114
    ∷ edge Divide 2 0xFFF0BDC0 3 0xE9EB
    ∷ edge Divide 3 0x80000000 0xFFFFFFFF 0
    ∷ []

quotients_hold : all_hold quotients ≡ true
quotients_hold = refl

abbrev pub remainders : List Edge
remainders =
    edge Remainder 4 7 2 1
    ∷ edge Remainder 4 0xFFFFFFF9 2 0xFFFFFFFF
    ∷ edge Remainder 4 7 0xFFFFFFFE 1
    ∷ edge Remainder 4 0xFFFFFFF9 0xFFFFFFFE 0xFFFFFFFF
    ∷ edge Remainder 4 6 0xFFFFFFFD 0
    ∷ edge Remainder 4 0xFFFFFFFA 3 0
    ∷ edge Remainder 4 0 0xFFFFFFFB 0
    ∷ edge Remainder 4 1 0x80000000 1
    ∷ edge Remainder 4 0xFFFFFFFF 0x80000000 0xFFFFFFFF
    ∷ edge Remainder 4 0x80000000 1 0
    ∷ edge Remainder 4 0x80000000 0xFFFFFFFF 0
    ∷ edge Remainder 4 0x80000000 0x80000000 0
    ∷ edge Remainder 4 0x80000000 0x7FFFFFFF 0xFFFFFFFF
    ∷ edge Remainder 4 0x7FFFFFFF 0x80000000 0x7FFFFFFF
    ∷ edge Remainder 4 0x7FFFFFFF 0xFFFFFFFF 0
    ∷ edge Remainder 4 0x7FFFFFFF 1 0
    ∷ edge Remainder 4 0x80000000 2 0
    ∷ edge Remainder 4 0x80000000 3 0xFFFFFFFE
    ∷ edge Remainder 4 0xFFFFFFFF 0x7FFFFFFF 0xFFFFFFFF
    ∷ no_result Remainder 4 100 0
    ∷ no_result Remainder 4 0x80000000 0
    ∷ no_result Remainder 4 0 0
    ∷ edge Remainder 1 0xFFFFFC18 7 250
    ∷ edge Remainder 2 0xFFF0BDC0 3 0xFFFF
    ∷ edge Remainder 3 0x80000000 0xFFFFFFFF 0
    ∷ []

remainders_hold : all_hold remainders ≡ true
remainders_hold = refl

abbrev pub shifts_left : List Edge
shifts_left =
    edge ShiftLeft 4 1 31 0x80000000
    ∷ edge ShiftLeft 4 1 32 0
    ∷ edge ShiftLeft 4 0xFFFFFFFF 0 0xFFFFFFFF
    ∷ edge ShiftLeft 4 0xFFFFFFFF 1 0xFFFFFFFE
    ∷ edge ShiftLeft 4 0xFFFFFFFF 33 0
    ∷ edge ShiftLeft 4 0xFFFFFFFF 0xFFFFFFFF 0
    ∷ edge ShiftLeft 4 0xFFFFFFFF 0x80000000 0
    ∷ edge ShiftLeft 4 0x80000001 1 2
    ∷ edge ShiftLeft 1 255 7 128
    ∷ edge ShiftLeft 1 255 8 0
    ∷ edge ShiftLeft 1 511 1 254
    ∷ edge ShiftLeft 2 0xFFFF 15 0x8000
    ∷ edge ShiftLeft 2 0xFFFF 16 0
    ∷ edge ShiftLeft 3 0x800001 23 0x800000
    ∷ edge ShiftLeft 3 0x800001 24 0
    ∷ edge ShiftLeft 3 0x1000001 4 16
    ∷ []

shifts_left_hold : all_hold shifts_left ≡ true
shifts_left_hold = refl

abbrev pub shifts_right : List Edge
shifts_right =
    edge ShiftRight 4 1 31 0
    ∷ edge ShiftRight 4 1 32 0
    ∷ edge ShiftRight 4 0xFFFFFFFF 0 0xFFFFFFFF
    ∷ edge ShiftRight 4 0xFFFFFFFF 1 0x7FFFFFFF
    ∷ edge ShiftRight 4 0xFFFFFFFF 33 0
    ∷ edge ShiftRight 4 0xFFFFFFFF 0xFFFFFFFF 0
    ∷ edge ShiftRight 4 0xFFFFFFFF 0x80000000 0
    ∷ edge ShiftRight 4 0x80000001 1 0x40000000
    ∷ edge ShiftRight 1 255 7 1
    ∷ edge ShiftRight 1 255 8 0
    ∷ edge ShiftRight 1 511 1 127
    ∷ edge ShiftRight 2 0xFFFF 15 1
    ∷ edge ShiftRight 2 0xFFFF 16 0
    ∷ edge ShiftRight 3 0x800001 23 1
    ∷ edge ShiftRight 3 0x800001 24 0
    ∷ edge ShiftRight 3 0x1000001 4 0
    ∷ []

shifts_right_hold : all_hold shifts_right ≡ true
shifts_right_hold = refl
