-- Values of hexadecimal digits.
use Rattle.std.proofs.Common.{◌≡◌, ℕ, ◌+◌, ◌*◌, ◌<◌, ◌≤◌, List, [], ◌∷◌, length, drop, get_or, suc, Bool, true, false, refl, ap, arith, drop-cons, Option}
use Rattle.std.proofs.Common.{Some, None, IfNone}
use Rattle.vg_first_text.specs.FirstText.{IsByteNumber}
use Rattle.std.specs.Prelude.{◌&&◌, ◌==◌}
use Rattle.vg_syntax.specs.Bytes.{is_hex_digit}
use Rattle.vg_syntax.specs.Lexemes.{is_hexadecimal}
use Rattle.vg_syntax.specs.Hexadecimal.{digit_value, more_digits, hex_value}

-- more digits make no smaller number
pub more_digits_grow : (value : ℕ) (digits : List ℕ) → value ≤ more_digits value digits
more_digits_grow value [] = omega arith
more_digits_grow value (d ∷ ds) = omega (arith, more_digits_grow (value * 16 + digit_value d) ds)

-- a number that is too large stays so
pub too_large : (value : ℕ) (digits : List ℕ) (i m digit : ℕ) → i < length digits → more_digits value (drop i digits) ≡ m
    → digit ≡ digit_value (get_or digits i 0) → 255 < value * 16 + digit → 256 ≤ m
too_large value digits i m digit h e d g =
    let one : more_digits value (drop i digits) ≡ more_digits (value * 16 + digit_value (get_or digits i 0)) (drop (suc i) digits) =
    ap (more_digits value) (drop-cons digits i 0 h) in
    omega (arith, more_digits_grow (value * 16 + digit_value (get_or digits i 0)) (drop (suc i) digits), one, e, d)

hex_digit_below : (b : ℕ) → is_hex_digit b ≡ true → digit_value b < 16
hex_digit_below b e = grind arith

both : (p q : Bool) → (p && q) ≡ true → (p ≡ true) × (q ≡ true)
both true q e = (refl, e)
both false q e = absurd (let clash : false ≡ true = e in cc)

-- two hexadecimal digits are a byte
pub two_digits_below : (number : List ℕ) → is_hexadecimal number ≡ true → length number ≡ 4 → hex_value number < 256
two_digits_below (z ∷ x ∷ a ∷ b ∷ []) e h =
    let digits = both ((z == 48) && (x == 120) && is_hex_digit a) (is_hex_digit b && true) e in
    let first = both ((z == 48) && (x == 120)) (is_hex_digit a) digits.0 in
    let second = both (is_hex_digit b) true digits.1 in
    omega (arith, hex_digit_below a first.1, hex_digit_below b second.0)
two_digits_below _ e h = absurd (omega (arith, h))

-- where two digits gave no byte, the number is not written so
pub no_byte : (found : Option ℕ) (number digits : List ℕ) → IfNone found (256 ≤ more_digits 0 digits) → digits ≡ drop 2 number
    → is_hexadecimal number ≡ true → length number ≡ 4 → IfNone found (IsByteNumber number → ⊥)
no_byte (Some v) number digits none d e h = tt
no_byte None number digits none d e h = absurd (omega (arith, none, two_digits_below number e h, ap (more_digits 0) d))
