-- Numbers that are cut off at a limit.
use Rattle.std.proofs.Common.{◌≡◌, ℕ, ◌+◌, ◌*◌, ◌<◌, min, List, [], ◌∷◌, length, drop, get_or, sym, ap, ◌∙◌, arith}
use Rattle.std.proofs.lemmas.List.{at_drop_more}
use Rattle.vg_syntax.specs.Hexadecimal.{digit_value, more_digits}
use Rattle.vg_source.specs.Literals.{decimal_behind}

-- digits behind numbers that are the same up to the limit
same_hexadecimal : (m a b : ℕ) (digits : List ℕ) → min a m ≡ min b m → min (more_digits a digits) m ≡ min (more_digits b digits) m
same_hexadecimal m a b [] e = e
same_hexadecimal m a b (d ∷ digits) e = same_hexadecimal m (a * 16 + digit_value d) (b * 16 + digit_value d) digits (omega (arith, e))

same_decimal : (m a b : ℕ) (digits : List ℕ) → min a m ≡ min b m → min (decimal_behind a digits) m ≡ min (decimal_behind b digits) m
same_decimal m a b [] e = e
same_decimal m a b (d ∷ digits) e = same_decimal m (a * 10 + digit_value d) (b * 10 + digit_value d) digits (omega (arith, e))

-- one digit more
pub hexadecimal_on : (m v p d w a i : ℕ) (digits : List ℕ) → i < length digits → p ≡ min (v * 16) m → d ≡ digit_value (get_or digits i 0) → w ≡ min (p + d) m
    → min (more_digits v (drop i digits)) m ≡ a → min (more_digits w (drop (i + 1) digits)) m ≡ a
hexadecimal_on m v p d w a i digits l e f g h =
    same_hexadecimal m w (v * 16 + digit_value (get_or digits i 0)) (drop (i + 1) digits) (omega (arith, e, f, g))
    ∙ sym (ap (λ n. min n m) (at_drop_more (more_digits v) digits i 0 l)) ∙ h

pub decimal_on : (m v p d w a i : ℕ) (digits : List ℕ) → i < length digits → p ≡ min (v * 10) m → d ≡ digit_value (get_or digits i 0) → w ≡ min (p + d) m
    → min (decimal_behind v (drop i digits)) m ≡ a → min (decimal_behind w (drop (i + 1) digits)) m ≡ a
decimal_on m v p d w a i digits l e f g h =
    same_decimal m w (v * 10 + digit_value (get_or digits i 0)) (drop (i + 1) digits) (omega (arith, e, f, g))
    ∙ sym (ap (λ n. min n m) (at_drop_more (decimal_behind v) digits i 0 l)) ∙ h
