-- What number tokens stand for.
use Rattle.std.proofs.Common.{◌≡◌, ℕ, zero, suc, ◌≤◌, ◌+◌, ◌*◌, ◌&&◌, ◌==◌, Bool, true, false}
use Rattle.std.proofs.Common.{List, [], ◌∷◌, length, min, refl, ap, ◌∙◌, arith, if◌then◌else◌}
use Rattle.std.specs.List.{list_all}
use Rattle.std.proofs.lemmas.Bool.Decides.{nat_tests}
use Rattle.vg_syntax.specs.Bytes.{is_hex_digit}
use Rattle.vg_syntax.specs.Hexadecimal.{digit_value, more_digits, hex_value}
use Rattle.vg_syntax.specs.Lexemes.{is_hexadecimal}
use Rattle.vg_source.specs.Literals.{number_of, decimal_behind}

-- the greatest number of so many more digits
abbrev greatest : ℕ → ℕ → ℕ
greatest zero n = n
greatest (suc k) n = greatest k (n * 16 + 15)

both : (a b : Bool) → (a && b) ≡ true → (a ≡ true) × (b ≡ true)
both true b e = (refl, e)
both false b e = absurd (let clash : false ≡ true = e in cc)

digit_most : (d : ℕ) → is_hex_digit d ≡ true → digit_value d ≤ 15
digit_most d e = grind (arith, nat_tests)

digits_most : (k : ℕ) (ds : List ℕ) (m n : ℕ) → m ≤ n → length ds ≤ k → list_all is_hex_digit ds ≡ true → more_digits m ds ≤ greatest k n
digits_most zero [] m n l h e = l
digits_most zero (d ∷ ds) m n l h e = absurd (omega (arith, h))
digits_most (suc k) [] m n l h e = digits_most k [] m (n * 16 + 15) (omega (arith, l)) (omega arith) refl
digits_most (suc k) (d ∷ ds) m n l h e =
    let b = both (is_hex_digit d) (list_all is_hex_digit ds) e in
    let most = digit_most d b.0 in
    digits_most k ds (m * 16 + digit_value d) (n * 16 + 15) (omega (arith, most, l)) (omega (arith, h)) b.1

-- a hexadecimal number of at most 8 digits fits 32 bits
pub bits_whole : (bs : List ℕ) → is_hexadecimal bs ≡ true → length bs ≤ 10 → min (number_of bs) 4294967295 ≡ hex_value bs
bits_whole (z ∷ x ∷ first ∷ ds) e l =
    let outer = both ((z == 48) && (x == 120) && is_hex_digit first) (list_all is_hex_digit ds) e in
    let inner = both ((z == 48) && (x == 120)) (is_hex_digit first) outer.0 in
    let all : list_all is_hex_digit (first ∷ ds) ≡ true = ap (λ b. b && list_all is_hex_digit ds) inner.1 ∙ outer.1 in
    let most : more_digits 0 (first ∷ ds) ≤ 4294967295 = digits_most 8 (first ∷ ds) 0 0 (omega arith) (omega (arith, l)) all in
    let is : number_of (z ∷ x ∷ first ∷ ds) ≡ more_digits 0 (first ∷ ds)
    = ap (λ b. if b then more_digits 0 (first ∷ ds) else decimal_behind 0 (z ∷ x ∷ first ∷ ds)) e in
    omega (arith, is, most)
bits_whole _ e l = absurd (let clash : false ≡ true = e in cc)
