-- The bytes of the arguments of a call.
use Rattle.std.specs.Prelude.{ℕ, zero, suc, ◌+◌, ◌<◌, ◌≤◌, true, false, ◌&&◌, nat_le, List, [], ◌∷◌, ◌++◌, length, take, drop, reverse, get_or, ◌-◌}
use Rattle.std.specs.List.{AllByRecursion}
use Rattle.std.proofs.Common.{◌≡◌, refl, sym, ap, ◌∙◌, subst, arith}
use Rattle.std.proofs.lemmas.List.{length-reverse, reverse-append}
use Rattle.vg_lin.specs.declared.instr.Passed.{Passed}
use Rattle.vg_lin.specs.declared.instr.Registers.{Registers}
use Rattle.vg_lin.specs.declared.instr.Registers.TheVariants.{Empty, One, Two, Three, Four}
use Rattle.vg_lin.specs.Meaning.{operands}
use Rattle.vg_templates.specs.Layouts.{Layout}
use Rattle.vg_templates.specs.Calls.{by_registers, sum_of}
use Rattle.vg_templates.specs.Flow.{is_none, passed_bytes, passed_widths}
use Rattle.vg_select.specs.Within.{IsNarrow, IsPassedWithin}

pub all_narrow : (l : Layout) (xs : List Passed) → AllByRecursion (IsPassedWithin l) xs → AllByRecursion IsNarrow xs
all_narrow l [] h = tt {0}
all_narrow l (x ∷ xs) (h, g) = (h.0, all_narrow l xs g)

-- At most four arguments are passed so, and their bytes alone tell whether they have room in registers.
passed_few : (rs : Registers) → length (passed_widths (operands rs)) ≤ 4
passed_few Empty = omega arith
passed_few (One a) = omega arith
passed_few (Two a b) = omega arith
passed_few (Three a b c) = omega arith
passed_few (Four a b c d) = omega arith

passed_sum : (xs : List Passed) → sum_of (passed_widths xs) ≡ passed_bytes xs
passed_sum [] = refl
passed_sum (x ∷ xs) = ap (λ n. x.width + n) (passed_sum xs)

pub by_bytes : (rs : Registers) (n : ℕ) → n ≡ passed_bytes (operands rs) → nat_le n 8 ≡ by_registers (passed_widths (operands rs))
by_bytes rs n e =
    let low = passed_few rs in
    let few : nat_le (length (passed_widths (operands rs))) 4 ≡ true = grind (arith, low) in
    ap (λ m. nat_le m 8) (e ∙ sym (passed_sum (operands rs))) ∙ (λ i. sym few i && nat_le (sum_of (passed_widths (operands rs))) 8)

none_behind : (xs : List ℕ) (n : ℕ) → length xs ≤ n → true ≡ is_none (drop n xs)
none_behind [] zero h = refl
none_behind [] (suc n) h = refl
none_behind (x ∷ xs) zero h = absurd (omega (arith, h))
none_behind (x ∷ xs) (suc n) h = none_behind xs n (omega (arith, h))

some_behind : (xs : List ℕ) (n : ℕ) → n < length xs → false ≡ is_none (drop n xs)
some_behind [] n h = absurd (omega (arith, h))
some_behind (x ∷ xs) zero h = refl
some_behind (x ∷ xs) (suc n) h = some_behind xs n (omega (arith, h))

pub none_left : (xs : List ℕ) (n : ℕ) → length xs ≤ n → true ≡ is_none (drop n (reverse xs))
none_left xs n h = none_behind (reverse xs) n (subst (λ k. k ≤ n) (sym (length-reverse xs)) h)

pub some_left : (xs : List ℕ) (n : ℕ) → n < length xs → false ≡ is_none (drop n (reverse xs))
some_left xs n h = some_behind (reverse xs) n (subst (λ k. n < k) (sym (length-reverse xs)) h)

-- The newest value is the last one.
pub newest_first : (xs : List ℕ) (x n : ℕ) → sum_of (take (suc n) (reverse (xs ++ x ∷ []))) ≡ x + sum_of (take n (reverse xs))
newest_first xs x n = ap (λ ys. sum_of (take (suc n) ys)) (reverse-append xs (x ∷ []))

last_at : (n : ℕ) (xs : List ℕ) → length xs ≡ suc n → xs ≡ take n xs ++ get_or xs n 0 ∷ []
last_at n [] e = absurd (omega (arith, e))
last_at zero (x ∷ []) e = refl
last_at zero (x ∷ (y ∷ ys)) e = absurd (omega (arith, e))
last_at (suc n) (x ∷ xs) e = ap (λ ys. x ∷ ys) (last_at n xs (omega (arith, e)))

pub newest_bytes_are : (xs : List ℕ) (n r m : ℕ) → 1 ≤ length xs → (n ≡ 0 → ⊥) → r ≡ get_or xs (length xs - 1) 0
    → m ≡ sum_of (take (n - 1) (reverse (take (length xs - 1) xs))) → r + m ≡ sum_of (take n (reverse xs))
newest_bytes_are xs n r m h g er em =
    ap (λ x. x + m) er ∙ ap (λ x. get_or xs k 0 + x) em ∙ sym (newest_first (take k xs) (get_or xs k 0) (n - 1))
    ∙ ap (λ ys. sum_of (take (suc (n - 1)) (reverse ys))) (sym (last_at k xs (omega (arith, h)))) ∙ ap (λ j. sum_of (take j (reverse xs))) (positive n g)
  where
    k : ℕ
    k = length xs - 1

    positive : (j : ℕ) → (j ≡ 0 → ⊥) → suc (j - 1) ≡ j
    positive zero q = absurd (q refl)
    positive (suc j) q = omega arith
