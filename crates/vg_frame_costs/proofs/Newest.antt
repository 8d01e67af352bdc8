-- What waits, where the newest value is the last of a list.
use Rattle.std.specs.Prelude.{ℕ, ◌-◌, ◌<◌, ◌≤◌, nat_le, Bool, true, false, List, [], ◌∷◌, ◌++◌, length, take, drop, reverse}
use Rattle.std.proofs.Common.{◌≡◌, refl, sym, ap, ◌∙◌, subst, arith}
use Rattle.std.proofs.lemmas.List.{reverse-append, length-reverse, take-append-drop, length-drop}
use Rattle.std.proofs.Math.ListN.{drop_of_length-le}
use Rattle.std.proofs.Math.Seq.{drop-append_seam}

pub newest : (xs : List ℕ) (x : ℕ) → reverse (xs ++ x ∷ []) ≡ x ∷ reverse xs
newest xs x = reverse-append xs (x ∷ [])

-- Where a list is cut, its newest values are dropped.
pub kept : (xs : List ℕ) (n : ℕ) → reverse (take (length xs - n) xs) ≡ drop n (reverse xs)
kept xs n = by_test (nat_le n (length xs)) refl
  where
    m : ℕ
    m = length xs - n

    within : (a b : ℕ) → nat_le a b ≡ true → a ≤ b
    within a b e = grind arith

    beyond : (a b : ℕ) → nat_le a b ≡ false → b < a
    beyond a b e = grind arith

    parts : reverse xs ≡ reverse (drop m xs) ++ reverse (take m xs)
    parts = ap reverse (sym (take-append-drop m xs)) ∙ reverse-append (take m xs) (drop m xs)

    front : n ≤ length xs → length (reverse (drop m xs)) ≡ n
    front h = length-reverse (drop m xs) ∙ length-drop m xs ∙ omega (arith, h)

    by_test : (b : Bool) → nat_le n (length xs) ≡ b → reverse (take m xs) ≡ drop n (reverse xs)
    by_test true e =
        let f = front (within n (length xs) e) in
        sym (drop-append_seam (reverse (drop m xs)) (reverse (take m xs))) ∙ ap (λ k. drop k (reverse (drop m xs) ++ reverse (take m xs))) f
        ∙ ap (drop n) (sym parts)
    by_test false e =
        let h = beyond n (length xs) e in
        ap (λ k. reverse (take k xs)) (let z : m ≡ 0 = omega (arith, h) in z)
        ∙ sym (drop_of_length-le (reverse xs) (subst (λ k. k ≤ n) (sym (length-reverse xs)) (omega (arith, h))))
