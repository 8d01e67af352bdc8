-- Lists that grow at their ends, and the turn in which procedures stand.
use Rattle.std.specs.Prelude.{ℕ, zero, suc, ◌+◌, ◌-◌, ◌<◌, ◌≤◌, nat_lt, true, false, List, [], ◌∷◌, ◌++◌, length, get_or, Some, slice_get}
use Rattle.std.proofs.Common.{◌≡◌, refl, sym, ap, ◌∙◌, subst, arith, inl, inr}
use Rattle.std.proofs.lemmas.List.{length-append, get_or_append_left}
use Rattle.std.proofs.lemmas.Option.{slice_get_read}
use Rattle.std.proofs.Math.Seq.{get_or-append_seam}
use Rattle.avr_view.proofs.Going.{below_or_not}
use Rattle.vg_put_programs.specs.Programs.{in_turn, turn_of}

-- ---- lists

pub none_past : (xs : List ℕ) (q : ℕ) → length xs ≤ q → get_or xs q 0 ≡ 0
none_past [] q h = refl
none_past (x ∷ xs) zero h = absurd (omega (arith, h))
none_past (x ∷ xs) (suc q) h = none_past xs q (omega (arith, h))

module _ {A : Type 0} (f : ℕ → A) (list : ℕ → List A) (none : list 0 ≡ []) (more : (k : ℕ) → list (suc k) ≡ list k ++ f k ∷ []) where
  pub counted : (n : ℕ) → length (list n) ≡ n
  counted zero = ap length none
  counted (suc n) =
      let a = length-append (list n) (f n ∷ []) in let b = ap length (more n) in let c = counted n in omega (arith, a, b, c)

  pub got_or : (d : A) (n k : ℕ) → k < n → get_or (list n) k d ≡ f k
  got_or d zero k h = absurd (omega (arith, h))
  got_or d (suc n) k h = ap (λ xs. get_or xs k d) (more n) ∙ elim (below_or_not k n) [
    | inl less ↦
        get_or_append_left (list n) (f n ∷ []) d k (subst (λ z. k < z) (sym (counted n)) less) ∙ got_or d n k less
    | inr past ↦
        (let same : k ≡ n = omega (arith, past, h) in
        ap (λ z. get_or (list n ++ f n ∷ []) z d) (same ∙ sym (counted n)) ∙ get_or-append_seam (list n) (f n) [] d ∙ ap f (sym same))
  ]

  pub got : (n k : ℕ) → k < n → slice_get (list n) k ≡ Some (f k)
  got n k h = slice_get_read (list n) n k (f k) (sym (counted n)) h (sym (got_or (f k) n k h))

-- ---- turns

is_below : (a b : ℕ) → nat_lt a b ≡ true → a < b
is_below a b e = grind arith

is_past : (a b : ℕ) → nat_lt a b ≡ false → b ≤ a
is_past a b e = grind arith

module _ (s n m : ℕ) (low : s < n) (h : m < n) where
  goes_on : (k : ℕ) → s + k < n → in_turn s n k ≡ s + k
  goes_on k less = grind (arith, less)

  goes_round : (k : ℕ) → n ≤ s + k → in_turn s n k ≡ s + k - n
  goes_round k past = grind (arith, past)

  behind : s ≤ m → turn_of s n m ≡ m - s
  behind past = grind (arith, past)

  before : m < s → turn_of s n m ≡ n - s + m
  before less = grind (arith, less)

  pub turned : in_turn s n (turn_of s n m) ≡ m
  turned = elim (below_or_not m s) [
    | inl less ↦ (let b = before less in let r = goes_round (turn_of s n m) (omega (arith, b, low)) in omega (arith, r, b, low))
    | inr past ↦ (let b = behind past in let r = goes_on (turn_of s n m) (omega (arith, b, past, h)) in omega (arith, r, b, past))
  ]

  pub turn_low : turn_of s n m < n
  turn_low = elim (below_or_not m s) [
    | inl less ↦ (let b = before less in omega (arith, b, low, less))
    | inr past ↦ (let b = behind past in omega (arith, b, past, h))
  ]
