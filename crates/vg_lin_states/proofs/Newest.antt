-- The newest values of a row whose newest is the last.
use Rattle.std.specs.Prelude.{ℕ, ◌-◌, ◌≤◌, true, ◌==◌, List, ◌++◌, length, reverse, take, drop, Some, None, if◌then◌else◌, ◌⊎◌}
use Rattle.std.proofs.Common.{◌≡◌, sym, ap, ◌∙◌, arith, inl, inr}
use Rattle.std.proofs.lemmas.List.{take-append-drop, reverse-append, reverse-reverse, length-reverse, length-drop, take_at, drop_at, drop_all}
use Rattle.std.proofs.Math.Seq.{take-length}
use Rattle.vg_lin.specs.State.{Waiting}
use Rattle.vg_lin_states.specs.Arguments.{newest_of}

module _ (vs : List Waiting) (count : ℕ) (h : count ≤ length vs) where
  few : length (reverse (drop (length vs - count) vs)) ≡ count
  few = length-reverse (drop (length vs - count) vs) ∙ length-drop (length vs - count) vs ∙ omega (arith, h)

  split : reverse vs ≡ reverse (drop (length vs - count) vs) ++ reverse (take (length vs - count) vs)
  split = ap reverse (sym (take-append-drop (length vs - count) vs)) ∙ reverse-append (take (length vs - count) vs) (drop (length vs - count) vs)

  newest_are : take count (reverse vs) ≡ reverse (drop (length vs - count) vs)
  newest_are = ap (take count) split ∙ take_at (reverse (drop (length vs - count) vs)) (reverse (take (length vs - count) vs)) count few

  others_are : drop count (reverse vs) ≡ reverse (take (length vs - count) vs)
  others_are = ap (drop count) split ∙ drop_at (reverse (drop (length vs - count) vs)) (reverse (take (length vs - count) vs)) count few

same : (a b : ℕ) → a ≡ b → (a == b) ≡ true
same a b e = grind (arith, e)

-- They are cut out behind the others.
pub newest_cut : (vs newest : List Waiting) (count k : ℕ) → k ≡ count → count ≤ length vs → newest ≡ take (length vs - (length vs - k)) (drop (length vs - k) vs)
    → Some newest ≡ newest_of count (reverse vs)
newest_cut vs newest count k same_count h e =
    ap Some (e ∙ ap (λ n. take (length vs - (length vs - n)) (drop (length vs - n) vs)) same_count ∙ whole ∙ sym (reverse-reverse (drop (length vs - count) vs))
    ∙ ap reverse (sym (newest_are vs count h)))
    ∙ sym (ap (λ b. if b then Some (reverse (take count (reverse vs))) else None) (same (length (take count (reverse vs))) count (ap length (newest_are vs count h) ∙ few vs count h)))
  where
    whole : take (length vs - (length vs - count)) (drop (length vs - count) vs) ≡ drop (length vs - count) vs
    whole = ap (λ n. take n (drop (length vs - count) vs)) (sym (length-drop (length vs - count) vs)) ∙ take-length (drop (length vs - count) vs)

-- The others are those before them.
pub others_kept : (vs rest : List Waiting) (count : ℕ) → rest ≡ take (length vs - count) vs → reverse rest ≡ drop count (reverse vs)
others_kept vs rest count e = by (nat_le_or count (length vs))
  where
    nat_le_or : (a b : ℕ) → (a ≤ b) ⊎ (b ≤ a)
    nat_le_or a b = grind arith

    by : (count ≤ length vs) ⊎ (length vs ≤ count) → reverse rest ≡ drop count (reverse vs)
    by (inl h) = ap reverse e ∙ sym (others_are vs count h)
    by (inr h) =
        let none : length vs - count ≡ 0 = omega (arith, h) in
        let long = length-reverse vs in
        ap reverse (e ∙ ap (λ n. take n vs) none) ∙ sym (drop_all count (reverse vs) (omega (arith, h, long)))
