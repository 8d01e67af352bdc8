-- Sums over all marks, and how one mark changes them.
use Rattle.std.proofs.Common.{◌≡◌, refl, ap, arith, ℕ, zero, suc, ◌+◌, ◌<◌, ◌≤◌, List, [], ◌∷◌, length, sum, Some, slice_get, slice_set}
use Rattle.std.proofs.lemmas.Option.{none-some, same_Some}
use Rattle.std.proofs.lemmas.List.{length-set}
use Rattle.std.proofs.lemmas.List.Sums.{sum_by-cons}
use Rattle.vg_bound.specs.declared.mark.Visit.{Visit}
use Rattle.vg_bound.specs.declared.mark.Mark.{Mark}
use Rattle.vg_bound.specs.declared.mark.Mark.TheVariants.{Unseen, Open, Done}
use Rattle.vg_bound.specs.Searching.{total, opens, spends, spent}

pub total_set : (f : ℕ → Mark → ℕ) (ms : List Mark) (k : ℕ) (old new : Mark) → slice_get ms k ≡ Some old
    → total f (slice_set ms k new) + f k old ≡ total f ms + f k new
total_set f [] k old new e = absurd (none-some old e)
total_set f (m ∷ ms) zero old new e = let g : f 0 m ≡ f 0 old = ap (f 0) (same_Some m old e) in omega (arith, g)
total_set f (m ∷ ms) (suc k) old new e = let z = total_set (λ j. f (suc j)) ms k old new e in omega (arith, z)

total_few : (f : ℕ → Mark → ℕ) → ((k : ℕ) (m : Mark) → f k m ≤ 1) → (ms : List Mark) → total f ms ≤ length ms
total_few f h [] = omega arith
total_few f h (m ∷ ms) = let z = total_few (λ j. f (suc j)) (λ j. h (suc j)) ms in let y = h 0 m in omega (arith, z, y)

opens_one : (k : ℕ) (m : Mark) → opens k m ≤ 1
opens_one k Unseen = omega arith
opens_one k (Open v) = omega arith
opens_one k (Done c) = omega arith

-- where a node was not seen, fewer are open than there are
pub opens_few : (ms : List Mark) (b : ℕ) (v : Visit) → slice_get ms b ≡ Some Unseen → total opens ms < length ms
opens_few ms b v e =
    let z = total_set opens ms b Unseen (Open v) e in
    let f = total_few opens opens_one (slice_set ms b (Open v)) in
    let l = length-set ms b (Open v) in
    omega (arith, z, f, l)

spends_none : (k : ℕ) (m : Mark) → spends [] k m ≡ 0
spends_none k Unseen = refl
spends_none k (Open v) = refl
spends_none k (Done c) = refl

spent_none : (f : ℕ → Mark → ℕ) → ((k : ℕ) (m : Mark) → f k m ≡ 0) → (ms : List Mark) → total f ms ≡ 0
spent_none f h [] = refl
spent_none f h (m ∷ ms) = let z = spent_none (λ j. f (suc j)) (λ j. h (suc j)) ms in let y = h 0 m in omega (arith, z, y)

spends_first : (x : ℕ) (frames : List ℕ) (m : Mark) → spends (x ∷ frames) 0 m ≤ x
spends_first x frames Unseen = omega arith
spends_first x frames (Open v) = omega arith
spends_first x frames (Done c) = omega arith

-- what is done has at most the frames of all nodes
pub spent_most : (frames : List ℕ) (ms : List Mark) → spent frames ms ≤ sum frames
spent_most frames [] = omega arith
spent_most [] (m ∷ ms) = let z = spent_none (spends []) spends_none (m ∷ ms) in omega (arith, z)
spent_most (x ∷ frames) (m ∷ ms) =
    let h : total (λ k. spends (x ∷ frames) (suc k)) ms ≤ sum frames = spent_most frames ms in
    let s = sum_by-cons (λ (z : ℕ). z) x frames in
    let t = spends_first x frames m in
    omega (arith, h, s, t)
