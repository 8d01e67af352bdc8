-- What stands where in rows, and how many bytes wait in procedures.
use Rattle.std.specs.Prelude.{ℕ, zero, suc, ◌+◌, ◌<◌, ◌≤◌, List, [], ◌∷◌, drop, take}
use Rattle.std.specs.Prelude.{Some, slice_get}
use Rattle.std.specs.List.{AllByRecursion}
use Rattle.std.proofs.Common.{◌≡◌, refl, ap, subst, arith}
use Rattle.std.proofs.lemmas.Option.{none-some, same_Some}
use Rattle.vg_lin.specs.declared.instr.Instr.{Instr}
use Rattle.vg_lin.specs.Sound.{behind, waits_in}
use Rattle.vg_frame_costs.specs.Bytes.{bytes_of, kept_at, most_kept}

-- ---- rows

pub all_at : {A : Type 0} (P : A → Type 0) (xs : List A) (k : ℕ) (x : A) → AllByRecursion P xs → slice_get xs k ≡ Some x → P x
all_at P [] k x h e = absurd (none-some x e)
all_at P (y ∷ ys) zero x h e = subst P (same_Some y x e) h.0
all_at P (y ∷ ys) (suc k) x h e = all_at P ys k x h.1 e

pub all_before : {A : Type 0} (P : A → Type 0) (xs : List A) (n k : ℕ) (x : A) → AllByRecursion P (take n xs) → k < n → slice_get xs k ≡ Some x → P x
all_before P [] n k x h less e = absurd (none-some x e)
all_before P (y ∷ ys) zero k x h less e = absurd (omega (arith, less))
all_before P (y ∷ ys) (suc n) zero x h less e = subst P (same_Some y x e) h.0
all_before P (y ∷ ys) (suc n) (suc k) x h less e = all_before P ys n k x h.1 (omega (arith, less)) e

pub all_behind : {A : Type 0} (P : A → Type 0) (xs : List A) (n k : ℕ) (x : A) → AllByRecursion P (drop (suc n) xs) → n < k → slice_get xs k ≡ Some x → P x
all_behind P [] n k x h less e = absurd (none-some x e)
all_behind P (y ∷ ys) n zero x h less e = absurd (omega (arith, less))
all_behind P (y ∷ ys) zero (suc k) x h less e = all_at P ys k x h e
all_behind P (y ∷ ys) (suc n) (suc k) x h less e = all_behind P ys n k x h (omega (arith, less)) e

-- what stands before another is there
pub there_before : {A : Type 0} (xs : List A) (n k : ℕ) (x : A) → slice_get xs n ≡ Some x → k < n → (y : A) × (slice_get xs k ≡ Some y)
there_before [] n k x e less = absurd (none-some x e)
there_before (y ∷ ys) zero k x e less = absurd (omega (arith, less))
there_before (y ∷ ys) (suc n) zero x e less = (y, refl)
there_before (y ∷ ys) (suc n) (suc k) x e less = there_before ys n k x e (omega (arith, less))

-- ---- values that wait

-- what is kept at a place is counted
pub kept_counted : (ws : List ℕ) (is : List Instr) (at : ℕ) (i : Instr) → slice_get is at ≡ Some i
    → kept_at (waits_in ws is at) i ≤ most_kept ws is
kept_counted ws [] at i e = absurd (none-some i e)
kept_counted ws (j ∷ is) zero i e = let same = ap (kept_at ws) (same_Some j i e) in omega (arith, same)
kept_counted ws (j ∷ is) (suc at) i e = let rest = kept_counted (behind j ws) is at i e in omega (arith, rest)

pub bytes_cut : (k : ℕ) (ws : List ℕ) → bytes_of ws ≡ bytes_of (take k ws) + bytes_of (drop k ws)
bytes_cut zero ws = omega arith
bytes_cut (suc k) [] = omega arith
bytes_cut (suc k) (w ∷ ws) = let rest = bytes_cut k ws in omega (arith, rest)
