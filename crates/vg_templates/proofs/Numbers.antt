-- Numbers in bytes and in registers: what was put is there, and what lies beside it stays.
use Rattle.std.proofs.Common.{◌≡◌, ◌≢◌, ℕ, zero, suc, ◌+◌, ◌*◌, ◌/◌, ◌%◌, ◌^◌, ◌<◌, ◌≤◌, ◌⊎◌, inl, inr, List, [], ◌∷◌}
use Rattle.std.proofs.Common.{length, refl, sym, ap, ◌∙◌, arith, slice_index, slice_set, take, drop}
use Rattle.std.proofs.Math.Nat.{pow-suc}
use Rattle.std.proofs.Math.Arith.{mod-mul}
use Rattle.std.proofs.lemmas.List.{get_or-set_same, get_or-set_other, length-set}
use Rattle.avr_view.specs.Registers.{Regs, put}
use Rattle.vg_templates.specs.Spots.{Spot, InFrame, InRegisters, Apart, read, number, value_at, written, put_number, frame_with, registers_with}

pow_positive : (w : ℕ) → 0 < 256 ^ w
pow_positive zero = omega arith
pow_positive (suc w) = let h = pow_positive w in let e = pow-suc 256 w in omega (arith, h, e)

-- the low byte and the rest of a number that is cut
pub cut : (v w x y : ℕ) → x ≡ v % 256 → y ≡ v / 256 % 256 ^ w → x + 256 * y ≡ v % 256 ^ suc w
cut v w x y p q =
    let e : v / 256 % 256 ^ w * 256 + v % 256 ≡ x + 256 * y = omega (arith, p, q) in
    sym (ap (λ n. v % n) (pow-suc 256 w) ∙ mod-mul v (pow_positive w) (omega arith) ∙ e)

-- ---- bytes

pub written-length : (bytes : List ℕ) (at w v : ℕ) → length (written bytes at w v) ≡ length bytes
written-length bytes at zero v = refl
written-length bytes at (suc w) v = written-length (slice_set bytes at (v % 256)) (suc at) w (v / 256) ∙ length-set bytes at (v % 256)

written-beside : (bytes : List ℕ) (at w v k : ℕ) → (k < at) ⊎ (at + w ≤ k) → slice_index (written bytes at w v) k ≡ slice_index bytes k
written-beside bytes at zero v k h = refl
written-beside bytes at (suc w) v k (inl h) =
    let ne : k ≢ at = omega arith in
    written-beside (slice_set bytes at (v % 256)) (suc at) w (v / 256) k (inl (omega arith)) ∙ get_or-set_other bytes at k (v % 256) 0 ne
written-beside bytes at (suc w) v k (inr h) =
    let ne : k ≢ at = omega arith in
    written-beside (slice_set bytes at (v % 256)) (suc at) w (v / 256) k (inr (omega arith)) ∙ get_or-set_other bytes at k (v % 256) 0 ne

read-written : (bytes : List ℕ) (at w v : ℕ) → at + w ≤ length bytes → read (written bytes at w v) at w ≡ v % 256 ^ w
read-written bytes at zero v h = omega arith
read-written bytes at (suc w) v h =
    let same = length-set bytes at (v % 256) in
    let low : slice_index (written bytes at (suc w) v) at ≡ v % 256 =
    written-beside (slice_set bytes at (v % 256)) (suc at) w (v / 256) at (inl (omega arith)) ∙ get_or-set_same bytes at (v % 256) 0 (omega arith) in
    cut v w _ _ low (read-written (slice_set bytes at (v % 256)) (suc at) w (v / 256) (omega (arith, same)))

read-beside : (bytes : List ℕ) (at w v from n : ℕ) → (from + n ≤ at) ⊎ (at + w ≤ from) → read (written bytes at w v) from n ≡ read bytes from n
read-beside bytes at w v from zero h = refl
read-beside bytes at w v from (suc n) (inl h) =
    let one = written-beside bytes at w v from (inl (omega arith)) in
    let rest = read-beside bytes at w v (suc from) n (inl (omega arith)) in
    omega (arith, one, rest)
read-beside bytes at w v from (suc n) (inr h) =
    let one = written-beside bytes at w v from (inr (omega arith)) in
    let rest = read-beside bytes at w v (suc from) n (inr (omega arith)) in
    omega (arith, one, rest)

-- a piece of a list beside a byte that is set, and beside a number that is written
piece-set : (l : List ℕ) (at x n k : ℕ) → (at < n) ⊎ (n + k ≤ at) → take k (drop n (slice_set l at x)) ≡ take k (drop n l)
piece-set [] at x n k h = refl
piece-set (y ∷ ys) zero x zero zero h = refl
piece-set (y ∷ ys) zero x zero (suc k) (inl h) = absurd (let none : 0 < 0 = h in omega arith)
piece-set (y ∷ ys) zero x zero (suc k) (inr h) = absurd (omega arith)
piece-set (y ∷ ys) zero x (suc n) k h = refl
piece-set (y ∷ ys) (suc at) x zero zero h = refl
piece-set (y ∷ ys) (suc at) x zero (suc k) (inl h) = absurd (omega arith)
piece-set (y ∷ ys) (suc at) x zero (suc k) (inr h) = ap (λ l. y ∷ l) (piece-set ys at x 0 k (inr (omega arith)))
piece-set (y ∷ ys) (suc at) x (suc n) k (inl h) = piece-set ys at x n k (inl (omega arith))
piece-set (y ∷ ys) (suc at) x (suc n) k (inr h) = piece-set ys at x n k (inr (omega arith))

pub piece-written : (l : List ℕ) (at w v n k : ℕ) → (at + w ≤ n) ⊎ (n + k ≤ at) → take k (drop n (written l at w v)) ≡ take k (drop n l)
piece-written l at zero v n k h = refl
piece-written l at (suc w) v n k (inl h) =
    piece-written (slice_set l at (v % 256)) (suc at) w (v / 256) n k (inl (omega arith)) ∙ piece-set l at (v % 256) n k (inl (omega arith))
piece-written l at (suc w) v n k (inr h) =
    piece-written (slice_set l at (v % 256)) (suc at) w (v / 256) n k (inr (omega arith)) ∙ piece-set l at (v % 256) n k (inr (omega arith))

-- ---- registers

pub put_other : (g : Regs) (r x d : ℕ) → d ≢ r → (put g r x).of d ≡ g.of d
put_other g r x d h = grind arith

pub put_same : (g : Regs) (r x : ℕ) → (put g r x).of r ≡ x
put_same g r x = grind arith

pub put_number-beside : (g : Regs) (r w v d : ℕ) → (d < r) ⊎ (r + w ≤ d) → (put_number g r w v).of d ≡ g.of d
put_number-beside g r zero v d h = refl
put_number-beside g r (suc w) v d (inl h) =
    put_number-beside (put g r (v % 256)) (suc r) w (v / 256) d (inl (omega arith)) ∙ put_other g r (v % 256) d (omega arith)
put_number-beside g r (suc w) v d (inr h) =
    put_number-beside (put g r (v % 256)) (suc r) w (v / 256) d (inr (omega arith)) ∙ put_other g r (v % 256) d (omega arith)

pub number-put : (g : Regs) (r w v : ℕ) → number (put_number g r w v) r w ≡ v % 256 ^ w
number-put g r zero v = omega arith
number-put g r (suc w) v =
    let low : (put_number g r (suc w) v).of r ≡ v % 256 =
    put_number-beside (put g r (v % 256)) (suc r) w (v / 256) r (inl (omega arith)) ∙ put_same g r (v % 256) in
    cut v w _ _ low (number-put (put g r (v % 256)) (suc r) w (v / 256))

pub number-beside : (g : Regs) (r w v f n : ℕ) → (f + n ≤ r) ⊎ (r + w ≤ f) → number (put_number g r w v) f n ≡ number g f n
number-beside g r w v f zero h = refl
number-beside g r w v f (suc n) (inl h) =
    let one = put_number-beside g r w v f (inl (omega arith)) in
    let rest = number-beside g r w v (suc f) n (inl (omega arith)) in
    omega (arith, one, rest)
number-beside g r w v f (suc n) (inr h) =
    let one = put_number-beside g r w v f (inr (omega arith)) in
    let rest = number-beside g r w v (suc f) n (inr (omega arith)) in
    omega (arith, one, rest)

-- ---- spots

abbrev pub InBytes : Spot → (width : ℕ) → List ℕ → Type 0
InBytes (InFrame at) w frame = at + w ≤ length frame
InBytes (InRegisters r) w frame = Unit {0}

pub value-put : (s : Spot) (w v : ℕ) (frame : List ℕ) (g : Regs) → InBytes s w frame
    → value_at s w (frame_with s w frame v) (registers_with s w g v) ≡ v % 256 ^ w
value-put (InFrame at) w v frame g h = read-written frame at w v h
value-put (InRegisters r) w v frame g h = number-put g r w v

pub value-beside : (s t : Spot) (w n v : ℕ) (frame : List ℕ) (g : Regs) → Apart s w t n
    → value_at t n (frame_with s w frame v) (registers_with s w g v) ≡ value_at t n frame g
value-beside (InFrame a) (InFrame b) w n v frame g h = read-beside frame a w v b n h
value-beside (InRegisters a) (InRegisters b) w n v frame g h = number-beside g a w v b n h
value-beside (InFrame a) (InRegisters b) w n v frame g h = refl
value-beside (InRegisters a) (InFrame b) w n v frame g h = refl
