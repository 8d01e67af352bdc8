-- Sums and differences of numbers of several bytes.
use Rattle.std.proofs.Common.{◌≡◌, ℕ, zero, suc, ◌+◌, ◌*◌, ◌/◌, ◌%◌, ◌^◌, ◌<◌, ◌≤◌, ◌⊎◌, Bool, true, false, nat_lt, List, [], ◌∷◌, length, refl, sym, ap, ◌∙◌, subst, arith}
use Rattle.avr_isa.specs.Flags.{sum_of, difference_of, number as number_of}
use Rattle.avr_view.specs.Registers.{Regs, put, does_all, carried, sums, takes, takes_on}
use Rattle.vg_templates.specs.Spots.{number}
use Rattle.vg_templates.proofs.Numbers.{cut}
use Rattle.vg_templates.specs.Numbers.{number_in, HoldBytes, AreBeside}
use Rattle.vg_templates.specs.Chains.{adds_on, adds, subtracts_on, subtracts, takes_known_on, takes_known}
use Rattle.vg_templates.specs.Chained.{Summed, Taken}
use Rattle.vg_templates.proofs.Registers.{carried_below, put_bytes, number_behind, number_in_beside, others_on, first_on, more_power}

-- one byte
sum_step : (a b c : ℕ) → a < 256 → b < 256 → c < 2 → sum_of a b c + 256 * number_of (nat_lt 255 (a + b + c)) ≡ a + b + c
sum_step a b c p q r = test (nat_lt 255 (a + b + c)) refl
  where
    test : (k : Bool) → nat_lt 255 (a + b + c) ≡ k → sum_of a b c + 256 * number_of k ≡ a + b + c
    test true e = let more : 255 < a + b + c = grind arith in omega arith
    test false e = let less : a + b + c ≤ 255 = grind arith in omega arith

pub difference_step : (a b c : ℕ) → a < 256 → b < 256 → c < 2 → difference_of a b c + (b + c) ≡ a + 256 * number_of (nat_lt a (b + c))
difference_step a b c p q r = test (nat_lt a (b + c)) refl
  where
    test : (k : Bool) → nat_lt a (b + c) ≡ k → difference_of a b c + (b + c) ≡ a + 256 * number_of k
    test true e = let less : a < b + c = grind arith in omega arith
    test false e = let more : b + c ≤ a = grind arith in omega arith

-- a byte and the bytes behind it
sum_digits : (x z a y c a1 y1 p q k : ℕ) → x + 256 * k ≡ a + y + c → z + p ≡ a1 + y1 + k → q ≡ 256 * p
    → x + 256 * z + q ≡ a + 256 * a1 + (y + 256 * y1) + c
sum_digits x z a y c a1 y1 p q k e f h = omega arith

pub difference_digits : (x z a y c a1 y1 p q k : ℕ) → x + (y + c) ≡ a + 256 * k → z + (y1 + k) ≡ a1 + p → q ≡ 256 * p
    → x + 256 * z + (y + 256 * y1 + c) ≡ a + 256 * a1 + q
difference_digits x z a y c a1 y1 p q k e f h = omega arith

pub sum_below : (a b c : ℕ) → sum_of a b c < 256
sum_below a b c = omega arith

pub difference_below : (a b c : ℕ) → difference_of a b c < 256
difference_below a b c = omega arith

-- what follows a sum of two bytes
sum_follows : (d y c n y1 : ℕ) (g h : Regs) → g.of d < 256 → y < 256 → c < 2
    → (let g1 = sums g d y c in
    Summed (suc d) n (number g1 (suc d) n) y1 (carried g1) g1 h → Summed d (suc n) (number g d (suc n)) (y + 256 * y1) c g h)
sum_follows d y c n y1 g h a_byte y_byte c_bit rest =
    let a = g.of d in
    let x = sum_of a y c in
    let k = number_of (nat_lt 255 (a + y + c)) in
    let sum = rest.sum ∙ ap (λ z. z + y1 + k) (number_behind g d x n) in
    record {
      sum =
          ap (λ z. z + 256 * number h (suc d) n + 256 ^ suc n * carried h) (first_on d n x g h rest.others)
          ∙ sum_digits x (number h (suc d) n) a y c (number g (suc d) n) y1 (256 ^ n * carried h) (256 ^ suc n * carried h) k
          (sum_step a y c a_byte y_byte c_bit) sum (more_power n (carried h));
      others = others_on d n x g h rest.others;
    }

-- and a difference of two bytes
difference_follows : (d y c n y1 : ℕ) (g g1 h : Regs) → g.of d < 256 → y < 256 → c < 2
    → ((r : ℕ) → g1.of r ≡ (put g d (difference_of (g.of d) y c)).of r) → carried g1 ≡ number_of (nat_lt (g.of d) (y + c))
    → number g1 (suc d) n ≡ number g (suc d) n
    → Taken (suc d) n (number g1 (suc d) n) y1 (carried g1) g1 h → Taken d (suc n) (number g d (suc n)) (y + 256 * y1) c g h
difference_follows d y c n y1 g g1 h a_byte y_byte c_bit same carry own rest =
    let a = g.of d in
    let x = difference_of a y c in
    let k = number_of (nat_lt a (y + c)) in
    let others = λ (r : ℕ) (b : (r < suc d) ⊎ (suc d + n ≤ r)). rest.others r b ∙ same r in
    let difference : number h (suc d) n + (y1 + k) ≡ number g (suc d) n + 256 ^ n * carried h =
    ap (λ z. number h (suc d) n + (y1 + z)) (sym carry) ∙ rest.difference ∙ ap (λ z. z + 256 ^ n * carried h) own in
    record {
      difference =
          ap (λ z. z + 256 * number h (suc d) n + (y + 256 * y1 + c)) (first_on d n x g h others)
          ∙ difference_digits x (number h (suc d) n) a y c (number g (suc d) n) y1 (256 ^ n * carried h) (256 ^ suc n * carried h) k
          (difference_step a y c a_byte y_byte c_bit) difference (more_power n (carried h));
      others = others_on d n x g h others;
    }

module _ (flash : List ℕ) (low high : ℕ) (chip : high ≤ 32) where
  pub adds_on-sums : (d : ℕ) (rs : List ℕ) (g : Regs) → low ≤ d → d + length rs ≤ high → AreBeside low high rs → HoldBytes g
      → Summed d (length rs) (number g d (length rs)) (number_in g rs) (carried g) g (does_all flash (adds_on d rs) g)
  adds_on-sums d [] g lo hi k b = record { sum = omega arith; others = λ r h. refl }
  adds_on-sums d (s ∷ ss) g lo hi (k, more) b =
      let x = sum_of (g.of d) (g.of s) (carried g) in
      let g1 = sums g d (g.of s) (carried g) in
      let rest = adds_on-sums (suc d) ss g1 (omega arith) (omega arith) more (put_bytes g d x (sum_below _ _ _) b) in
      let other : number_in g1 ss ≡ number_in g ss = number_in_beside g low high d x ss lo (omega arith) more in
      sum_follows d (g.of s) (carried g) (length ss) (number_in g ss) g (does_all flash (adds_on (suc d) ss) g1) (b d (omega arith)) (b s k.1) (carried_below g)
      (record { sum = rest.sum ∙ ap (λ z. number g1 (suc d) (length ss) + z + carried g1) other; others = rest.others })

  pub adds-sums : (d : ℕ) (rs : List ℕ) (g : Regs) → low ≤ d → d + length rs ≤ high → AreBeside low high rs → HoldBytes g → 0 < length rs
      → Summed d (length rs) (number g d (length rs)) (number_in g rs) 0 g (does_all flash (adds d rs) g)
  adds-sums d [] g lo hi k b some = absurd (omega arith)
  adds-sums d (s ∷ ss) g lo hi (k, more) b some =
      let x = sum_of (g.of d) (g.of s) 0 in
      let g1 = sums g d (g.of s) 0 in
      let rest = adds_on-sums (suc d) ss g1 (omega arith) (omega arith) more (put_bytes g d x (sum_below _ _ _) b) in
      let other : number_in g1 ss ≡ number_in g ss = number_in_beside g low high d x ss lo (omega arith) more in
      sum_follows d (g.of s) 0 (length ss) (number_in g ss) g (does_all flash (adds_on (suc d) ss) g1) (b d (omega arith)) (b s k.1) (omega arith)
      (record { sum = rest.sum ∙ ap (λ z. number g1 (suc d) (length ss) + z + carried g1) other; others = rest.others })

  pub subtracts_on-takes : (d : ℕ) (rs : List ℕ) (g : Regs) → low ≤ d → d + length rs ≤ high → AreBeside low high rs → HoldBytes g
      → Taken d (length rs) (number g d (length rs)) (number_in g rs) (carried g) g (does_all flash (subtracts_on d rs) g)
  subtracts_on-takes d [] g lo hi k b = record { difference = omega arith; others = λ r h. refl }
  subtracts_on-takes d (s ∷ ss) g lo hi (k, more) b =
      let x = difference_of (g.of d) (g.of s) (carried g) in
      let g1 = takes_on g d (g.of s) in
      let rest = subtracts_on-takes (suc d) ss g1 (omega arith) (omega arith) more (put_bytes g d x (difference_below _ _ _) b) in
      let other : number_in g1 ss ≡ number_in g ss = number_in_beside g low high d x ss lo (omega arith) more in
      difference_follows d (g.of s) (carried g) (length ss) (number_in g ss) g g1 (does_all flash (subtracts_on (suc d) ss) g1) (b d (omega arith)) (b s k.1)
      (carried_below g) (λ r. refl) refl (number_behind g d x (length ss))
      (record { difference = ap (λ z. number (does_all flash (subtracts_on (suc d) ss) g1) (suc d) (length ss) + (z + carried g1)) (sym other) ∙ rest.difference; others = rest.others })

  pub subtracts-takes : (d : ℕ) (rs : List ℕ) (g : Regs) → low ≤ d → d + length rs ≤ high → AreBeside low high rs → HoldBytes g → 0 < length rs
      → Taken d (length rs) (number g d (length rs)) (number_in g rs) 0 g (does_all flash (subtracts d rs) g)
  subtracts-takes d [] g lo hi k b some = absurd (omega arith)
  subtracts-takes d (s ∷ ss) g lo hi (k, more) b some =
      let x = difference_of (g.of d) (g.of s) 0 in
      let g1 = takes g d (g.of s) in
      let rest = subtracts_on-takes (suc d) ss g1 (omega arith) (omega arith) more (put_bytes g d x (difference_below _ _ _) b) in
      let other : number_in g1 ss ≡ number_in g ss = number_in_beside g low high d x ss lo (omega arith) more in
      difference_follows d (g.of s) 0 (length ss) (number_in g ss) g g1 (does_all flash (subtracts_on (suc d) ss) g1) (b d (omega arith)) (b s k.1)
      (omega arith) (λ r. refl) refl (number_behind g d x (length ss))
      (record { difference = ap (λ z. number (does_all flash (subtracts_on (suc d) ss) g1) (suc d) (length ss) + (z + carried g1)) (sym other) ∙ rest.difference; others = rest.others })

  -- a known number is taken away
  pub takes_known_on-takes : (d n v : ℕ) (g : Regs) → d + n ≤ 32 → HoldBytes g
      → Taken d n (number g d n) (v % 256 ^ n) (carried g) g (does_all flash (takes_known_on d n v) g)
  takes_known_on-takes d zero v g hi b = record { difference = omega arith; others = λ r h. refl }
  takes_known_on-takes d (suc n) v g hi b =
      let x = difference_of (g.of d) (v % 256) (carried g) in
      let g1 = takes_on g d (v % 256) in
      let rest = takes_known_on-takes (suc d) n (v / 256) g1 (omega arith) (put_bytes g d x (difference_below _ _ _) b) in
      subst (λ y. Taken d (suc n) (number g d (suc n)) y (carried g) g (does_all flash (takes_known_on d (suc n) v) g)) (cut v n _ _ refl refl)
      (difference_follows d (v % 256) (carried g) n (v / 256 % 256 ^ n) g g1 (does_all flash (takes_known_on (suc d) n (v / 256)) g1) (b d (omega arith))
      (omega arith) (carried_below g) (λ r. refl) refl (number_behind g d x n) rest)

  pub takes_known-takes : (d n v : ℕ) (g : Regs) → d + n ≤ 32 → HoldBytes g → 0 < n
      → Taken d n (number g d n) (v % 256 ^ n) 0 g (does_all flash (takes_known d n v) g)
  takes_known-takes d zero v g hi b some = absurd (omega arith)
  takes_known-takes d (suc n) v g hi b some =
      let x = difference_of (g.of d) (v % 256) 0 in
      let g1 = takes g d (v % 256) in
      let rest = takes_known_on-takes (suc d) n (v / 256) g1 (omega arith) (put_bytes g d x (difference_below _ _ _) b) in
      subst (λ y. Taken d (suc n) (number g d (suc n)) y 0 g (does_all flash (takes_known d (suc n) v) g)) (cut v n _ _ refl refl)
      (difference_follows d (v % 256) 0 n (v / 256 % 256 ^ n) g g1 (does_all flash (takes_known_on (suc d) n (v / 256)) g1) (b d (omega arith))
      (omega arith) (omega arith) (λ r. refl) refl (number_behind g d x n) rest)
