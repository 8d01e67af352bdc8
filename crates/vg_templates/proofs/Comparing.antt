-- Comparisons of numbers of several bytes.
use Rattle.std.proofs.Common.{◌≡◌, ℕ, suc, ◌+◌, ◌*◌, ◌/◌, ◌%◌, ◌^◌, ◌<◌, ◌≤◌, Bool, true, false, ◌&&◌, ◌==◌, nat_lt}
use Rattle.std.proofs.Common.{List, [], ◌∷◌, length, refl, sym, ap, ◌∙◌, subst, arith}
use Rattle.std.proofs.Math.Nat.{pow-suc}
use Rattle.avr_isa.specs.Flags.{difference_of, flags_of_difference, differ, number as number_of}
use Rattle.avr_view.specs.Registers.{Regs, flagged, sticky_zero, does_all, carried}
use Rattle.vg_templates.specs.Numbers.{number_in, HoldBytes, AreRegisters}
use Rattle.vg_templates.specs.Chains.{compares_on, compares}
use Rattle.vg_templates.specs.Chained.{Compared, from_least}
use Rattle.vg_templates.proofs.Registers.{carried_below, more_power}
use Rattle.vg_templates.proofs.Sums.{difference_step, difference_below, difference_digits}

-- the difference that a comparison makes and forgets
record Difference (n x y c : ℕ) (z : Bool) (g h : Regs) : Type 0 where
  pub rest : ℕ
  pub small : rest < 256 ^ n
  pub difference : rest + (y + c) ≡ x + 256 ^ n * carried h
  pub equal : h.flags.zero ≡ ((rest == 0) && z)
  pub registers : (r : ℕ) → h.of r ≡ g.of r

and_all : (a b c : Bool) → (a && (b && c)) ≡ ((a && b) && c)
and_all true b c = refl
and_all false b c = refl

zero_both : (x r : ℕ) → ((r == 0) && (x == 0)) ≡ (x + 256 * r == 0)
zero_both x r = grind arith

both_zero : (x r : ℕ) (z : Bool) → ((r == 0) && ((x == 0) && z)) ≡ ((x + 256 * r == 0) && z)
both_zero x r z = and_all (r == 0) (x == 0) z ∙ ap (λ b. b && z) (zero_both x r)

number_same : (g h : Regs) (rs : List ℕ) → ((r : ℕ) → h.of r ≡ g.of r) → number_in h rs ≡ number_in g rs
number_same g h [] k = refl
number_same g h (r ∷ rs) k = let one = k r in let more = number_same g h rs k in omega (arith, one, more)

small_power : (x r n : ℕ) → x < 256 → r < 256 ^ n → x + 256 * r < 256 ^ suc n
small_power x r n h k = let e = pow-suc 256 n in omega (arith, h, k, e)

-- one byte, and those behind it
difference_on : (a y c z0 n x1 y1 : ℕ) (z : Bool) (g g1 h : Regs) → a < 256 → y < 256 → c < 2 → carried g1 ≡ number_of (nat_lt a (y + c))
    → g1.flags.zero ≡ ((difference_of a y c == 0) && z) → ((r : ℕ) → g1.of r ≡ g.of r) → Difference n x1 y1 (carried g1) g1.flags.zero g1 h
    → Difference (suc n) (a + 256 * x1) (y + 256 * y1) c z g h
difference_on a y c z0 n x1 y1 z g g1 h a_byte y_byte c_bit carry zero' same d =
    let x = difference_of a y c in
    let difference : d.rest + (y1 + number_of (nat_lt a (y + c))) ≡ x1 + 256 ^ n * carried h =
    ap (λ k. d.rest + (y1 + k)) (sym carry) ∙ d.difference in
    record {
      rest = x + 256 * d.rest;
      small = small_power x d.rest n (difference_below a y c) d.small;
      difference =
          difference_digits x d.rest a y c x1 y1 (256 ^ n * carried h) (256 ^ suc n * carried h) (number_of (nat_lt a (y + c)))
          (difference_step a y c a_byte y_byte c_bit) difference (more_power n (carried h));
      equal = d.equal ∙ ap (λ b. (d.rest == 0) && b) zero' ∙ both_zero x d.rest z;
      registers = λ r. d.registers r ∙ same r;
    }

module _ (flash : List ℕ) where
  differences_on : (left right : List ℕ) (g : Regs) → length right ≡ length left → AreRegisters left → AreRegisters right → HoldBytes g
      → Difference (length left) (number_in g left) (number_in g right) (carried g) g.flags.zero g (does_all flash (compares_on left right) g)
  differences_on [] [] g long p q b =
      record { rest = 0; small = omega arith; difference = omega arith; equal = refl; registers = λ r. refl }
  differences_on [] (r ∷ rs) g long p q b = absurd (let none : suc (length rs) ≡ 0 = long in omega arith)
  differences_on (l ∷ ls) [] g long p q b = absurd (let none : 0 ≡ suc (length ls) = long in omega arith)
  differences_on (l ∷ ls) (r ∷ rs) g long (in_l, p) (in_r, q) b =
      let f = sticky_zero g (flags_of_difference (g.of l) (g.of r) (carried g)) in
      difference_on (g.of l) (g.of r) (carried g) 0 (length ls) (number_in g ls) (number_in g rs) g.flags.zero g (flagged g f)
      (does_all flash (compares_on ls rs) (flagged g f)) (b l in_l) (b r in_r) (carried_below g) refl refl (λ k. refl)
      (differences_on ls rs (flagged g f) (let e : length rs ≡ length ls = omega (arith, long) in e) p q b)

-- a number in registers is below the next power
number_small : (g : Regs) (rs : List ℕ) → AreRegisters rs → HoldBytes g → number_in g rs < 256 ^ length rs
number_small g [] k b = omega arith
number_small g (r ∷ rs) (here, more) b = small_power (g.of r) (number_in g rs) (length rs) (b r here) (number_small g rs more b)

-- what the borrow and the difference tell
borrow_tells : (rest x y p : ℕ) (carry : Bool) → rest < p → x < p → y < p → rest + (y + 0) ≡ x + p * number_of carry → carry ≡ nat_lt x y
borrow_tells rest x y p true r h k e = let less : x < y = omega arith in grind (arith, less)
borrow_tells rest x y p false r h k e = let more : y ≤ x = omega arith in grind (arith, more)

zero_tells : (rest x y p : ℕ) (carry : Bool) → rest < p → x < p → y < p → rest + (y + 0) ≡ x + p * number_of carry → (rest == 0) ≡ (x == y)
zero_tells rest x y p true r h k e = let other : x < y = omega arith in let some : 0 < rest = omega arith in grind (arith, other, some)
zero_tells rest x y p false r h k e = let sum : rest + y ≡ x = omega arith in grind (arith, sum)

-- what the flags tell behind a chain
compared : (n x y : ℕ) (z : Bool) (g h : Regs) → x < 256 ^ n → y < 256 ^ n → z ≡ true → Difference n x y 0 z g h → Compared x y g h
compared n x y z g h p q e d =
    record {
      below = borrow_tells d.rest x y (256 ^ n) h.flags.carry d.small p q d.difference;
      equal = d.equal ∙ ap (λ b. (d.rest == 0) && b) e ∙ and_true (d.rest == 0) ∙ zero_tells d.rest x y (256 ^ n) h.flags.carry d.small p q d.difference;
      registers = d.registers;
    }
  where
    and_true : (b : Bool) → (b && true) ≡ b
    and_true true = refl
    and_true false = refl

module _ (flash : List ℕ) where
  pub compares-tell : (left right : List ℕ) (g : Regs) → length right ≡ length left → 0 < length left → AreRegisters left → AreRegisters right → HoldBytes g
      → Compared (number_in g left) (number_in g right) g (does_all flash (compares left right) g)
  compares-tell [] rs g long some p q b = absurd (omega arith)
  compares-tell (l ∷ ls) [] g long some p q b = absurd (let none : 0 ≡ suc (length ls) = long in omega arith)
  compares-tell (l ∷ ls) (r ∷ rs) g long some (in_l, p) (in_r, q) b =
      let f = flags_of_difference (g.of l) (g.of r) 0 in
      let e : length rs ≡ length ls = omega (arith, long) in
      let h = does_all flash (compares_on ls rs) (flagged g f) in
      let zero_is : (difference_of (g.of l) (g.of r) 0 == 0) ≡ ((difference_of (g.of l) (g.of r) 0 == 0) && true) = and_true (difference_of (g.of l) (g.of r) 0 == 0) in
      let same : 256 ^ length (r ∷ rs) ≡ 256 ^ length (l ∷ ls) = ap (λ n. 256 ^ n) long in
      compared (suc (length ls)) (number_in g (l ∷ ls)) (number_in g (r ∷ rs)) true g h (number_small g (l ∷ ls) (in_l, p) b)
      (subst (λ n. number_in g (r ∷ rs) < n) same (number_small g (r ∷ rs) (in_r, q) b)) refl
      (difference_on (g.of l) (g.of r) 0 0 (length ls) (number_in g ls) (number_in g rs) true g (flagged g f) h (b l in_l) (b r in_r) (omega arith) refl zero_is
      (λ k. refl) (differences_on flash ls rs (flagged g f) e p q b))
    where
      and_true : (c : Bool) → c ≡ (c && true)
      and_true true = refl
      and_true false = refl

-- ---- signed numbers

-- one byte: N exclusive or V
byte_less : (a y c : ℕ) → a < 256 → y < 256 → c < 2
    → (let f = flags_of_difference a y c in
    differ f.negative f.overflow ≡ nat_lt ((a + 128) % 256) ((y + 128) % 256 + c))
byte_less a y c p q r = grind arith

less_digits : (a y c x1 y1 : ℕ) → a < 256 → y < 256 → c < 2
    → nat_lt (a + 256 * x1) (y + 256 * y1 + c) ≡ nat_lt x1 (y1 + number_of (nat_lt a (y + c)))
less_digits a y c x1 y1 p q r = test (nat_lt a (y + c)) refl
  where
    test : (k : Bool) → nat_lt a (y + c) ≡ k → nat_lt (a + 256 * x1) (y + 256 * y1 + c) ≡ nat_lt x1 (y1 + number_of k)
    test true e = let less : a < y + c = grind arith in grind (arith, less)
    test false e = let more : y + c ≤ a = grind arith in grind (arith, more)

least_digits : (n a x : ℕ) → a < 256 → from_least (suc (suc n)) (a + 256 * x) ≡ a + 256 * from_least (suc n) x
least_digits n a x h =
    let low : (a + 256 * x) % 256 ≡ a = omega arith in
    let high : (a + 256 * x) / 256 ≡ x = omega arith in
    ap (λ k. k + 256 * from_least (suc n) ((a + 256 * x) / 256)) low ∙ ap (λ k. a + 256 * from_least (suc n) k) high

module _ (flash : List ℕ) where
  less_on : (l r : ℕ) (ls rs : List ℕ) (g : Regs) → length rs ≡ length ls → AreRegisters (l ∷ ls) → AreRegisters (r ∷ rs) → HoldBytes g
      → (let h = does_all flash (compares_on (l ∷ ls) (r ∷ rs)) g in
      differ h.flags.negative h.flags.overflow
      ≡ nat_lt (from_least (suc (length ls)) (number_in g (l ∷ ls))) (from_least (suc (length ls)) (number_in g (r ∷ rs)) + carried g))
  less_on l r [] [] g long (p, _) (q, _) b =
      let left : g.of l + 256 * 0 ≡ g.of l = omega arith in
      let right : g.of r + 256 * 0 ≡ g.of r = omega arith in
      byte_less (g.of l) (g.of r) (carried g) (b l p) (b r q) (carried_below g) ∙ ap (λ k. nat_lt ((k + 128) % 256) ((g.of r + 128) % 256 + carried g)) (sym left)
      ∙ ap (λ k. nat_lt ((g.of l + 256 * 0 + 128) % 256) ((k + 128) % 256 + carried g)) (sym right)
  less_on l r [] (s ∷ rs) g long p q b = absurd (let none : suc (length rs) ≡ 0 = long in omega arith)
  less_on l r (k ∷ ls) [] g long p q b = absurd (let none : 0 ≡ suc (length ls) = long in omega arith)
  less_on l r (k ∷ ls) (s ∷ rs) g long (p, ps) (q, qs) b =
      let f = sticky_zero g (flags_of_difference (g.of l) (g.of r) (carried g)) in
      let e : length rs ≡ length ls = omega (arith, long) in
      let n = length ls in
      let left = from_least (suc n) (number_in g (k ∷ ls)) in
      let right = from_least (suc n) (number_in g (s ∷ rs)) in
      less_on k s ls rs (flagged g f) e ps qs b
      ∙ sym (less_digits (g.of l) (g.of r) (carried g) left right (b l p) (b r q) (carried_below g))
      ∙ sym (ap (λ x. nat_lt x (from_least (suc (suc n)) (number_in g (r ∷ (s ∷ rs))) + carried g)) (least_digits n (g.of l) (number_in g (k ∷ ls)) (b l p))
      ∙ ap (λ x. nat_lt (g.of l + 256 * left) (x + carried g)) (least_digits n (g.of r) (number_in g (s ∷ rs)) (b r q)))

  pub compares-less : (left right : List ℕ) (g : Regs) → length right ≡ length left → 0 < length left → AreRegisters left → AreRegisters right → HoldBytes g
      → (let h = does_all flash (compares left right) g in
      differ h.flags.negative h.flags.overflow ≡ nat_lt (from_least (length left) (number_in g left)) (from_least (length left) (number_in g right)))
  compares-less [] rs g long some p q b = absurd (omega arith)
  compares-less (l ∷ ls) [] g long some p q b = absurd (let none : 0 ≡ suc (length ls) = long in omega arith)
  compares-less (l ∷ []) (r ∷ []) g long some (p, _) (q, _) b =
      let left : g.of l + 256 * 0 ≡ g.of l = omega arith in
      let right : g.of r + 256 * 0 ≡ g.of r = omega arith in
      let no_borrow : (g.of r + 128) % 256 + 0 ≡ (g.of r + 128) % 256 = omega arith in
      byte_less (g.of l) (g.of r) 0 (b l p) (b r q) (omega arith) ∙ ap (nat_lt ((g.of l + 128) % 256)) no_borrow
      ∙ ap (λ k. nat_lt ((k + 128) % 256) ((g.of r + 128) % 256)) (sym left)
      ∙ ap (λ k. nat_lt ((g.of l + 256 * 0 + 128) % 256) ((k + 128) % 256)) (sym right)
  compares-less (l ∷ []) (r ∷ (s ∷ rs)) g long some p q b = absurd (let none : suc (suc (length rs)) ≡ 1 = long in omega arith)
  compares-less (l ∷ (k ∷ ls)) (r ∷ []) g long some p q b = absurd (let none : 1 ≡ suc (suc (length ls)) = long in omega arith)
  compares-less (l ∷ (k ∷ ls)) (r ∷ (s ∷ rs)) g long some (p, ps) (q, qs) b =
      let f = flags_of_difference (g.of l) (g.of r) 0 in
      let e : length rs ≡ length ls = omega (arith, long) in
      let n = length ls in
      let left = from_least (suc n) (number_in g (k ∷ ls)) in
      let right = from_least (suc n) (number_in g (s ∷ rs)) in
      let no_borrow : g.of r + 256 * right + 0 ≡ g.of r + 256 * right = omega arith in
      less_on k s ls rs (flagged g f) e ps qs b
      ∙ sym (less_digits (g.of l) (g.of r) 0 left right (b l p) (b r q) (omega arith))
      ∙ ap (nat_lt (g.of l + 256 * left)) no_borrow
      ∙ sym (ap (λ x. nat_lt x (from_least (suc (suc n)) (number_in g (r ∷ (s ∷ rs))))) (least_digits n (g.of l) (number_in g (k ∷ ls)) (b l p))
      ∙ ap (nat_lt (g.of l + 256 * left)) (least_digits n (g.of r) (number_in g (s ∷ rs)) (b r q)))
