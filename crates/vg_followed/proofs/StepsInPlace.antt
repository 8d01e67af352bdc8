-- What the code for a step of a division makes of registers that have the remainder and the dividend.
use Rattle.std.proofs.Common.{◌≡◌, ◌≢◌, ℕ, zero, suc, ◌+◌, ◌-◌, ◌*◌, ◌/◌, ◌%◌, ◌^◌, ◌<◌, ◌≤◌, ◌⊎◌, inl, inr, Bool, true, false, ◌==◌, nat_lt, nat_le, if◌then◌else◌}
use Rattle.std.proofs.Common.{List, [], ◌∷◌, refl, sym, ap, ◌∙◌, subst, arith}
use Rattle.avr_instr.specs.declared.instr.Instr.TheVariants.{Dec, Inc}
use Rattle.vg_lin.specs.Values.{shifted_remainder, shifted_dividend, next_remainder, next_dividend}
use Rattle.avr_view.specs.Registers.{Regs, carried, does_all}
use Rattle.vg_templates.specs.Spots.{number}
use Rattle.vg_templates.specs.Numbers.{number_in, HoldBytes}
use Rattle.vg_templates.specs.Chains.{compares, subtracts}
use Rattle.vg_templates.specs.Shifts.{doubles, doubles_on}
use Rattle.vg_templates.specs.Products.{four_from}
use Rattle.vg_templates.proofs.Numbers.{put_other, put_same}
use Rattle.vg_templates.proofs.Registers.{number_behind}
use Rattle.vg_templates.proofs.Bytes.{number_small}
use Rattle.vg_templates.proofs.Comparing.{compares-tell}
use Rattle.vg_templates.proofs.Computing.{number_kept}
use Rattle.vg_templates.proofs.Sums.{subtracts-takes}
use Rattle.vg_followed.proofs.Bits.{low_part, high_part}
use Rattle.vg_followed.proofs.Doubling.{doubles-double, doubles_on-double}

abbrev P : ℕ
P = 256 ^ 4

-- four registers from one on, and four from another on: none of them is a scratch register, and none is in both
pub record AreFours (r d : ℕ) : Type 0 where
  pub remainder_above : 2 ≤ r
  pub remainder_below : r + 4 ≤ 18
  pub dividend_above : 2 ≤ d
  pub dividend_below : d + 4 ≤ 18
  pub apart : (d + 4 ≤ r) ⊎ (r + 4 ≤ d)

-- no register of four from one on
abbrev pub IsOut : (r k : ℕ) → Type 0
IsOut r k = (k < r) ⊎ (r + 4 ≤ k)

-- registers hold remainder, dividend and divisor, and what r26 counts; all others are as they were
pub record Has (r d x y v n : ℕ) (old g : Regs) : Type 0 where
  pub remainder : number g r 4 ≡ x
  pub dividend : number g d 4 ≡ y
  pub divisor : number g 18 4 ≡ v
  pub count : g.of 26 ≡ n
  pub others : (k : ℕ) → k ≢ 26 → IsOut r k → IsOut d k → g.of k ≡ old.of k

-- ---- one of the numbers has changed

beside : (r d k : ℕ) → (d + 4 ≤ r) ⊎ (r + 4 ≤ d) → r ≤ k → k < r + 4 → IsOut d k
beside r d k (inl h) lo hi = inr (omega arith)
beside r d k (inr h) lo hi = inl (omega arith)

turned : (a b : ℕ) → (a ≤ b) ⊎ (b ≤ a) → (b ≤ a) ⊎ (a ≤ b)
turned a b (inl h) = inr h
turned a b (inr h) = inl h

module _ (r d : ℕ) (lie : AreFours r d) where
  from_r : (k : ℕ) → r ≤ k → k < r + 4 → IsOut d k
  from_r k lo hi = beside r d k lie.apart lo hi

  from_d : (k : ℕ) → d ≤ k → k < d + 4 → IsOut r k
  from_d k lo hi = by lie.apart
    where
      by : (d + 4 ≤ r) ⊎ (r + 4 ≤ d) → IsOut r k
      by (inl h) = inl (omega arith)
      by (inr h) = inr (omega arith)

  in_dividend : (x y z v n : ℕ) (old g h : Regs) → Has r d x y v n old g → ((k : ℕ) → IsOut d k → h.of k ≡ g.of k) → number h d 4 ≡ z
      → Has r d x z v n old h
  in_dividend x y z v n old g h f same is =
      let low = lie.dividend_below in
      record {
        remainder = number_kept g h r 4 (λ k lo hi. same k (from_r k lo hi)) ∙ f.remainder;
        dividend = is;
        divisor = number_kept g h 18 4 (λ k lo hi. same k (inr (omega (arith, low, lo)))) ∙ f.divisor;
        count = same 26 (inr (omega (arith, low))) ∙ f.count;
        others = λ k ne out out'. same k out' ∙ f.others k ne out out';
      }

  in_remainder : (x y z v n : ℕ) (old g h : Regs) → Has r d x y v n old g → ((k : ℕ) → IsOut r k → h.of k ≡ g.of k) → number h r 4 ≡ z
      → Has r d z y v n old h
  in_remainder x y z v n old g h f same is =
      let low = lie.remainder_below in
      record {
        remainder = is;
        dividend = number_kept g h d 4 (λ k lo hi. same k (from_d k lo hi)) ∙ f.dividend;
        divisor = number_kept g h 18 4 (λ k lo hi. same k (inr (omega (arith, low, lo)))) ∙ f.divisor;
        count = same 26 (inr (omega (arith, low))) ∙ f.count;
        others = λ k ne out out'. same k out ∙ f.others k ne out out';
      }

  -- ---- each block

  pub doubled : (flash : List ℕ) (x y v n : ℕ) (old g : Regs) → HoldBytes g → HoldBytes (does_all flash (doubles d 4) g) → Has r d x y v n old g
      → Has r d x (shifted_dividend y) v n old (does_all flash (doubles d 4) g) × (carried (does_all flash (doubles d 4) g) ≡ y % P / 2 ^ 31)
  doubled flash x y v n old g b after f =
      let low = lie.dividend_below in
      let h = does_all flash (doubles d 4) g in
      let k = doubles-double flash d 3 g (omega (arith, low)) b in
      let sum = k.doubled in
      let at = f.dividend in
      let total : number h d 4 + P * carried h ≡ 2 * y = omega (arith, sum, at) in
      let small = number_small h d 4 (λ j lo hi. after j (omega (arith, low, hi))) in
      let bound = subst (λ z. z < P) at (number_small g d 4 (λ j lo hi. b j (omega (arith, low, hi)))) in
      let top : 2 * y / P ≡ y % P / 2 ^ 31 = omega (arith, bound) in (
        in_dividend x y (shifted_dividend y) v n old g h f k.others (low_part (number h d 4) P (carried h) (2 * y) small total),
        high_part (number h d 4) P (carried h) (2 * y) small total ∙ top,
      )

  pub doubled_on : (flash : List ℕ) (x y v n c : ℕ) (old g : Regs) → HoldBytes g → HoldBytes (does_all flash (doubles_on r 4) g)
      → Has r d x y v n old g → carried g ≡ c → Has r d ((2 * x + c) % P) y v n old (does_all flash (doubles_on r 4) g)
  doubled_on flash x y v n c old g b after f bit =
      let low = lie.remainder_below in
      let h = does_all flash (doubles_on r 4) g in
      let k = doubles_on-double flash r 4 g (omega (arith, low)) b in
      let sum = k.doubled in
      let at = f.remainder in
      let total : number h r 4 + P * carried h ≡ 2 * x + c = omega (arith, sum, at, bit) in
      in_remainder x y ((2 * x + c) % P) v n old g h f k.others
      (low_part (number h r 4) P (carried h) (2 * x + c) (number_small h r 4 (λ j lo hi. after j (omega (arith, low, hi)))) total)

  pub compared : (flash : List ℕ) (x y v n : ℕ) (old g : Regs) → HoldBytes g → Has r d x y v n old g
      → Has r d x y v n old (does_all flash (compares (four_from r) (four_from 18)) g)
      × ((does_all flash (compares (four_from r) (four_from 18)) g).flags.carry ≡ nat_lt x v)
  compared flash x y v n old g b f =
      let low = lie.remainder_below in
      let h = does_all flash (compares (four_from r) (four_from 18)) g in
      let t =
      compares-tell flash (four_from r) (four_from 18) g refl (omega arith)
      (omega (arith, low), (omega (arith, low), (omega (arith, low), (omega (arith, low), tt))))
      (omega arith, (omega arith, (omega arith, (omega arith, tt)))) b in (
        in_remainder x y x v n old g h f (λ k out. t.registers k) (number_kept g h r 4 (λ k lo hi. t.registers k) ∙ f.remainder),
        t.below ∙ ap (λ z. nat_lt z (number g 18 4)) (listed g r ∙ f.remainder) ∙ ap (nat_lt x) f.divisor,
      )
    where
      listed : (g : Regs) (r : ℕ) → number_in g (four_from r) ≡ number g r 4
      listed g r =
          let one : g.of (r + 1) ≡ g.of (suc r) = ap g.of (let e : r + 1 ≡ suc r = omega arith in e) in
          let two : g.of (r + 2) ≡ g.of (suc (suc r)) = ap g.of (let e : r + 2 ≡ suc (suc r) = omega arith in e) in
          let three : g.of (r + 3) ≡ g.of (suc (suc (suc r))) = ap g.of (let e : r + 3 ≡ suc (suc (suc r)) = omega arith in e) in
          omega (arith, one, two, three)

  pub subtracted : (flash : List ℕ) (x y v n : ℕ) (old g : Regs) → HoldBytes g → HoldBytes (does_all flash (subtracts r (four_from 18)) g) → v ≤ x
      → Has r d x y v n old g → Has r d (x - v) y v n old (does_all flash (subtracts r (four_from 18)) g)
  subtracted flash x y v n old g b after more f =
      let low = lie.remainder_below in
      let h = does_all flash (subtracts r (four_from 18)) g in
      let t =
      subtracts-takes flash r (r + 4) (omega (arith, low)) r (four_from 18) g (omega arith) (omega arith) (
        (inr (omega (arith, low)), omega arith),
        (
          (inr (omega (arith, low)), omega arith),
          (
            (inr (omega (arith, low)), omega arith),
            ((inr (omega (arith, low)), omega arith), tt),
          ),
        ),
      ) b (omega arith) in
      let difference : number h r 4 + (v + 0) ≡ x + P * carried h =
      sym (ap (λ z. number h r 4 + (z + 0)) f.divisor) ∙ t.difference ∙ ap (λ z. z + P * carried h) f.remainder in
      in_remainder x y (x - v) v n old g h f t.others
      (taken (number h r 4) (carried h) (number_small h r 4 (λ j lo hi. after j (omega (arith, low, hi)))) difference)
    where
      taken : (m c : ℕ) → m < P → m + (v + 0) ≡ x + P * c → m ≡ x - v
      taken m zero small e = omega (arith, e, more)
      taken m (suc c) small e = absurd (omega (arith, e, more, small))

  pub increased : (flash : List ℕ) (x y v n : ℕ) (old g : Regs) → HoldBytes g → y % 2 ≡ 0 → Has r d x y v n old g
      → Has r d x (suc y) v n old (does_all flash (Inc d ∷ []) g)
  increased flash x y v n old g b even f =
      let low = lie.dividend_below in
      let h = does_all flash (Inc d ∷ []) g in
      let z = (g.of d + 1) % 256 in
      let first : h.of d ≡ z = put_same g d z in
      let behind : number h (suc d) 3 ≡ number g (suc d) 3 = number_behind g d z 3 in
      in_dividend x y (suc y) v n old g h f (λ k out. put_other g d z k (other k out))
      (digits (h.of d) (number h (suc d) 3) (g.of d) (number g (suc d) 3) (b d (omega (arith, low))) first behind f.dividend)
    where
      other : (k : ℕ) → IsOut d k → k ≢ d
      other k (inl h) = omega arith
      other k (inr h) = omega arith

      digits : (a t c u : ℕ) → c < 256 → a ≡ (c + 1) % 256 → t ≡ u → c + 256 * u ≡ y → a + 256 * t ≡ suc y
      digits a t c u byte p q e = omega (arith, byte, p, q, e, even)

  pub counted : (flash : List ℕ) (x y v left : ℕ) (old g : Regs) → suc left < 256 → Has r d x y v (suc left) old g
      → Has r d x y v left old (does_all flash (Dec 26 ∷ []) g) × ((does_all flash (Dec 26 ∷ []) g).flags.zero ≡ (left == 0))
  counted flash x y v left old g few f =
      let low = lie.remainder_below in
      let low' = lie.dividend_below in
      let h = does_all flash (Dec 26 ∷ []) g in
      let z = (g.of 26 + 255) % 256 in
      let less : z ≡ left = one_less (g.of 26) f.count in (
        record {
          remainder = number_kept g h r 4 (λ k lo hi. put_other g 26 z k (omega (arith, low, hi))) ∙ f.remainder;
          dividend = number_kept g h d 4 (λ k lo hi. put_other g 26 z k (omega (arith, low', hi))) ∙ f.dividend;
          divisor = number_kept g h 18 4 (λ k lo hi. put_other g 26 z k (omega (arith, hi))) ∙ f.divisor;
          count = put_same g 26 z ∙ less;
          others = λ k ne out out'. put_other g 26 z k ne ∙ f.others k ne out out';
        },
        ap (λ q. q == 0) less,
      )
    where
      one_less : (q : ℕ) → q ≡ suc left → (q + 255) % 256 ≡ left
      one_less q e = omega (arith, e, few)

-- ---- what linear code says

pub even_again : (y : ℕ) → shifted_dividend y % 2 ≡ 0
even_again y = omega arith

pub less_remainder : (x y v : ℕ) → nat_lt (shifted_remainder x y) v ≡ true → shifted_remainder x y ≡ next_remainder x y v
less_remainder x y v t = by_test (shifted_remainder x y) t (nat_le v (shifted_remainder x y)) refl
  where
    by_test : (s : ℕ) → nat_lt s v ≡ true → (b : Bool) → nat_le v s ≡ b → s ≡ (if b then s - v else s)
    by_test s t false u = refl
    by_test s t true u = absurd (let less : s < v = grind (arith, t) in let more : v ≤ s = grind (arith, u) in omega (arith, less, more))

pub less_dividend : (x y v : ℕ) → nat_lt (shifted_remainder x y) v ≡ true → shifted_dividend y ≡ next_dividend x y v
less_dividend x y v t = by_test (shifted_remainder x y) t (nat_le v (shifted_remainder x y)) refl
  where
    by_test : (s : ℕ) → nat_lt s v ≡ true → (b : Bool) → nat_le v s ≡ b → shifted_dividend y ≡ (if b then suc (shifted_dividend y) else shifted_dividend y)
    by_test s t false u = refl
    by_test s t true u = absurd (let less : s < v = grind (arith, t) in let more : v ≤ s = grind (arith, u) in omega (arith, less, more))

pub no_less : (s v : ℕ) → nat_lt s v ≡ false → v ≤ s
no_less s v t = grind (arith, t)

pub more_remainder : (x y v : ℕ) → nat_lt (shifted_remainder x y) v ≡ false → shifted_remainder x y - v ≡ next_remainder x y v
more_remainder x y v t = by_test (shifted_remainder x y) t (nat_le v (shifted_remainder x y)) refl
  where
    by_test : (s : ℕ) → nat_lt s v ≡ false → (b : Bool) → nat_le v s ≡ b → s - v ≡ (if b then s - v else s)
    by_test s t true u = refl
    by_test s t false u = absurd (let more : v ≤ s = grind (arith, t) in let less : s < v = grind (arith, u) in omega (arith, less, more))

pub more_dividend : (x y v : ℕ) → nat_lt (shifted_remainder x y) v ≡ false → suc (shifted_dividend y) ≡ next_dividend x y v
more_dividend x y v t = by_test (shifted_remainder x y) t (nat_le v (shifted_remainder x y)) refl
  where
    by_test : (s : ℕ) → nat_lt s v ≡ false → (b : Bool) → nat_le v s ≡ b
        → suc (shifted_dividend y) ≡ (if b then suc (shifted_dividend y) else shifted_dividend y)
    by_test s t true u = refl
    by_test s t false u = absurd (let more : v ≤ s = grind (arith, t) in let less : s < v = grind (arith, u) in omega (arith, less, more))
