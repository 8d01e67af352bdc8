-- Logic of numbers of several bytes, byte by byte.
use Rattle.std.proofs.Common.{◌≡◌, ℕ, suc, ◌+◌, ◌*◌, ◌<◌, ◌≤◌, ◌⊎◌, Bool, ◌==◌}
use Rattle.std.proofs.Common.{List, [], ◌∷◌, length, refl, sym, ap, ◌∙◌, arith}
use Rattle.std.specs.Prelude.{bit_and, bit_or, bit_xor}
use Rattle.std.proofs.lemmas.Nat.{and_le_l, or_lt, xor_lt, and_block, or_block, xor_block}
use Rattle.avr_view.specs.Registers.{Regs, put, does_all, combines}
use Rattle.vg_templates.specs.Spots.{number}
use Rattle.vg_templates.specs.Numbers.{number_in, HoldBytes, AreBeside}
use Rattle.vg_templates.specs.Chains.{ands, ors, eors}
use Rattle.vg_templates.specs.Chained.{Computed}
use Rattle.vg_templates.proofs.Registers.{put_bytes, number_behind, number_in_beside, others_on, first_on}

-- an operation on numbers that works on each byte alone
pub record IsBytewise (f : ℕ → ℕ → ℕ) : Type 0 where
  pub nothing : f 0 0 ≡ 0
  pub byte : (a b : ℕ) → a < 256 → b < 256 → f a b < 256
  pub block : (a b r s : ℕ) → r < 256 → s < 256 → f (a * 256 + r) (b * 256 + s) ≡ f a b * 256 + f r s

and_bytewise : IsBytewise bit_and
and_bytewise =
    record { nothing = refl; byte = λ a b p q. let less = and_le_l a b in omega (arith, less, p); block = λ a b r s p q. and_block 8 a b r s p q }

or_bytewise : IsBytewise bit_or
or_bytewise = record { nothing = refl; byte = λ a b p q. or_lt 8 a b p q; block = λ a b r s p q. or_block 8 a b r s p q }

xor_bytewise : IsBytewise bit_xor
xor_bytewise = record { nothing = refl; byte = λ a b p q. xor_lt 8 a b p q; block = λ a b r s p q. xor_block 8 a b r s p q }

module _ (f : ℕ → ℕ → ℕ) (w : IsBytewise f) where
  digits : (a y a1 y1 : ℕ) → a < 256 → y < 256 → f a y + 256 * f a1 y1 ≡ f (a + 256 * a1) (y + 256 * y1)
  digits a y a1 y1 p q =
      let one : a1 * 256 + a ≡ a + 256 * a1 = omega arith in
      let two : y1 * 256 + y ≡ y + 256 * y1 = omega arith in
      let all = w.block a1 y1 a y p q in
      let both : f a y + 256 * f a1 y1 ≡ f a1 y1 * 256 + f a y = omega arith in
      both ∙ sym all ∙ ap (λ z. f z (y1 * 256 + y)) one ∙ ap (f (a + 256 * a1)) two

  follows : (d y n y1 : ℕ) (g g1 h : Regs) → g.of d < 256 → y < 256 → ((r : ℕ) → g1.of r ≡ (put g d (f (g.of d) y)).of r)
      → number g1 (suc d) n ≡ number g (suc d) n → Computed (suc d) n (f (number g1 (suc d) n) y1) g1 h
      → Computed d (suc n) (f (number g d (suc n)) (y + 256 * y1)) g h
  follows d y n y1 g g1 h a_byte y_byte same own rest =
      let a = g.of d in
      let x = f a y in
      let others = λ (r : ℕ) (b : (r < suc d) ⊎ (suc d + n ≤ r)). rest.others r b ∙ same r in
      record {
        holds =
            ap (λ z. z + 256 * number h (suc d) n) (first_on d n x g h others)
            ∙ ap (λ z. x + 256 * z) (rest.holds ∙ ap (λ z. f z y1) own)
            ∙ digits a y (number g (suc d) n) y1 a_byte y_byte;
        others = others_on d n x g h others;
      }

  -- a byte that changes nothing
  follows_same : (d y n y1 : ℕ) (g h : Regs) → g.of d < 256 → y < 256 → f (g.of d) y ≡ g.of d
      → Computed (suc d) n (f (number g (suc d) n) y1) g h → Computed d (suc n) (f (number g d (suc n)) (y + 256 * y1)) g h
  follows_same d y n y1 g h a_byte y_byte still rest =
      follows d y n y1 g g h a_byte y_byte (λ r. sym (ap (λ x. (put g d x).of r) still ∙ put_own r (r == d) refl)) refl rest
    where
      put_own : (r : ℕ) (b : Bool) → (r == d) ≡ b → (put g d (g.of d)).of r ≡ g.of r
      put_own r b e = grind arith

module _ (flash : List ℕ) (low high : ℕ) (chip : high ≤ 32) where
  pub ands-compute : (d : ℕ) (rs : List ℕ) (g : Regs) → low ≤ d → d + length rs ≤ high → AreBeside low high rs → HoldBytes g
      → Computed d (length rs) (bit_and (number g d (length rs)) (number_in g rs)) g (does_all flash (ands d rs) g)
  ands-compute d [] g lo hi k b = record { holds = refl; others = λ r h. refl }
  ands-compute d (s ∷ ss) g lo hi (k, more) b =
      let x = bit_and (g.of d) (g.of s) in
      let g1 = combines g d x in
      let n = length ss in
      let small = and_bytewise.byte (g.of d) (g.of s) (b d (omega arith)) (b s k.1) in
      let rest = ands-compute (suc d) ss g1 (omega arith) (omega arith) more (put_bytes g d x small b) in
      let other : number_in g1 ss ≡ number_in g ss = number_in_beside g low high d x ss lo (omega arith) more in
      follows bit_and and_bytewise d (g.of s) n (number_in g ss) g g1 (does_all flash (ands (suc d) ss) g1) (b d (omega arith)) (b s k.1) (λ r. refl)
      (number_behind g d x n) (record { holds = rest.holds ∙ ap (bit_and (number g1 (suc d) n)) other; others = rest.others })

  pub ors-compute : (d : ℕ) (rs : List ℕ) (g : Regs) → low ≤ d → d + length rs ≤ high → AreBeside low high rs → HoldBytes g
      → Computed d (length rs) (bit_or (number g d (length rs)) (number_in g rs)) g (does_all flash (ors d rs) g)
  ors-compute d [] g lo hi k b = record { holds = refl; others = λ r h. refl }
  ors-compute d (s ∷ ss) g lo hi (k, more) b =
      let x = bit_or (g.of d) (g.of s) in
      let g1 = combines g d x in
      let n = length ss in
      let small = or_bytewise.byte (g.of d) (g.of s) (b d (omega arith)) (b s k.1) in
      let rest = ors-compute (suc d) ss g1 (omega arith) (omega arith) more (put_bytes g d x small b) in
      let other : number_in g1 ss ≡ number_in g ss = number_in_beside g low high d x ss lo (omega arith) more in
      follows bit_or or_bytewise d (g.of s) n (number_in g ss) g g1 (does_all flash (ors (suc d) ss) g1) (b d (omega arith)) (b s k.1) (λ r. refl)
      (number_behind g d x n) (record { holds = rest.holds ∙ ap (bit_or (number g1 (suc d) n)) other; others = rest.others })

  pub eors-compute : (d : ℕ) (rs : List ℕ) (g : Regs) → low ≤ d → d + length rs ≤ high → AreBeside low high rs → HoldBytes g
      → Computed d (length rs) (bit_xor (number g d (length rs)) (number_in g rs)) g (does_all flash (eors d rs) g)
  eors-compute d [] g lo hi k b = record { holds = refl; others = λ r h. refl }
  eors-compute d (s ∷ ss) g lo hi (k, more) b =
      let x = bit_xor (g.of d) (g.of s) in
      let g1 = combines g d x in
      let n = length ss in
      let small = xor_bytewise.byte (g.of d) (g.of s) (b d (omega arith)) (b s k.1) in
      let rest = eors-compute (suc d) ss g1 (omega arith) (omega arith) more (put_bytes g d x small b) in
      let other : number_in g1 ss ≡ number_in g ss = number_in_beside g low high d x ss lo (omega arith) more in
      follows bit_xor xor_bytewise d (g.of s) n (number_in g ss) g g1 (does_all flash (eors (suc d) ss) g1) (b d (omega arith)) (b s k.1) (λ r. refl)
      (number_behind g d x n) (record { holds = rest.holds ∙ ap (bit_xor (number g1 (suc d) n)) other; others = rest.others })
