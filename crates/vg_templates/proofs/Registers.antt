-- Registers of lists, and a register that gets a value.
use Rattle.std.proofs.Common.{◌≡◌, ◌≢◌, ℕ, zero, suc, ◌+◌, ◌*◌, ◌^◌, ◌<◌, ◌≤◌, ◌⊎◌, inl, inr, List, [], ◌∷◌, refl, ap, ◌∙◌, arith}
use Rattle.std.proofs.Math.Nat.{pow-suc}
use Rattle.avr_view.specs.Registers.{Regs, put, carried}
use Rattle.vg_templates.specs.Spots.{number}
use Rattle.vg_templates.proofs.Numbers.{put_other, put_same}
use Rattle.vg_templates.specs.Numbers.{number_in, HoldBytes, AreBeside}

pub carried_below : (g : Regs) → carried g < 2
carried_below g = grind arith

-- bytes stay bytes
pub put_bytes : (g : Regs) (d x : ℕ) → x < 256 → HoldBytes g → HoldBytes (put g d x)
put_bytes g d x h b r low = let y = b r low in grind arith

-- a number in registers behind one that gets a value
pub number_behind : (g : Regs) (d x n : ℕ) → number (put g d x) (suc d) n ≡ number g (suc d) n
number_behind g d x n = from g d x (suc d) n (omega arith)
  where
    from : (g : Regs) (d x r n : ℕ) → d < r → number (put g d x) r n ≡ number g r n
    from g d x r zero h = refl
    from g d x r (suc n) h =
        let one = put_other g d x r (omega arith) in let rest = from g d x (suc r) n (omega arith) in omega (arith, one, rest)

-- a number in registers beside it
pub number_in_beside : (g : Regs) (low high d x : ℕ) (rs : List ℕ) → low ≤ d → d < high → AreBeside low high rs → number_in (put g d x) rs ≡ number_in g rs
number_in_beside g low high d x [] lo hi k = refl
number_in_beside g low high d x (r ∷ rs) lo hi (k, more) =
    let one = put_other g d x r (apart k.0) in let rest = number_in_beside g low high d x rs lo hi more in omega (arith, one, rest)
  where
    apart : (r < low) ⊎ (high ≤ r) → r ≢ d
    apart (inl h) = omega arith
    apart (inr h) = omega arith

pub beside_apart : (low high d r : ℕ) → low ≤ d → d < high → (r < low) ⊎ (high ≤ r) → r ≢ d
beside_apart low high d r lo hi (inl h) = omega arith
beside_apart low high d r lo hi (inr h) = omega arith

-- what registers beside a chain hold that begins with one that got a value
pub others_on : (d n x : ℕ) (g h : Regs) → ((r : ℕ) → (r < suc d) ⊎ (suc d + n ≤ r) → h.of r ≡ (put g d x).of r)
    → (r : ℕ) → (r < d) ⊎ (d + suc n ≤ r) → h.of r ≡ g.of r
others_on d n x g h k r (inl low) = k r (inl (omega arith)) ∙ put_other g d x r (let ne : r ≢ d = omega arith in ne)
others_on d n x g h k r (inr high) = k r (inr (omega arith)) ∙ put_other g d x r (let ne : r ≢ d = omega arith in ne)

pub first_on : (d n x : ℕ) (g h : Regs) → ((r : ℕ) → (r < suc d) ⊎ (suc d + n ≤ r) → h.of r ≡ (put g d x).of r) → h.of d ≡ x
first_on d n x g h k = k d (inl (omega arith)) ∙ put_same g d x

-- powers of 256
pub more_power : (n c : ℕ) → 256 ^ suc n * c ≡ 256 * (256 ^ n * c)
more_power n c = let e = pow-suc 256 n in ap (λ m. m * c) e ∙ (let f : 256 ^ n * 256 * c ≡ 256 * (256 ^ n * c) = grind arith in f)
