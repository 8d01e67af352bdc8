-- What moves between registers make of them.
use Rattle.std.proofs.Common.{◌≡◌, ◌≢◌, ℕ, zero, suc, ◌+◌, ◌*◌, ◌/◌, ◌%◌, ◌<◌, ◌≤◌, ◌⊎◌, inl, inr, Bool, true, false, ◌&&◌, ◌==◌}
use Rattle.std.proofs.Common.{List, [], ◌∷◌, ◌++◌, refl, sym, ap, ◌∙◌, subst, arith, if◌then◌else◌}
use Rattle.avr_instr.specs.declared.instr.Instr.{Instr}
use Rattle.avr_instr.specs.declared.instr.Instr.TheVariants.{Mov, Movw}
use Rattle.avr_view.specs.Registers.{Regs, put, does_all, ArePlain}
use Rattle.vg_templates.specs.Spots.{number, put_number}
use Rattle.vg_templates.proofs.Numbers.{put_other, put_same}
use Rattle.vg_templates.specs.Transfers.{clears, known, is_twice, known_by, known_number, moves_two, moves}

pub does_all-append : (flash : List ℕ) (is js : List Instr) (g : Regs) → does_all flash (is ++ js) g ≡ does_all flash js (does_all flash is g)
does_all-append flash [] js g = refl
does_all-append flash (i ∷ is) js g = does_all-append flash is js _

pub are_plain-append : (is js : List Instr) → ArePlain is → ArePlain js → ArePlain (is ++ js)
are_plain-append [] js p q = q
are_plain-append (i ∷ is) js (one, p) q = (one, are_plain-append is js p q)

-- a byte, and the number in the registers behind it
pub put_digits : (g : Regs) (d n x y : ℕ) → x < 256 → put_number (put g d x) (suc d) n y ≡ put_number g d (suc n) (x + 256 * y)
put_digits g d n x y h =
    let low : x ≡ (x + 256 * y) % 256 = omega arith in
    let high : y ≡ (x + 256 * y) / 256 = omega arith in
    ap (λ k. put_number (put g d k) (suc d) n y) low ∙ ap (λ k. put_number (put g d ((x + 256 * y) % 256)) (suc d) n k) high

-- a number beside a register that gets a value
pub number_past : (g : Regs) (d x r w : ℕ) → (r + w ≤ d) ⊎ (d < r) → number (put g d x) r w ≡ number g r w
number_past g d x r zero h = refl
number_past g d x r (suc w) (inl h) =
    let one = put_other g d x r (omega arith) in let rest = number_past g d x (suc r) w (inl (omega arith)) in omega (arith, one, rest)
number_past g d x r (suc w) (inr h) =
    let one = put_other g d x r (omega arith) in let rest = number_past g d x (suc r) w (inr (omega arith)) in omega (arith, one, rest)

pub clears-plain : (d n : ℕ) → ArePlain (clears d n)
clears-plain d zero = tt
clears-plain d (suc n) = (tt, clears-plain (suc d) n)

pub known-plain : (d n v : ℕ) → ArePlain (known d n v)
known-plain d zero v = tt
known-plain d (suc n) v = (tt, known-plain (suc d) n (v / 256))

by-plain : (b : Bool) (d n v : ℕ) → ArePlain (known_by b d n v)
by-plain true d n v = (tt, (tt, (tt, tt)))
by-plain false d n v = known-plain d n v

pub known_number-plain : (d n v : ℕ) → ArePlain (known_number d n v)
known_number-plain d n v = by-plain (is_twice d n v) d n v

two_plain : (b : Bool) (r d : ℕ) → ArePlain (if b then Movw d r ∷ [] else Mov d r ∷ Mov (suc d) (suc r) ∷ [])
two_plain true r d = (tt, tt)
two_plain false r d = (tt, (tt, tt))

pub moves-plain : (r d w n : ℕ) → ArePlain (moves r d w n)
moves-plain r d zero n = clears-plain d n
moves-plain r d (suc w) zero = tt
moves-plain r d (suc zero) (suc n) = (tt, clears-plain (suc d) n)
moves-plain r d (suc (suc w)) (suc zero) = (tt, tt)
moves-plain r d (suc (suc w)) (suc (suc n)) =
    are_plain-append (moves_two r d) (moves (suc (suc r)) (suc (suc d)) w n) (two_plain ((r % 2 == 0) && (d % 2 == 0)) r d)
    (moves-plain (suc (suc r)) (suc (suc d)) w n)

module _ (flash : List ℕ) where
  pub known-put : (d n v : ℕ) (g : Regs) → does_all flash (known d n v) g ≡ put_number g d n v
  known-put d zero v g = refl
  known-put d (suc n) v g = known-put (suc d) n (v / 256) (put g d (v % 256))

  -- two bytes, and the same behind them
  twice-put : (d v : ℕ) (g : Regs) → v % 65536 ≡ v / 65536 % 65536 → does_all flash (known_by true d 4 v) g ≡ put_number g d 4 v
  twice-put d v g h =
      let x = v % 256 in
      let y = v / 256 % 256 in
      let g1 = put g d x in
      let g2 = put g1 (suc d) y in
      let low : g2.of d ≡ x = put_other g1 (suc d) y d (omega arith) ∙ put_same g d x in
      let next : d + 1 ≡ suc d = omega arith in
      let high : g2.of (d + 1) ≡ y = ap (λ k. g2.of k) next ∙ put_same g1 (suc d) y in
      let third : x ≡ v / 256 / 256 % 256 = omega (arith, h) in
      let fourth : y ≡ v / 256 / 256 / 256 % 256 = omega (arith, h) in
      let last : suc (suc d) + 1 ≡ suc (suc (suc d)) = omega arith in
      ap (λ a. put (put g2 (suc (suc d)) a) (suc (suc d) + 1) (g2.of (d + 1))) (low ∙ third)
      ∙ ap (λ b. put (put g2 (suc (suc d)) (v / 256 / 256 % 256)) (suc (suc d) + 1) b) (high ∙ fourth)
      ∙ ap (λ k. put (put g2 (suc (suc d)) (v / 256 / 256 % 256)) k (v / 256 / 256 / 256 % 256)) last

  by-put : (b : Bool) (d n v : ℕ) (g : Regs) → is_twice d n v ≡ b → does_all flash (known_by b d n v) g ≡ put_number g d n v
  by-put false d n v g e = known-put d n v g
  by-put true d n v g e =
      let four : n ≡ 4 = grind (arith, e) in
      let same : v % 65536 ≡ v / 65536 % 65536 = grind (arith, e) in
      subst (λ k. does_all flash (known_by true d k v) g ≡ put_number g d k v) (sym four) (twice-put d v g same)

  pub known_number-put : (d n v : ℕ) (g : Regs) → does_all flash (known_number d n v) g ≡ put_number g d n v
  known_number-put d n v g = by-put (is_twice d n v) d n v g refl

  pub clears-put : (d n : ℕ) (g : Regs) → g.of 1 ≡ 0 → 2 ≤ d → does_all flash (clears d n) g ≡ put_number g d n 0
  clears-put d zero g h low = refl
  clears-put d (suc n) g h low =
      ap (λ x. does_all flash (clears (suc d) n) (put g d x)) h ∙ clears-put (suc d) n (put g d 0) (put_other g d 0 1 (omega arith) ∙ h) (omega arith)

  two-put : (b : Bool) (r d : ℕ) (g : Regs) → suc r ≢ d
      → does_all flash (if b then Movw d r ∷ [] else Mov d r ∷ Mov (suc d) (suc r) ∷ []) g ≡ put (put g d (g.of r)) (suc d) (g.of (suc r))
  two-put true r d g h =
      let next : d + 1 ≡ suc d = omega arith in
      let from : r + 1 ≡ suc r = omega arith in
      ap (λ k. put (put g d (g.of r)) k (g.of (r + 1))) next ∙ ap (λ k. put (put g d (g.of r)) (suc d) (g.of k)) from
  two-put false r d g h = ap (put (put g d (g.of r)) (suc d)) (put_other g d (g.of r) (suc r) h)

  pub moves-put : (r d w n : ℕ) (g : Regs) → g.of 1 ≡ 0 → 2 ≤ d → (r + w ≤ d) ⊎ (d + n ≤ r) → ((x : ℕ) → r ≤ x → x < r + w → g.of x < 256)
      → does_all flash (moves r d w n) g ≡ put_number g d n (number g r w)
  moves-put r d zero n g h low beside bytes = clears-put d n g h low
  moves-put r d (suc w) zero g h low beside bytes = refl
  moves-put r d (suc zero) (suc n) g h low beside bytes =
      let x = g.of r in
      clears-put (suc d) n (put g d x) (put_other g d x 1 (omega arith) ∙ h) (omega arith) ∙ put_digits g d n x 0 (bytes r (omega arith) (omega arith))
  moves-put r d (suc (suc w)) (suc zero) g h low beside bytes =
      put_digits g d 0 (g.of r) (number g (suc r) (suc w)) (bytes r (omega arith) (omega arith))
  moves-put r d (suc (suc w)) (suc (suc n)) g h low beside bytes =
      let x = g.of r in
      let y = g.of (suc r) in
      let g1 = put g d x in
      let g2 = put g1 (suc d) y in
      let far = apart beside in
      let rest = moves (suc (suc r)) (suc (suc d)) w n in
      let still : number g2 (suc (suc r)) w ≡ number g (suc (suc r)) w =
      number_past g1 (suc d) y (suc (suc r)) w far.1.1 ∙ number_past g d x (suc (suc r)) w far.1.0 in
      let zero' : g2.of 1 ≡ 0 = put_other g1 (suc d) y 1 (omega arith) ∙ put_other g d x 1 (omega arith) ∙ h in
      does_all-append flash (moves_two r d) rest g
      ∙ ap (does_all flash rest) (two-put ((r % 2 == 0) && (d % 2 == 0)) r d g far.0)
      ∙ moves-put (suc (suc r)) (suc (suc d)) w n g2 zero' (omega arith) far.2.0 far.2.1
      ∙ ap (put_number g2 (suc (suc d)) n) still
      ∙ put_digits g1 (suc d) n y (number g (suc (suc r)) w) (bytes (suc r) (omega arith) (omega arith))
      ∙ put_digits g d (suc n) x (number g (suc r) (suc w)) (bytes r (omega arith) (omega arith))
    where
      bytes_on : (d < r) ⊎ (r + suc (suc w) ≤ d) → (x : ℕ) → suc (suc r) ≤ x → x < suc (suc r) + w
          → (put (put g d (g.of r)) (suc d) (g.of (suc r))).of x < 256
      bytes_on k x lo hi =
          let byte = bytes x (omega arith) (omega arith) in
          let one : x ≢ suc d = other k x lo hi in
          let two : x ≢ d = other' k x lo hi in
          let same = put_other (put g d (g.of r)) (suc d) (g.of (suc r)) x one ∙ put_other g d (g.of r) x two in
          omega (arith, byte, same)
        where
          other : (d < r) ⊎ (r + suc (suc w) ≤ d) → (x : ℕ) → suc (suc r) ≤ x → x < suc (suc r) + w → x ≢ suc d
          other (inl p) x lo hi = omega arith
          other (inr p) x lo hi = omega arith

          other' : (d < r) ⊎ (r + suc (suc w) ≤ d) → (x : ℕ) → suc (suc r) ≤ x → x < suc (suc r) + w → x ≢ d
          other' (inl p) x lo hi = omega arith
          other' (inr p) x lo hi = omega arith

      apart : (r + suc (suc w) ≤ d) ⊎ (d + suc (suc n) ≤ r)
          → (suc r ≢ d) × (((suc (suc r) + w ≤ d) ⊎ (d < suc (suc r))) × ((suc (suc r) + w ≤ suc d) ⊎ (suc d < suc (suc r))))
          × (((suc (suc r) + w ≤ suc (suc d)) ⊎ (suc (suc d) + n ≤ suc (suc r)))
          × ((x : ℕ) → suc (suc r) ≤ x → x < suc (suc r) + w → (put (put g d (g.of r)) (suc d) (g.of (suc r))).of x < 256))
      apart (inl p) = (omega arith, (inl (omega arith), inl (omega arith)), (inl (omega arith), bytes_on (inr p)))
      apart (inr p) = (omega arith, (inr (omega arith), inr (omega arith)), (inr (omega arith), bytes_on (inl (omega arith))))
