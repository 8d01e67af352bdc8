-- Numbers in registers that are doubled and halved, once and several times.
use Rattle.std.proofs.Common.{◌≡◌, ◌≢◌, ℕ, zero, suc, ◌+◌, ◌*◌, ◌/◌, ◌%◌, ◌^◌, ◌<◌, ◌≤◌, ◌⊎◌, inl, inr, Bool, true, false, ◌==◌, nat_lt, List, [], ◌∷◌}
use Rattle.std.proofs.Common.{refl, sym, ap, ◌∙◌, subst, arith}
use Rattle.std.proofs.Math.Nat.{pow-succ', mod-eq_of_lt, div-div-eq-div-mul}
use Rattle.std.proofs.lemmas.Nat.{mul-mod_first}
use Rattle.avr_instr.specs.declared.instr.Instr.{Instr}
use Rattle.avr_instr.specs.declared.instr.Instr.TheVariants.{Ror}
use Rattle.avr_isa.specs.Flags.{sum_of, number as number_of}
use Rattle.avr_view.specs.Registers.{Regs, put, carried, sums, does, does_all, ArePlain}
use Rattle.avr_view.specs.Run.{Run}
use Rattle.avr_view.specs.View.{View}
use Rattle.vg_templates.specs.Spots.{number}
use Rattle.vg_templates.proofs.Numbers.{put_other, put_same}
use Rattle.vg_templates.specs.Pieces.{Takes}
use Rattle.vg_templates.proofs.Composing.{takes_none, takes_then, takes_wider, takes_bytes}
use Rattle.vg_templates.proofs.Moving.{does_all-append, are_plain-append}
use Rattle.vg_templates.specs.Numbers.{HoldBytes}
use Rattle.vg_templates.proofs.Registers.{carried_below, put_bytes, number_behind, others_on, first_on, more_power}
use Rattle.vg_templates.proofs.Sums.{sum_below}
use Rattle.vg_templates.proofs.Bytes.{takes_plain_bytes, number_small}
use Rattle.vg_templates.specs.Shifts.{doubles_on, doubles, halves, repeats}
use Rattle.vg_followed.proofs.Bits.{low_part}

-- ---- twice a number

pub record Doubled (d n carry : ℕ) (old new : Regs) : Type 0 where
  pub doubled : number new d n + 256 ^ n * carried new ≡ 2 * number old d n + carry
  pub others : (r : ℕ) → (r < d) ⊎ (d + n ≤ r) → new.of r ≡ old.of r

double_step : (a c : ℕ) → a < 256 → c < 2 → sum_of a a c + 256 * number_of (nat_lt 255 (a + a + c)) ≡ 2 * a + c
double_step a c p q = test (nat_lt 255 (a + a + c)) refl
  where
    test : (k : Bool) → nat_lt 255 (a + a + c) ≡ k → sum_of a a c + 256 * number_of k ≡ 2 * a + c
    test true e = let more : 255 < a + a + c = grind arith in omega arith
    test false e = let less : a + a + c ≤ 255 = grind arith in omega arith

double_digits : (x z a c a1 p q k : ℕ) → x + 256 * k ≡ 2 * a + c → z + p ≡ 2 * a1 + k → q ≡ 256 * p → x + 256 * z + q ≡ 2 * (a + 256 * a1) + c
double_digits x z a c a1 p q k e f h = omega arith

double_follows : (d n c : ℕ) (g h : Regs) → g.of d < 256 → c < 2
    → (let g1 = sums g d (g.of d) c in Doubled (suc d) n (carried g1) g1 h → Doubled d (suc n) c g h)
double_follows d n c g h a_byte c_bit rest =
    let a = g.of d in
    let x = sum_of a a c in
    let k = number_of (nat_lt 255 (a + a + c)) in
    let more = rest.doubled ∙ ap (λ z. 2 * z + k) (number_behind g d x n) in
    record {
      doubled =
          ap (λ z. z + 256 * number h (suc d) n + 256 ^ suc n * carried h) (first_on d n x g h rest.others)
          ∙ double_digits x (number h (suc d) n) a c (number g (suc d) n) (256 ^ n * carried h) (256 ^ suc n * carried h) k (double_step a c a_byte c_bit) more
          (more_power n (carried h));
      others = others_on d n x g h rest.others;
    }

module _ (flash : List ℕ) where
  pub doubles_on-double : (d n : ℕ) (g : Regs) → d + n ≤ 32 → HoldBytes g → Doubled d n (carried g) g (does_all flash (doubles_on d n) g)
  doubles_on-double d zero g hi b = record { doubled = omega arith; others = λ r h. refl }
  doubles_on-double d (suc n) g hi b =
      let g1 = sums g d (g.of d) (carried g) in
      double_follows d n (carried g) g (does_all flash (doubles_on (suc d) n) g1) (b d (omega arith)) (carried_below g)
      (doubles_on-double (suc d) n g1 (omega arith) (put_bytes g d (sum_of (g.of d) (g.of d) (carried g)) (sum_below _ _ _) b))

  pub doubles-double : (d n : ℕ) (g : Regs) → d + suc n ≤ 32 → HoldBytes g → Doubled d (suc n) 0 g (does_all flash (doubles d (suc n)) g)
  doubles-double d n g hi b =
      let g1 = sums g d (g.of d) 0 in
      double_follows d n 0 g (does_all flash (doubles_on (suc d) n) g1) (b d (omega arith)) (omega arith)
      (doubles_on-double (suc d) n g1 (omega arith) (put_bytes g d (sum_of (g.of d) (g.of d) 0) (sum_below _ _ _) b))

-- ---- half a number

record Halved (d n : ℕ) (old new : Regs) : Type 0 where
  pub halved : 2 * number new d n + carried new ≡ number old d n
  pub others : (r : ℕ) → (r < d) ⊎ (d + n ≤ r) → new.of r ≡ old.of r

pub bit_number : (a : ℕ) → number_of (a % 2 == 1) ≡ a % 2
bit_number a = test (a % 2 == 1) refl
  where
    test : (k : Bool) → (a % 2 == 1) ≡ k → number_of k ≡ a % 2
    test true e = let one : a % 2 ≡ 1 = grind arith in omega (arith, one)
    test false e = let other : a % 2 ≢ 1 = grind arith in omega (arith, other)

half_digits : (x z a c a1 k b : ℕ) → x ≡ a / 2 + c * 128 → 2 * z + c ≡ a1 → k ≡ a % 2 → b ≡ a → 2 * (x + 256 * z) + k ≡ b + 256 * a1
half_digits x z a c a1 k b e f h g = omega arith

halve_last : (flash : List ℕ) (d n : ℕ) (g h : Regs) → Halved (suc d) (suc n) g h → Halved d (suc (suc n)) g (does flash (Ror d) h)
halve_last flash d n g h rest =
    let a = h.of d in
    let x = a / 2 + carried h * 128 in
    let new = does flash (Ror d) h in
    let here : new.of d ≡ x = put_same h d x in
    let above : number new (suc d) (suc n) ≡ number h (suc d) (suc n) = number_behind h d x (suc n) in
    record {
      halved =
          ap (λ z. 2 * (new.of d + 256 * z) + carried new) above
          ∙ half_digits (new.of d) (number h (suc d) (suc n)) a (carried h) (number g (suc d) (suc n)) (carried new) (g.of d) here rest.halved (bit_number a)
          (sym (rest.others d (inl (omega arith))));
      others = λ r k. beside r k;
    }
  where
    beside : (r : ℕ) → (r < d) ⊎ (d + suc (suc n) ≤ r) → (does flash (Ror d) h).of r ≡ g.of r
    beside r (inl k) = put_other h d _ r (let ne : r ≢ d = omega arith in ne) ∙ rest.others r (inl (omega arith))
    beside r (inr k) = put_other h d _ r (let ne : r ≢ d = omega arith in ne) ∙ rest.others r (inr (omega arith))

halves-halve : (flash : List ℕ) (d n : ℕ) (g : Regs) → Halved d (suc n) g (does_all flash (halves d (suc n)) g)
halves-halve flash d zero g =
    let here = put_same g d (g.of d / 2) in
    let bit = bit_number (g.of d) in
    record {
      halved = omega (arith, here, bit);
      others = λ r k. beside r k;
    }
  where
    beside : (r : ℕ) → (r < d) ⊎ (d + 1 ≤ r) → (put g d (g.of d / 2)).of r ≡ g.of r
    beside r (inl k) = put_other g d _ r (let ne : r ≢ d = omega arith in ne)
    beside r (inr k) = put_other g d _ r (let ne : r ≢ d = omega arith in ne)
halves-halve flash d (suc n) g =
    let is = halves (suc d) (suc n) in
    subst (Halved d (suc (suc n)) g) (sym (does_all-append flash is (Ror d ∷ []) g))
    (halve_last flash d n g (does_all flash is g) (halves-halve flash (suc d) n g))

-- ---- plain code

doubles_on-plain : (d n : ℕ) → ArePlain (doubles_on d n)
doubles_on-plain d zero = tt
doubles_on-plain d (suc n) = (tt, doubles_on-plain (suc d) n)

doubles-plain : (d n : ℕ) → ArePlain (doubles d n)
doubles-plain d zero = tt
doubles-plain d (suc n) = (tt, doubles_on-plain (suc d) n)

halves-plain : (d n : ℕ) → ArePlain (halves d n)
halves-plain d zero = tt
halves-plain d (suc zero) = (tt, tt)
halves-plain d (suc (suc n)) = are_plain-append (halves (suc d) (suc n)) (Ror d ∷ []) (halves-plain (suc d) (suc n)) (tt, tt)

-- ---- what the code sees

-- so many registers from d on hold a number, and nothing else has changed but flags
pub record Changed (d n value : ℕ) (old new : View) : Type 0 where
  pub holds : number new.regs d n ≡ value
  pub others : (r : ℕ) → (r < d) ⊎ (d + n ≤ r) → new.regs.of r ≡ old.regs.of r
  pub same : new ≡ record old { regs = new.regs }

module _ (e : Run) (deep : Type 0) where
  takes_change : (is : List Instr) (d n value : ℕ) (v : View) → ArePlain is
      → (HoldBytes v.regs → HoldBytes (does_all e.flash is v.regs) → Changed d n value v (record v { regs = does_all e.flash is v.regs }))
      → Takes e deep v is (Changed d n value v)
  takes_change is d n value v plain made =
      let u : View = record v { regs = does_all e.flash is v.regs } in
      let goal = Changed d n value v in
      takes_bytes e deep v is goal
      (λ bytes. takes_wider e deep v is (λ t. (t ≡ u) × ((r : ℕ) → r < 32 → t.regs.of r < 256)) goal
      (λ t k. subst goal (sym k.0) (made bytes (subst (λ (y : View). HoldBytes y.regs) k.0 k.1))) (takes_plain_bytes e deep v is plain))

  pub takes_doubles : (d n : ℕ) (v : View) → d + n ≤ 32 → Takes e deep v (doubles d n) (Changed d n (2 * number v.regs d n % 256 ^ n) v)
  takes_doubles d zero v hi =
      takes_none e deep v (Changed d 0 (2 * number v.regs d 0 % 256 ^ 0) v) (record { holds = omega arith; others = λ r h. refl; same = refl })
  takes_doubles d (suc n) v hi =
      takes_change (doubles d (suc n)) d (suc n) (2 * number v.regs d (suc n) % 256 ^ suc n) v (doubles-plain d (suc n))
      (λ b after.
      let h = does_all e.flash (doubles d (suc n)) v.regs in
      let k = doubles-double e.flash d n v.regs hi b in
      let sum = k.doubled in
      record {
        holds =
            low_part (number h d (suc n)) (256 ^ suc n) (carried h) (2 * number v.regs d (suc n)) (number_small h d (suc n) (λ r lo up. after r (omega arith)))
            (omega (arith, sum));
        others = k.others;
        same = refl;
      })

  pub takes_halves : (d n : ℕ) (v : View) → Takes e deep v (halves d n) (Changed d n (number v.regs d n / 2) v)
  takes_halves d zero v = takes_none e deep v (Changed d 0 (number v.regs d 0 / 2) v) (record { holds = omega arith; others = λ r h. refl; same = refl })
  takes_halves d (suc n) v =
      takes_change (halves d (suc n)) d (suc n) (number v.regs d (suc n) / 2) v (halves-plain d (suc n))
      (λ b after.
      let h = does_all e.flash (halves d (suc n)) v.regs in
      let k = halves-halve e.flash d n v.regs in
      let sum = k.halved in
      let bit = carried_below h in
      record { holds = omega (arith, sum, bit); others = k.others; same = refl })

  -- both, several times
  changed_then : (d n x y : ℕ) (v u t : View) → Changed d n x v u → Changed d n y u t → Changed d n y v t
  changed_then d n x y v u t a b =
      record {
        holds = b.holds;
        others = λ r h. b.others r h ∙ a.others r h;
        same = b.same ∙ ap (λ (q : View). record q { regs = t.regs }) a.same;
      }

  pub takes_doubled : (times d n : ℕ) (v : View) → d + n ≤ 32
      → Takes e deep v (repeats times (doubles d n)) (Changed d n (number v.regs d n * 2 ^ times % 256 ^ n) v)
  takes_doubled zero d n v hi =
      let goal = Changed d n (number v.regs d n * 2 ^ 0 % 256 ^ n) v in
      takes_bytes e deep v [] goal
      (λ b.
      let small = number_small v.regs d n (λ r lo up. b r (omega arith)) in
      let one : number v.regs d n * 2 ^ 0 ≡ number v.regs d n = omega arith in
      takes_none e deep v goal (record { holds = sym (ap (λ z. z % 256 ^ n) one ∙ mod-eq_of_lt small); others = λ r h. refl; same = refl }))
  takes_doubled (suc times) d n v hi =
      let x = number v.regs d n in
      let p = 256 ^ n in
      let q = 2 ^ times in
      let goal = Changed d n (x * 2 ^ suc times % p) v in
      takes_then e deep v (doubles d n) (repeats times (doubles d n)) (Changed d n (2 * x % p) v) goal (takes_doubles d n v hi)
      (λ u a. takes_wider e deep u (repeats times (doubles d n)) (Changed d n (number u.regs d n * q % p) u) goal
      (λ t b.
      let turned : 2 * x * q ≡ x * (2 * q) = grind arith in
      let value : number u.regs d n * q % p ≡ x * 2 ^ suc times % p =
      ap (λ z. z * q % p) a.holds ∙ mul-mod_first (2 * x) q p ∙ ap (λ z. z % p) (turned ∙ ap (λ z. x * z) (sym (pow-succ' 2 times))) in
      subst (λ z. Changed d n z v t) value (changed_then d n _ _ v u t a b))
      (takes_doubled times d n u hi))

  pub takes_halved : (times d n : ℕ) (v : View) → Takes e deep v (repeats times (halves d n)) (Changed d n (number v.regs d n / 2 ^ times) v)
  takes_halved zero d n v =
      takes_none e deep v (Changed d n (number v.regs d n / 2 ^ 0) v) (record { holds = omega arith; others = λ r h. refl; same = refl })
  takes_halved (suc times) d n v =
      let x = number v.regs d n in
      let q = 2 ^ times in
      let goal = Changed d n (x / 2 ^ suc times) v in
      takes_then e deep v (halves d n) (repeats times (halves d n)) (Changed d n (x / 2) v) goal (takes_halves d n v)
      (λ u a. takes_wider e deep u (repeats times (halves d n)) (Changed d n (number u.regs d n / q) u) goal
      (λ t b.
      let value : number u.regs d n / q ≡ x / 2 ^ suc times =
      ap (λ z. z / q) a.holds ∙ div-div-eq-div-mul x 2 q ∙ ap (λ z. x / z) (sym (pow-succ' 2 times)) in
      subst (λ z. Changed d n z v t) value (changed_then d n _ _ v u t a b))
      (takes_halved times d n u))
