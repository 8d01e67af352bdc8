-- One turn of the template of a division: a step of it, in which r27 stays.
use Rattle.std.proofs.Common.{◌≡◌, ◌≢◌, ℕ, zero, suc, ◌+◌, ◌-◌, ◌*◌, ◌/◌, ◌%◌, ◌^◌, ◌<◌, ◌≤◌, ◌⊎◌, inl, inr, Bool, true, false, nat_lt, nat_le, if◌then◌else◌}
use Rattle.std.proofs.Common.{List, [], ◌∷◌, ◌++◌, Some, refl, sym, ap, ◌∙◌, subst, arith, append_assoc, slice_get}
use Rattle.std.specs.Prelude.{bit_and}
use Rattle.std.specs.Int.Bits.{and_zero_r}
use Rattle.std.proofs.Math.Nat.{mod-eq_of_lt}
use Rattle.std.proofs.lemmas.Nat.{and_mask}
use Rattle.avr_instr.specs.declared.instr.Instr.{Instr}
use Rattle.avr_instr.specs.declared.instr.Instr.TheVariants.{Adc, Add, Cpi, Lsr, Mov, Sbc}
use Rattle.avr_isa.specs.Flags.{number as number_of, sum_of, difference_of, flags_of_difference}
use Rattle.vg_meaning.specs.Outside.{Outside}
use Rattle.vg_lin.specs.declared.instr.Operand.{Operand}
use Rattle.vg_lin.specs.declared.instr.Operand.TheVariants.{Local}
use Rattle.vg_lin.specs.Steps.{Frame}
use Rattle.vg_lin.specs.State.{LocalState, State, value_in, value, with_local, sets}
use Rattle.vg_lin.specs.Values.{shifted_remainder, next_remainder, next_dividend}
use Rattle.avr_view.specs.Registers.{Regs, put, carried, sums, takes_on, shifts, flagged, does_all, ArePlain}
use Rattle.avr_view.specs.Run.{Run}
use Rattle.avr_view.specs.View.{View}
use Rattle.vg_templates.specs.Spots.{number}
use Rattle.vg_templates.specs.Layouts.{IsLayout}
use Rattle.vg_templates.specs.Frames.{Places}
use Rattle.vg_templates.proofs.Numbers.{put_other, put_same}
use Rattle.vg_templates.specs.Pieces.{Takes}
use Rattle.vg_templates.specs.Held.{IsReady, IsSet, brings, gives}
use Rattle.vg_templates.proofs.Composing.{takes_then, takes_wider}
use Rattle.vg_templates.proofs.Moving.{number_past}
use Rattle.vg_templates.specs.Numbers.{number_in, HoldBytes}
use Rattle.vg_templates.specs.Chains.{adds, ands, subtracts}
use Rattle.vg_templates.proofs.Registers.{put_bytes}
use Rattle.vg_templates.proofs.Sums.{difference_below, adds-sums, subtracts-takes}
use Rattle.vg_templates.proofs.Logic.{ands-compute}
use Rattle.vg_templates.proofs.Bytes.{number_small}
use Rattle.vg_templates.proofs.Computing.{number_kept}
use Rattle.vg_templates.specs.Shifts.{doubles_on}
use Rattle.vg_templates.specs.Products.{four_from, four_times, brings_bit, shifts_remainder, takes_divisor, shifts_dividend, divides_once}
use Rattle.vg_followed.proofs.Bits.{low_part}
use Rattle.vg_followed.proofs.Doubling.{bit_number, doubles_on-double}
use Rattle.vg_followed.proofs.Working.{Works, SameBut, works_block, works_brings, works_gives}

abbrev P : ℕ
P = 256 ^ 4

-- ---- what each block makes of the registers

-- the highest bit comes into r26
abbrev tops : List Instr
tops = Add 25 25 ∷ Mov 26 1 ∷ Adc 26 26 ∷ []

carry_bit : (a : ℕ) → a < 256 → number_of (nat_lt 255 (a + a + 0)) ≡ a / 128
carry_bit a h = test (nat_lt 255 (a + a + 0)) refl
  where
    test : (k : Bool) → nat_lt 255 (a + a + 0) ≡ k → number_of k ≡ a / 128
    test true e = let more : 255 < a + a + 0 = grind arith in omega (arith, more, h)
    test false e = let less : a + a + 0 ≤ 255 = grind arith in omega (arith, less)

top_bit : (flash : List ℕ) (g : Regs) → HoldBytes g → g.of 1 ≡ 0 → (does_all flash tops g).of 26 ≡ number g 22 4 / 2 ^ 31
top_bit flash g b one =
    let a = g.of 25 in
    let g1 = sums g 25 a 0 in
    let g2 = put g1 26 (g1.of 1) in
    let c = number_of (nat_lt 255 (a + a + 0)) in
    let empty : g2.of 26 ≡ 0 = put_same g1 26 (g1.of 1) ∙ put_other g 25 (sum_of a a 0) 1 (omega arith) ∙ one in
    let bit = carry_bit a (b 25 (omega arith)) in
    let b0 = b 22 (omega arith) in
    let b1 = b 23 (omega arith) in
    let b2 = b 24 (omega arith) in
    let b3 = b 25 (omega arith) in
    put_same g2 26 (sum_of (g2.of 26) (g2.of 26) c) ∙ ap (λ z. sum_of z z c) empty
    ∙ (let small : sum_of 0 0 c ≡ a / 128 = omega (arith, bit, b3) in small)
    ∙ top (g.of 22) (g.of 23) (g.of 24) a b0 b1 b2 b3
  where
    top : (w x y z : ℕ) → w < 256 → x < 256 → y < 256 → z < 256 → z / 128 ≡ (w + 256 * (x + 256 * (y + 256 * (z + 256 * 0)))) / 2 ^ 31
    top w x y z p q r s = omega arith

tops-others : (flash : List ℕ) (g : Regs) → SameBut 18 10 g (does_all flash tops g)
tops-others flash g r low (inl h) =
    put_other (put (put g 25 _) 26 _) 26 _ r (omega arith) ∙ put_other (put g 25 _) 26 _ r (omega arith) ∙ put_other g 25 _ r (omega arith)
tops-others flash g r low (inr h) =
    put_other (put (put g 25 _) 26 _) 26 _ r (omega arith) ∙ put_other (put g 25 _) 26 _ r (omega arith) ∙ put_other g 25 _ r (omega arith)

-- a number is doubled with a bit behind it
doubled_with : (flash : List ℕ) (g : Regs) (x c : ℕ) → HoldBytes g → HoldBytes (does_all flash (doubles_on 22 4) g) → number g 22 4 ≡ x → carried g ≡ c
    → (number (does_all flash (doubles_on 22 4) g) 22 4 ≡ (2 * x + c) % P)
    × ((r : ℕ) → (r < 22) ⊎ (26 ≤ r) → (does_all flash (doubles_on 22 4) g).of r ≡ g.of r)
doubled_with flash g x c b after at bit =
    let h = does_all flash (doubles_on 22 4) g in
    let d = doubles_on-double flash 22 4 g (omega arith) b in
    let sum = d.doubled in
    let total : number h 22 4 + P * carried h ≡ 2 * x + c = omega (arith, sum, at, bit) in
    (low_part (number h 22 4) P (carried h) (2 * x + c) (number_small h 22 4 (λ r lo hi. after r (omega arith))) total, d.others)

-- the divisor is taken
record Subtracted (s v : ℕ) (g : Regs) : Type 0 where
  pub difference : number g 22 4 + (v + 0) ≡ s + P * carried g
  pub divisor : number g 18 4 ≡ v

subtracted : (flash : List ℕ) (g : Regs) (s v : ℕ) → HoldBytes g → number g 22 4 ≡ s → number g 18 4 ≡ v
    → Subtracted s v (does_all flash (subtracts 22 (four_from 18)) g) × SameBut 18 10 g (does_all flash (subtracts 22 (four_from 18)) g)
subtracted flash g s v b at right =
    let rs = four_from 18 in
    let h = does_all flash (subtracts 22 rs) g in
    let t =
    subtracts-takes flash 22 26 (omega arith) 22 rs g (omega arith) (omega arith)
    ((inl (omega arith), omega arith), ((inl (omega arith), omega arith), ((inl (omega arith), omega arith), ((inl (omega arith), omega arith), tt)))) b
    (omega arith) in (
      record {
        difference = ap (λ z. number h 22 4 + (z + 0)) (sym right) ∙ t.difference ∙ ap (λ z. z + P * carried h) at;
        divisor = number_kept g h 18 4 (λ r lo hi. t.others r (inl (omega arith))) ∙ right;
      },
      λ r low beside. elim beside [ inl k ↦ t.others r (inl (omega arith)) | inr k ↦ t.others r (inr (omega arith)) ],
    )

-- r26 tells whether the divisor was more, and what is added again is the divisor or nothing
record Masked (s v : ℕ) (g : Regs) : Type 0 where
  pub difference : number g 22 4 + v ≡ s + P * number_of (nat_lt s v)
  pub mask : number g 18 4 ≡ v * number_of (nat_lt s v)
  pub flag : g.of 26 ≡ 255 * number_of (nat_lt s v)

abbrev masks : List Instr
masks = Sbc 26 26 ∷ ands 18 (four_times 26)

mask_is : (y v : ℕ) (c : Bool) → v < P → y ≡ 255 * number_of c → bit_and v (y + 256 * (y + 256 * (y + 256 * (y + 256 * 0)))) ≡ v * number_of c
mask_is y v true low e =
    let all : y + 256 * (y + 256 * (y + 256 * (y + 256 * 0))) ≡ 2 ^ 32 - 1 = omega (arith, e) in
    ap (bit_and v) all ∙ and_mask v 32 ∙ mod-eq_of_lt low ∙ (let f : v ≡ v * number_of true = omega arith in f)
mask_is y v false low e =
    let none : y + 256 * (y + 256 * (y + 256 * (y + 256 * 0))) ≡ 0 = omega (arith, e) in
    ap (bit_and v) none ∙ and_zero_r v ∙ (let f : 0 ≡ v * number_of false = omega arith in f)

borrow_is : (n s v : ℕ) (c : Bool) → n < P → s < P → v < P → n + (v + 0) ≡ s + P * number_of c → c ≡ nat_lt s v
borrow_is n s v c p q r e = test c (nat_lt s v) refl e
  where
    test : (c b : Bool) → nat_lt s v ≡ b → n + (v + 0) ≡ s + P * number_of c → c ≡ b
    test true true t f = refl
    test false false t f = refl
    test true false t f = absurd (let more : v ≤ s = grind (arith, t) in omega (arith, f, more))
    test false true t f = absurd (let less : s < v = grind (arith, t) in omega (arith, f, less))

masked : (flash : List ℕ) (g : Regs) (s v : ℕ) → HoldBytes g → s < P → v < P → Subtracted s v g
    → Masked s v (does_all flash masks g) × SameBut 18 10 g (does_all flash masks g)
masked flash g s v b s_low v_low k =
    let a = g.of 26 in
    let c = g.flags.carry in
    let y = difference_of a a (carried g) in
    let g1 = takes_on g 26 a in
    let b1 = put_bytes g 26 y (difference_below a a (carried g)) b in
    let rs = four_times 26 in
    let h = does_all flash (ands 18 rs) g1 in
    let t =
    ands-compute flash 18 22 (omega arith) 18 rs g1 (omega arith) (omega arith)
    ((inr (omega arith), omega arith), ((inr (omega arith), omega arith), ((inr (omega arith), omega arith), ((inr (omega arith), omega arith), tt)))) b1 in
    let which = borrow_is (number g 22 4) s v c (number_small g 22 4 (λ r lo hi. b r (omega arith))) s_low v_low k.difference in
    let all_ones : y ≡ 255 * number_of c = ones a c (b 26 (omega arith)) in
    let here : g1.of 26 ≡ y = put_same g 26 y in
    let low : number g1 18 4 ≡ v = number_past g 26 y 18 4 (inl (omega arith)) ∙ k.divisor in
    let still : number h 22 4 ≡ number g 22 4 = number_kept g h 22 4 (λ r lo hi. t.others r (inr (omega arith)) ∙ put_other g 26 y r (omega arith)) in (
      record {
        difference = ap (λ z. z + v) still ∙ (let e1 : number g 22 4 + v ≡ number g 22 4 + (v + 0) = omega arith in e1) ∙ k.difference ∙ ap (λ z. s + P * number_of z) which;
        mask =
            t.holds
            ∙ ap (λ z. bit_and z (number_in g1 rs)) low
            ∙ ap (λ z. bit_and v (z + 256 * (z + 256 * (z + 256 * (z + 256 * 0))))) here
            ∙ mask_is y v c v_low all_ones
            ∙ ap (λ z. v * number_of z) which;
        flag = t.others 26 (inr (omega arith)) ∙ here ∙ all_ones ∙ ap (λ z. 255 * number_of z) which;
      },
      λ r low' beside. elim beside [
        | inl q ↦ t.others r (inl (omega arith)) ∙ put_other g 26 y r (omega arith)
        | inr q ↦ t.others r (inr (omega arith)) ∙ put_other g 26 y r (omega arith)
      ],
    )
  where
    ones : (a : ℕ) (c : Bool) → a < 256 → difference_of a a (number_of c) ≡ 255 * number_of c
    ones a true h = omega arith
    ones a false h = omega arith

-- the remainder, and whether the divisor was more
record Remains (s v : ℕ) (g : Regs) : Type 0 where
  pub remainder : number g 22 4 ≡ (if nat_lt s v then s else s - v)
  pub flag : g.of 26 ≡ 255 * number_of (nat_lt s v)

restored : (flash : List ℕ) (g : Regs) (s v : ℕ) → HoldBytes g → HoldBytes (does_all flash (adds 22 (four_from 18)) g) → s < P → v < P → Masked s v g
    → Remains s v (does_all flash (adds 22 (four_from 18)) g) × SameBut 18 10 g (does_all flash (adds 22 (four_from 18)) g)
restored flash g s v b after s_low v_low k =
    let rs = four_from 18 in
    let h = does_all flash (adds 22 rs) g in
    let t =
    adds-sums flash 22 26 (omega arith) 22 rs g (omega arith) (omega arith)
    ((inl (omega arith), omega arith), ((inl (omega arith), omega arith), ((inl (omega arith), omega arith), ((inl (omega arith), omega arith), tt)))) b
    (omega arith) in
    let total : number h 22 4 + P * carried h ≡ number g 22 4 + v * number_of (nat_lt s v) + 0 = t.sum ∙ ap (λ z. number g 22 4 + z + 0) k.mask in
    let small = number_small h 22 4 (λ r lo hi. after r (omega arith)) in (
      record {
        remainder = by_test (number h 22 4) (number g 22 4) (carried h) (nat_lt s v) refl small total k.difference;
        flag = t.others 26 (inr (omega arith)) ∙ k.flag;
      },
      λ r low beside. elim beside [ inl q ↦ t.others r (inl (omega arith)) | inr q ↦ t.others r (inr (omega arith)) ],
    )
  where
    by_test : (n m c : ℕ) (b : Bool) → nat_lt s v ≡ b → n < P → n + P * c ≡ m + v * number_of b + 0 → m + v ≡ s + P * number_of b → n ≡ (if b then s else s - v)
    by_test n m c true t p q r = omega (arith, q, r, s_low, p)
    by_test n m c false t p q r = let more : v ≤ s = grind (arith, t) in omega (arith, q, r, p, s_low, more)

-- the dividend
cpi_carry : (a : ℕ) (b : Bool) → a ≡ 255 * number_of b → number_of (nat_lt a (0xFF + 0)) ≡ 1 - number_of b
cpi_carry a true e = let none : nat_lt a (0xFF + 0) ≡ false = grind (arith, e) in ap number_of none
cpi_carry a false e = let some : nat_lt a (0xFF + 0) ≡ true = grind (arith, e) in ap number_of some

-- ---- what linear code says

remainder_is : (r d x : ℕ) → (let s = (2 * (r % P) + d % P / 2 ^ 31) % P in (if nat_lt s x then s else s - x) ≡ next_remainder r d x)
remainder_is r d x =
    let s = (2 * (r % P) + d % P / 2 ^ 31) % P in
    let same : s ≡ shifted_remainder r d = omega arith in
    ap (λ z. if nat_lt z x then z else z - x) same ∙ by_test (shifted_remainder r d) (nat_lt (shifted_remainder r d) x) refl (nat_le x (shifted_remainder r d)) refl
  where
    by_test : (s : ℕ) (b : Bool) → nat_lt s x ≡ b → (c : Bool) → nat_le x s ≡ c → (if b then s else s - x) ≡ (if c then s - x else s)
    by_test s true t false u = refl
    by_test s false t true u = refl
    by_test s true t true u = absurd (let less : s < x = grind (arith, t) in let more : x ≤ s = grind (arith, u) in omega (arith, less, more))
    by_test s false t false u = absurd (let more : x ≤ s = grind (arith, t) in let less : s < x = grind (arith, u) in omega (arith, less, more))

dividend_is : (r d x : ℕ) → (let s = (2 * (r % P) + d % P / 2 ^ 31) % P in (2 * (d % P) + (1 - number_of (nat_lt s x))) % P ≡ next_dividend r d x)
dividend_is r d x =
    let s = (2 * (r % P) + d % P / 2 ^ 31) % P in
    let same : s ≡ shifted_remainder r d = omega arith in
    ap (λ z. (2 * (d % P) + (1 - number_of (nat_lt z x))) % P) same
    ∙ by_test (shifted_remainder r d) (nat_lt (shifted_remainder r d) x) refl (nat_le x (shifted_remainder r d)) refl
  where
    by_test : (s : ℕ) (b : Bool) → nat_lt s x ≡ b → (c : Bool) → nat_le x s ≡ c
        → (2 * (d % P) + (1 - number_of b)) % P ≡ (if c then suc (2 * d % 256 ^ 4) else 2 * d % 256 ^ 4)
    by_test s true t false u = omega arith
    by_test s false t true u = omega arith
    by_test s true t true u = absurd (let less : s < x = grind (arith, t) in let more : x ≤ s = grind (arith, u) in omega (arith, less, more))
    by_test s false t false u = absurd (let more : x ≤ s = grind (arith, t) in let less : s < x = grind (arith, u) in omega (arith, less, more))

-- another local stays
pub other_local : (ls : List LocalState) (to x k : ℕ) → to ≢ k → value_in (slice_get (with_local ls to x) k) ≡ value_in (slice_get ls k)
other_local [] to x k ne = refl
other_local (l ∷ ls) zero x zero ne = absurd (ne refl)
other_local (l ∷ ls) zero x (suc k) ne = refl
other_local (l ∷ ls) (suc to) x zero ne = refl
other_local (l ∷ ls) (suc to) x (suc k) ne = other_local ls to x k (λ e. ne (ap suc e))

module _ (i : Places) (ok : (m : ℕ) → IsLayout (i.layouts m)) (m : ℕ) (frames : List (Frame State)) (e : Run) (deep : Type 0) (c : ℕ) where
  -- r27 counts the turns
  abbrev Counts : (Regs → Type 0) → Regs → Type 0
  Counts F g = F g × (g.of 27 ≡ c)

  abbrev At' : (ℕ → Bool) → State → Outside → (Regs → Type 0) → View → Type 0
  At' live s o F v = Works i m live s frames o (Counts F) v

  block : (live : ℕ → Bool) (s : State) (o : Outside) (F G : Regs → Type 0) (is : List Instr) → ArePlain is
      → ((g : Regs) → (does_all e.flash is g).of 27 ≡ g.of 27)
      → ((g : Regs) → HoldBytes g → HoldBytes (does_all e.flash is g) → g.of 1 ≡ 0 → F g → G (does_all e.flash is g) × SameBut 18 10 g (does_all e.flash is g))
      → (v : View) → At' live s o F v → Takes e deep v is (At' live s o G)
  block live s o F G is plain same made v w =
      works_block i ok m frames e deep live s o (Counts F) (Counts G) is plain
      (λ g b after one f. let k = made g b after one f.0 in ((k.0, same g ∙ f.1), k.1)) v w

  brought : (live : ℕ → Bool) (s : State) (o : Outside) (F : Regs → Type 0) (a : Operand) (d n x : ℕ) → IsReady (i.layouts m) live a → value a s ≡ Some x
      → 18 ≤ d → d + n ≤ 27 → ((g h : Regs) → SameBut d n g h → F g → F h) → (v : View) → At' live s o F v
      → Takes e deep v (brings (i.layouts m) a d n) (At' live s o (λ g. F g × (number g d n ≡ x % 256 ^ n)))
  brought live s o F a d n x ready got low high still v w =
      takes_wider e deep v (brings (i.layouts m) a d n) (Works i m live s frames o (λ g. Counts F g × (number g d n ≡ x % 256 ^ n)))
      (At' live s o (λ g. F g × (number g d n ≡ x % 256 ^ n)))
      (λ u k. record { held = k.held; facts = ((k.facts.0.0, k.facts.1), k.facts.0.1); out = k.out })
      (works_brings i ok m frames e deep live s o (Counts F) a d n x ready got low (omega (arith, high))
      (λ g h same f. (still g h same f.0, same 27 (omega arith) (inr (omega (arith, high))) ∙ f.1)) v w)

  given : (live behind : ℕ → Bool) (s : State) (o : Outside) (F : Regs → Type 0) (to d n x : ℕ) → IsSet (i.layouts m) live behind to → 18 ≤ d → d + n ≤ 27
      → ((g : Regs) → F g → number g d n ≡ x) → ((g h : Regs) → ((r : ℕ) → 18 ≤ r → r < 28 → h.of r ≡ g.of r) → F g → F h) → (v : View) → At' live s o F v
      → Takes e deep v (gives (i.layouts m) to d n) (At' behind (sets to x s) o F)
  given live behind s o F to d n x can low high value_is still v w =
      works_gives i ok m frames e deep live behind s o (Counts F) to d n x can low (omega (arith, high)) (λ g f. value_is g f.0)
      (λ g h same f. (still g h same f.0, same 27 (omega arith) (omega arith) ∙ f.1)) v w

  -- the remainder is made
  takes_remainder : (live : ℕ → Bool) (s : State) (o : Outside) (remainder dividend : ℕ) (a : Operand) (r d x : ℕ) (v : View)
      → IsReady (i.layouts m) live (Local remainder) → IsReady (i.layouts m) live (Local dividend) → IsReady (i.layouts m) live a
      → value (Local remainder) s ≡ Some r → value (Local dividend) s ≡ Some d → value a s ≡ Some x → x < P → At' live s o (λ g. Unit {0}) v
      → Takes e deep v (brings_bit (i.layouts m) dividend ++ (shifts_remainder (i.layouts m) remainder ++ takes_divisor (i.layouts m) a))
      (At' live s o (Remains ((2 * (r % P) + d % P / 2 ^ 31) % P) x))
  takes_remainder live s o remainder dividend a r d x v ready_r ready_d ready_a got_r got_d got_a small w =
      let l = i.layouts m in
      let D = d % P in
      let R = r % P in
      let S = (2 * R + D / 2 ^ 31) % P in
      let F2 = λ (g : Regs). g.of 26 ≡ D / 2 ^ 31 in
      let F4 = λ (g : Regs). number g 22 4 ≡ S in
      let G = At' live s o (Remains S x) in
      let S_low : S < P = omega arith in
      let x_is : x % P ≡ x = mod-eq_of_lt small in
      let rest2 = shifts_remainder l remainder ++ takes_divisor l a in
      let divisor = subtracts 22 (four_from 18) in
      let again = adds 22 (four_from 18) in
      takes_then e deep v (brings_bit l dividend) rest2 (At' live s o F2) G
      (takes_then e deep v (brings l (Local dividend) 22 4) tops (At' live s o (λ g. Unit {0} × (number g 22 4 ≡ D))) (At' live s o F2)
      (brought live s o (λ g. Unit {0}) (Local dividend) 22 4 d ready_d got_d (omega arith) (omega arith) (λ g h same k. k) v w)
      (λ u k. block live s o (λ g. Unit {0} × (number g 22 4 ≡ D)) F2 tops (tt, (tt, (tt, tt))) (λ g. refl)
      (λ g b after one f. (top_bit e.flash g b one ∙ ap (λ z. z / 2 ^ 31) f.1, tops-others e.flash g)) u k))
      (λ u k. takes_then e deep u (shifts_remainder l remainder) (takes_divisor l a) (At' live s o F4) G
      (takes_then e deep u (brings l (Local remainder) 22 4) (Lsr 26 ∷ doubles_on 22 4) (At' live s o (λ g. F2 g × (number g 22 4 ≡ R))) (At' live s o F4)
      (brought live s o F2 (Local remainder) 22 4 r ready_r got_r (omega arith) (omega arith)
      (λ g h same f. same 26 (omega arith) (inr (omega arith)) ∙ f) u k)
      (λ t q. block live s o (λ g. F2 g × (number g 22 4 ≡ R)) F4 (Lsr 26 ∷ doubles_on 22 4) (tt, (tt, (tt, (tt, (tt, tt))))) (λ g. refl)
      (λ g b after one f. shifted g b after f.0 f.1) t q))
      (λ t q. takes_then e deep t (brings l a 18 4) (divisor ++ (masks ++ again)) (At' live s o (λ g. F4 g × (number g 18 4 ≡ x % P))) G
      (brought live s o F4 a 18 4 x ready_a got_a (omega arith) (omega arith)
      (λ g h same f. number_kept g h 22 4 (λ y lo hi. same y (omega arith) (inr (omega arith))) ∙ f) t q)
      (λ y z. takes_then e deep y divisor (masks ++ again) (At' live s o (Subtracted S x)) G
      (block live s o (λ g. F4 g × (number g 18 4 ≡ x % P)) (Subtracted S x) divisor (tt, (tt, (tt, (tt, tt)))) (λ g. refl)
      (λ g b after one f. subtracted e.flash g S x b f.0 (f.1 ∙ x_is)) y z)
      (λ c n. takes_then e deep c masks again (At' live s o (Masked S x)) G
      (block live s o (Subtracted S x) (Masked S x) masks (tt, (tt, (tt, (tt, (tt, tt))))) (λ g. refl)
      (λ g b after one f. masked e.flash g S x b S_low small f) c n)
      (λ p j. block live s o (Masked S x) (Remains S x) again (tt, (tt, (tt, (tt, tt)))) (λ g. refl)
      (λ g b after one f. restored e.flash g S x b after S_low small f) p j)))))
    where
      shifted : (g : Regs) → HoldBytes g → HoldBytes (does_all e.flash (Lsr 26 ∷ doubles_on 22 4) g) → g.of 26 ≡ d % P / 2 ^ 31 → number g 22 4 ≡ r % P
          → (number (does_all e.flash (Lsr 26 ∷ doubles_on 22 4) g) 22 4 ≡ (2 * (r % P) + d % P / 2 ^ 31) % P)
          × SameBut 18 10 g (does_all e.flash (Lsr 26 ∷ doubles_on 22 4) g)
      shifted g b after flag at =
          let g1 = shifts g 26 (g.of 26 / 2) in
          let top = b 26 (omega arith) in
          let bit : carried g1 ≡ d % P / 2 ^ 31 = bit_number (g.of 26) ∙ (let f : g.of 26 % 2 ≡ d % P / 2 ^ 31 = omega (arith, flag) in f) in
          let k =
          doubled_with e.flash g1 (r % P) (d % P / 2 ^ 31) (put_bytes g 26 (g.of 26 / 2) (omega (arith, top)) b) after
          (number_past g 26 (g.of 26 / 2) 22 4 (inl (omega arith)) ∙ at) bit in (
            k.0,
            λ y low beside. elim beside [
              | inl h ↦ k.1 y (inl (omega arith)) ∙ put_other g 26 _ y (omega arith)
              | inr h ↦ k.1 y (inr (omega arith)) ∙ put_other g 26 _ y (omega arith)
            ],
          )

  -- and the dividend
  takes_dividend : (live : ℕ → Bool) (s : State) (o : Outside) (dividend d t x : ℕ) (v : View) → IsReady (i.layouts m) live (Local dividend)
      → value (Local dividend) s ≡ Some d → At' live s o (Remains t x) v
      → Takes e deep v (shifts_dividend (i.layouts m) dividend)
      (At' live s o (λ g. number g 22 4 ≡ (2 * (d % P) + (1 - number_of (nat_lt t x))) % P))
  takes_dividend live s o dividend d t x v ready got w =
      let l = i.layouts m in
      let F = λ (g : Regs). g.of 26 ≡ 255 * number_of (nat_lt t x) in
      let G = λ (g : Regs). number g 22 4 ≡ (2 * (d % P) + (1 - number_of (nat_lt t x))) % P in
      takes_then e deep v (brings l (Local dividend) 22 4) (Cpi 26 0xFF ∷ doubles_on 22 4) (At' live s o (λ g. F g × (number g 22 4 ≡ d % P))) (At' live s o G)
      (brought live s o F (Local dividend) 22 4 d ready got (omega arith) (omega arith)
      (λ g h same f. same 26 (omega arith) (inr (omega arith)) ∙ f) v (record { held = w.held; facts = (w.facts.0.flag, w.facts.1); out = w.out }))
      (λ u k. block live s o (λ g. F g × (number g 22 4 ≡ d % P)) G (Cpi 26 0xFF ∷ doubles_on 22 4)
      (tt, (tt, (tt, (tt, (tt, tt))))) (λ g. refl) (λ g b after one f. shifted g b after f.0 f.1) u k)
    where
      shifted : (g : Regs) → HoldBytes g → HoldBytes (does_all e.flash (Cpi 26 0xFF ∷ doubles_on 22 4) g) → g.of 26 ≡ 255 * number_of (nat_lt t x)
          → number g 22 4 ≡ d % P
          → (number (does_all e.flash (Cpi 26 0xFF ∷ doubles_on 22 4) g) 22 4 ≡ (2 * (d % P) + (1 - number_of (nat_lt t x))) % P)
          × SameBut 18 10 g (does_all e.flash (Cpi 26 0xFF ∷ doubles_on 22 4) g)
      shifted g b after flag at =
          let g1 = flagged g (flags_of_difference (g.of 26) 0xFF 0) in
          let k = doubled_with e.flash g1 (d % P) (1 - number_of (nat_lt t x)) b after at (cpi_carry (g.of 26) (nat_lt t x) flag) in
          (k.0, λ y low beside. elim beside [ inl h ↦ k.1 y (inl (omega arith)) | inr h ↦ k.1 y (inr (omega arith)) ])

  -- the same facts, as far as they speak of scratch registers
  abbrev Flag : (t x : ℕ) → Regs → Type 0
  Flag t x g = (number g 22 4 ≡ (if nat_lt t x then t else t - x)) × (g.of 26 ≡ 255 * number_of (nat_lt t x))

  pub takes_divides_once : (live : ℕ → Bool) (s : State) (o : Outside) (remainder dividend : ℕ) (a : Operand) (r d x : ℕ) (v : View)
      → remainder ≢ dividend → IsReady (i.layouts m) live (Local remainder) → IsReady (i.layouts m) live (Local dividend) → IsReady (i.layouts m) live a
      → IsSet (i.layouts m) live live remainder → IsSet (i.layouts m) live live dividend → value (Local remainder) s ≡ Some r
      → value (Local dividend) s ≡ Some d → value a s ≡ Some x → x < 256 ^ 4 → At' live s o (λ g. Unit {0}) v
      → Takes e deep v (divides_once (i.layouts m) remainder dividend a)
      (At' live (sets dividend (next_dividend r d x) (sets remainder (next_remainder r d x) s)) o (λ g. Unit {0}))
  takes_divides_once live s o remainder dividend a r d x v ne ready_r ready_d ready_a set_r set_d got_r got_d got_a small k =
      let l = i.layouts m in
      let t = (2 * (r % P) + d % P / 2 ^ 31) % P in
      let s1 = sets remainder (next_remainder r d x) s in
      let K = Remains t x in
      let last = shifts_dividend l dividend ++ gives l dividend 22 4 in
      let goal = At' live (sets dividend (next_dividend r d x) s1) o (λ g. Unit {0}) in
      let front = brings_bit l dividend ++ (shifts_remainder l remainder ++ takes_divisor l a) in
      let one : Takes e deep v (front ++ (gives l remainder 22 4 ++ last)) goal =
      takes_then e deep v front (gives l remainder 22 4 ++ last) (At' live s o K) goal
      (takes_remainder live s o remainder dividend a r d x v ready_r ready_d ready_a got_r got_d got_a small k)
      (λ u w. takes_then e deep u (gives l remainder 22 4) last (At' live s1 o (Flag t x)) goal
      (takes_wider e deep u (gives l remainder 22 4) (At' live s1 o (Flag t x)) (At' live s1 o (Flag t x)) (λ c y. y)
      (given live live s o (Flag t x) remainder 22 4 (next_remainder r d x) set_r (omega arith) (omega arith)
      (λ g f. f.0 ∙ remainder_is r d x) (λ g h same f. (number_kept g h 22 4 (λ y lo hi. same y (omega arith) (omega arith)) ∙ f.0, same 26 (omega arith) (omega arith) ∙ f.1)) u
      (record { held = w.held; facts = ((w.facts.0.remainder, w.facts.0.flag), w.facts.1); out = w.out })))
      (λ c y. takes_then e deep c (shifts_dividend l dividend) (gives l dividend 22 4)
      (At' live s1 o (λ g. number g 22 4 ≡ (2 * (d % P) + (1 - number_of (nat_lt t x))) % P)) goal
      (takes_dividend live s1 o dividend d t x c ready_d (other_local s.locals remainder (next_remainder r d x) dividend ne ∙ got_d)
      (record { held = y.held; facts = (record { remainder = y.facts.0.0; flag = y.facts.0.1 }, y.facts.1); out = y.out }))
      (λ n z. takes_wider e deep n (gives l dividend 22 4)
      (At' live (sets dividend (next_dividend r d x) s1) o (λ g. number g 22 4 ≡ (2 * (d % P) + (1 - number_of (nat_lt t x))) % P)) goal
      (λ p j. record { held = j.held; facts = (tt, j.facts.1); out = j.out })
      (given live live s1 o (λ g. number g 22 4 ≡ (2 * (d % P) + (1 - number_of (nat_lt t x))) % P) dividend 22 4
      (next_dividend r d x) set_d (omega arith) (omega arith) (λ g f. f ∙ dividend_is r d x)
      (λ g h same f. number_kept g h 22 4 (λ y' lo hi. same y' (omega arith) (omega arith)) ∙ f) n z)))) in
      subst (λ is. Takes e deep v is goal) (regrouped (brings_bit l dividend) (shifts_remainder l remainder) (takes_divisor l a) (gives l remainder 22 4 ++ last)) one
    where
      regrouped : (p q n z : List Instr) → (p ++ (q ++ n)) ++ z ≡ p ++ (q ++ (n ++ z))
      regrouped p q n z = append_assoc p (q ++ n) z ∙ ap (λ k. p ++ k) (append_assoc q n z)
