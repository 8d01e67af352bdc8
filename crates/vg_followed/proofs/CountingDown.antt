-- Templates of shifts by amounts that are not known: the loop that counts them down, one turn behind another.
use Rattle.std.proofs.Common.{◌≡◌, ◌≢◌, ℕ, zero, suc, ◌+◌, ◌-◌, ◌*◌, ◌/◌, ◌%◌, ◌^◌, ◌<◌, ◌≤◌, ◌⊎◌, inl, inr, Bool, true, false, ◌==◌, nat_lt, if◌then◌else◌}
use Rattle.std.proofs.Common.{List, [], ◌∷◌, ◌++◌, length, length-append, Some, refl, sym, ap, ◌∙◌, subst, arith}
use Rattle.std.specs.Prelude.{bit_or}
use Rattle.std.proofs.Math.Nat.{pow-succ', pow-le-pow_right, mod-eq_of_lt, mod-lt, div-div-eq-div-mul, div-eq_of_lt}
use Rattle.std.proofs.lemmas.Nat.{mul-mod_first, le_or_l, le_or_r}
use Rattle.avr_instr.specs.declared.instr.Instr.{Instr}
use Rattle.avr_instr.specs.declared.instr.Instr.TheVariants.{Brbs, Ldi, Or, Rjmp, Ror, Subi}
use Rattle.avr_isa.specs.Flow.{near_from, far_from}
use Rattle.avr_isa.specs.Machine.{State as MachineState}
use Rattle.avr_isa.specs.Standing.{widths, AllStandAt}
use Rattle.avr_isa.proofs.Standing.{front_stands, back_stands, widths-append}
use Rattle.vg_meaning.specs.Outside.{Outside}
use Rattle.vg_lin.specs.declared.instr.Operand.{Operand}
use Rattle.vg_lin.specs.declared.instr.Operand.TheVariants.{Local}
use Rattle.vg_lin.specs.declared.instr.Operator.{Operator}
use Rattle.vg_lin.specs.declared.instr.Operator.TheVariants.{ShiftLeft, ShiftRight}
use Rattle.vg_lin.specs.Steps.{Frame}
use Rattle.vg_lin.specs.State.{State, value, sets}
use Rattle.vg_lin.specs.Values.{low, computed}
use Rattle.avr_view.specs.Registers.{Regs, does_all}
use Rattle.avr_view.specs.Run.{Run, Goes}
use Rattle.avr_view.specs.View.{View, At}
use Rattle.avr_view.proofs.Going.{goes_then, goes_fewer, goes_wider}
use Rattle.avr_view.proofs.JumpSteps.{goes_brcs, goes_breq, goes_rjmp}
use Rattle.vg_templates.specs.Spots.{number}
use Rattle.vg_templates.specs.Numbers.{HoldBytes}
use Rattle.vg_templates.specs.Layouts.{IsLayout, IsOwned, width_of}
use Rattle.vg_templates.specs.Frames.{Places}
use Rattle.vg_templates.specs.Pieces.{Sees, Takes}
use Rattle.vg_templates.specs.Held.{Held, IsReady, IsSet, brings, gives}
use Rattle.vg_templates.specs.Operands.{least}
use Rattle.vg_templates.specs.Outcomes.{Lies}
use Rattle.vg_templates.specs.Shifts.{doubles_on, doubles, halves}
use Rattle.vg_templates.specs.Amounts.{tests_amount, bounds_amount, counts_down, shifts_left_by, shifts_right_by}
use Rattle.vg_templates.proofs.Composing.{takes_then, takes_wider}
use Rattle.vg_templates.proofs.Bytes.{least_is, number_small}
use Rattle.vg_templates.proofs.Computing.{number_kept}
use Rattle.vg_templates.proofs.Numbers.{put_other}
use Rattle.vg_templates.proofs.Remainders.{positive}
use Rattle.vg_templates.proofs.Storing.{sets-same}
use Rattle.vg_templates.proofs.Holding.{held_scratch}
use Rattle.vg_followed.proofs.Bits.{bits, all_out, left_cut}
use Rattle.vg_followed.proofs.Doubling.{Changed, takes_doubles, takes_halves}
use Rattle.vg_followed.proofs.Made.{some_same}
use Rattle.vg_followed.proofs.Turning.{takes_four_bytes}
use Rattle.vg_followed.proofs.Working.{Works, SameBut, works_block, works_brings, works_gives}

-- ---- numbers

-- a step, so many times
abbrev times : (step : ℕ → ℕ) → (n x : ℕ) → ℕ
times step zero x = x
times step (suc n) x = times step n (step x)

abbrev twice : (p x : ℕ) → ℕ
twice p x = 2 * x % p

abbrev half : ℕ → ℕ
half x = x / 2

doubled_times : (p n x : ℕ) → 0 < p → x < p → times (twice p) n x ≡ x * 2 ^ n % p
doubled_times p zero x some small =
    let one : x * 2 ^ 0 ≡ x = omega arith in sym (ap (λ z. z % p) one ∙ mod-eq_of_lt small)
doubled_times p (suc n) x some small =
    let q = 2 ^ n in
    let turned : 2 * x * q ≡ x * (2 * q) = grind arith in
    doubled_times p n (2 * x % p) some (mod-lt (2 * x) some)
    ∙ mul-mod_first (2 * x) q p
    ∙ ap (λ z. z % p) (turned ∙ ap (λ z. x * z) (sym (pow-succ' 2 n)))

halved_times : (n x : ℕ) → times half n x ≡ x / 2 ^ n
halved_times zero x = omega arith
halved_times (suc n) x = halved_times n (x / 2) ∙ div-div-eq-div-mul x 2 (2 ^ n) ∙ ap (λ z. x / z) (sym (pow-succ' 2 n))

-- an amount as a byte, where as many bits leave nothing as 255
abbrev in_byte : ℕ → ℕ
in_byte y = if nat_lt y 256 then y else 255

in_byte_low : (y : ℕ) → in_byte y < 256
in_byte_low y = by_test (nat_lt y 256) refl
  where
    by_test : (b : Bool) → nat_lt y 256 ≡ b → (if b then y else 255) < 256
    by_test true e = grind (arith, e)
    by_test false e = omega arith

is_byte : (y : ℕ) → nat_lt y 256 ≡ true → y < 256
is_byte y e = grind (arith, e)

least_few : (w t : ℕ) → w ≤ 4 → least w t ≤ 4
least_few w t narrow = elim (least_is w t) [ inl h ↦ omega (arith, h.0, narrow) | inr h ↦ omega (arith, h.0, h.1, narrow) ]

-- what an amount leaves of a value, so does its byte
left_counted : (w x y z t : ℕ) → w ≤ 4 → computed ShiftLeft w x y ≡ Some z
    → x % 256 ^ least w t * 2 ^ in_byte y % 256 ^ least w t % 256 ^ t ≡ z % 256 ^ t
left_counted w x y z t narrow is =
    let m = least w t in
    ap (λ j. j % 256 ^ t) (mul-mod_first x (2 ^ in_byte y) (256 ^ m) ∙ by_test (nat_lt y 256) refl) ∙ left_cut w x y z t is
  where
    few : least w t ≤ 4
    few = least_few w t narrow

    by_test : (b : Bool) → nat_lt y 256 ≡ b → x * 2 ^ (if b then y else 255) % 256 ^ least w t ≡ x * 2 ^ y % 256 ^ least w t
    by_test true e = refl
    by_test false e =
        let long : 256 ≤ y = grind (arith, e) in
        all_out x 255 (least w t) (omega (arith, few)) ∙ sym (all_out x y (least w t) (omega (arith, few, long)))

right_counted : (w x y z : ℕ) → w ≤ 4 → computed ShiftRight w x y ≡ Some z → x % 256 ^ w / 2 ^ in_byte y ≡ z
right_counted w x y z narrow is = by_test (nat_lt y (8 * w)) refl is
  where
    short : y < 8 * w → in_byte y ≡ y
    short h = by_byte (nat_lt y 256) refl
      where
        by_byte : (b : Bool) → nat_lt y 256 ≡ b → (if b then y else 255) ≡ y
        by_byte true e = refl
        by_byte false e = absurd (let long : 256 ≤ y = grind (arith, e) in omega (arith, long, h, narrow))

    long : 8 * w ≤ y → 8 * w ≤ in_byte y
    long h = by_byte (nat_lt y 256)
      where
        by_byte : (b : Bool) → 8 * w ≤ (if b then y else 255)
        by_byte true = h
        by_byte false = omega (arith, narrow)

    none : 8 * w ≤ y → x % 256 ^ w / 2 ^ in_byte y ≡ 0
    none h =
        let k = in_byte y in
        let more : 2 ^ (8 * w) ≤ 2 ^ k = pow-le-pow_right {n = 2} (omega arith) (long h) in
        let small = mod-lt x (positive w) in
        let same = bits w in
        div-eq_of_lt (let less : x % 256 ^ w < 2 ^ k = omega (arith, small, same, more) in less)

    by_test : (b : Bool) → nat_lt y (8 * w) ≡ b → Some (if b then low w x / 2 ^ y else 0) ≡ Some z → x % 256 ^ w / 2 ^ in_byte y ≡ z
    by_test true e f = let inside : y < 8 * w = grind (arith, e) in ap (λ k. x % 256 ^ w / 2 ^ k) (short inside) ∙ some_same _ z f
    by_test false e f = let out : 8 * w ≤ y = grind (arith, e) in none out ∙ some_same 0 z f

-- ---- words

doubles_on_wide : (d n : ℕ) → widths (doubles_on d n) ≡ n
doubles_on_wide d zero = refl
doubles_on_wide d (suc n) = let rest = doubles_on_wide (suc d) n in omega (arith, rest)

doubles_wide : (d n : ℕ) → widths (doubles d n) ≡ n
doubles_wide d zero = refl
doubles_wide d (suc n) = let rest = doubles_on_wide (suc d) n in omega (arith, rest)

halves_wide : (d n : ℕ) → widths (halves d n) ≡ n
halves_wide d zero = refl
halves_wide d (suc zero) = refl
halves_wide d (suc (suc n)) =
    let wide = widths-append (halves (suc d) (suc n)) (Ror d ∷ []) in let rest = halves_wide (suc d) (suc n) in omega (arith, wide, rest)

-- ---- registers

others_18 : (g h : Regs) → ((r : ℕ) → r ≢ 18 → h.of r ≡ g.of r) → SameBut 18 10 g h
others_18 g h same r below (inl k) = same r (omega (arith, k))
others_18 g h same r below (inr k) = same r (omega (arith, k))

-- no byte but the first
one_byte : (a b c d y : ℕ) → a < 256 → a + 256 * (b + 256 * (c + 256 * (d + 256 * 0))) ≡ y → (bit_or (bit_or b c) d == 0) ≡ nat_lt y 256
one_byte a b c d y small is = by_test (nat_lt y 256) refl
  where
    by_test : (t : Bool) → nat_lt y 256 ≡ t → (bit_or (bit_or b c) d == 0) ≡ t
    by_test true e =
        let less : y < 256 = grind (arith, e) in
        let no_b : b ≡ 0 = omega (arith, less, is) in
        let no_c : c ≡ 0 = omega (arith, less, is) in
        let no_d : d ≡ 0 = omega (arith, less, is) in
        ap (λ z. bit_or (bit_or z c) d == 0) no_b ∙ ap (λ z. bit_or (bit_or 0 z) d == 0) no_c ∙ ap (λ z. bit_or (bit_or 0 0) z == 0) no_d
    by_test false e =
        let more : 256 ≤ y = grind (arith, e) in
        let one = le_or_l b c in
        let two = le_or_r b c in
        let three = le_or_l (bit_or b c) d in
        let four = le_or_r (bit_or b c) d in
        let some : 0 < bit_or (bit_or b c) d = omega (arith, more, one, two, three, four, is, small) in
        grind (arith, some)

one_less : (k : ℕ) → suc k < 256 → (suc k + 256 - (1 + 0)) % 256 ≡ k
one_less k low = omega (arith, low)

is_one : nat_lt 0 (1 + 0) ≡ true
is_one = refl

is_more : (k : ℕ) → nat_lt (suc k) (1 + 0) ≡ false
is_more k = grind arith

-- ---- places

over : (pc n : ℕ) → n ≤ 4 → pc + n + 3 < 65536 → near_from (pc + 1) (n + 1) ≡ pc + n + 3
over pc n few room =
    let short : nat_lt (n + 1) 0x40 ≡ true = grind (arith, few) in
    ap (λ b. (pc + 1 + 1 + (n + 1) + (if b then 0 else 0xFF80)) % 65536) short
    ∙ (let e : (pc + 1 + 1 + (n + 1) + 0) % 65536 ≡ pc + n + 3 = omega (arith, few, room) in e)

back_to : (pc n : ℕ) → n ≤ 4 → pc + n + 3 < 65536 → far_from (pc + n + 2) (4093 - n) ≡ pc
back_to pc n few room =
    let long : nat_lt (4093 - n) 0x800 ≡ false = grind (arith, few) in
    ap (λ b. (pc + n + 2 + 1 + (4093 - n) + (if b then 0 else 0xF000)) % 65536) long
    ∙ (let e : (pc + n + 2 + 1 + (4093 - n) + 0xF000) % 65536 ≡ pc = omega (arith, few, room) in e)

-- ---- code that takes at least so many steps, and may go back and forth

abbrev Follows : (e : Run) (deep : Type 0) (n : ℕ) (v : View) (is : List Instr) (K : View → Type 0) → Type 0
Follows e deep n v is K =
    (pc : ℕ) (s : MachineState) → AllStandAt e.flash pc is → pc + widths is < 65536 → At e pc v s → Goes e deep n s (Sees e K (pc + widths is))

module _ (e : Run) (deep : Type 0) where
  by_takes : (n : ℕ) (v : View) (is : List Instr) (K : View → Type 0) → n ≤ length is → Takes e deep v is K → Follows e deep n v is K
  by_takes n v is K few piece pc s stand room a = goes_fewer e deep (length is) n s (Sees e K (pc + widths is)) few (piece pc s stand room a)

  follows_then : (n m : ℕ) (v : View) (is js : List Instr) (K L : View → Type 0) → Follows e deep n v is K
      → ((u : View) → K u → Follows e deep m u js L) → Follows e deep (n + m) v (is ++ js) L
  follows_then n m v is js K L first rest pc s stand room a =
      let wide = widths-append is js in
      let goal = Sees e L (pc + widths (is ++ js)) in
      let to : pc + widths is + widths js ≡ pc + widths (is ++ js) = omega (arith, wide) in
      goes_then e deep n m s (Sees e K (pc + widths is)) goal (first pc s (front_stands e.flash pc is js stand) (omega (arith, room, wide)) a)
      (λ t k. subst (λ q. Goes e deep m t (Sees e L q)) to
      (rest k.view k.kind (pc + widths is) t (back_stands e.flash pc is js stand) (omega (arith, room, wide)) k.at))

module _ (i : Places) (ok : (m : ℕ) → IsLayout (i.layouts m)) (m : ℕ) (frames : List (Frame State)) (e : Run) (deep : Type 0) where
  -- registers from r22 to r27 change alone
  held_changed : (live : ℕ → Bool) (s : State) (d n x : ℕ) (v u : View) → 22 ≤ d → d + n ≤ 28 → Changed d n x v u → Held i m live s frames v
      → Held i m live s frames u
  held_changed live s d n x v u low high c k = held_scratch i ok m frames live s v u c.same agree (c.others 1 (inl (omega arith))) k
    where
      agree : (r : ℕ) → IsOwned r → u.regs.of r ≡ v.regs.of r
      agree r (inl h) = let up = h.1 in c.others r (inl (omega arith))
      agree r (inr h) = let down = h.0 in c.others r (inr (omega arith))

  -- ---- the loop

  module _ (live : ℕ → Bool) (s : State) (o : Outside) (count : ℕ) (few : count ≤ 4) (is : List Instr) (wide : widths is ≡ count) (step : ℕ → ℕ)
      (once : (v : View) → Takes e deep v is (Changed 22 count (step (number v.regs 22 count)) v)) where
    abbrev loop : List Instr
    loop = counts_down count is

    abbrev back : Instr
    back = Rjmp (4093 - count)

    -- before a turn, where so much is left of the amount, and this is the value
    abbrev Between : (left x : ℕ) → View → Type 0
    Between left x v = Works i m live s frames o (λ g. (g.of 18 ≡ left) × (number g 22 count ≡ x)) v

    -- behind its first instruction, which counts
    abbrev Counted : (left x : ℕ) → View → Type 0
    Counted left x v = Works i m live s frames o (λ g. ((left ≡ suc (g.of 18)) ⊎ (left ≡ 0)) × ((g.flags.carry ≡ nat_lt left 1) × (number g 22 count ≡ x))) v

    -- behind the loop
    abbrev Left : (x : ℕ) → View → Type 0
    Left x v = Works i m live s frames o (λ g. number g 22 count ≡ x) v

    kept_above : (g h : Regs) → ((r : ℕ) → r ≢ 18 → h.of r ≡ g.of r) → number h 22 count ≡ number g 22 count
    kept_above g h same = number_kept g h 22 count (λ r lo hi. same r (omega (arith, lo)))

    counted : (left x : ℕ) (v : View) → left < 256 → Between left x v → Takes e deep v (Subi 18 1 ∷ []) (Counted left x)
    counted left x v low w =
        works_block i ok m frames e deep live s o (λ g. (g.of 18 ≡ left) × (number g 22 count ≡ x))
        (λ g. ((left ≡ suc (g.of 18)) ⊎ (left ≡ 0)) × ((g.flags.carry ≡ nat_lt left 1) × (number g 22 count ≡ x))) (Subi 18 1 ∷ []) (tt, tt)
        (λ g b after zero f. (
          (below g left low f.0, (ap (λ z. nat_lt z 1) f.0, kept_above g (does_all e.flash (Subi 18 1 ∷ []) g) (λ r ne. put_other g 18 _ r ne) ∙ f.1)),
          others_18 g (does_all e.flash (Subi 18 1 ∷ []) g) (λ r ne. put_other g 18 _ r ne),
        )) v w
      where
        below : (g : Regs) (left : ℕ) → left < 256 → g.of 18 ≡ left → (left ≡ suc ((does_all e.flash (Subi 18 1 ∷ []) g).of 18)) ⊎ (left ≡ 0)
        below g zero low h = inr refl
        below g (suc k) low h = inl (let fewer : (g.of 18 + 256 - (1 + 0)) % 256 ≡ k = omega (arith, h, low) in ap suc (sym fewer))

    -- the run is behind the loop, with this value
    abbrev There : (x pc : ℕ) → MachineState → Type 0
    There x pc = Sees e (Left x) (pc + widths loop)

    all_wide : widths loop ≡ count + 3
    all_wide = let both = widths-append is (back ∷ []) in omega (arith, both, wide)

    turned : (left x : ℕ) (u : View) → Counted (suc left) x u → Takes e deep u is (Between left (step x))
    turned left x u w =
        takes_wider e deep u is (Changed 22 count (step (number u.regs 22 count)) u) (Between left (step x))
        (λ q c. record {
          held = held_changed live s 22 count _ u q (omega arith) (omega (arith, few)) c w.held;
          facts = (c.others 18 (inl (omega arith)) ∙ left_is w.facts.0, c.holds ∙ ap step w.facts.1.1);
          out = ap (λ (y : View). y.out) c.same ∙ w.out;
        })
        (once u)
      where
        left_is : (suc left ≡ suc (u.regs.of 18)) ⊎ (suc left ≡ 0) → u.regs.of 18 ≡ left
        left_is (inl h) = omega (arith, h)
        left_is (inr h) = absurd (omega (arith, h))

    turns : (left x : ℕ) → left < 256 → (v : View) → Between left x v → Follows e deep 0 v loop (Left (times step left x))
    turns zero x low v w pc t stand room at =
        let goal = There x pc in
        let all = all_wide in
        let inside : pc + count + 3 < 65536 = omega (arith, all, room) in
        let behind : near_from (pc + 1) (count + 1) ≡ pc + widths loop =
        over pc count few inside ∙ (let z : pc + count + 3 ≡ pc + widths loop = omega (arith, all) in z) in
        goes_fewer e deep (1 + 1) 0 t goal (omega arith)
        (goes_then e deep 1 1 t (Sees e (Counted 0 x) (pc + 1)) goal (counted 0 x v low w pc t (stand.0, tt) (omega (arith, inside)) at)
        (λ q k. goes_wider e deep 1 q (At e (if k.view.regs.flags.carry then near_from (pc + 1) (count + 1) else pc + 1 + 1) k.view) goal
        (λ p c. record {
          view = k.view;
          kind = record { held = k.kind.held; facts = k.kind.facts.1.1; out = k.kind.out };
          at =
              subst (λ n. At e n k.view p) behind
              (subst (λ f. At e (if f then near_from (pc + 1) (count + 1) else pc + 1 + 1) k.view p) (k.kind.facts.1.0 ∙ is_one) c);
        })
        (goes_brcs e deep (pc + 1) k.view q k.at (count + 1) stand.1.0 (omega (arith, inside)))))
    turns (suc left) x low v w pc t stand room at =
        let goal = There (times step (suc left) x) pc in
        let all = all_wide in
        let inside : pc + count + 3 < 65536 = omega (arith, all, room) in
        let rest = stand.1.1 in
        let here : pc + 1 + 1 + widths is ≡ pc + count + 2 = omega (arith, wide) in
        let jump = subst (λ n. AllStandAt e.flash n (back ∷ [])) here (back_stands e.flash (pc + 1 + 1) is (back ∷ []) rest) in
        let home : far_from (pc + count + 2) (4093 - count) ≡ pc = back_to pc count few inside in
        let away : far_from (pc + count + 2) (4093 - count) ≢ pc + count + 2 = subst (λ n. n ≢ pc + count + 2) (sym home) (omega arith) in
        goes_fewer e deep (1 + (1 + (length is + (1 + 0)))) 0 t goal (omega arith)
        (goes_then e deep 1 (1 + (length is + (1 + 0))) t (Sees e (Counted (suc left) x) (pc + 1)) goal
        (counted (suc left) x v low w pc t (stand.0, tt) (omega (arith, inside)) at)
        (λ q k. goes_then e deep 1 (length is + (1 + 0)) q (At e (if k.view.regs.flags.carry then near_from (pc + 1) (count + 1) else pc + 1 + 1) k.view) goal
        (goes_brcs e deep (pc + 1) k.view q k.at (count + 1) stand.1.0 (omega (arith, inside)))
        (λ p c. goes_then e deep (length is) (1 + 0) p (Sees e (Between left (step x)) (pc + 1 + 1 + widths is)) goal
        (turned left x k.view k.kind (pc + 1 + 1) p (front_stands e.flash (pc + 1 + 1) is (back ∷ []) rest) (omega (arith, here, inside))
        (subst (λ f. At e (if f then near_from (pc + 1) (count + 1) else pc + 1 + 1) k.view p) (k.kind.facts.1.0 ∙ is_more left) c))
        (λ h j. goes_then e deep 1 0 h (At e (far_from (pc + count + 2) (4093 - count)) j.view) goal
        (goes_rjmp e deep (pc + count + 2) j.view h (subst (λ n. At e n j.view h) here j.at) (4093 - count) jump.0 away)
        (λ y b. turns left (step x) (omega (arith, low)) j.view j.kind pc y stand room (subst (λ n. At e n j.view y) home b))))))

  -- ---- the amount

  module _ (live : ℕ → Bool) (s : State) (o : Outside) (count x y : ℕ) where
    -- the value is in r22 and those behind it; the amount in r18 to r21; Z says whether it has one byte; and it has one
    abbrev Valued : Regs → Type 0
    Valued g = number g 22 count ≡ x

    abbrev Both : Regs → Type 0
    Both g = (number g 22 count ≡ x) × (number g 18 4 ≡ y)

    abbrev Tested : Regs → Type 0
    Tested g = ((g.of 18 ≡ y % 256) × (number g 22 count ≡ x)) × (g.flags.zero ≡ nat_lt y 256)

    abbrev Most : Regs → Type 0
    Most g = (g.of 18 ≡ 255) × (number g 22 count ≡ x)

    abbrev Bounded : Regs → Type 0
    Bounded g = (g.of 18 ≡ in_byte y) × (number g 22 count ≡ x)

    tested : (v : View) → Works i m live s frames o Both v → Takes e deep v tests_amount (Works i m live s frames o Tested)
    tested v w =
        works_block i ok m frames e deep live s o Both Tested tests_amount (tt, (tt, tt))
        (λ g b after zero f. (
          (
            (first g (b 18 (omega arith)) f.1, kept g ∙ f.0),
            one_byte (g.of 18) (g.of 19) (g.of 20) (g.of 21) y (b 18 (omega arith)) f.1,
          ),
          scratch g,
        )) v w
      where
        beside : (g : Regs) (r : ℕ) → r ≢ 19 → (does_all e.flash tests_amount g).of r ≡ g.of r
        beside g r ne = put_other (does_all e.flash (Or 19 20 ∷ []) g) 19 _ r ne ∙ put_other g 19 _ r ne

        first : (g : Regs) → g.of 18 < 256 → number g 18 4 ≡ y → (does_all e.flash tests_amount g).of 18 ≡ y % 256
        first g small h = let same = beside g 18 (omega arith) in omega (arith, small, h, same)

        kept : (g : Regs) → number (does_all e.flash tests_amount g) 22 count ≡ number g 22 count
        kept g = number_kept g (does_all e.flash tests_amount g) 22 count (λ r lo hi. beside g r (omega (arith, lo)))

        scratch : (g : Regs) → SameBut 18 10 g (does_all e.flash tests_amount g)
        scratch g r below (inl k) = beside g r (omega (arith, k))
        scratch g r below (inr k) = beside g r (omega (arith, k))

    most : (v : View) → Works i m live s frames o Tested v → Takes e deep v (Ldi 18 255 ∷ []) (Works i m live s frames o Most)
    most v w =
        works_block i ok m frames e deep live s o Tested Most (Ldi 18 255 ∷ []) (tt, tt)
        (λ g b after zero f. (
          (refl, number_kept g (does_all e.flash (Ldi 18 255 ∷ []) g) 22 count (λ r lo hi. put_other g 18 255 r (omega (arith, lo))) ∙ f.0.1),
          others_18 g (does_all e.flash (Ldi 18 255 ∷ []) g) (λ r ne. put_other g 18 255 r ne),
        )) v w

    bounded : (v : View) → Works i m live s frames o Tested v → Follows e deep 0 v bounds_amount (Works i m live s frames o Bounded)
    bounded v w pc t stand room at = by_test (nat_lt y 256) refl
      where
        goal : MachineState → Type 0
        goal = Sees e (Works i m live s frames o Bounded) (pc + widths bounds_amount)

        far : near_from pc 1 ≡ pc + widths bounds_amount
        far = omega (arith, room)

        by_test : (b : Bool) → nat_lt y 256 ≡ b → Goes e deep 0 t goal
        by_test true small =
            goes_fewer e deep 1 0 t goal (omega arith)
            (goes_wider e deep 1 t (At e (if v.regs.flags.zero then near_from pc 1 else pc + 1) v) goal
            (λ p c. record {
              view = v;
              kind =
                  record {
                    held = w.held;
                    facts = (w.facts.0.0 ∙ mod-eq_of_lt (is_byte y small) ∙ sym (ap (λ b. if b then y else 255) small), w.facts.0.1);
                    out = w.out;
                  };
              at =
                  subst (λ n. At e n v p) far
                  (subst (λ f. At e (if f then near_from pc 1 else pc + 1) v p) (w.facts.1 ∙ small) c);
            })
            (goes_breq e deep pc v t at 1 stand.0 (omega (arith, room))))
        by_test false large =
            goes_fewer e deep (1 + 1) 0 t goal (omega arith)
            (goes_then e deep 1 1 t (At e (if v.regs.flags.zero then near_from pc 1 else pc + 1) v) goal
            (goes_breq e deep pc v t at 1 stand.0 (omega (arith, room)))
            (λ p c. goes_wider e deep 1 p (Sees e (Works i m live s frames o Most) (pc + 1 + 1)) goal
            (λ q k. record {
              view = k.view;
              kind =
                  record {
                    held = k.kind.held;
                    facts = (k.kind.facts.0 ∙ sym (ap (λ b. if b then y else 255) large), k.kind.facts.1);
                    out = k.kind.out;
                  };
              at = subst (λ n. At e n k.view q) (let z : pc + 1 + 1 ≡ pc + widths bounds_amount = omega arith in z) k.at;
            })
            (most v w (pc + 1) p stand.1 (omega (arith, room))
            (subst (λ f. At e (if f then near_from pc 1 else pc + 1) v p) (w.facts.1 ∙ large) c))))

  -- ---- both, and what is around them

  module _ (live behind : ℕ → Bool) (s : State) (to : ℕ) (a : Operand) (k x y : ℕ) (ready : IsReady (i.layouts m) live a)
      (amount : IsReady (i.layouts m) live (Local k)) (can : IsSet (i.layouts m) live behind to) (got : value a s ≡ Some x)
      (got' : value (Local k) s ≡ Some y) (count : ℕ) (few : count ≤ 4) (is : List Instr) (wide : widths is ≡ count) (step : ℕ → ℕ)
      (once : (v : View) → Takes e deep v is (Changed 22 count (step (number v.regs 22 count)) v)) where
    abbrev made : ℕ
    made = times step (in_byte y) (x % 256 ^ count)

    abbrev code : List Instr
    code =
        brings (i.layouts m) a 22 count
        ++ (brings (i.layouts m) (Local k) 18 4 ++ (tests_amount ++ (bounds_amount ++ (counts_down count is ++ gives (i.layouts m) to 22 count))))

    follows_shift : (v : View) → Held i m live s frames v → Follows e deep 1 v code (Works i m behind (sets to made s) frames v.out (λ g. Unit {0}))
    follows_shift v held =
        let l = i.layouts m in
        let o = v.out in
        let X = x % 256 ^ count in
        let goal = Works i m behind (sets to made s) frames o (λ g. Unit {0}) in
        let Value = Works i m live s frames o (Valued live s o count X y) in
        let Pair = Works i m live s frames o (Both live s o count X y) in
        let Test = Works i m live s frames o (Tested live s o count X y) in
        let Bound = Works i m live s frames o (Bounded live s o count X y) in
        let Done = Works i m live s frames o (λ g. number g 22 count ≡ made) in
        let last = gives l to 22 count in
        let rest1 = counts_down count is ++ last in
        let rest2 = bounds_amount ++ rest1 in
        let rest3 = tests_amount ++ rest2 in
        follows_then e deep 0 1 v (brings l a 22 count) (brings l (Local k) 18 4 ++ rest3) Value goal
        (by_takes e deep 0 v (brings l a 22 count) Value (omega arith)
        (takes_wider e deep v (brings l a 22 count) (Works i m live s frames o (λ g. Unit {0} × (number g 22 count ≡ X))) Value
        (λ u w. record { held = w.held; facts = w.facts.1; out = w.out })
        (works_brings i ok m frames e deep live s o (λ g. Unit {0}) a 22 count x ready got (omega arith) (omega (arith, few)) (λ g h same f. f) v
        (record { held = held; facts = tt; out = refl }))))
        (λ u1 w1. follows_then e deep 0 1 u1 (brings l (Local k) 18 4) rest3 Pair goal
        (by_takes e deep 0 u1 (brings l (Local k) 18 4) Pair (omega arith)
        (takes_four_bytes i ok m frames e deep live s (Local k) y u1 (brings l (Local k) 18 4) Pair amount tt got' w1.held
        (λ four. takes_wider e deep u1 (brings l (Local k) 18 4)
        (Works i m live s frames o (λ g. Valued live s o count X y g × (number g 18 4 ≡ y % 256 ^ 4))) Pair
        (λ u w. record { held = w.held; facts = (w.facts.0, w.facts.1 ∙ mod-eq_of_lt four); out = w.out })
        (works_brings i ok m frames e deep live s o (Valued live s o count X y) (Local k) 18 4 y amount got' (omega arith) (omega arith)
        (λ g h same f. number_kept g h 22 count (λ r lo hi. same r (omega (arith, hi, few)) (inr (omega (arith, lo)))) ∙ f) u1 w1))))
        (λ u2 w2. follows_then e deep 1 0 u2 tests_amount rest2 Test goal
        (by_takes e deep 1 u2 tests_amount Test (omega arith) (tested live s o count X y u2 w2))
        (λ u3 w3. follows_then e deep 0 0 u3 bounds_amount rest1 Bound goal (bounded live s o count X y u3 w3)
        (λ u4 w4. follows_then e deep 0 0 u4 (counts_down count is) last Done goal
        (turns live s o count few is wide step once (in_byte y) X (in_byte_low y) u4 w4)
        (λ u5 w5. by_takes e deep 0 u5 last goal (omega arith)
        (takes_wider e deep u5 last (Works i m behind (sets to made s) frames o (λ g. number g 22 count ≡ made)) goal
        (λ u w. record { held = w.held; facts = tt; out = w.out })
        (works_gives i ok m frames e deep live behind s o (λ g. number g 22 count ≡ made) to 22 count made can (omega arith) (omega (arith, few))
        (λ g f. f) (λ g h same f. number_kept g h 22 count (λ r lo hi. same r (omega (arith, lo)) (omega (arith, hi, few))) ∙ f) u5 w5)))))))

  -- ---- the templates

  pub goes_shifts_left : (live behind : ℕ → Bool) (s : State) (w to : ℕ) (a : Operand) (k x y z : ℕ) (v : View) → w ≤ 4 → IsReady (i.layouts m) live a
      → IsReady (i.layouts m) live (Local k) → IsSet (i.layouts m) live behind to → value a s ≡ Some x → value (Local k) s ≡ Some y
      → computed ShiftLeft w x y ≡ Some z → Held i m live s frames v
      → Follows e deep 1 v (shifts_left_by (i.layouts m) w to a k) (Lies i m behind (sets to z s) frames v.out)
  goes_shifts_left live behind s w to a k x y z v narrow ready amount can got got' is held pc t stand room at =
      let l = i.layouts m in
      let n = least w (width_of l to) in
      let p = 256 ^ n in
      let all = times (twice p) (in_byte y) (x % p) in
      let code = shifts_left_by l w to a k in
      let same : sets to all s ≡ sets to z s =
      sets-same l s to all z held.stacked.fits.widths
      (ap (λ j. j % 256 ^ width_of l to) (doubled_times p (in_byte y) (x % p) (positive n) (mod-lt x (positive n)))
      ∙ left_counted w x y z (width_of l to) narrow is) in
      goes_wider e deep 1 t (Sees e (Works i m behind (sets to all s) frames v.out (λ g. Unit {0})) (pc + widths code))
      (Sees e (Lies i m behind (sets to z s) frames v.out) (pc + widths code))
      (λ q c. record {
        view = c.view;
        kind = record { held = subst (λ j. Held i m behind j frames c.view) same c.kind.held; out = c.kind.out };
        at = c.at;
      })
      (follows_shift live behind s to a k x y ready amount can got got' n (least_few w (width_of l to) narrow) (doubles 22 n) (doubles_wide 22 n) (twice p)
      (λ u. takes_doubles e deep 22 n u (let few = least_few w (width_of l to) narrow in omega (arith, few))) v held pc t stand room at)

  pub goes_shifts_right : (live behind : ℕ → Bool) (s : State) (w to : ℕ) (a : Operand) (k x y z : ℕ) (v : View) → w ≤ 4 → IsReady (i.layouts m) live a
      → IsReady (i.layouts m) live (Local k) → IsSet (i.layouts m) live behind to → value a s ≡ Some x → value (Local k) s ≡ Some y
      → computed ShiftRight w x y ≡ Some z → Held i m live s frames v
      → Follows e deep 1 v (shifts_right_by (i.layouts m) w to a k) (Lies i m behind (sets to z s) frames v.out)
  goes_shifts_right live behind s w to a k x y z v narrow ready amount can got got' is held pc t stand room at =
      let l = i.layouts m in
      let all = times half (in_byte y) (x % 256 ^ w) in
      let code = shifts_right_by l w to a k in
      let value_is : all ≡ z = halved_times (in_byte y) (x % 256 ^ w) ∙ right_counted w x y z narrow is in
      goes_wider e deep 1 t (Sees e (Works i m behind (sets to all s) frames v.out (λ g. Unit {0})) (pc + widths code))
      (Sees e (Lies i m behind (sets to z s) frames v.out) (pc + widths code))
      (λ q c. record {
        view = c.view;
        kind = record { held = subst (λ j. Held i m behind (sets to j s) frames c.view) value_is c.kind.held; out = c.kind.out };
        at = c.at;
      })
      (follows_shift live behind s to a k x y ready amount can got got' w narrow (halves 22 w) (halves_wide 22 w) half
      (λ u. takes_halves e deep 22 w u) v held pc t stand room at)
