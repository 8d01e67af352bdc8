-- Templates of shifts by known amounts.
use Rattle.std.proofs.Common.{◌≡◌, ℕ, ◌+◌, ◌-◌, ◌*◌, ◌/◌, ◌%◌, ◌^◌, ◌<◌, ◌≤◌, ◌⊎◌, inl, inr, Bool, List, ◌++◌}
use Rattle.std.proofs.Common.{Option, Some, refl, sym, ap, ◌∙◌, subst, arith}
use Rattle.avr_instr.specs.declared.instr.Instr.{Instr}
use Rattle.vg_lin.specs.declared.instr.Operand.{Operand}
use Rattle.vg_lin.specs.declared.instr.Operator.TheVariants.{ShiftLeft, ShiftRight}
use Rattle.vg_lin.specs.Steps.{Frame}
use Rattle.vg_lin.specs.State.{State, value, sets}
use Rattle.vg_lin.specs.Values.{computed}
use Rattle.avr_view.specs.Run.{Run}
use Rattle.avr_view.specs.View.{View}
use Rattle.vg_templates.specs.Spots.{number, put_number}
use Rattle.vg_templates.specs.Layouts.{IsLayout, IsOwned, width_of}
use Rattle.vg_templates.specs.Frames.{Places}
use Rattle.vg_templates.proofs.Numbers.{number-put, put_number-beside}
use Rattle.vg_templates.specs.Pieces.{Takes}
use Rattle.vg_templates.specs.Transfers.{clears}
use Rattle.vg_templates.specs.Transferred.{Fetched}
use Rattle.vg_templates.specs.Held.{Held, IsReady, IsSet}
use Rattle.vg_templates.specs.Homes.{home_of, made_in, settles, IsHome}
use Rattle.vg_templates.proofs.Composing.{takes_then, takes_wider, takes_plain}
use Rattle.vg_templates.proofs.Moving.{clears-plain, clears-put}
use Rattle.vg_templates.specs.Operands.{least}
use Rattle.vg_templates.specs.Outcomes.{Lies}
use Rattle.vg_templates.proofs.Bytes.{least_is}
use Rattle.vg_templates.proofs.Computing.{number_kept}
use Rattle.vg_templates.proofs.Settling.{Made, made_low, made_above, takes_settles}
use Rattle.vg_templates.proofs.Settling.{home_is as own_is}
use Rattle.vg_templates.proofs.Storing.{sets-same}
use Rattle.vg_templates.specs.Shifts.{doubles, halves, repeats, brings_above, stays, shift_home, shifts_left, shifts_right}
use Rattle.vg_followed.proofs.Bits.{left_is, left_cut, right_is}
use Rattle.vg_followed.proofs.Doubling.{Changed, takes_doubled, takes_halved}
use Rattle.vg_followed.proofs.Above.{number_parts, cut_above, home_is, home_suits, staying, takes_brings_above}

least_below : (w n : ℕ) → (least w n ≤ w) × (least w n ≤ n)
least_below w n = elim (least_is w n) [ inl h ↦ (omega (arith, h.0), omega (arith, h.0, h.1)) | inr h ↦ (omega (arith, h.0, h.1), omega (arith, h.0)) ]

-- less bits than a byte has are no whole byte
no_byte : (n m : ℕ) → n < 8 → least (n / 8) m ≡ 0
no_byte n m few = let none : n / 8 ≡ 0 = omega (arith, few) in ap (λ k. least k m) none

module _ (i : Places) (ok : (m : ℕ) → IsLayout (i.layouts m)) (m : ℕ) (frames : List (Frame State)) (e : Run) (deep : Type 0) where
  takes_clears : (d n : ℕ) (v : View) → 2 ≤ d → v.regs.of 1 ≡ 0 → Takes e deep v (clears d n) (Changed d n 0 v)
  takes_clears d n v low one =
      takes_wider e deep v (clears d n) (λ u. u ≡ record v { regs = put_number v.regs d n 0 }) (Changed d n 0 v)
      (λ u put. subst (Changed d n 0 v) (sym put)
      (record { holds = number-put v.regs d n 0 ∙ none (256 ^ n); others = put_number-beside v.regs d n 0; same = refl }))
      (takes_wider e deep v (clears d n) _ (λ u. u ≡ record v { regs = put_number v.regs d n 0 })
      (λ u put. put ∙ ap (λ g. record v { regs = g }) (clears-put e.flash d n v.regs one low)) (takes_plain e deep v (clears d n) (clears-plain d n)))
    where
      none : (p : ℕ) → 0 % p ≡ 0
      none p = omega arith

  -- Bytes that came above so many zeros are shifted, in a home or in scratch registers, and the local has got them.
  takes_shifted : (live behind : ℕ → Bool) (s : State) (to z c n d y : ℕ) (h : Option ℕ) (first is : List Instr) (f : ℕ → ℕ) (v : View)
      → IsSet (i.layouts m) live behind to → IsHome (i.layouts m) to n h → n ≤ 4 → n ≡ z + c → d ≡ made_in h + z → 2 ≤ made_in h → made_in h + n ≤ 26
      → Takes e deep v first (Fetched d c y v)
      → ((u : View) → Takes e deep u is (Changed d c (f (number u.regs d c)) u)) → Held i m live s frames v
      → Takes e deep v (first ++ (clears (made_in h) z ++ (is ++ settles (i.layouts m) to h n)))
      (Lies i m behind (sets to (256 ^ z * f (y % 256 ^ c)) s) frames v.out)
  takes_shifted live behind s to z c n d y h first is f v can home few parts at up top come shift k =
      let l = i.layouts m in
      let r = made_in h in
      let last = settles l to h n in
      let rest = is ++ last in
      let x = 256 ^ z * f (y % 256 ^ c) in
      let goal = Lies i m behind (sets to x s) frames v.out in
      takes_then e deep v first (clears r z ++ rest) (Fetched d c y v) goal come
      (λ u b. takes_then e deep u (clears r z) rest (Changed r z 0 u) goal
      (takes_clears r z u up (b.others 1 (omega arith) (inl (omega (arith, at, up))) ∙ k.r1))
      (λ t g. takes_then e deep t is last (Changed d c (f (number t.regs d c)) t) goal (shift t)
      (λ q a.
      let low : number q.regs r z ≡ 0 = number_kept t.regs q.regs r z (λ j lo hi. a.others j (inl (omega (arith, hi, at)))) ∙ g.holds in
      let came : number t.regs d c ≡ y % 256 ^ c =
      number_kept u.regs t.regs d c (λ j lo hi. g.others j (inr (omega (arith, lo, at)))) ∙ b.holds in
      let high : number q.regs d c ≡ f (y % 256 ^ c) = a.holds ∙ ap f came in
      let all : number q.regs r n ≡ x =
      ap (λ j. number q.regs r j) parts ∙ number_parts q.regs r z c
      ∙ ap (λ j. number q.regs r z + 256 ^ z * number q.regs j c) (sym at)
      ∙ ap (λ j. j + 256 ^ z * number q.regs d c) low ∙ ap (λ j. 0 + 256 ^ z * j) high
      ∙ (let none : 0 + x ≡ x = omega arith in none) in
      let made : Made r n x v q =
      record {
        others = λ j kind beside.
            a.others j (outer j beside) ∙ g.others j (lower j beside) ∙ b.others j (small j kind) (outer j beside);
        holds = all;
        stack = ap (λ (o : View). o.stack) a.same ∙ ap (λ (o : View). o.stack) g.same ∙ ap (λ (o : View). o.stack) b.same;
        static = ap (λ (o : View). o.static) a.same ∙ ap (λ (o : View). o.static) g.same ∙ ap (λ (o : View). o.static) b.same;
      } in
      takes_wider e deep q last (Lies i m behind (sets to x s) frames q.out) goal
      (λ o lies. record {
        held = lies.held;
        out = lies.out ∙ ap (λ (o : View). o.out) a.same ∙ ap (λ (o : View). o.out) g.same ∙ ap (λ (o : View). o.out) b.same;
      })
      (takes_settles i ok m frames e deep live behind s to n x h v q can home few k made))))
    where
      outer : (j : ℕ) → (j < made_in h) ⊎ (made_in h + n ≤ j) → (j < d) ⊎ (d + c ≤ j)
      outer j (inl p) = inl (omega (arith, p, at))
      outer j (inr p) = inr (omega (arith, p, at, parts))

      lower : (j : ℕ) → (j < made_in h) ⊎ (made_in h + n ≤ j) → (j < made_in h) ⊎ (made_in h + z ≤ j)
      lower j (inl p) = inl p
      lower j (inr p) = inr (omega (arith, p, parts))

      small : (j : ℕ) → (j ≡ 1) ⊎ IsOwned j → j < 30
      small j (inl one) = omega arith
      small j (inr (inl p)) = let below = p.1 in omega arith
      small j (inr (inr p)) = p.1

  pub takes_shifts_left : (live behind : ℕ → Bool) (s : State) (w to : ℕ) (a : Operand) (n x z : ℕ) (v : View) → w ≤ 4
      → IsReady (i.layouts m) live a → IsSet (i.layouts m) live behind to → value a s ≡ Some x → computed ShiftLeft w x n ≡ Some z
      → Held i m live s frames v
      → Takes e deep v (shifts_left (i.layouts m) w to a n) (Lies i m behind (sets to z s) frames v.out)
  takes_shifts_left live behind s w to a n x z v small ready can got is k =
      let l = i.layouts m in
      let t = width_of l to in
      let made = least w t in
      let whole = least (n / 8) made in
      let c = made - whole in
      let bits = n % 8 in
      let h = shift_home l a n 0 whole c (home_of l to made) in
      let d = made_in h + whole in
      let few : made ≤ 4 = (let sizes = least_below w t in omega (arith, small, sizes.0)) in
      let inside : whole ≤ made = (least_below (n / 8) made).1 in
      let parts : made ≡ whole + c = omega (arith, inside) in
      let home : IsHome l to made h = home_is l to made a n 0 whole c (home_of l to made) (own_is l to made) in
      let up = made_above l (ok m) to made h can.there home in
      let top = made_low l (ok m) to made h can.there few home in
      let stand = stays l a n d c in
      let f : ℕ → ℕ = λ j. j * 2 ^ bits % 256 ^ c in
      let come = takes_brings_above i ok m frames e deep live s a 0 d c x stand v ready (omega (arith, up)) (omega (arith, top, parts))
      (home_suits l (ok m) live a n 0 whole c (home_of l to made) ready) (λ q. (refl, (staying l a n d c q).there)) got k in
      let shifted = takes_shifted live behind s to whole c made d (x / 256 ^ 0) h (brings_above stand l a 0 d c) (repeats bits (doubles d c)) f v can home few
      parts refl up top come (λ u. takes_doubled e deep bits d c u (omega (arith, top, parts))) k in
      let all : x / 256 ^ 0 ≡ x = omega arith in
      let value_is : 256 ^ whole * f (x / 256 ^ 0 % 256 ^ c) ≡ x * 2 ^ n % 256 ^ made = ap (λ j. 256 ^ whole * f (j % 256 ^ c)) all ∙ left_is x n made in
      let same : sets to (256 ^ whole * f (x / 256 ^ 0 % 256 ^ c)) s ≡ sets to z s =
      sets-same l s to (256 ^ whole * f (x / 256 ^ 0 % 256 ^ c)) z k.stacked.fits.widths (ap (λ j. j % 256 ^ t) value_is ∙ left_cut w x n z t is) in
      subst (λ j. Takes e deep v (shifts_left l w to a n) (Lies i m behind j frames v.out)) same shifted

  pub takes_shifts_right : (live behind : ℕ → Bool) (s : State) (w to : ℕ) (a : Operand) (n x z : ℕ) (v : View) → w ≤ 4
      → IsReady (i.layouts m) live a → IsSet (i.layouts m) live behind to → value a s ≡ Some x → computed ShiftRight w x n ≡ Some z
      → Held i m live s frames v
      → Takes e deep v (shifts_right (i.layouts m) w to a n) (Lies i m behind (sets to z s) frames v.out)
  takes_shifts_right live behind s w to a n x z v small ready can got is k =
      let l = i.layouts m in
      let whole = least (n / 8) w in
      let c = w - whole in
      let bits = n % 8 in
      let h = shift_home l a n whole 0 c (home_of l to c) in
      let d = made_in h + 0 in
      let few : c ≤ 4 = omega (arith, small) in
      let inside : whole ≤ w = (least_below (n / 8) w).1 in
      let home : IsHome l to c h = home_is l to c a n whole 0 c (home_of l to c) (own_is l to c) in
      let up = made_above l (ok m) to c h can.there home in
      let top = made_low l (ok m) to c h can.there few home in
      let stand = stays l a n d c in
      let f : ℕ → ℕ = λ j. j / 2 ^ bits in
      let y = x / 256 ^ whole in
      let parts : c ≡ 0 + c = omega arith in
      let come = takes_brings_above i ok m frames e deep live s a whole d c x stand v ready (omega (arith, up)) (omega (arith, top))
      (home_suits l (ok m) live a n whole 0 c (home_of l to c) ready)
      (λ q. let stay = staying l a n d c q in (no_byte n w stay.few, stay.there)) got k in
      let shifted = takes_shifted live behind s to 0 c c d y h (brings_above stand l a whole d c) (repeats bits (halves d c)) f v can home few parts refl up
      top come (λ u. takes_halved e deep bits d c u) k in
      let sum : whole + c ≡ w = omega (arith, inside) in
      let high : y % 256 ^ c ≡ x % 256 ^ w / 256 ^ whole = cut_above x whole c ∙ ap (λ j. x % 256 ^ j / 256 ^ whole) sum in
      let value_is : 256 ^ 0 * f (y % 256 ^ c) ≡ z =
      (let one : 256 ^ 0 * f (y % 256 ^ c) ≡ f (y % 256 ^ c) = omega arith in one)
      ∙ right_is w x n z (x % 256 ^ w) (y % 256 ^ c) is refl high (λ all. nothing y c (omega (arith, all))) in
      subst (λ j. Takes e deep v (shifts_right l w to a n) (Lies i m behind (sets to j s) frames v.out)) value_is shifted
    where
      nothing : (y c : ℕ) → c ≡ 0 → y % 256 ^ c ≡ 0
      nothing y c none = ap (λ j. y % 256 ^ j) none ∙ (let e1 : y % 256 ^ 0 ≡ 0 = omega arith in e1)
