-- Templates of tests and branches.
use Rattle.std.proofs.Common.{◌≡◌, ◌≢◌, ℕ, zero, suc, ◌+◌, ◌/◌, ◌%◌, ◌<◌, ◌≤◌, ◌⊎◌, inl, inr, Bool, true, false, not, ◌==◌, ◌&&◌, nat_lt, ◌*◌, ◌^◌, if◌then◌else◌}
use Rattle.std.proofs.Common.{List, [], ◌∷◌, ◌++◌, length, Some, refl, sym, ap, ◌∙◌, subst, arith}
use Rattle.std.specs.Prelude.{bit_or}
use Rattle.std.proofs.lemmas.Nat.{le_or_l, le_or_r}
use Rattle.vg_meaning.specs.Outside.{Outside}
use Rattle.vg_templates.proofs.Numbers.{put_other, put_same}
use Rattle.avr_instr.specs.declared.instr.Instr.TheVariants.{Jmp, Rjmp}
use Rattle.avr_isa.specs.Flags.{is_set, with_flags}
use Rattle.avr_isa.specs.Flow.{near_from, far_from}
use Rattle.avr_isa.specs.Machine.{State as MachineState}
use Rattle.avr_isa.specs.Standing.{widths, StandsAt, AllStandAt}
use Rattle.avr_isa.proofs.Standing.{front_stands, back_stands}
use Rattle.vg_lin.specs.declared.instr.Comparison.{Comparison}
use Rattle.vg_lin.specs.declared.instr.Comparison.TheVariants.{Below, Less, Same}
use Rattle.vg_lin.specs.declared.instr.Operand.{Operand}
use Rattle.vg_lin.specs.declared.instr.Operand.TheVariants.{Local, Known}
use Rattle.vg_lin.specs.declared.instr.Test.{Test}
use Rattle.vg_lin.specs.Steps.{Frame}
use Rattle.vg_lin.specs.State.{State, value}
use Rattle.vg_lin.specs.Values.{low, compared}
use Rattle.avr_view.specs.Registers.{Regs, combines, does_all, ArePlain}
use Rattle.std.proofs.Math.Nat.{zero-mod}
use Rattle.avr_view.specs.Run.{Run, Goes}
use Rattle.avr_view.specs.View.{View, At}
use Rattle.avr_view.proofs.Going.{goes_then, goes_fewer, goes_wider}
use Rattle.avr_view.proofs.JumpSteps.{goes_brbs, goes_brbc, goes_jmp, goes_rjmp, sign_set}
use Rattle.avr_view.proofs.Rows.{carry_set, zero_set}
use Rattle.vg_templates.specs.Spots.{Spot, InFrame, InRegisters}
use Rattle.vg_templates.specs.Layouts.{Layout, IsLayout, IsSpot, IsOwned, width_of}
use Rattle.vg_templates.specs.Frames.{Places}
use Rattle.vg_templates.specs.Pieces.{Sees, Takes}
use Rattle.vg_templates.specs.Held.{Held, IsReady}
use Rattle.vg_templates.proofs.Composing.{takes_then, takes_wider, takes_bytes, takes_plain}
use Rattle.vg_templates.proofs.Holding.{held_scratch}
use Rattle.vg_templates.specs.Numbers.{number_in, HoldBytes, AreRegisters}
use Rattle.vg_templates.specs.Chains.{compares_on, compares}
use Rattle.vg_templates.specs.Chained.{from_least}
use Rattle.vg_templates.proofs.Comparing.{compares-tell, compares-less}
use Rattle.vg_templates.specs.Operands.{least, padded, known_registers, spot_found, finds, found_in}
use Rattle.vg_templates.specs.Outcomes.{Found, Lies, IsKept}
use Rattle.vg_templates.proofs.Bytes.{least_is}
use Rattle.vg_templates.proofs.Finding.{beside_registers, found-length, found-beside, takes_finds}
use Rattle.vg_templates.proofs.Storing.{held_fewer}
use Rattle.vg_templates.specs.Branches.{joins, joins_behind, are_free, is_zero, is_same, is_joined, compares_found, tests, told_by, near_branch, far_branch, Told, Branched, is_taken}
use Rattle.vg_templates.proofs.Ordered.{signed_order}

-- ---- registers of an operand that stay

padded_kept : (old new : Regs) (r w n : ℕ) → new.of 1 ≡ old.of 1 → ((x : ℕ) → r ≤ x → x < r + least w n → new.of x ≡ old.of x)
    → number_in new (padded r w n) ≡ number_in old (padded r w n)
padded_kept old new r zero zero one h = refl
padded_kept old new r (suc w) zero one h = refl
padded_kept old new r zero (suc n) one h =
    let rest = padded_kept old new r zero n one (λ x lo hi. h x lo (omega arith)) in omega (arith, rest, one)
padded_kept old new r (suc w) (suc n) one h =
    let here = h r (omega arith) (omega arith) in
    let rest = padded_kept old new (suc r) w n one (λ x lo hi. h x (omega arith) (omega arith)) in
    omega (arith, here, rest)

known_kept : (old new : Regs) (d n v : ℕ) → new.of 1 ≡ old.of 1 → ((x : ℕ) → d ≤ x → x < d + n → new.of x ≡ old.of x)
    → number_in new (known_registers d n v) ≡ number_in old (known_registers d n v)
known_kept old new d zero v one h = refl
known_kept old new d (suc n) v one h =
    let here = by_byte (v % 256 == 0) in
    let rest = known_kept old new (suc d) n (v / 256) one (λ x lo hi. h x (omega arith) (omega arith)) in
    omega (arith, here, rest)
  where
    by_byte : (b : Bool) → new.of (if b then 1 else d) ≡ old.of (if b then 1 else d)
    by_byte true = one
    by_byte false = h d (omega arith) (omega arith)

found_kept : (l : Layout) → IsLayout l → (live : ℕ → Bool) (a : Operand) (n : ℕ) (old new : Regs) → IsReady l live a → n ≤ 4
    → ((x : ℕ) → (x < 18) ⊎ ((22 ≤ x) × (x < 26)) → new.of x ≡ old.of x) → number_in new (found_in l a 22 n) ≡ number_in old (found_in l a 22 n)
found_kept l ok live (Known v) n old new ready small h =
    known_kept old new 22 n v (h 1 (inl (omega arith))) (λ x lo hi. h x (inr (omega arith, omega arith)))
found_kept l ok live (Local k) n old new ready small h = at (l.spots k) (width_of l k) (ok.spot k ready.0)
  where
    lesser : (w : ℕ) → (least w n ≤ w) × (least w n ≤ n)
    lesser w = elim (least_is w n) [ inl k ↦ (omega (arith, k.0), omega (arith, k.0, k.1)) | inr k ↦ (omega (arith, k.0, k.1), omega (arith, k.0)) ]

    at : (p : Spot) (w : ℕ) → IsSpot l p w → number_in new (spot_found p w 22 n) ≡ number_in old (spot_found p w 22 n)
    at (InFrame q) w spot =
        let less = (lesser w).1 in padded_kept old new 22 w n (h 1 (inl (omega arith))) (λ x lo hi. h x (inr (omega arith, omega arith)))
    at (InRegisters r) w spot =
        let less = (lesser w).0 in
        let inside = spot.1 in
        padded_kept old new r w n (h 1 (inl (omega arith))) (λ x lo hi. h x (inl (omega arith)))

compares_on-plain : (as' rs : List ℕ) → ArePlain (compares_on as' rs)
compares_on-plain [] rs = tt
compares_on-plain (a ∷ as') [] = tt
compares_on-plain (a ∷ as') (r ∷ rs) = (tt, compares_on-plain as' rs)

compares-plain : (as' rs : List ℕ) → ArePlain (compares as' rs)
compares-plain [] rs = tt
compares-plain (a ∷ as') [] = tt
compares-plain (a ∷ as') (r ∷ rs) = (tt, compares_on-plain as' rs)

-- ---- bytes that are joined

joins-plain : (rs : List ℕ) → ArePlain (joins rs)
joins-plain [] = tt
joins-plain (r ∷ rs) = (tt, joins-plain rs)

joins-others : (flash rs : List ℕ) (g : Regs) (d : ℕ) → d ≢ 22 → (does_all flash (joins rs) g).of d ≡ g.of d
joins-others flash [] g d h = refl
joins-others flash (r ∷ rs) g d h =
    joins-others flash rs (combines g 22 (bit_or (g.of 22) (g.of r))) d h ∙ put_other g 22 (bit_or (g.of 22) (g.of r)) d h

-- two numbers are zero together
or_none : (a b : ℕ) → bit_or a b ≡ 0 → (a ≡ 0) × (b ≡ 0)
or_none a b h = let left = le_or_l a b in let right = le_or_r a b in (omega (arith, left, h), omega (arith, right, h))

zero_of_both : (a b : ℕ) → (a + 256 * b == 0) ≡ ((a == 0) && (b == 0))
zero_of_both a b = grind arith

zero_of_or : (a b : ℕ) → (bit_or a b == 0) ≡ ((a == 0) && (b == 0))
zero_of_or a b = by_test (bit_or a b == 0) refl
  where
    by_test : (k : Bool) → (bit_or a b == 0) ≡ k → k ≡ ((a == 0) && (b == 0))
    by_test true e = let none : bit_or a b ≡ 0 = grind (arith, e) in let both = or_none a b none in let x = both.0 in let y = both.1 in grind (arith, x, y)
    by_test false e = by_left (a == 0) (b == 0) refl refl
      where
        by_left : (p q : Bool) → (a == 0) ≡ p → (b == 0) ≡ q → false ≡ (p && q)
        by_left true true f g =
            let x : a ≡ 0 = grind (arith, f) in
            let y : b ≡ 0 = grind (arith, g) in
            let none : bit_or a b ≡ 0 = ap (λ z. bit_or z b) x ∙ ap (bit_or 0) y in
            absurd (grind (arith, none, e))
        by_left true false f g = refl
        by_left false q f g = refl

-- the bytes of a list do not change where one becomes zero that was zero
number_same : (g h : Regs) (rs : List ℕ) → ((d : ℕ) → h.of d ≡ g.of d) → number_in h rs ≡ number_in g rs
number_same g h [] k = refl
number_same g h (r ∷ rs) k = let one = k r in let rest = number_same g h rs k in omega (arith, one, rest)

joins-tell : (flash : List ℕ) (r : ℕ) (rs : List ℕ) (g : Regs)
    → (does_all flash (joins (r ∷ rs)) g).flags.zero ≡ ((g.of 22 == 0) && (number_in g (r ∷ rs) == 0))
joins-tell flash r [] g =
    zero_of_or (g.of 22) (g.of r) ∙ (let alone : g.of r ≡ g.of r + 256 * 0 = omega arith in ap (λ z. (g.of 22 == 0) && (z == 0)) alone)
joins-tell flash r (s ∷ rs) g =
    let x = bit_or (g.of 22) (g.of r) in
    let g1 = combines g 22 x in
    joins-tell flash s rs g1 ∙ ap (λ z. (z == 0) && (number_in g1 (s ∷ rs) == 0)) (put_same g 22 x) ∙ by_both x (x == 0) refl refl
  where
    by_both : (x : ℕ) (k : Bool) → (x == 0) ≡ k → x ≡ bit_or (g.of 22) (g.of r)
        → (k && (number_in (combines g 22 x) (s ∷ rs) == 0)) ≡ ((g.of 22 == 0) && (g.of r + 256 * number_in g (s ∷ rs) == 0))
    by_both x true e is =
        let none : x ≡ 0 = grind (arith, e) in
        let both = or_none (g.of 22) (g.of r) (sym is ∙ none) in
        let a = both.0 in
        let b = both.1 in
        let rest = number_same g (combines g 22 x) (s ∷ rs) (λ d. still x (none ∙ sym a) d (d == 22) refl) in
        ap (λ z. z == 0) rest ∙ last b (number_in g (s ∷ rs)) ∙ ap (λ z. (z == 0) && (g.of r + 256 * number_in g (s ∷ rs) == 0)) (sym a)
      where
        still : (x : ℕ) → x ≡ g.of 22 → (d : ℕ) (k : Bool) → (d == 22) ≡ k → (combines g 22 x).of d ≡ g.of d
        still x h d k f = grind (arith, h)

        last : g.of r ≡ 0 → (n : ℕ) → (n == 0) ≡ (g.of r + 256 * n == 0)
        last none n = grind (arith, none)
    by_both x false e is =
        sym (ap (λ z. (g.of 22 == 0) && z) (zero_of_both (g.of r) (number_in g (s ∷ rs))) ∙ regroup (g.of 22 == 0) (g.of r == 0) (number_in g (s ∷ rs) == 0)
        ∙ ap (λ z. z && (number_in g (s ∷ rs) == 0)) (sym (zero_of_or (g.of 22) (g.of r)) ∙ ap (λ z. z == 0) (sym is) ∙ e))
      where
        regroup : (a b c : Bool) → (a && (b && c)) ≡ ((a && b) && c)
        regroup true b c = refl
        regroup false b c = refl

both_true : (a b : Bool) → (a && b) ≡ true → (a ≡ true) × (b ≡ true)
both_true true b h = (refl, h)
both_true false b h = absurd (let clash : false ≡ true = h in cc)

low_none : (w : ℕ) → low w 0 ≡ 0
low_none w = zero-mod (256 ^ w)

reliable_apart : (d : ℕ) → IsOwned d → d ≢ 22
reliable_apart d (inl h) = let up = h.1 in omega arith
reliable_apart d (inr h) = let lo = h.0 in omega arith

-- the bit tells what the comparison says
tells : (c : Comparison) (w x y : ℕ) (flash left right : List ℕ) (g : Regs) → length left ≡ w → length right ≡ w → 0 < w → AreRegisters left
    → AreRegisters right → HoldBytes g → number_in g left ≡ low w x → number_in g right ≡ low w y
    → is_set (told_by c) (with_flags 0 (does_all flash (compares left right) g).flags) ≡ compared c w x y
tells Below w x y flash left right g p q some ls rs b e f =
    let h = does_all flash (compares left right) g in
    carry_set h.flags ∙ (compares-tell flash left right g (q ∙ sym p) (omega (arith, p, some)) ls rs b).below
    ∙ ap (λ k. nat_lt k (number_in g right)) e ∙ ap (nat_lt (low w x)) f
tells Same w x y flash left right g p q some ls rs b e f =
    let h = does_all flash (compares left right) g in
    zero_set h.flags ∙ (compares-tell flash left right g (q ∙ sym p) (omega (arith, p, some)) ls rs b).equal
    ∙ ap (λ k. k == number_in g right) e ∙ ap (λ k. low w x == k) f
tells Less w x y flash left right g p q some ls rs b e f =
    let h = does_all flash (compares left right) g in
    sign_set h.flags ∙ compares-less flash left right g (q ∙ sym p) (omega (arith, p, some)) ls rs b
    ∙ ap (λ n. nat_lt (from_least n (number_in g left)) (from_least n (number_in g right))) p
    ∙ ap (λ k. nat_lt (from_least w k) (from_least w (number_in g right))) e ∙ ap (λ k. nat_lt (from_least w (low w x)) (from_least w k)) f
    ∙ signed_order w x y some

module _ (i : Places) (ok : (m : ℕ) → IsLayout (i.layouts m)) (m : ℕ) (frames : List (Frame State)) (e : Run) (deep : Type 0) where
  takes_compares : (live : ℕ → Bool) (s : State) (c : Comparison) (w x y : ℕ) (left right : List ℕ) (v : View) → length left ≡ w → length right ≡ w
      → 0 < w → AreRegisters left → AreRegisters right → number_in v.regs left ≡ low w x → number_in v.regs right ≡ low w y → Held i m live s frames v
      → Takes e deep v (compares left right) (Told i m live s frames v.out (told_by c) (compared c w x y))
  takes_compares live s c w x y left right v p q some ls rs a b k =
      let is = compares left right in
      let h = does_all e.flash is v.regs in
      let u : View = record v { regs = h } in
      let goal = Told i m live s frames v.out (told_by c) (compared c w x y) in
      takes_bytes e deep v is goal
      (λ bytes. takes_wider e deep v is (λ t. t ≡ u) goal
      (λ t put.
      let told = compares-tell e.flash left right v.regs (q ∙ sym p) (omega (arith, p, some)) ls rs bytes in
      subst goal (sym put)
      (record {
        lies =
            record {
              held = held_scratch i ok m frames live s v u refl (λ r reliable. told.registers r) (told.registers 1) k;
              out = refl;
            };
        tells = tells c w x y e.flash left right v.regs p q some ls rs bytes a b;
      }))
      (takes_plain e deep v is (compares-plain left right)))

  -- the right operand is found, and both are compared
  takes_apart : (live : ℕ → Bool) (s : State) (t : Test) (x y : ℕ) (v u : View) → 0 < t.width → t.width ≤ 4 → IsReady (i.layouts m) live t.left
      → IsReady (i.layouts m) live t.right → value t.right s ≡ Some y → (let left = found_in (i.layouts m) t.left 22 t.width in
      Found i m live s frames 22 t.width x left v u
      → Takes e deep u (compares_found false (i.layouts m) t left) (Told i m live s frames v.out (told_by t.comparison) (compared t.comparison t.width x y)))
  takes_apart live s t x y v u some small ready_left ready_right got_right f =
      let l = i.layouts m in
      let n = t.width in
      let left = found_in l t.left 22 n in
      let right = found_in l t.right 18 n in
      let goal = Told i m live s frames v.out (told_by t.comparison) (compared t.comparison n x y) in
      takes_then e deep u (finds l t.right 18 n) (compares left right) (Found i m live s frames 18 n y right u) goal
      (takes_finds i ok m frames e deep live s t.right 18 n y u ready_right got_right (omega arith) (omega arith) f.held)
      (λ q g.
      let same_out : q.out ≡ v.out = ap (λ (z : View). z.out) g.same ∙ ap (λ (z : View). z.out) f.same in
      let kept : number_in q.regs left ≡ number_in u.regs left =
      found_kept l (ok m) live t.left n u.regs q.regs ready_left small (λ r where_is. beyond q g.others r where_is) in
      subst (λ o. Takes e deep q (compares left right) (Told i m live s frames o (told_by t.comparison) (compared t.comparison n x y))) same_out
      (takes_compares live s t.comparison n x y left right q (found-length l t.left 22 n) (found-length l t.right 18 n) some
      (beside_registers 26 26 left (found-beside l (ok m) live t.left 22 n 26 26 ready_left (omega arith) (omega arith) (omega arith)))
      (beside_registers 22 22 right (found-beside l (ok m) live t.right 18 n 22 22 ready_right (omega arith) (omega arith) (omega arith)))
      (kept ∙ f.holds) g.holds g.held))
    where
      beyond : (q : View) → ((r : ℕ) → r < 30 → (r < 18) ⊎ (18 + t.width ≤ r) → q.regs.of r ≡ u.regs.of r)
          → (r : ℕ) → (r < 18) ⊎ ((22 ≤ r) × (r < 26)) → q.regs.of r ≡ u.regs.of r
      beyond q h r (inl lo) = h r (omega arith) (inl lo)
      beyond q h r (inr k) = let lo = k.0 in let hi = k.1 in h r (omega arith) (inr (omega arith))

  -- the left one is compared with zero, by what its bytes are together
  takes_joined : (live : ℕ → Bool) (s : State) (c : Comparison) (w x y : ℕ) (left : List ℕ) (v u : View) → are_free left ≡ true → number_in u.regs left ≡ low w x → is_same c ≡ true → low w y ≡ 0 → u.out ≡ v.out → Held i m live s frames u
      → Takes e deep u (joins_behind left) (Told i m live s frames v.out (told_by c) (compared c w x y))
  takes_joined live s Below w x y left v u free holds same none out k = absurd (let clash : false ≡ true = same in cc)
  takes_joined live s Less w x y left v u free holds same none out k = absurd (let clash : false ≡ true = same in cc)
  takes_joined live s Same w x y [] v u free holds same none out k = absurd (let clash : false ≡ true = free in cc)
  takes_joined live s Same w x y (r ∷ []) v u free holds same none out k = absurd (let clash : false ≡ true = free in cc)
  takes_joined live s Same w x y (r ∷ (b ∷ bs)) v u free holds same none out k =
      let is = joins (b ∷ bs) in
      let h = does_all e.flash is u.regs in
      let q : View = record u { regs = h } in
      let first : r ≡ 22 = grind (arith, free) in
      let others = joins-others e.flash (b ∷ bs) u.regs in
      let goal = Told i m live s frames v.out 1 (low w x == low w y) in
      takes_bytes e deep u is goal
      (λ bytes. takes_wider e deep u is (λ t. t ≡ q) goal
      (λ t put. subst goal (sym put)
      (record {
        lies =
            record {
              held = held_scratch i ok m frames live s u q refl (λ d reliable. others d (reliable_apart d reliable)) (others 1 (omega arith)) k;
              out = out;
            };
        tells =
            zero_set h.flags ∙ joins-tell e.flash b bs u.regs
            ∙ sym (zero_of_both (u.regs.of 22) (number_in u.regs (b ∷ bs)))
            ∙ ap (λ d. u.regs.of d + 256 * number_in u.regs (b ∷ bs) == 0) (sym first) ∙ ap (λ z. z == 0) holds ∙ ap (λ z. low w x == z) (sym none);
      }))
      (takes_plain e deep u is (joins-plain (b ∷ bs))))

  takes_compares_found : (joined : Bool) (live : ℕ → Bool) (s : State) (t : Test) (x y : ℕ) (v u : View) → 0 < t.width → t.width ≤ 4
      → IsReady (i.layouts m) live t.left → IsReady (i.layouts m) live t.right → value t.right s ≡ Some y
      → (let left = found_in (i.layouts m) t.left 22 t.width in
      is_joined t left ≡ joined → Found i m live s frames 22 t.width x left v u
      → Takes e deep u (compares_found joined (i.layouts m) t left) (Told i m live s frames v.out (told_by t.comparison) (compared t.comparison t.width x y)))
  takes_compares_found false live s t x y v u some small ready_left ready_right got_right is f =
      takes_apart live s t x y v u some small ready_left ready_right got_right f
  takes_compares_found true live s t x y v u some small ready_left ready_right got_right is f =
      let l = i.layouts m in
      let left = found_in l t.left 22 t.width in
      let one = both_true (is_same t.comparison) (is_zero t.right && are_free left) is in
      let two = both_true (is_zero t.right) (are_free left) one.1 in
      let none = zero_right t.right y two.0 got_right in
      takes_joined live s t.comparison t.width x y left v u two.1 f.holds one.0 (ap (low t.width) none ∙ low_none t.width) (ap (λ (z : View). z.out) f.same) f.held
    where
      zero_right : (a : Operand) (y : ℕ) → is_zero a ≡ true → value a s ≡ Some y → y ≡ 0
      zero_right (Local k) y h got = absurd (let clash : false ≡ true = h in cc)
      zero_right (Known z) y h got =
          let none : z ≡ 0 = grind (arith, h) in let same : z ≡ y = (let e1 : Some z ≡ Some y = got in cc) in sym same ∙ none

  pub takes_tests : (live : ℕ → Bool) (s : State) (t : Test) (x y : ℕ) (v : View) → 0 < t.width → t.width ≤ 4 → IsReady (i.layouts m) live t.left
      → IsReady (i.layouts m) live t.right → value t.left s ≡ Some x → value t.right s ≡ Some y → Held i m live s frames v
      → Takes e deep v (tests (i.layouts m) t) (Told i m live s frames v.out (told_by t.comparison) (compared t.comparison t.width x y))
  takes_tests live s t x y v some small ready_left ready_right got_left got_right k =
      let l = i.layouts m in
      let n = t.width in
      let left = found_in l t.left 22 n in
      let goal = Told i m live s frames v.out (told_by t.comparison) (compared t.comparison n x y) in
      takes_then e deep v (finds l t.left 22 n) (compares_found (is_joined t left) l t left) (Found i m live s frames 22 n x left v) goal
      (takes_finds i ok m frames e deep live s t.left 22 n x v ready_left got_left (omega arith) (omega arith) k)
      (λ u f. takes_compares_found (is_joined t left) live s t x y v u some small ready_left ready_right got_right refl f)

  -- ---- branches

  -- a branch near by
  goes_near : (o : Outside) (bit k to pc : ℕ) (wanted truth : Bool) (live : ℕ → Bool) (behind : Bool → ℕ → Bool) (s : State) (v : View) (t : MachineState)
      → ((b : Bool) → IsKept live (behind b)) → AllStandAt e.flash pc (near_branch bit wanted k) → pc + 1 < 65536 → near_from pc k ≡ to
      → Told i m live s frames o bit truth v → At e pc v t
      → Goes e deep 1 t (Branched e i m behind s frames o (is_taken wanted truth) to (pc + 1))
  goes_near o bit k to pc true truth live behind s v t kept stand room there told a =
      goes_wider e deep 1 t (At e (if truth then near_from pc k else pc + 1) v) (Branched e i m behind s frames o truth to (pc + 1))
      (λ u b. arrived truth u (subst (λ n. At e (if truth then n else pc + 1) v u) there b)) (goes_brbs e deep pc v t a bit k truth stand.0 told.tells room)
    where
      arrived : (b : Bool) (u : MachineState) → At e (if b then to else pc + 1) v u → Branched e i m behind s frames o b to (pc + 1) u
      arrived b u at =
          record { view = v; kind = record { held = held_fewer i m live (behind b) s frames v (kept b) told.lies.held; out = told.lies.out }; at = at }
  goes_near o bit k to pc false truth live behind s v t kept stand room there told a =
      goes_wider e deep 1 t (At e (if not truth then near_from pc k else pc + 1) v) (Branched e i m behind s frames o (not truth) to (pc + 1))
      (λ u b. arrived (not truth) u (subst (λ n. At e (if not truth then n else pc + 1) v u) there b))
      (goes_brbc e deep pc v t a bit k truth stand.0 told.tells room)
    where
      arrived : (b : Bool) (u : MachineState) → At e (if b then to else pc + 1) v u → Branched e i m behind s frames o b to (pc + 1) u
      arrived b u at =
          record { view = v; kind = record { held = held_fewer i m live (behind b) s frames v (kept b) told.lies.held; out = told.lies.out }; at = at }

  -- a branch past a jump, by whether the branch is taken
  goes_past : (to pc : ℕ) (taken : Bool) (v : View) (t : MachineState) (K : Bool → View → Type 0) → AllStandAt e.flash (pc + 1) (Jmp to ∷ []) → pc + 3 < 65536
      → to ≢ pc + 1 → K taken v → Goes e deep 1 t (At e (if not taken then near_from pc 2 else pc + 1) v)
      → Goes e deep 1 t (Sees e (K taken) (if taken then to else pc + 3))
  goes_past to pc true v t K stand room away k first =
      let goal = Sees e (K true) to in
      goes_fewer e deep (1 + 1) 1 t goal (omega arith)
      (goes_then e deep 1 1 t (At e (pc + 1) v) goal first
      (λ u b. goes_wider e deep 1 u (At e to v) goal (λ q c. record { view = v; kind = k; at = c }) (goes_jmp e deep (pc + 1) v u b to stand.0 away)))
  goes_past to pc false v t K stand room away k first =
      let over : near_from pc 2 ≡ pc + 3 = omega arith in
      goes_wider e deep 1 t (At e (near_from pc 2) v) (Sees e (K false) (pc + 3))
      (λ u b. record { view = v; kind = k; at = subst (λ n. At e n v u) over b }) first

  not_not : (b : Bool) → not (not b) ≡ b
  not_not true = refl
  not_not false = refl

  goes_far : (o : Outside) (bit to pc : ℕ) (wanted truth : Bool) (live : ℕ → Bool) (behind : Bool → ℕ → Bool) (s : State) (v : View) (t : MachineState)
      → ((b : Bool) → IsKept live (behind b)) → AllStandAt e.flash pc (far_branch bit wanted to) → pc + 3 < 65536 → to ≢ pc + 1
      → Told i m live s frames o bit truth v → At e pc v t
      → Goes e deep 1 t (Branched e i m behind s frames o (is_taken wanted truth) to (pc + 3))
  goes_far o bit to pc true truth live behind s v t kept stand room away told a =
      goes_past to pc truth v t (λ b. Lies i m (behind b) s frames o) stand.1 room away
      (record { held = held_fewer i m live (behind truth) s frames v (kept truth) told.lies.held; out = told.lies.out })
      (goes_brbc e deep pc v t a bit 2 truth stand.0 told.tells (omega arith))
  goes_far o bit to pc false truth live behind s v t kept stand room away told a =
      goes_past to pc (not truth) v t (λ b. Lies i m (behind b) s frames o) stand.1 room away
      (record { held = held_fewer i m live (behind (not truth)) s frames v (kept (not truth)) told.lies.held; out = told.lies.out })
      (subst (λ b. Goes e deep 1 t (At e (if b then near_from pc 2 else pc + 1) v)) (sym (not_not truth))
      (goes_brbs e deep pc v t a bit 2 truth stand.0 told.tells (omega arith)))

  -- a test with its branch
  pub goes_branch_near : (live : ℕ → Bool) (behind : Bool → ℕ → Bool) (s : State) (t : Test) (wanted : Bool) (x y k to pc : ℕ) (v : View) (q : MachineState)
      → 0 < t.width → t.width ≤ 4 → IsReady (i.layouts m) live t.left → IsReady (i.layouts m) live t.right → ((b : Bool) → IsKept live (behind b))
      → value t.left s ≡ Some x → value t.right s ≡ Some y → Held i m live s frames v
      → (let is = tests (i.layouts m) t in
      AllStandAt e.flash pc (is ++ near_branch (told_by t.comparison) wanted k) → pc + widths is + 1 < 65536 → near_from (pc + widths is) k ≡ to → At e pc v q
      → Goes e deep 1 q (Branched e i m behind s frames v.out (is_taken wanted (compared t.comparison t.width x y)) to (pc + widths is + 1)))
  goes_branch_near live behind s t wanted x y k to pc v q some small ready_left ready_right kept got_left got_right h stand room there a =
      let is = tests (i.layouts m) t in
      let js = near_branch (told_by t.comparison) wanted k in
      let truth = compared t.comparison t.width x y in
      let goal = Branched e i m behind s frames v.out (is_taken wanted truth) to (pc + widths is + 1) in
      goes_fewer e deep (length is + 1) 1 q goal (omega arith)
      (goes_then e deep (length is) 1 q (Sees e (Told i m live s frames v.out (told_by t.comparison) truth) (pc + widths is)) goal
      (takes_tests live s t x y v some small ready_left ready_right got_left got_right h pc q (front_stands e.flash pc is js stand) (omega arith) a)
      (λ u z. goes_near v.out (told_by t.comparison) k to (pc + widths is) wanted truth live behind s z.view u kept (back_stands e.flash pc is js stand) room there
      z.kind z.at))

  pub goes_branch_far : (live : ℕ → Bool) (behind : Bool → ℕ → Bool) (s : State) (t : Test) (wanted : Bool) (x y to pc : ℕ) (v : View) (q : MachineState)
      → 0 < t.width → t.width ≤ 4 → IsReady (i.layouts m) live t.left → IsReady (i.layouts m) live t.right → ((b : Bool) → IsKept live (behind b))
      → value t.left s ≡ Some x → value t.right s ≡ Some y → Held i m live s frames v
      → (let is = tests (i.layouts m) t in
      AllStandAt e.flash pc (is ++ far_branch (told_by t.comparison) wanted to) → pc + widths is + 3 < 65536 → to ≢ pc + widths is + 1 → At e pc v q
      → Goes e deep 1 q (Branched e i m behind s frames v.out (is_taken wanted (compared t.comparison t.width x y)) to (pc + widths is + 3)))
  goes_branch_far live behind s t wanted x y to pc v q some small ready_left ready_right kept got_left got_right h stand room away a =
      let is = tests (i.layouts m) t in
      let js = far_branch (told_by t.comparison) wanted to in
      let truth = compared t.comparison t.width x y in
      let goal = Branched e i m behind s frames v.out (is_taken wanted truth) to (pc + widths is + 3) in
      goes_fewer e deep (length is + 1) 1 q goal (omega arith)
      (goes_then e deep (length is) 1 q (Sees e (Told i m live s frames v.out (told_by t.comparison) truth) (pc + widths is)) goal
      (takes_tests live s t x y v some small ready_left ready_right got_left got_right h pc q (front_stands e.flash pc is js stand) (omega arith) a)
      (λ u z. goes_far v.out (told_by t.comparison) to (pc + widths is) wanted truth live behind s z.view u kept (back_stands e.flash pc is js stand) room away
      z.kind z.at))

  -- ---- jumps

  pub goes_jump_far : (live behind : ℕ → Bool) (s : State) (to pc : ℕ) (v : View) (q : MachineState) → IsKept live behind → Held i m live s frames v
      → StandsAt e.flash pc (Jmp to) → to ≢ pc → At e pc v q → Goes e deep 1 q (Sees e (Lies i m behind s frames v.out) to)
  goes_jump_far live behind s to pc v q kept h stand away a =
      goes_wider e deep 1 q (At e to v) (Sees e (Lies i m behind s frames v.out) to)
      (λ t b. record { view = v; kind = record { held = held_fewer i m live behind s frames v kept h; out = refl }; at = b })
      (goes_jmp e deep pc v q a to stand away)

  pub goes_jump_near : (live behind : ℕ → Bool) (s : State) (k to pc : ℕ) (v : View) (q : MachineState) → IsKept live behind → Held i m live s frames v
      → StandsAt e.flash pc (Rjmp k) → far_from pc k ≡ to → to ≢ pc → At e pc v q → Goes e deep 1 q (Sees e (Lies i m behind s frames v.out) to)
  goes_jump_near live behind s k to pc v q kept h stand there away a =
      goes_wider e deep 1 q (At e (far_from pc k) v) (Sees e (Lies i m behind s frames v.out) to)
      (λ t b. record {
        view = v;
        kind = record { held = held_fewer i m live behind s frames v kept h; out = refl };
        at = subst (λ n. At e n v t) there b;
      })
      (goes_rjmp e deep pc v q a k stand (subst (λ n. n ≢ pc) (sym there) away))
