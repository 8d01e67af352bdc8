-- How bytes of a frame are reached, loaded and stored.
use Rattle.std.proofs.Common.{◌≡◌, ℕ, zero, suc, ◌+◌, ◌-◌, ◌*◌, ◌/◌, ◌%◌, ◌<◌, ◌≤◌, Bool, true, false, List, ◌∷◌, ◌++◌}
use Rattle.std.proofs.Common.{length, refl, sym, ap, ◌∙◌, subst, arith, slice_index, slice_set}
use Rattle.std.proofs.lemmas.List.{set-append_left, set-append_right, length-set}
use Rattle.avr_instr.specs.declared.instr.Instr.TheVariants.{Ldd, Std}
use Rattle.avr_instr.specs.declared.operand.Base.{Base}
use Rattle.avr_instr.specs.declared.operand.Base.TheVariants.{Y, Z}
use Rattle.avr_isa.specs.Access.{low_of}
use Rattle.avr_view.specs.Memory.{OnStack}
use Rattle.avr_view.specs.Registers.{Regs, pair, put, does_all}
use Rattle.avr_view.specs.Run.{Run}
use Rattle.avr_view.specs.View.{View}
use Rattle.avr_view.proofs.MemorySteps.{goes_ldd, goes_std}
use Rattle.vg_templates.specs.Spots.{number, put_number, read, written}
use Rattle.vg_templates.proofs.Numbers.{put_other, put_same}
use Rattle.vg_templates.proofs.Arguments.{read-front, read-back}
use Rattle.vg_templates.proofs.Linking.{borrowed}
use Rattle.vg_templates.specs.Pieces.{Takes}
use Rattle.vg_templates.specs.Transfers.{clears, loads, stores, reach_by}
use Rattle.vg_templates.proofs.Composing.{takes_none, takes_next, takes_wider, takes_bytes, takes_plain}
use Rattle.vg_templates.proofs.Moving.{clears-plain, clears-put, put_digits}

-- ---- a number among the bytes of the stack

pub read_within : (wait own under : List ℕ) (at w : ℕ) → at + w ≤ length own → read (wait ++ (own ++ under)) (length wait + at) w ≡ read own at w
read_within wait own under at w h = read-back wait (own ++ under) (length wait) at w refl ∙ read-front own under at w h

written-front : (xs ys : List ℕ) (at w v : ℕ) → at + w ≤ length xs → written (xs ++ ys) at w v ≡ written xs at w v ++ ys
written-front xs ys at zero v h = refl
written-front xs ys at (suc w) v h =
    let same = length-set xs at (v % 256) in
    ap (λ l. written l (suc at) w (v / 256)) (set-append_left xs ys at (v % 256) (omega arith))
    ∙ written-front (slice_set xs at (v % 256)) ys (suc at) w (v / 256) (omega (arith, same))

written-back : (xs ys : List ℕ) (n at w v : ℕ) → length xs ≡ n → written (xs ++ ys) (n + at) w v ≡ xs ++ written ys at w v
written-back xs ys n at zero v e = refl
written-back xs ys n at (suc w) v e =
    let same : n + at - n ≡ at = omega arith in
    let there : suc (n + at) ≡ n + suc at = omega arith in
    ap (λ l. written l (suc (n + at)) w (v / 256))
    (set-append_right xs ys n (n + at) (v % 256) e (omega arith) ∙ ap (λ k. xs ++ slice_set ys k (v % 256)) same)
    ∙ ap (λ k. written (xs ++ slice_set ys at (v % 256)) k w (v / 256)) there
    ∙ written-back xs (slice_set ys at (v % 256)) n (suc at) w (v / 256) e

pub written_within : (wait own under : List ℕ) (at w v : ℕ) → at + w ≤ length own
    → written (wait ++ (own ++ under)) (length wait + at) w v ≡ wait ++ (written own at w v ++ under)
written_within wait own under at w v h =
    written-back wait (own ++ under) (length wait) at w v refl ∙ ap (λ l. wait ++ l) (written-front own under at w v h)

pub written_digits : (l : List ℕ) (at w x y : ℕ) → x < 256 → written (slice_set l at x) (suc at) w y ≡ written l at (suc w) (x + 256 * y)
written_digits l at w x y h =
    let low : x ≡ (x + 256 * y) % 256 = omega arith in
    let high : y ≡ (x + 256 * y) / 256 = omega arith in
    ap (λ k. written (slice_set l at k) (suc at) w y) low ∙ ap (λ k. written (slice_set l at ((x + 256 * y) % 256)) (suc at) w k) high

-- ---- pointers

pointer_still : (b : Base) (g : Regs) (d x : ℕ) → d < 28 → pair (put g d x) (low_of b) ≡ pair g (low_of b)
pointer_still Y g d x h =
    let low = put_other g d x 28 (omega arith) in let high = put_other g d x 29 (omega arith) in omega (arith, low, high)
pointer_still Z g d x h =
    let low = put_other g d x 30 (omega arith) in let high = put_other g d x 31 (omega arith) in omega (arith, low, high)

-- behind the code that reaches a byte, the pointer with its displacement is its address
pub record Reached (b : Base) (q at : ℕ) (old new : View) : Type 0 where
  pub others : (x : ℕ) → x < 30 → new.regs.of x ≡ old.regs.of x
  pub pointer : pair new.regs (low_of b) + q ≡ pair old.regs 28 + suc at
  pub same : new ≡ record old { regs = new.regs }

both_past : (g : Regs) (a b x : ℕ) → x < 30 → (put (put g 30 a) 31 b).of x ≡ g.of x
both_past g a b x h = put_other (put g 30 a) 31 b x (omega arith) ∙ put_other g 30 a x (omega arith)

module _ (e : Run) (deep : Type 0) where
  pub takes_reach : (near middle : Bool) (at : ℕ) (v : View) → (near ≡ false → middle ≡ true → 60 ≤ suc at) → pair v.regs 28 + suc at < 65536
      → (let r = reach_by near middle at in
      Takes e deep v r.code (Reached r.base r.displacement at v))
  takes_reach true middle at v h low = takes_none e deep v (Reached Y (suc at) at v) (record { others = λ x k. refl; pointer = refl; same = refl })
  takes_reach false true at v h low =
      let is = (reach_by false true at).code in
      let far = h refl refl in
      takes_bytes e deep v is (Reached Z (suc at - 60) at v)
      (λ small. takes_wider e deep v is (λ u. u ≡ record v { regs = does_all e.flash is v.regs }) (Reached Z (suc at - 60) at v)
      (λ u k. subst (Reached Z (suc at - 60) at v) (sym k) (middle_way small far)) (takes_plain e deep v is (tt, (tt, tt))))
    where
      middle_way : ((d : ℕ) → d < 32 → v.regs.of d < 256) → 60 ≤ suc at
          → Reached Z (suc at - 60) at v (record v { regs = does_all e.flash (reach_by false true at).code v.regs })
      middle_way small far =
          let a = small 28 (omega arith) in
          let b = small 29 (omega arith) in
          record {
            others = λ x k. both_past (put (put v.regs 30 (v.regs.of 28)) 31 (v.regs.of 29)) _ _ x k ∙ both_past v.regs _ _ x k;
            pointer = omega arith;
            same = refl;
          }
  takes_reach false false at v h low =
      let is = (reach_by false false at).code in
      takes_bytes e deep v is (Reached Z 0 at v)
      (λ small. takes_wider e deep v is (λ u. u ≡ record v { regs = does_all e.flash is v.regs }) (Reached Z 0 at v)
      (λ u k. subst (Reached Z 0 at v) (sym k) (long_way small)) (takes_plain e deep v is (tt, (tt, (tt, tt)))))
    where
      long_way : ((d : ℕ) → d < 32 → v.regs.of d < 256) → Reached Z 0 at v (record v { regs = does_all e.flash (reach_by false false at).code v.regs })
      long_way small =
          let a = small 28 (omega arith) in
          let b = small 29 (omega arith) in
          let sum = borrowed (v.regs.of 28) (v.regs.of 29) (65535 - at) a b (omega arith) in
          record {
            others = λ x k. both_past (put (put v.regs 30 (v.regs.of 28)) 31 (v.regs.of 29)) _ _ x k ∙ both_past v.regs _ _ x k;
            pointer = omega (arith, sum);
            same = refl;
          }

  -- ---- loads and stores

  pub takes_loads : (b : Base) (q d w n j : ℕ) (v : View) → 2 ≤ d → d + n ≤ 28 → v.regs.of 1 ≡ 0
      → pair v.regs (low_of b) + q + length v.stack ≡ 0x1100 + j → j + w ≤ length v.stack
      → Takes e deep v (loads b q d w n) (λ u. u ≡ record v { regs = put_number v.regs d n (read v.stack j w) })
  takes_loads b q d zero n j v low top zero' there inside =
      takes_wider e deep v (clears d n) (λ u. u ≡ record v { regs = does_all e.flash (clears d n) v.regs })
      (λ u. u ≡ record v { regs = put_number v.regs d n 0 })
      (λ u k. k ∙ ap (λ g. record v { regs = g }) (clears-put e.flash d n v.regs zero' (omega arith))) (takes_plain e deep v (clears d n) (clears-plain d n))
  takes_loads b q d (suc w) zero j v low top zero' there inside = takes_none e deep v (λ u. u ≡ v) refl
  takes_loads b q d (suc w) (suc n) j v low top zero' there inside =
      let x = slice_index v.stack j in
      let u : View = record v { regs = put v.regs d x } in
      let rest = loads b (suc q) (suc d) w n in
      let value = read v.stack (suc j) w in
      let goal = λ (t : View). t ≡ record v { regs = put_number v.regs d (suc n) (x + 256 * value) } in
      let pointer = pointer_still b v.regs d x (omega arith) in
      takes_next e deep v u (Ldd d b q) rest goal
      (λ pc s stand room a. goes_ldd e deep pc v s a d b q (OnStack j) stand room (omega arith, there))
      (takes_bytes e deep u rest goal
      (λ small. takes_wider e deep u rest (λ t. t ≡ record u { regs = put_number u.regs (suc d) n value }) goal
      (λ t k. k ∙ ap (λ g. record v { regs = g })
      (put_digits v.regs d n x value (subst (λ y. y < 256) (put_same v.regs d x) (small d (omega arith)))))
      (takes_loads b (suc q) (suc d) w n (suc j) u (omega arith) (omega arith) (put_other v.regs d x 1 (omega arith) ∙ zero')
      (omega (arith, there, pointer)) (omega arith))))

  pub takes_stores : (b : Base) (q r w n j : ℕ) (v : View) → r + n ≤ 32 → v.regs.of 1 ≡ 0
      → pair v.regs (low_of b) + q + length v.stack ≡ 0x1100 + j → j + w ≤ length v.stack
      → Takes e deep v (stores b q r w n) (λ u. u ≡ record v { stack = written v.stack j w (number v.regs r n) })
  takes_stores b q r zero n j v top zero' there inside = takes_none e deep v (λ u. u ≡ v) refl
  takes_stores b q r (suc w) zero j v top zero' there inside =
      let x = v.regs.of 1 in
      let u : View = record v { stack = slice_set v.stack j x } in
      let rest = stores b (suc q) r w zero in
      let goal = λ (t : View). t ≡ record v { stack = written v.stack j (suc w) 0 } in
      let same = length-set v.stack j x in
      takes_next e deep v u (Std b q 1) rest goal
      (λ pc s stand room a. goes_std e deep pc v s a b q 1 (OnStack j) stand room (omega arith, there))
      (takes_wider e deep u rest (λ t. t ≡ record u { stack = written u.stack (suc j) w 0 }) goal
      (λ t k. k ∙ ap (λ y. record v { stack = written (slice_set v.stack j y) (suc j) w 0 }) zero')
      (takes_stores b (suc q) r w zero (suc j) u top zero' (omega (arith, there, same)) (omega (arith, same))))
  takes_stores b q r (suc w) (suc n) j v top zero' there inside =
      let x = v.regs.of r in
      let u : View = record v { stack = slice_set v.stack j x } in
      let rest = stores b (suc q) (suc r) w n in
      let value = number v.regs (suc r) n in
      let goal = λ (t : View). t ≡ record v { stack = written v.stack j (suc w) (x + 256 * value) } in
      let same = length-set v.stack j x in
      takes_bytes e deep v (Std b q r ∷ rest) goal
      (λ small. takes_next e deep v u (Std b q r) rest goal
      (λ pc s stand room a. goes_std e deep pc v s a b q r (OnStack j) stand room (omega arith, there))
      (takes_wider e deep u rest (λ t. t ≡ record u { stack = written u.stack (suc j) w value }) goal
      (λ t k. k ∙ ap (λ l. record v { stack = l }) (written_digits v.stack j w x value (small r (omega arith))))
      (takes_stores b (suc q) (suc r) w n (suc j) u (omega arith) zero' (omega (arith, there, same)) (omega (arith, same)))))
