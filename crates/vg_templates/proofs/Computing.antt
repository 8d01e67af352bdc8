-- Templates of computations that work byte by byte.
use Rattle.std.proofs.Common.{◌≡◌, ℕ, zero, suc, ◌+◌, ◌-◌, ◌*◌, ◌/◌, ◌%◌, ◌^◌, ◌≢◌, ◌<◌, ◌≤◌, ◌⊎◌, ◌==◌, ◌&&◌, ◌||◌, not, if◌then◌else◌, inl, inr, Bool, true, false, List, [], ◌∷◌, ◌++◌}
use Rattle.std.proofs.Common.{length, Option, Some, None, refl, sym, ap, ◌∙◌, subst, arith}
use Rattle.std.specs.Prelude.{bit_and, bit_or, bit_xor}
use Rattle.std.proofs.Math.Nat.{mod-lt}
use Rattle.avr_instr.specs.declared.instr.Instr.{Instr}
use Rattle.avr_isa.specs.Flags.{number as number_of}
use Rattle.vg_lin.specs.declared.instr.Operand.{Operand}
use Rattle.vg_lin.specs.declared.instr.Operand.TheVariants.{Local, Known}
use Rattle.vg_lin.specs.declared.instr.Operator.{Operator}
use Rattle.vg_lin.specs.declared.instr.Operator.TheVariants.{Plus, Minus, Times, Divide, Remainder, And, Or, Xor, ShiftLeft, ShiftRight}
use Rattle.vg_lin.specs.declared.instr.Computation.{Computation}
use Rattle.vg_lin.specs.Steps.{Frame}
use Rattle.vg_lin.specs.State.{State, value, sets}
use Rattle.vg_lin.specs.Values.{computed}
use Rattle.avr_view.specs.Registers.{Regs, does_all, ArePlain}
use Rattle.avr_view.specs.Run.{Run}
use Rattle.avr_view.specs.View.{View}
use Rattle.vg_templates.specs.Spots.{Spot, InFrame, InRegisters, Apart, number, value_at}
use Rattle.vg_templates.specs.Layouts.{Layout, IsLayout, IsSpot, IsOwned, Agree, width_of}
use Rattle.vg_templates.specs.Frames.{Places}
use Rattle.vg_templates.specs.Pieces.{Takes}
use Rattle.vg_templates.specs.Held.{Held, IsReady, IsSet, brings, gives, Brought, Given}
use Rattle.vg_templates.proofs.Composing.{takes_none, takes_then, takes_wider, takes_bytes}
use Rattle.vg_templates.proofs.Holding.{usable, held_scratch, takes_brings, takes_gives}
use Rattle.vg_templates.proofs.Settings.{with_local-beside}
use Rattle.vg_templates.proofs.Spotting.{IsClear, takes_fetch_clear}
use Rattle.vg_templates.proofs.Settling.{Made, home_is, tested_clear, held_own, takes_settles}
use Rattle.vg_templates.specs.Homes.{home_of, settles, IsHome}
use Rattle.vg_templates.specs.Transfers.{fetch}
use Rattle.vg_templates.specs.Transferred.{Fetched}
use Rattle.vg_templates.specs.Numbers.{number_in, HoldBytes, AreBeside}
use Rattle.vg_templates.specs.Chains.{adds_on, adds, subtracts_on, subtracts, takes_known_on, takes_known, ands, ors, eors}
use Rattle.vg_templates.specs.Chained.{Computed, Summed, Taken}
use Rattle.vg_templates.proofs.Sums.{adds-sums, subtracts-takes, takes_known-takes}
use Rattle.vg_templates.proofs.Logic.{ands-compute, ors-compute, eors-compute}
use Rattle.vg_templates.specs.Operands.{least, known_registers, spot_found, finds, found_in}
use Rattle.vg_templates.specs.Outcomes.{Found, Lies}
use Rattle.vg_templates.specs.Plain.{IsBytewise, is_bytewise, operates, works, works_with, stands, is_there, suits_left, suits_right, is_known, works_at, work_home, comes, computes_in, computes}
use Rattle.vg_templates.proofs.Bytes.{takes_plain_bytes, number_small, number_low, least_is, least_cut, cut_twice}
use Rattle.vg_templates.proofs.Remainders.{positive, plus_is, plus_known_is, minus_is, and_is, or_is, xor_is}
use Rattle.vg_templates.proofs.Finding.{found-length, found-beside, padded-beside, least_less, takes_finds}
use Rattle.vg_templates.proofs.Storing.{sets-same}

-- ---- chains are plain

adds_on-plain : (d : ℕ) (rs : List ℕ) → ArePlain (adds_on d rs)
adds_on-plain d [] = tt
adds_on-plain d (r ∷ rs) = (tt, adds_on-plain (suc d) rs)

adds-plain : (d : ℕ) (rs : List ℕ) → ArePlain (adds d rs)
adds-plain d [] = tt
adds-plain d (r ∷ rs) = (tt, adds_on-plain (suc d) rs)

subtracts_on-plain : (d : ℕ) (rs : List ℕ) → ArePlain (subtracts_on d rs)
subtracts_on-plain d [] = tt
subtracts_on-plain d (r ∷ rs) = (tt, subtracts_on-plain (suc d) rs)

subtracts-plain : (d : ℕ) (rs : List ℕ) → ArePlain (subtracts d rs)
subtracts-plain d [] = tt
subtracts-plain d (r ∷ rs) = (tt, subtracts_on-plain (suc d) rs)

known_on-plain : (d n v : ℕ) → ArePlain (takes_known_on d n v)
known_on-plain d zero v = tt
known_on-plain d (suc n) v = (tt, known_on-plain (suc d) n (v / 256))

known-plain : (d n v : ℕ) → ArePlain (takes_known d n v)
known-plain d zero v = tt
known-plain d (suc n) v = (tt, known_on-plain (suc d) n (v / 256))

ands-plain : (d : ℕ) (rs : List ℕ) → ArePlain (ands d rs)
ands-plain d [] = tt
ands-plain d (r ∷ rs) = (tt, ands-plain (suc d) rs)

ors-plain : (d : ℕ) (rs : List ℕ) → ArePlain (ors d rs)
ors-plain d [] = tt
ors-plain d (r ∷ rs) = (tt, ors-plain (suc d) rs)

eors-plain : (d : ℕ) (rs : List ℕ) → ArePlain (eors d rs)
eors-plain d [] = tt
eors-plain d (r ∷ rs) = (tt, eors-plain (suc d) rs)

some_same : (a b : ℕ) → Some a ≡ Some b → a ≡ b
some_same a b e = cc

low_small : (w n z : ℕ) → Some (n % 256 ^ w) ≡ Some z → z < 256 ^ w
low_small w n z e = subst (λ q. q < 256 ^ w) (some_same (n % 256 ^ w) z e) (mod-lt n (positive w))

computed_small : (o : Operator) (w x y z : ℕ) → IsBytewise o → computed o w x y ≡ Some z → z < 256 ^ w
computed_small Plus w x y z b e = low_small w (x + y) z e
computed_small Minus w x y z b e = low_small w (x + (256 ^ w - y % 256 ^ w)) z e
computed_small And w x y z b e = low_small w (bit_and x y) z e
computed_small Or w x y z b e = low_small w (bit_or x y) z e
computed_small Xor w x y z b e = low_small w (bit_xor x y) z e
computed_small Times w x y z b e = absurd b
computed_small Divide w x y z b e = absurd b
computed_small Remainder w x y z b e = absurd b
computed_small ShiftLeft w x y z b e = absurd b
computed_small ShiftRight w x y z b e = absurd b

least_bounds : (w n : ℕ) → 0 < w → 0 < n → (0 < least w n) × (least w n ≤ w) × (least w n ≤ n)
least_bounds w n p q = elim (least_is w n) [
  | inl h ↦ (omega (arith, h.0), omega (arith, h.0), omega (arith, h.0, h.1))
  | inr h ↦ (omega (arith, h.0), omega (arith, h.0, h.1), omega (arith, h.0))
]

-- a number is kept where its registers are
pub number_kept : (old new : Regs) (r n : ℕ) → ((x : ℕ) → r ≤ x → x < r + n → new.of x ≡ old.of x) → number new r n ≡ number old r n
number_kept old new r zero h = refl
number_kept old new r (suc n) h =
    let one = h r (omega arith) (omega arith) in
    let rest = number_kept old new (suc r) n (λ x lo hi. h x (omega arith) (omega arith)) in
    omega (arith, one, rest)

-- r22 and those behind it hold a number, and the procedure lies as before
record Worked (i : Places) (m : ℕ) (live : ℕ → Bool) (s : State) (frames : List (Frame State)) (n z : ℕ) (old new : View) : Type 0 where
  pub held : Held i m live s frames new
  pub holds : number new.regs 22 n ≡ z
  pub out : new.out ≡ old.out

-- so many registers from d on hold a number, and nothing else has changed
record Blocked (d n z : ℕ) (old new : View) : Type 0 where
  pub made : Computed d n z old.regs new.regs
  pub same : new ≡ record old { regs = new.regs }

module _ (i : Places) (ok : (m : ℕ) → IsLayout (i.layouts m)) (m : ℕ) (frames : List (Frame State)) (e : Run) (deep : Type 0) where
  -- a plain block that works in r22 to r25
  takes_block : (live : ℕ → Bool) (s : State) (is : List Instr) (n z : ℕ) (v : View) → ArePlain is → n ≤ 4
      → (HoldBytes v.regs → HoldBytes (does_all e.flash is v.regs) → Computed 22 n z v.regs (does_all e.flash is v.regs))
      → Held i m live s frames v → Takes e deep v is (Worked i m live s frames n z v)
  takes_block live s is n z v plain small does k =
      let u : View = record v { regs = does_all e.flash is v.regs } in
      takes_bytes e deep v is (Worked i m live s frames n z v)
      (λ bytes. takes_wider e deep v is (λ t. (t ≡ u) × ((d : ℕ) → d < 32 → t.regs.of d < 256)) (Worked i m live s frames n z v)
      (λ t put. subst (Worked i m live s frames n z v) (sym put.0) (worked (does bytes (subst (λ (y : View). HoldBytes y.regs) put.0 put.1))))
      (takes_plain_bytes e deep v is plain))
    where
      worked : Computed 22 n z v.regs (does_all e.flash is v.regs) → Worked i m live s frames n z v (record v { regs = does_all e.flash is v.regs })
      worked c =
          record {
            held =
                held_scratch i ok m frames live s v (record v { regs = does_all e.flash is v.regs }) refl (agree c) (c.others 1 (inl (omega arith))) k;
            holds = c.holds;
            out = refl;
          }
        where
          agree : Computed 22 n z v.regs (does_all e.flash is v.regs) → Agree v.regs (does_all e.flash is v.regs)
          agree c r (inl h) = let top = h.1 in c.others r (inl (omega arith))
          agree c r (inr h) = let low = h.0 in c.others r (inr (omega arith))

  takes_blocked : (is : List Instr) (d n z : ℕ) (v : View) → ArePlain is
      → (HoldBytes v.regs → HoldBytes (does_all e.flash is v.regs) → Computed d n z v.regs (does_all e.flash is v.regs))
      → Takes e deep v is (Blocked d n z v)
  takes_blocked is d n z v plain does =
      let u : View = record v { regs = does_all e.flash is v.regs } in
      takes_bytes e deep v is (Blocked d n z v)
      (λ bytes. takes_wider e deep v is (λ t. (t ≡ u) × ((r : ℕ) → r < 32 → t.regs.of r < 256)) (Blocked d n z v)
      (λ t put. subst (Blocked d n z v) (sym put.0)
      (record { made = does bytes (subst (λ (y : View). HoldBytes y.regs) put.0 put.1); same = refl }))
      (takes_plain_bytes e deep v is plain))

  -- an operation with registers of a right number
  takes_chain : (o : Operator) (d w n x y z : ℕ) (rs : List ℕ) (v : View) → d + n ≤ 32 → 0 < n → n ≤ w
      → length rs ≡ n → AreBeside d (d + n) rs → IsBytewise o → computed o w x y ≡ Some z → number v.regs d n ≡ x % 256 ^ n
      → number_in v.regs rs ≡ y % 256 ^ n → Takes e deep v (operates d o rs) (Blocked d n (z % 256 ^ n) v)
  takes_chain Plus d w n x y z rs v high some less long beside bytewise got left right =
      takes_blocked (adds d rs) d n (z % 256 ^ n) v (adds-plain d rs)
      (λ b after.
      let h = does_all e.flash (adds d rs) v.regs in
      let sum : Summed d n (number v.regs d n) (number_in v.regs rs) 0 v.regs h =
      subst (λ c. Summed d c (number v.regs d c) (number_in v.regs rs) 0 v.regs h) long
      (adds-sums e.flash d (d + n) (omega arith) d rs v.regs (omega arith) (omega (arith, long)) beside b (omega (arith, long, some))) in
      let total = sum.sum ∙ ap (λ q. q + number_in v.regs rs + 0) left ∙ ap (λ q. x % 256 ^ n + q + 0) right in
      record {
        holds = plus_is (number h d n) x y w n h.flags.carry (number_small h d n (λ r lo hi. after r (omega arith))) less total ∙ ap (λ q. q % 256 ^ n) (some_same _ z got);
        others = sum.others;
      })
  takes_chain Minus d w n x y z rs v high some less long beside bytewise got left right =
      takes_blocked (subtracts d rs) d n (z % 256 ^ n) v (subtracts-plain d rs)
      (λ b after.
      let h = does_all e.flash (subtracts d rs) v.regs in
      let taken : Taken d n (number v.regs d n) (number_in v.regs rs) 0 v.regs h =
      subst (λ c. Taken d c (number v.regs d c) (number_in v.regs rs) 0 v.regs h) long
      (subtracts-takes e.flash d (d + n) (omega arith) d rs v.regs (omega arith) (omega (arith, long)) beside b (omega (arith, long, some))) in
      let total = sym (ap (λ q. number h d n + (q + 0)) right) ∙ taken.difference ∙ ap (λ q. q + 256 ^ n * number_of h.flags.carry) left in
      record {
        holds = minus_is (number h d n) x y w n h.flags.carry (number_small h d n (λ r lo hi. after r (omega arith))) less total ∙ ap (λ q. q % 256 ^ n) (some_same _ z got);
        others = taken.others;
      })
  takes_chain And d w n x y z rs v high some less long beside bytewise got left right =
      takes_blocked (ands d rs) d n (z % 256 ^ n) v (ands-plain d rs)
      (λ b after.
      let h = does_all e.flash (ands d rs) v.regs in
      let made : Computed d n (bit_and (number v.regs d n) (number_in v.regs rs)) v.regs h =
      subst (λ c. Computed d c (bit_and (number v.regs d c) (number_in v.regs rs)) v.regs h) long
      (ands-compute e.flash d (d + n) (omega arith) d rs v.regs (omega arith) (omega (arith, long)) beside b) in
      let total = made.holds ∙ ap (λ q. bit_and q (number_in v.regs rs)) left ∙ ap (bit_and (x % 256 ^ n)) right in
      record { holds = and_is (number h d n) x y w n less total ∙ ap (λ q. q % 256 ^ n) (some_same _ z got); others = made.others })
  takes_chain Or d w n x y z rs v high some less long beside bytewise got left right =
      takes_blocked (ors d rs) d n (z % 256 ^ n) v (ors-plain d rs)
      (λ b after.
      let h = does_all e.flash (ors d rs) v.regs in
      let made : Computed d n (bit_or (number v.regs d n) (number_in v.regs rs)) v.regs h =
      subst (λ c. Computed d c (bit_or (number v.regs d c) (number_in v.regs rs)) v.regs h) long
      (ors-compute e.flash d (d + n) (omega arith) d rs v.regs (omega arith) (omega (arith, long)) beside b) in
      let total = made.holds ∙ ap (λ q. bit_or q (number_in v.regs rs)) left ∙ ap (bit_or (x % 256 ^ n)) right in
      record { holds = or_is (number h d n) x y w n less total ∙ ap (λ q. q % 256 ^ n) (some_same _ z got); others = made.others })
  takes_chain Xor d w n x y z rs v high some less long beside bytewise got left right =
      takes_blocked (eors d rs) d n (z % 256 ^ n) v (eors-plain d rs)
      (λ b after.
      let h = does_all e.flash (eors d rs) v.regs in
      let made : Computed d n (bit_xor (number v.regs d n) (number_in v.regs rs)) v.regs h =
      subst (λ c. Computed d c (bit_xor (number v.regs d c) (number_in v.regs rs)) v.regs h) long
      (eors-compute e.flash d (d + n) (omega arith) d rs v.regs (omega arith) (omega (arith, long)) beside b) in
      let total = made.holds ∙ ap (λ q. bit_xor q (number_in v.regs rs)) left ∙ ap (bit_xor (x % 256 ^ n)) right in
      record { holds = xor_is (number h d n) x y w n less total ∙ ap (λ q. q % 256 ^ n) (some_same _ z got); others = made.others })
  takes_chain Times d w n x y z rs v high some less long beside bytewise got left right = absurd bytewise
  takes_chain Divide d w n x y z rs v high some less long beside bytewise got left right = absurd bytewise
  takes_chain Remainder d w n x y z rs v high some less long beside bytewise got left right = absurd bytewise
  takes_chain ShiftLeft d w n x y z rs v high some less long beside bytewise got left right = absurd bytewise
  takes_chain ShiftRight d w n x y z rs v high some less long beside bytewise got left right = absurd bytewise

  takes_operates : (live : ℕ → Bool) (s : State) (o : Operator) (w n x y z : ℕ) (rs : List ℕ) (v : View) → n ≤ 4 → 0 < n → n ≤ w
      → length rs ≡ n → AreBeside 22 (22 + n) rs → IsBytewise o → computed o w x y ≡ Some z → number v.regs 22 n ≡ x % 256 ^ n
      → number_in v.regs rs ≡ y % 256 ^ n → Held i m live s frames v
      → Takes e deep v (operates 22 o rs) (Worked i m live s frames n (z % 256 ^ n) v)
  takes_operates live s o w n x y z rs v small some less long beside bytewise got left right k =
      takes_wider e deep v (operates 22 o rs) (Blocked 22 n (z % 256 ^ n) v) (Worked i m live s frames n (z % 256 ^ n) v)
      (λ t c. record {
        held = held_scratch i ok m frames live s v t c.same (agree t c.made) (c.made.others 1 (inl (omega arith))) k;
        holds = c.made.holds;
        out = ap (λ (q : View). q.out) c.same;
      })
      (takes_chain o 22 w n x y z rs v (omega arith) some less long beside bytewise got left right)
    where
      agree : (t : View) → Computed 22 n (z % 256 ^ n) v.regs t.regs → Agree v.regs t.regs
      agree t c r (inl h) = let top = h.1 in c.others r (inl (omega arith))
      agree t c r (inr h) = let low = h.0 in c.others r (inr (omega arith))

  -- the right operand comes in, and is worked with
  takes_finds_works : (live : ℕ → Bool) (s : State) (o : Operator) (a : Operand) (w n x y z : ℕ) (v : View) → IsReady (i.layouts m) live a → n ≤ 4
      → 0 < n → n ≤ w → IsBytewise o → value a s ≡ Some y → computed o w x y ≡ Some z → number v.regs 22 n ≡ x % 256 ^ n
      → Held i m live s frames v
      → Takes e deep v (finds (i.layouts m) a 18 n ++ operates 22 o (found_in (i.layouts m) a 18 n)) (Worked i m live s frames n (z % 256 ^ n) v)
  takes_finds_works live s o a w n x y z v ready small some less bytewise got is left k =
      let l = i.layouts m in
      let rs = found_in l a 18 n in
      let goal = Worked i m live s frames n (z % 256 ^ n) v in
      takes_then e deep v (finds l a 18 n) (operates 22 o rs) (Found i m live s frames 18 n y rs v) goal
      (takes_finds i ok m frames e deep live s a 18 n y v ready got (omega arith) (omega arith) k)
      (λ u f.
      let still : number u.regs 22 n ≡ number v.regs 22 n = number_kept v.regs u.regs 22 n (λ r lo hi. f.others r (omega arith) (inr (omega arith))) in
      takes_wider e deep u (operates 22 o rs) (Worked i m live s frames n (z % 256 ^ n) u) goal
      (λ t done. record { held = done.held; holds = done.holds; out = done.out ∙ ap (λ (q : View). q.out) f.same })
      (takes_operates live s o w n x y z rs u small some less (found-length l a 18 n) (found-beside l (ok m) live a 18 n 22 (22 + n) ready (omega arith) (omega arith) (omega arith))
      bytewise is (still ∙ left) f.holds f.held))

  takes_works : (live : ℕ → Bool) (s : State) (o : Operator) (a : Operand) (w n x y z : ℕ) (v : View) → IsReady (i.layouts m) live a → n ≤ 4
      → 0 < n → n ≤ w → IsBytewise o → value a s ≡ Some y → computed o w x y ≡ Some z → number v.regs 22 n ≡ x % 256 ^ n
      → Held i m live s frames v → Takes e deep v (works (i.layouts m) o a n) (Worked i m live s frames n (z % 256 ^ n) v)
  takes_works live s Plus (Known b) w n x y z v ready small some less bytewise got is left k =
      let p = 256 ^ n in
      let c = p - b % p in
      takes_block live s (takes_known 22 n c) n (z % p) v (known-plain 22 n c) small
      (λ bytes after.
      let h = does_all e.flash (takes_known 22 n c) v.regs in
      let taken = takes_known-takes e.flash 0 32 (omega arith) 22 n c v.regs (omega arith) bytes some in
      let total = taken.difference ∙ ap (λ q. q + p * number_of h.flags.carry) left in
      let result = plus_known_is (number h 22 n) x b w n h.flags.carry (number_small h 22 n (λ r lo hi. after r (omega arith))) less total in
      record {
        holds = result ∙ ap (λ q. (x + q) % 256 ^ w % p) (some_same b y got) ∙ ap (λ q. q % p) (some_same _ z is);
        others = taken.others;
      })
      k
  takes_works live s Minus (Known b) w n x y z v ready small some less bytewise got is left k =
      let p = 256 ^ n in
      takes_block live s (takes_known 22 n b) n (z % p) v (known-plain 22 n b) small
      (λ bytes after.
      let h = does_all e.flash (takes_known 22 n b) v.regs in
      let taken = takes_known-takes e.flash 0 32 (omega arith) 22 n b v.regs (omega arith) bytes some in
      let total = taken.difference ∙ ap (λ q. q + p * number_of h.flags.carry) left in
      let result = minus_is (number h 22 n) x b w n h.flags.carry (number_small h 22 n (λ r lo hi. after r (omega arith))) less total in
      record {
        holds = result ∙ ap (λ q. (x + (256 ^ w - q % 256 ^ w)) % 256 ^ w % p) (some_same b y got) ∙ ap (λ q. q % p) (some_same _ z is);
        others = taken.others;
      })
      k
  takes_works live s Plus (Local j) w n x y z v ready small some less bytewise got is left k =
      takes_finds_works live s Plus (Local j) w n x y z v ready small some less bytewise got is left k
  takes_works live s Minus (Local j) w n x y z v ready small some less bytewise got is left k =
      takes_finds_works live s Minus (Local j) w n x y z v ready small some less bytewise got is left k
  takes_works live s And a w n x y z v ready small some less bytewise got is left k =
      takes_finds_works live s And a w n x y z v ready small some less bytewise got is left k
  takes_works live s Or a w n x y z v ready small some less bytewise got is left k =
      takes_finds_works live s Or a w n x y z v ready small some less bytewise got is left k
  takes_works live s Xor a w n x y z v ready small some less bytewise got is left k =
      takes_finds_works live s Xor a w n x y z v ready small some less bytewise got is left k
  takes_works live s Times a w n x y z v ready small some less bytewise got is left k = absurd bytewise
  takes_works live s Divide a w n x y z v ready small some less bytewise got is left k = absurd bytewise
  takes_works live s Remainder a w n x y z v ready small some less bytewise got is left k = absurd bytewise
  takes_works live s ShiftLeft a w n x y z v ready small some less bytewise got is left k = absurd bytewise
  takes_works live s ShiftRight a w n x y z v ready small some less bytewise got is left k = absurd bytewise

  -- a computation in scratch registers
  takes_computes_scratch : (live behind : ℕ → Bool) (s : State) (c : Computation) (x y z : ℕ) (v : View) → IsBytewise c.operator → 0 < c.width
      → 0 < width_of (i.layouts m) c.to → IsReady (i.layouts m) live c.left → IsReady (i.layouts m) live c.right → IsSet (i.layouts m) live behind c.to
      → value c.left s ≡ Some x → value c.right s ≡ Some y → computed c.operator c.width x y ≡ Some z → Held i m live s frames v
      → Takes e deep v (computes_in (i.layouts m) c None (least c.width (width_of (i.layouts m) c.to))) (Lies i m behind (sets c.to z s) frames v.out)
  takes_computes_scratch live behind s c x y z v bytewise wide wide' ready_left ready_right can got_left got_right is k =
      let l = i.layouts m in
      let wt = width_of l c.to in
      let n = least c.width wt in
      let narrow = (ok m).narrow c.to can.there in
      let sizes = least_bounds c.width wt wide wide' in
      let rest = works l c.operator c.right n ++ gives l c.to 22 n in
      let goal = Lies i m behind (sets c.to z s) frames v.out in
      let z_small = computed_small c.operator c.width x y z bytewise is in
      takes_then e deep v (brings l c.left 22 n) rest (Brought i m live s frames 22 n x v) goal
      (takes_brings i ok m frames e deep live s c.left 22 n x v ready_left got_left (omega arith) (omega (arith, sizes.2, narrow)) k)
      (λ u b. takes_then e deep u (works l c.operator c.right n) (gives l c.to 22 n) (Worked i m live s frames n (z % 256 ^ n) u) goal
      (takes_works live s c.operator c.right c.width n x y z u ready_right (omega (arith, sizes.2, narrow)) sizes.0 sizes.1 bytewise got_right is b.fetched.holds b.held)
      (λ t done. takes_wider e deep t (gives l c.to 22 n) (Given i m behind (sets c.to (number t.regs 22 n) s) frames t) goal
      (λ q g.
      let same : sets c.to (number t.regs 22 n) s ≡ sets c.to z s =
      sets-same l s c.to (number t.regs 22 n) z k.stacked.fits.widths
      (ap (λ r. r % 256 ^ wt) done.holds ∙ ap (λ r. r % 256 ^ wt) (least_cut z c.width wt z_small) ∙ cut_twice z wt wt (omega arith)) in
      record {
        held = subst (λ r. Held i m behind r frames q) same g.held;
        out = g.out ∙ done.out ∙ ap (λ (r : View). r.out) b.fetched.same;
      })
      (takes_gives i ok m frames e deep live behind s c.to 22 n t can (omega arith) (omega (arith, sizes.2, narrow)) done.held)))

-- ---- computations in registers of the local that gets the result

pub both_rest : (a b c : Bool) → (a && b && c) ≡ true → (b ≡ true) × (c ≡ true)
both_rest true true true e = (refl, refl)
both_rest true true false e = absurd (let clash : false ≡ true = e in cc)
both_rest true false c e = absurd (let clash : false ≡ true = e in cc)
both_rest false b c e = absurd (let clash : false ≡ true = e in cc)

pub left_suits : (a b c : Bool) → (a || (not b && c)) ≡ true → a ≡ false → c ≡ true
left_suits true b c e f = absurd (let clash : true ≡ false = f in cc)
left_suits false true c e f = absurd (let clash : false ≡ true = e in cc)
left_suits false false c e f = e

stands_is : (p : Spot) (w r n : ℕ) → stands p w r n ≡ true → (p ≡ InRegisters r) × (n ≤ w)
stands_is (InFrame at) w r n e = absurd (let clash : false ≡ true = e in cc)
stands_is (InRegisters f) w r n e = (ap InRegisters (let same : f ≡ r = grind (arith, e) in same), grind (arith, e))

apart_clear : (p : Spot) (w r n : ℕ) → IsClear p w r n → Apart (InRegisters r) n p w
apart_clear (InFrame at) w r n h = tt
apart_clear (InRegisters f) w r n h = h

known_above : (low high d n v : ℕ) → 1 < low → high ≤ d → d + n ≤ 32 → AreBeside low high (known_registers d n v)
known_above low high d zero v one k top = tt
known_above low high d (suc n) v one k top = (by_byte (v % 256 == 0), known_above low high (suc d) n (v / 256) one (omega arith) (omega arith))
  where
    by_byte : (b : Bool) → (((if b then 1 else d) < low) ⊎ (high ≤ (if b then 1 else d))) × ((if b then 1 else d) < 32)
    by_byte true = (inl one, omega arith)
    by_byte false = (inr k, omega arith)

found_clear : (l : Layout) → IsLayout l → (live : ℕ → Bool) (a : Operand) (r n w : ℕ) → IsReady l live a → n ≤ 4 → n ≤ w → 2 ≤ r → r + w ≤ 18
    → suits_right l a r w ≡ true → AreBeside r (r + n) (found_in l a 18 n)
found_clear l ok live (Known x) r n w ready few less up low e = known_above r (r + n) 18 n x (omega arith) (omega arith) (omega arith)
found_clear l ok live (Local j) r n w ready few less up low e =
    at (l.spots j) (width_of l j) (ok.spot j ready.0) (tested_clear (l.spots j) (width_of l j) r w e)
  where
    at : (p : Spot) (v : ℕ) → IsSpot l p v → IsClear p v r w → AreBeside r (r + n) (spot_found p v 18 n)
    at (InFrame q) v spot clear =
        let short = (least_less v n).1 in padded-beside r (r + n) 18 v n (omega arith) (inr (inr (omega arith))) (omega arith)
    at (InRegisters f) v spot (inl before) =
        let inside = spot.1 in let short = (least_less v n).0 in padded-beside r (r + n) f v n (omega arith) (inr (inl before)) (omega arith)
    at (InRegisters f) v spot (inr past) =
        let inside = spot.1 in let short = (least_less v n).0 in padded-beside r (r + n) f v n (omega arith) (inr (inr (omega arith))) (omega arith)

-- the right operand is still there where the local has any value
record Prepared (l : Layout) (live : ℕ → Bool) (a : Operand) (to y : ℕ) (s : State) : Type 0 where
  pub behind : ℕ → Bool
  pub can : IsSet l live behind to
  pub ready : IsReady l behind a
  pub got : (z : ℕ) → value a (sets to z s) ≡ Some y

prepared : (l : Layout) (live : ℕ → Bool) (a : Operand) (to r y : ℕ) (s : State) → to < length l.widths → l.spots to ≡ InRegisters r
    → 0 < width_of l to → IsReady l live a → suits_right l a r (width_of l to) ≡ true → value a s ≡ Some y → Prepared l live a to y s
prepared l live (Known b) to r y s there is wide ready e got =
    record {
      behind = λ k. false;
      can = record { there = there; others = λ k alive ne. absurd (let clash : false ≡ true = alive in cc) };
      ready = tt;
      got = λ z. got;
    }
prepared l live (Local j) to r y s there is wide ready e got =
    record {
      behind = λ k. k == j;
      can = record { there = there; others = λ k alive ne. others k (let same : k ≡ j = grind (arith, alive) in same) };
      ready = (ready.0, same_number j);
      got = λ z. with_local-beside s.locals to z j other ∙ got;
    }
  where
    clear : IsClear (l.spots j) (width_of l j) r (width_of l to)
    clear = tested_clear (l.spots j) (width_of l j) r (width_of l to) e

    same_number : (n : ℕ) → (n == n) ≡ true
    same_number n = grind arith

    never : (w : ℕ) → 0 < w → IsClear (InRegisters r) w r w → ⊥
    never w some (inl h) = omega arith
    never w some (inr h) = omega arith

    other : j ≢ to
    other same =
        never (width_of l to) wide
        (subst (λ p. IsClear p (width_of l to) r (width_of l to)) is (subst (λ n. IsClear (l.spots n) (width_of l n) r (width_of l to)) same clear))

    others : (k : ℕ) → k ≡ j → (live k ≡ true) × Apart (l.spots to) (width_of l to) (l.spots k) (width_of l k)
    others k same =
        subst (λ n. (live n ≡ true) × Apart (l.spots to) (width_of l to) (l.spots n) (width_of l n)) (sym same)
        (ready.1, subst (λ p. Apart p (width_of l to) (l.spots j) (width_of l j)) (sym is) (apart_clear (l.spots j) (width_of l j) r (width_of l to) clear))

module _ (i : Places) (ok : (m : ℕ) → IsLayout (i.layouts m)) (m : ℕ) (frames : List (Frame State)) (e : Run) (deep : Type 0) where
  -- the left operand comes, unless it is there
  takes_comes : (live : ℕ → Bool) (s : State) (a : Operand) (r n x : ℕ) (v : View) (there : Bool) → IsReady (i.layouts m) live a → 2 ≤ r → r + n ≤ 18
      → is_there (i.layouts m) a r n ≡ there → (there ≡ false → suits_left (i.layouts m) a r n ≡ true) → value a s ≡ Some x
      → Held i m live s frames v → Takes e deep v (comes there (i.layouts m) a r n) (Fetched r n x v)
  takes_comes live s (Known b) r n x v true ready up low is suits got k = absurd (let clash : false ≡ true = is in cc)
  takes_comes live s (Known b) r n x v false ready up low is suits got k = absurd (let clash : false ≡ true = suits refl in cc)
  takes_comes live s (Local j) r n x v true ready up low is suits got k =
      let l = i.layouts m in
      let w = width_of l j in
      let standing = stands_is (l.spots j) w r n is in
      let inside = (subst (λ p. IsSpot l p w) standing.0 ((ok m).spot j ready.0)).1 in
      let value_is : number v.regs r w ≡ x =
      ap (λ p. value_at p w k.stacked.own v.regs) (sym standing.0) ∙ k.stacked.fits.each j x ready.0 ready.1 got in
      let least_n : least w n ≡ n =
      (let less = standing.1 in elim (least_is w n) [ inl h ↦ omega (arith, h.0, h.1) | inr h ↦ h.0 ]) in
      takes_bytes e deep v [] (Fetched r n x v)
      (λ bytes. takes_none e deep v (Fetched r n x v)
      (record {
        others = λ y small beside. refl;
        holds =
            ap (number v.regs r) (sym least_n) ∙ number_low v.regs r w n (λ y lo hi. bytes y (omega (arith, hi, inside)))
            ∙ ap (λ q. q % 256 ^ least w n) value_is ∙ ap (λ q. x % 256 ^ q) least_n;
        same = refl;
      }))
  takes_comes live s (Local j) r n x v false ready up low is suits got k =
      let l = i.layouts m in
      let t = k.stacked in
      let p = l.spots j in
      let w = width_of l j in
      let value_is : value_at p w t.own v.regs ≡ x = t.fits.each j x ready.0 ready.1 got in
      subst (λ q. Takes e deep v (fetch p w r n) (Fetched r n q v)) value_is
      (takes_fetch_clear e deep p w r n v t.wait t.own t.under t.cut (usable l p w t.own t.under v ((ok m).spot j ready.0) t.points t.fits.long)
      ((ok m).narrow j ready.0) up (omega arith) (tested_clear p w r n (suits refl)) k.r1)

  takes_computes_home : (live behind : ℕ → Bool) (s : State) (c : Computation) (n r x y z : ℕ) (v : View) → IsBytewise c.operator → 0 < n → n ≤ c.width
      → n ≤ 4 → 0 < width_of (i.layouts m) c.to → IsReady (i.layouts m) live c.left → IsReady (i.layouts m) live c.right
      → IsSet (i.layouts m) live behind c.to → value c.left s ≡ Some x → value c.right s ≡ Some y → computed c.operator c.width x y ≡ Some z
      → IsHome (i.layouts m) c.to n (Some r) → works_at (i.layouts m) c r n ≡ true → Held i m live s frames v
      → Takes e deep v (computes_in (i.layouts m) c (Some r) n) (Lies i m behind (sets c.to (z % 256 ^ n) s) frames v.out)
  takes_computes_home live behind s c n r x y z v bytewise some less few wide ready_left ready_right can got_left got_right is home works k =
      let l = i.layouts m in
      let w = width_of l c.to in
      let spot = subst (λ p. IsSpot l p w) home.0 ((ok m).spot c.to can.there) in
      let up = spot.0 in
      let inside = spot.1 in
      let short = home.1 in
      let there = is_there l c.left r n in
      let parts = both_rest (is_bytewise c.operator) (suits_right l c.right r w) (there || (not (is_known c.right) && suits_left l c.left r n)) works in
      let rs = found_in l c.right 18 n in
      let middle = works_with l r c.operator c.right n in
      let last = settles l c.to (Some r) n in
      let goal = Lies i m behind (sets c.to (z % 256 ^ n) s) frames v.out in
      let K = λ (q : View). Made r n (z % 256 ^ n) v q × (q.out ≡ v.out) in
      let p = prepared l live c.right c.to r y s can.there home.0 wide ready_right parts.0 got_right in
      takes_then e deep v (comes there l c.left r n) (middle ++ last) (Fetched r n x v) goal
      (takes_comes live s c.left r n x v there ready_left up (omega arith) refl
      (left_suits there (is_known c.right) (suits_left l c.left r n) parts.1) got_left k)
      (λ u f. takes_bytes e deep u (middle ++ last) goal
      (λ bytes.
      let s' = sets c.to (number u.regs r w) s in
      let held : Held i m p.behind s' frames u =
      held_own i ok m frames live p.behind s c.to r v u p.can home.0 k bytes
      (λ q kind beside. f.others q (low q kind) (nearer r n w q short beside)) f.same in
      takes_then e deep u middle last K goal
      (takes_then e deep u (finds l c.right 18 n) (operates r c.operator rs) (Found i m p.behind s' frames 18 n y rs u) K
      (takes_finds i ok m frames e deep p.behind s' c.right 18 n y u p.ready (p.got (number u.regs r w)) (omega arith) (omega arith) held)
      (λ t g.
      let left : number t.regs r n ≡ x % 256 ^ n =
      number_kept u.regs t.regs r n (λ q lo hi. g.others q (omega (arith, hi, short, inside)) (inl (omega (arith, hi, short, inside)))) ∙ f.holds in
      takes_wider e deep t (operates r c.operator rs) (Blocked r n (z % 256 ^ n) t) K
      (λ q b. (
        record {
          others = λ o kind beside.
              b.made.others o beside ∙ g.others o (low o kind) (scratch n o few kind) ∙ f.others o (low o kind) beside;
          holds = b.made.holds;
          stack = ap (λ (a : View). a.stack) b.same ∙ ap (λ (a : View). a.stack) g.same ∙ ap (λ (a : View). a.stack) f.same;
          static = ap (λ (a : View). a.static) b.same ∙ ap (λ (a : View). a.static) g.same ∙ ap (λ (a : View). a.static) f.same;
        },
        ap (λ (a : View). a.out) b.same ∙ ap (λ (a : View). a.out) g.same ∙ ap (λ (a : View). a.out) f.same,
      ))
      (takes_chain i ok m frames e deep c.operator r c.width n x y z rs t (omega arith) some less (found-length l c.right 18 n)
      (found_clear l (ok m) live c.right r n w ready_right few short up inside parts.0) bytewise is left g.holds)))
      (λ t made. takes_wider e deep t last (Lies i m behind (sets c.to (z % 256 ^ n) s) frames t.out) goal
      (λ q g. record { held = g.held; out = g.out ∙ made.1 })
      (takes_settles i ok m frames e deep live behind s c.to n (z % 256 ^ n) (Some r) v t can home few k made.0))))
    where
      low : (q : ℕ) → (q ≡ 1) ⊎ IsOwned q → q < 30
      low q (inl one) = omega arith
      low q (inr (inl h)) = let top = h.1 in omega arith
      low q (inr (inr h)) = h.1

      nearer : (r n w q : ℕ) → n ≤ w → (q < r) ⊎ (r + w ≤ q) → (q < r) ⊎ (r + n ≤ q)
      nearer r n w q less (inl h) = inl h
      nearer r n w q less (inr h) = inr (omega arith)

      scratch : (n q : ℕ) → n ≤ 4 → (q ≡ 1) ⊎ IsOwned q → (q < 18) ⊎ (18 + n ≤ q)
      scratch n q few (inl one) = inl (omega arith)
      scratch n q few (inr (inl h)) = inl h.1
      scratch n q few (inr (inr h)) = let up = h.0 in inr (omega arith)

  pub takes_computes : (live behind : ℕ → Bool) (s : State) (c : Computation) (x y z : ℕ) (v : View) → IsBytewise c.operator → 0 < c.width
      → 0 < width_of (i.layouts m) c.to → IsReady (i.layouts m) live c.left → IsReady (i.layouts m) live c.right → IsSet (i.layouts m) live behind c.to
      → value c.left s ≡ Some x → value c.right s ≡ Some y → computed c.operator c.width x y ≡ Some z → Held i m live s frames v
      → Takes e deep v (computes (i.layouts m) c) (Lies i m behind (sets c.to z s) frames v.out)
  takes_computes live behind s c x y z v bytewise wide wide' ready_left ready_right can got_left got_right is k =
      by_home (home_of (i.layouts m) c.to (least c.width (width_of (i.layouts m) c.to)))
      (home_is (i.layouts m) c.to (least c.width (width_of (i.layouts m) c.to)))
    where
      l : Layout
      l = i.layouts m

      n : ℕ
      n = least c.width (width_of l c.to)

      goal : View → Type 0
      goal = Lies i m behind (sets c.to z s) frames v.out

      in_scratch : Takes e deep v (computes_in l c None n) goal
      in_scratch =
          takes_computes_scratch i ok m frames e deep live behind s c x y z v bytewise wide wide' ready_left ready_right can got_left got_right is k

      in_home : (r : ℕ) → IsHome l c.to n (Some r) → works_at l c r n ≡ true → Takes e deep v (computes_in l c (Some r) n) goal
      in_home r home works =
          let sizes = least_bounds c.width (width_of l c.to) wide wide' in
          let narrow = (ok m).narrow c.to can.there in
          let w = width_of l c.to in
          takes_wider e deep v (computes_in l c (Some r) n) (Lies i m behind (sets c.to (z % 256 ^ n) s) frames v.out) goal
          (λ q g. record {
            held =
                subst (λ a. Held i m behind a frames q)
                (sets-same l s c.to (z % 256 ^ n) z k.stacked.fits.widths
                (ap (λ a. a % 256 ^ w) (least_cut z c.width w (computed_small c.operator c.width x y z bytewise is)) ∙ cut_twice z w w (omega arith))) g.held;
            out = g.out;
          })
          (takes_computes_home live behind s c n r x y z v bytewise sizes.0 sizes.1 (omega (arith, sizes.2, narrow)) wide' ready_left ready_right can
          got_left got_right is home works k)

      by_home : (h : Option ℕ) → IsHome l c.to n h → Takes e deep v (computes_in l c (work_home l c n h) n) goal
      by_home None home = in_scratch
      by_home (Some r) home = by_test (works_at l c r n) refl
        where
          by_test : (b : Bool) → works_at l c r n ≡ b → Takes e deep v (computes_in l c (if b then Some r else None) n) goal
          by_test true works = in_home r home works
          by_test false works = in_scratch
