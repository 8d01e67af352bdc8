-- Values that come without their low bytes.
use Rattle.std.proofs.Common.{◌≡◌, ℕ, zero, suc, ◌+◌, ◌-◌, ◌*◌, ◌/◌, ◌%◌, ◌^◌, ◌<◌, ◌≤◌, ◌⊎◌, inl, inr, Bool, true, false, ◌&&◌, ◌||◌, nat_lt, nat_le}
use Rattle.std.proofs.Common.{if◌then◌else◌, Option, Some, None, List, [], ◌++◌, length, slice_index, refl, sym, ap, ◌∙◌, subst, arith, length-append}
use Rattle.std.proofs.Math.Nat.{pow-suc, pow-le-pow_right, div-eq_of_lt, mod-lt}
use Rattle.std.proofs.Math.Arith.{mod-mul}
use Rattle.std.proofs.lemmas.Nat.{pow-add}
use Rattle.avr_instr.specs.declared.instr.Instr.{Instr}
use Rattle.vg_lin.specs.declared.instr.Operand.{Operand}
use Rattle.vg_lin.specs.declared.instr.Operand.TheVariants.{Local, Known}
use Rattle.vg_lin.specs.Steps.{Frame}
use Rattle.vg_lin.specs.State.{State, value}
use Rattle.avr_view.specs.Registers.{Regs}
use Rattle.avr_view.specs.Run.{Run}
use Rattle.avr_view.specs.View.{View}
use Rattle.vg_templates.specs.Spots.{Spot, InFrame, InRegisters, number, put_number, read, value_at}
use Rattle.vg_templates.specs.Layouts.{Layout, IsLayout, IsSpot, width_of}
use Rattle.vg_templates.specs.Frames.{Places}
use Rattle.vg_templates.specs.Pieces.{Takes}
use Rattle.vg_templates.specs.Transfers.{known, moves, reach, loads}
use Rattle.vg_templates.specs.Transferred.{IsUsable, Fetched}
use Rattle.vg_templates.specs.Held.{Held, IsReady}
use Rattle.vg_templates.specs.Homes.{made_in, IsHome}
use Rattle.vg_templates.specs.Operands.{least}
use Rattle.vg_templates.specs.Plain.{stands, is_there}
use Rattle.vg_templates.specs.Shifts.{fetch_above, brings_above, stays, is_clear_above, suits_above, shift_home}
use Rattle.vg_templates.proofs.Composing.{takes_none, takes_then, takes_wider, takes_bytes}
use Rattle.vg_templates.proofs.Bytes.{takes_cells, number_small, number_low, read_small, least_is}
use Rattle.vg_templates.proofs.Accessing.{Reached, takes_reach, takes_loads, read_within}
use Rattle.vg_templates.proofs.Spotting.{fetched_put, middle_far, takes_known, takes_fetch_clear}
use Rattle.vg_templates.proofs.Holding.{usable}
use Rattle.vg_templates.proofs.Remainders.{positive}
use Rattle.vg_followed.proofs.Bits.{high_part}

-- ---- numbers

-- a number in two parts
pub number_parts : (g : Regs) (r a b : ℕ) → number g r (a + b) ≡ number g r a + 256 ^ a * number g (r + a) b
number_parts g r zero b =
    let here : r ≡ r + 0 = omega arith in
    let count : 0 + b ≡ b = omega arith in
    let one : number g (r + 0) b ≡ 0 + 256 ^ 0 * number g (r + 0) b = omega arith in
    ap (λ k. number g r k) count ∙ ap (λ k. number g k b) here ∙ one
number_parts g r (suc a) b =
    let p = 256 ^ a in
    let power = pow-suc 256 a in
    let next : suc r + a ≡ r + suc a = omega arith in
    let rest : number g (suc r) (a + b) ≡ number g (suc r) a + p * number g (r + suc a) b =
    number_parts g (suc r) a b ∙ ap (λ k. number g (suc r) a + p * number g k b) next in
    let high = number g (r + suc a) b in
    let low = number g (suc r) a in
    let spread : g.of r + 256 * (low + p * high) ≡ g.of r + 256 * low + p * 256 * high = grind arith in
    let count : suc a + b ≡ suc (a + b) = omega arith in
    ap (λ k. number g r k) count ∙ ap (λ k. g.of r + 256 * k) rest ∙ spread ∙ ap (λ k. g.of r + 256 * low + k * high) (sym power)

read_parts : (l : List ℕ) (r a b : ℕ) → read l r (a + b) ≡ read l r a + 256 ^ a * read l (r + a) b
read_parts l r zero b =
    let here : r ≡ r + 0 = omega arith in
    let count : 0 + b ≡ b = omega arith in
    let one : read l (r + 0) b ≡ 0 + 256 ^ 0 * read l (r + 0) b = omega arith in
    ap (λ k. read l r k) count ∙ ap (λ k. read l k b) here ∙ one
read_parts l r (suc a) b =
    let p = 256 ^ a in
    let power = pow-suc 256 a in
    let x = slice_index l r in
    let next : suc r + a ≡ r + suc a = omega arith in
    let rest : read l (suc r) (a + b) ≡ read l (suc r) a + p * read l (r + suc a) b =
    read_parts l (suc r) a b ∙ ap (λ k. read l (suc r) a + p * read l k b) next in
    let high = read l (r + suc a) b in
    let low = read l (suc r) a in
    let spread : x + 256 * (low + p * high) ≡ x + 256 * low + p * 256 * high = grind arith in
    let count : suc a + b ≡ suc (a + b) = omega arith in
    ap (λ k. read l r k) count ∙ ap (λ k. x + 256 * k) rest ∙ spread ∙ ap (λ k. x + 256 * low + k * high) (sym power)

-- what stands above low bytes is a quotient
number_above : (g : Regs) (r w k : ℕ) → k ≤ w → ((x : ℕ) → r ≤ x → x < r + w → g.of x < 256) → number g (r + k) (w - k) ≡ number g r w / 256 ^ k
number_above g r w k less bytes =
    let whole : w ≡ k + (w - k) = omega (arith, less) in
    high_part (number g r k) (256 ^ k) (number g (r + k) (w - k)) (number g r w) (number_small g r k (λ x lo hi. bytes x lo (omega (arith, hi, less))))
    (sym (ap (λ n. number g r n) whole ∙ number_parts g r k (w - k)))

read_above : (l : List ℕ) (at w k : ℕ) → k ≤ w → ((j : ℕ) → j < length l → slice_index l j < 256) → at + w ≤ length l
    → read l (at + k) (w - k) ≡ read l at w / 256 ^ k
read_above l at w k less bytes inside =
    let whole : w ≡ k + (w - k) = omega (arith, less) in
    high_part (read l at k) (256 ^ k) (read l (at + k) (w - k)) (read l at w) (read_small l at k bytes (omega (arith, inside, less)))
    (sym (ap (λ n. read l at n) whole ∙ read_parts l at k (w - k)))

-- of a number of so many bytes no more can be dropped
none_left : (x w k : ℕ) → x < 256 ^ w → w ≤ k → x / 256 ^ w ≡ x / 256 ^ k
none_left x w k small less =
    let power = pow-le-pow_right {n = 256} (omega arith) less in
    div-eq_of_lt small ∙ sym (div-eq_of_lt (let h : x < 256 ^ k = omega (arith, small, power) in h))

pub dropped_is : (x w k : ℕ) → x < 256 ^ w → x / 256 ^ least k w ≡ x / 256 ^ k
dropped_is x w k small = elim (least_is k w) [ inl h ↦ ap (λ j. x / 256 ^ j) h.0 | inr h ↦ ap (λ j. x / 256 ^ j) h.0 ∙ none_left x w k small h.1 ]

-- low bytes of a quotient are the quotient of low bytes
pub cut_above : (x k n : ℕ) → x / 256 ^ k % 256 ^ n ≡ x % 256 ^ (k + n) / 256 ^ k
cut_above x k n =
    let p = 256 ^ k in
    let q = 256 ^ n in
    let turned : p * q ≡ q * p = grind arith in
    let power : 256 ^ (k + n) ≡ q * p = pow-add 256 k n ∙ turned in
    let parts : x % (q * p) ≡ x / p % q * p + x % p = mod-mul x (positive n) (positive k) in
    let sum : x % p + p * (x / p % q) ≡ x % (q * p) = (let e : x % p + p * (x / p % q) ≡ x / p % q * p + x % p = grind arith in e) ∙ sym parts in
    high_part (x % p) p (x / p % q) (x % (q * p)) (mod-lt x (positive k)) sum ∙ ap (λ j. x % j / p) (sym power)

-- ---- places

-- no byte of a spot, but so many low ones, is among so many registers
abbrev pub IsClearAbove : Spot → (width dropped first count : ℕ) → Type 0
IsClearAbove (InFrame at) w k d n = Unit {0}
IsClearAbove (InRegisters r) w k d n = (r + w ≤ d) ⊎ (d + n ≤ r + k)

abbrev pub CanCome : Layout → Operand → (dropped first count : ℕ) → Type 0
CanCome l (Local j) k d n = IsClearAbove (l.spots j) (width_of l j) (least k (width_of l j)) d n
CanCome l (Known x) k d n = Unit {0}

tested_above : (s : Spot) (w k d n : ℕ) → is_clear_above s w k d n ≡ true → IsClearAbove s w k d n
tested_above (InFrame at) w k d n e = tt
tested_above (InRegisters f) w k d n e = by_test (nat_le (f + w) d) refl
  where
    by_test : (b : Bool) → nat_le (f + w) d ≡ b → (f + w ≤ d) ⊎ (d + n ≤ f + k)
    by_test true q = inl (grind (arith, q))
    by_test false q = inr (grind (arith, q, e))

suits_come : (l : Layout) (a : Operand) (k d n : ℕ) → suits_above l a k d n ≡ true → CanCome l a k d n
suits_come l (Local j) k d n e = tested_above (l.spots j) (width_of l j) (least k (width_of l j)) d n e
suits_come l (Known x) k d n e = tt

scratch_above : (l : Layout) (s : Spot) (w k d n : ℕ) → 22 ≤ d → IsSpot l s w → IsClearAbove s w k d n
scratch_above l (InFrame at) w k d n low spot = tt
scratch_above l (InRegisters f) w k d n low spot = let inside = spot.1 in inl (omega arith)

scratch_come : (l : Layout) → IsLayout l → (live : ℕ → Bool) (a : Operand) (k d n : ℕ) → 22 ≤ d → IsReady l live a → CanCome l a k d n
scratch_come l ok live (Local j) k d n low ready = scratch_above l (l.spots j) (width_of l j) (least k (width_of l j)) d n low (ok.spot j ready.0)
scratch_come l ok live (Known x) k d n low ready = tt

pub home_is : (l : Layout) (to m : ℕ) (a : Operand) (n k z c : ℕ) (h : Option ℕ) → IsHome l to m h → IsHome l to m (shift_home l a n k z c h)
home_is l to m a n k z c None is = tt
home_is l to m a n k z c (Some r) is = by_test (stays l a n (r + z) c || suits_above l a k (r + z) c)
  where
    by_test : (b : Bool) → IsHome l to m (if b then Some r else None)
    by_test true = is
    by_test false = tt

or_else : (a b : Bool) → (a || b) ≡ true → a ≡ false → b ≡ true
or_else true b e f = absurd (let clash : true ≡ false = f in cc)
or_else false b e f = e

-- where the operand does not stand in the home, it can come there
pub home_suits : (l : Layout) → IsLayout l → (live : ℕ → Bool) (a : Operand) (n k z c : ℕ) (h : Option ℕ) → IsReady l live a
    → (let d = made_in (shift_home l a n k z c h) + z in stays l a n d c ≡ false → CanCome l a k d c)
home_suits l ok live a n k z c None ready = λ e. scratch_come l ok live a k (22 + z) c (omega arith) ready
home_suits l ok live a n k z c (Some r) ready = by_test (stays l a n (r + z) c || suits_above l a k (r + z) c) refl
  where
    by_test : (b : Bool) → (stays l a n (r + z) c || suits_above l a k (r + z) c) ≡ b
        → (let d = made_in (if b then Some r else None) + z in stays l a n d c ≡ false → CanCome l a k d c)
    by_test true q e = suits_come l a k (r + z) c (or_else (stays l a n (r + z) c) (suits_above l a k (r + z) c) q e)
    by_test false q e = scratch_come l ok live a k (22 + z) c (omega arith) ready

-- bytes that stand in registers are bytes of a local there
stands_is : (p : Spot) (w r n : ℕ) → stands p w r n ≡ true → (p ≡ InRegisters r) × (n ≤ w)
stands_is (InFrame at) w r n e = absurd (let clash : false ≡ true = e in cc)
stands_is (InRegisters f) w r n e = (ap InRegisters (let same : f ≡ r = grind (arith, e) in same), grind (arith, e))

-- an operand that stays has bits to be shifted by, and no whole bytes
pub record Staying (l : Layout) (a : Operand) (n d c : ℕ) : Type 0 where
  pub some : 0 < n
  pub few : n < 8
  pub there : is_there l a d c ≡ true

pub staying : (l : Layout) (a : Operand) (n d c : ℕ) → stays l a n d c ≡ true → Staying l a n d c
staying l a n d c e = by_some (nat_lt 0 n) refl (nat_lt n 8) refl e
  where
    by_some : (b : Bool) → nat_lt 0 n ≡ b → (q : Bool) → nat_lt n 8 ≡ q → (b && (q && is_there l a d c)) ≡ true → Staying l a n d c
    by_some true f true g h = record { some = grind (arith, f); few = grind (arith, g); there = h }
    by_some true f false g h = absurd (let clash : false ≡ true = h in cc)
    by_some false f q g h = absurd (let clash : false ≡ true = h in cc)

-- ---- what the code sees

module _ (e : Run) (deep : Type 0) where
  -- a value at a spot comes without its low bytes
  takes_fetch_above : (s : Spot) (w k d n : ℕ) (v : View) (wait own under : List ℕ) → v.stack ≡ wait ++ (own ++ under) → IsUsable s w own under v → w ≤ 4
      → k ≤ w → 2 ≤ d → d + n ≤ 28 → IsClearAbove s w k d n → v.regs.of 1 ≡ 0
      → Takes e deep v (fetch_above s w k d n) (Fetched d n (value_at s w own v.regs / 256 ^ k) v)
  takes_fetch_above (InRegisters r) w k d n v wait own under cut can small less low top clear zero' =
      let is = moves (r + k) d (w - k) n in
      let up = can.0 in
      let inside = can.1 in
      takes_bytes e deep v is (Fetched d n (number v.regs r w / 256 ^ k) v)
      (λ bytes. subst (λ y. Takes e deep v is (Fetched d n y v)) (number_above v.regs r w k less (λ x lo hi. bytes x (omega (arith, hi, inside))))
      (takes_fetch_clear e deep (InRegisters (r + k)) (w - k) d n v wait own under cut (omega (arith, up), omega (arith, inside, less))
      (omega (arith, small)) low top (beyond clear) zero'))
    where
      beyond : (r + w ≤ d) ⊎ (d + n ≤ r + k) → (r + k + (w - k) ≤ d) ⊎ (d + n ≤ r + k)
      beyond (inl h) = inl (omega (arith, h, less))
      beyond (inr h) = inr h
  takes_fetch_above (InFrame at) w k d n v wait own under cut can small less low top clear zero' =
      let (base, inside) = can in
      let r = reach at w in
      let value = read own at w / 256 ^ k in
      let sizes = length-append own under in
      let goal = Fetched d n value v in
      let last = loads r.base (r.displacement + k) d (w - k) n in
      let from = length wait + at + k in
      takes_then e deep v r.code last (Reached r.base r.displacement at v) goal
      (takes_reach e deep (nat_lt (at + w) 64) (nat_lt (at + w) 124) at v (λ far middle. middle_far at w small far) (omega (arith, base, sizes)))
      (λ u reached.
      let same_stack : u.stack ≡ wait ++ (own ++ under) = ap (λ (t : View). t.stack) reached.same ∙ cut in
      let long : length u.stack ≡ length wait + length (own ++ under) = ap length same_stack ∙ length-append wait (own ++ under) in
      let pointer = reached.pointer in
      takes_cells e deep u last goal
      (λ cells.
      let read_is : read u.stack from (w - k) ≡ value =
      read_above u.stack (length wait + at) w k less cells (omega (arith, long, sizes, inside))
      ∙ ap (λ l. read l (length wait + at) w / 256 ^ k) same_stack ∙ ap (λ y. y / 256 ^ k) (read_within wait own under at w inside) in
      takes_wider e deep u last (λ t. t ≡ record u { regs = put_number u.regs d n (read u.stack from (w - k)) }) goal
      (λ t is_put.
      let f = fetched_put u t d n value (is_put ∙ ap (λ x. record u { regs = put_number u.regs d n x }) read_is) in
      record {
        others = λ x low' beside. f.others x low' beside ∙ reached.others x low';
        holds = f.holds;
        same = f.same ∙ ap (λ (y : View). record y { regs = t.regs }) reached.same;
      })
      (takes_loads e deep r.base (r.displacement + k) d (w - k) n from u low top (reached.others 1 (omega arith) ∙ zero')
      (omega (arith, pointer, long, base)) (omega (arith, long, sizes, inside, less)))))

module _ (i : Places) (ok : (m : ℕ) → IsLayout (i.layouts m)) (m : ℕ) (frames : List (Frame State)) (e : Run) (deep : Type 0) where
  -- an operand comes without its low bytes
  takes_comes : (live : ℕ → Bool) (s : State) (a : Operand) (k d n x : ℕ) (v : View) → IsReady (i.layouts m) live a → 2 ≤ d → d + n ≤ 28
      → CanCome (i.layouts m) a k d n → value a s ≡ Some x → Held i m live s frames v
      → Takes e deep v (brings_above false (i.layouts m) a k d n) (Fetched d n (x / 256 ^ k) v)
  takes_comes live s (Known b) k d n x v ready up low can got h =
      subst (λ y. Takes e deep v (known d n (b / 256 ^ k)) (Fetched d n (y / 256 ^ k) v)) (some_same b x got) (takes_known e deep d n (b / 256 ^ k) v)
    where
      some_same : (a b : ℕ) → Some a ≡ Some b → a ≡ b
      some_same a b e1 = cc
  takes_comes live s (Local j) k d n x v ready up low can got h =
      let l = i.layouts m in
      let t = h.stacked in
      let p = l.spots j in
      let w = width_of l j in
      let q = least k w in
      let is = fetch_above p w q d n in
      let value_is : value_at p w t.own v.regs ≡ x = t.fits.each j x ready.0 ready.1 got in
      let free = usable l p w t.own t.under v ((ok m).spot j ready.0) t.points t.fits.long in
      takes_small p w t.own t.under t.wait v is (Fetched d n (x / 256 ^ k) v) t.cut free
      (λ small. subst (λ y. Takes e deep v is (Fetched d n y v)) (ap (λ y. y / 256 ^ q) value_is ∙ dropped_is x w k (subst (λ y. y < 256 ^ w) value_is small))
      (takes_fetch_above e deep p w q d n v t.wait t.own t.under t.cut free ((ok m).narrow j ready.0) (below_width k w) up low can h.r1))
    where
      below_width : (k w : ℕ) → least k w ≤ w
      below_width k w = elim (least_is k w) [ inl h ↦ omega (arith, h.0, h.1) | inr h ↦ omega (arith, h.0) ]

      takes_small : (p : Spot) (w : ℕ) (own under wait : List ℕ) (v : View) (is : List Instr) (K : View → Type 0) → v.stack ≡ wait ++ (own ++ under)
          → IsUsable p w own under v → (value_at p w own v.regs < 256 ^ w → Takes e deep v is K) → Takes e deep v is K
      takes_small (InRegisters r) w own under wait v is K cut can go =
          let inside = can.1 in takes_bytes e deep v is K (λ bytes. go (number_small v.regs r w (λ y lo hi. bytes y (omega (arith, hi, inside)))))
      takes_small (InFrame at) w own under wait v is K cut can go =
          let inside = can.1 in
          let sizes = length-append own under in
          let long : length v.stack ≡ length wait + length (own ++ under) = ap length cut ∙ length-append wait (own ++ under) in
          let there : read v.stack (length wait + at) w ≡ read own at w = ap (λ l. read l (length wait + at) w) cut ∙ read_within wait own under at w inside in
          takes_cells e deep v is K
          (λ cells. go (subst (λ y. y < 256 ^ w) there (read_small v.stack (length wait + at) w cells (omega (arith, long, sizes, inside)))))

  -- or it stands where it is shifted
  takes_stands : (live : ℕ → Bool) (s : State) (a : Operand) (d n x : ℕ) (v : View) → IsReady (i.layouts m) live a → is_there (i.layouts m) a d n ≡ true
      → value a s ≡ Some x → Held i m live s frames v → Takes e deep v [] (Fetched d n x v)
  takes_stands live s (Known b) d n x v ready there got k = absurd (let clash : false ≡ true = there in cc)
  takes_stands live s (Local j) d n x v ready there got k =
      let l = i.layouts m in
      let w = width_of l j in
      let standing = stands_is (l.spots j) w d n there in
      let inside = (subst (λ p. IsSpot l p w) standing.0 ((ok m).spot j ready.0)).1 in
      let value_is : number v.regs d w ≡ x =
      ap (λ p. value_at p w k.stacked.own v.regs) (sym standing.0) ∙ k.stacked.fits.each j x ready.0 ready.1 got in
      let least_n : least w n ≡ n = (let less = standing.1 in elim (least_is w n) [ inl h ↦ omega (arith, h.0, h.1) | inr h ↦ h.0 ]) in
      takes_bytes e deep v [] (Fetched d n x v)
      (λ bytes. takes_none e deep v (Fetched d n x v)
      (record {
        others = λ y small beside. refl;
        holds =
            ap (number v.regs d) (sym least_n) ∙ number_low v.regs d w n (λ y lo hi. bytes y (omega (arith, hi, inside)))
            ∙ ap (λ q. q % 256 ^ least w n) value_is ∙ ap (λ q. x % 256 ^ q) least_n;
        same = refl;
      }))

  pub takes_brings_above : (live : ℕ → Bool) (s : State) (a : Operand) (k d n x : ℕ) (stand : Bool) (v : View) → IsReady (i.layouts m) live a → 2 ≤ d
      → d + n ≤ 28 → (stand ≡ false → CanCome (i.layouts m) a k d n) → (stand ≡ true → (k ≡ 0) × (is_there (i.layouts m) a d n ≡ true))
      → value a s ≡ Some x → Held i m live s frames v
      → Takes e deep v (brings_above stand (i.layouts m) a k d n) (Fetched d n (x / 256 ^ k) v)
  takes_brings_above live s a k d n x false v ready up low can stands got h = takes_comes live s a k d n x v ready up low (can refl) got h
  takes_brings_above live s a k d n x true v ready up low can stands got h =
      let all : x ≡ x / 256 ^ 0 = omega arith in
      let whole : x ≡ x / 256 ^ k = all ∙ ap (λ j. x / 256 ^ j) (sym (stands refl).0) in
      subst (λ y. Takes e deep v [] (Fetched d n y v)) whole (takes_stands live s a d n x v ready (stands refl).1 got h)
