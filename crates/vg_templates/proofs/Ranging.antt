-- Each instruction of a template has its operands in range.
use Rattle.std.proofs.Common.{◌≡◌, ℕ, zero, suc, ◌+◌, ◌-◌, ◌/◌, ◌%◌, ◌<◌, ◌≤◌, inl, inr, Bool, true, false, not, ◌&&◌, ◌||◌, ◌==◌, nat_le, nat_lt}
use Rattle.std.proofs.Common.{List, [], ◌∷◌, ◌++◌, length, refl, subst, arith, if◌then◌else◌, Option, Some, None}
use Rattle.std.specs.List.{AllByRecursion}
use Rattle.avr_instr.specs.declared.instr.Instr.{Instr}
use Rattle.avr_instr.specs.declared.instr.Instr.TheVariants.{In, Ldi, Lds, Mov, Movw, Out, Push, Sbci, Sts, Subi}
use Rattle.avr_instr.specs.declared.operand.Base.{Base}
use Rattle.avr_instr.specs.Spelled.{InRange}
use Rattle.vg_meaning.specs.Device.{IsDeviceAddress}
use Rattle.vg_lin.specs.declared.instr.Memory.TheVariants.{Ram, Flash}
use Rattle.vg_lin.specs.declared.instr.Operand.{Operand}
use Rattle.vg_lin.specs.declared.instr.Operand.TheVariants.{Local, Known}
use Rattle.vg_lin.specs.declared.instr.Operator.{Operator}
use Rattle.vg_lin.specs.declared.instr.Operator.TheVariants.{Plus, Minus, Times, Divide, Remainder, And, Or, Xor, ShiftLeft, ShiftRight}
use Rattle.vg_lin.specs.declared.instr.Plain.{Plain}
use Rattle.vg_lin.specs.declared.instr.Computation.{Computation}
use Rattle.vg_lin.specs.declared.instr.Plain.TheVariants.{Copy, Compute, Product, DivideSteps, Load, Store, ReadDevice, WriteDevice, Push as PushValue, Pop, Find, CodeOf, Stop}
use Rattle.vg_templates.specs.Spots.{Spot, InFrame, InRegisters}
use Rattle.vg_templates.specs.Layouts.{Layout, IsLayout, IsSpot, width_of}
use Rattle.vg_templates.specs.Linkage.{pushes}
use Rattle.vg_templates.specs.Transfers.{clears, known, is_twice, known_by, known_number, moves_two, moves, loads, stores, reach, reach_by, fetch, keep}
use Rattle.vg_templates.specs.Held.{IsReady, IsSet, brings, gives}
use Rattle.vg_templates.specs.Homes.{home_of, made_in, settles, IsHome, clear_home}
use Rattle.vg_templates.proofs.Settling.{home_is, clear_is, made_low}
use Rattle.vg_templates.specs.Numbers.{AreBeside, AreRegisters}
use Rattle.vg_templates.specs.Chains.{adds_on, adds, subtracts_on, subtracts, takes_known_on, takes_known, ands, ors, eors}
use Rattle.vg_templates.specs.Operands.{least, known_bytes, finds_spot, finds, found_in}
use Rattle.vg_templates.specs.Plain.{copies_low, copies_whole, bytes_in, copies_through, copies_local, copies, first_of, is_bytewise, operates, works_with, works, is_there, suits_left, suits_right, is_known, works_at, work_home, comes, computes_in}
use Rattle.vg_templates.proofs.Bytes.{least_is, bytes_in_few}
use Rattle.vg_templates.proofs.Finding.{beside_registers, found-length, found-beside}
use Rattle.vg_templates.proofs.Computing.{both_rest, left_suits}
use Rattle.vg_templates.specs.Accesses.{plus_base, points_x, loads_x, stores_x, is_near, address_of, loads_at, stores_at, points_by, loads_by, stores_by}
use Rattle.vg_templates.specs.Straight.{plain_code, IsCovered}

abbrev Fine : List Instr → Type 0
Fine is = AllByRecursion InRange is

fine_append : (is js : List Instr) → Fine is → Fine js → Fine (is ++ js)
fine_append [] js p q = q
fine_append (i ∷ is) js (one, p) q = (one, fine_append is js p q)

-- ---- transfers

clears-fine : (d n : ℕ) → d + n ≤ 32 → Fine (clears d n)
clears-fine d zero h = tt
clears-fine d (suc n) h = ((omega arith, omega arith), clears-fine (suc d) n (omega arith))

known-fine : (d n v : ℕ) → 16 ≤ d → d + n ≤ 32 → Fine (known d n v)
known-fine d zero v low h = tt
known-fine d (suc n) v low h = (((low, omega arith), omega arith), known-fine (suc d) n (v / 256) (omega arith) (omega arith))

by-fine : (b : Bool) (d n v : ℕ) → is_twice d n v ≡ b → 16 ≤ d → d + n ≤ 32 → Fine (known_by b d n v)
by-fine false d n v e low h = known-fine d n v low h
by-fine true d n v e low h =
    let even : d % 2 ≡ 0 = grind (arith, e) in
    let four : n ≡ 4 = grind (arith, e) in
    (((low, omega arith), omega arith), (((omega arith, omega arith), omega arith), (((omega arith, omega (arith, even)), (omega arith, even)), tt)))

known_number-fine : (d n v : ℕ) → 16 ≤ d → d + n ≤ 32 → Fine (known_number d n v)
known_number-fine d n v low h = by-fine (is_twice d n v) d n v refl low h

two_fine : (b : Bool) (r d : ℕ) → ((r % 2 == 0) && (d % 2 == 0)) ≡ b → r + 2 ≤ 32 → d + 2 ≤ 32
    → Fine (if b then Movw d r ∷ [] else Mov d r ∷ Mov (suc d) (suc r) ∷ [])
two_fine true r d e p q =
    let even : d % 2 ≡ 0 = grind (arith, e) in
    let even' : r % 2 ≡ 0 = grind (arith, e) in
    (((omega arith, even), (omega arith, even')), tt)
two_fine false r d e p q = ((omega arith, omega arith), ((omega arith, omega arith), tt))

moves-fine : (r d w n : ℕ) → r + w ≤ 32 → d + n ≤ 32 → Fine (moves r d w n)
moves-fine r d zero n p q = clears-fine d n q
moves-fine r d (suc w) zero p q = tt
moves-fine r d (suc zero) (suc n) p q = ((omega arith, omega arith), clears-fine (suc d) n (omega arith))
moves-fine r d (suc (suc w)) (suc zero) p q = ((omega arith, omega arith), tt)
moves-fine r d (suc (suc w)) (suc (suc n)) p q =
    fine_append (moves_two r d) (moves (suc (suc r)) (suc (suc d)) w n) (two_fine ((r % 2 == 0) && (d % 2 == 0)) r d refl (omega arith) (omega arith))
    (moves-fine (suc (suc r)) (suc (suc d)) w n (omega arith) (omega arith))

loads-fine : (b : Base) (q d w n : ℕ) → q + w ≤ 64 → d + n ≤ 32 → Fine (loads b q d w n)
loads-fine b q d zero n p h = clears-fine d n h
loads-fine b q d (suc w) zero p h = tt
loads-fine b q d (suc w) (suc n) p h = ((omega arith, omega arith), loads-fine b (suc q) (suc d) w n (omega arith) (omega arith))

stores-fine : (b : Base) (q r w n : ℕ) → q + w ≤ 64 → r + n ≤ 32 → Fine (stores b q r w n)
stores-fine b q r zero n p h = tt
stores-fine b q r (suc w) zero p h = ((omega arith, omega arith), stores-fine b (suc q) r w zero (omega arith) h)
stores-fine b q r (suc w) (suc n) p h = ((omega arith, omega arith), stores-fine b (suc q) (suc r) w n (omega arith) (omega arith))

reach-fine : (near middle : Bool) (at : ℕ) → Fine (reach_by near middle at).code
reach-fine true middle at = tt
reach-fine false true at = (((omega arith, refl), (omega arith, refl)), (((omega arith, omega arith, refl), omega arith), tt))
reach-fine false false at =
    (((omega arith, refl), (omega arith, refl)), (((omega arith, omega arith), omega arith), (((omega arith, omega arith), omega arith), tt)))

reached_within : (near middle : Bool) (at w : ℕ) → nat_lt (at + w) 64 ≡ near → nat_lt (at + w) 124 ≡ middle → w ≤ 4
    → (reach_by near middle at).displacement + w ≤ 64
reached_within true middle at w e f h = let low : at + w < 64 = grind arith in omega arith
reached_within false true at w e f h = let low : at + w < 124 = grind arith in omega arith
reached_within false false at w e f h = omega arith

module _ (l : Layout) (ok : IsLayout l) where
  fetch-fine : (s : Spot) (w d n : ℕ) → IsSpot l s w → w ≤ 4 → d + n ≤ 32 → Fine (fetch s w d n)
  fetch-fine (InFrame at) w d n spot small h =
      fine_append (reach at w).code (loads (reach at w).base (reach at w).displacement d w n) (reach-fine (nat_lt (at + w) 64) (nat_lt (at + w) 124) at)
      (loads-fine (reach at w).base (reach at w).displacement d w n
      (reached_within (nat_lt (at + w) 64) (nat_lt (at + w) 124) at w refl refl small) h)
  fetch-fine (InRegisters r) w d n spot small h = let inside = spot.1 in moves-fine r d w n (omega arith) h

  keep-fine : (s : Spot) (w r n : ℕ) → IsSpot l s w → w ≤ 4 → r + n ≤ 32 → Fine (keep s w r n)
  keep-fine (InFrame at) w r n spot small h =
      fine_append (reach at w).code (stores (reach at w).base (reach at w).displacement r w n) (reach-fine (nat_lt (at + w) 64) (nat_lt (at + w) 124) at)
      (stores-fine (reach at w).base (reach at w).displacement r w n
      (reached_within (nat_lt (at + w) 64) (nat_lt (at + w) 124) at w refl refl small) h)
  keep-fine (InRegisters d) w r n spot small h = let inside = spot.1 in moves-fine r d n w h (omega arith)

  brings-fine : (live : ℕ → Bool) (a : Operand) (d n : ℕ) → IsReady l live a → 16 ≤ d → d + n ≤ 32 → Fine (brings l a d n)
  brings-fine live (Known x) d n ready low h = known_number-fine d n x low h
  brings-fine live (Local k) d n ready low h = fetch-fine (l.spots k) (width_of l k) d n (ok.spot k ready.0) (ok.narrow k ready.0) h

  gives-fine : (live behind : ℕ → Bool) (to r n : ℕ) → IsSet l live behind to → r + n ≤ 32 → Fine (gives l to r n)
  gives-fine live behind to r n can h = keep-fine (l.spots to) (width_of l to) r n (ok.spot to can.there) (ok.narrow to can.there) h

  settles-fine : (live behind : ℕ → Bool) (to n : ℕ) (h : Option ℕ) → IsSet l live behind to → IsHome l to n h → n ≤ 4 → Fine (settles l to h n)
  settles-fine live behind to n None can is few = gives-fine live behind to 22 n can (omega arith)
  settles-fine live behind to n (Some r) can is few =
      let inside = (subst (λ p. IsSpot l p (width_of l to)) is.0 (ok.spot to can.there)).1 in
      let less = is.1 in
      clears-fine (r + n) (width_of l to - n) (omega arith)

  bytes_fine : (b : Bool) (d x : ℕ) (is : List Instr) → 16 ≤ d → d < 32 → x < 256 → Fine is → Fine ((if b then [] else Ldi d x ∷ []) ++ is)
  bytes_fine true d x is p q h k = k
  bytes_fine false d x is p q h k = (((p, q), h), k)

  known_bytes-fine : (d n v : ℕ) → 16 ≤ d → d + n ≤ 32 → Fine (known_bytes d n v)
  known_bytes-fine d zero v low h = tt
  known_bytes-fine d (suc n) v low h =
      bytes_fine (v % 256 == 0) d (v % 256) (known_bytes (suc d) n (v / 256)) low (omega arith) (omega arith)
      (known_bytes-fine (suc d) n (v / 256) (omega arith) (omega arith))

  finds-fine : (live : ℕ → Bool) (a : Operand) (d n : ℕ) → IsReady l live a → 16 ≤ d → d + n ≤ 32 → Fine (finds l a d n)
  finds-fine live (Known x) d n ready low h = known_bytes-fine d n x low h
  finds-fine live (Local k) d n ready low h = at (l.spots k) (width_of l k) (ok.spot k ready.0) (ok.narrow k ready.0)
    where
      at : (s : Spot) (w : ℕ) → IsSpot l s w → w ≤ 4 → Fine (finds_spot s w d n)
      at (InFrame p) w spot small = fetch-fine (InFrame p) w d (least w n) spot small (lesser w)
        where
          lesser : (w : ℕ) → d + least w n ≤ 32
          lesser w = elim (least_is w n) [ inl k ↦ omega (arith, k.0, k.1, h) | inr k ↦ omega (arith, k.0, h) ]
      at (InRegisters r) w spot small = tt

-- ---- chains

adds_on-fine : (d : ℕ) (rs : List ℕ) → d + length rs ≤ 32 → AreRegisters rs → Fine (adds_on d rs)
adds_on-fine d [] h k = tt
adds_on-fine d (r ∷ rs) h (low, k) = ((omega arith, low), adds_on-fine (suc d) rs (omega arith) k)

adds-fine : (d : ℕ) (rs : List ℕ) → d + length rs ≤ 32 → AreRegisters rs → Fine (adds d rs)
adds-fine d [] h k = tt
adds-fine d (r ∷ rs) h (low, k) = ((omega arith, low), adds_on-fine (suc d) rs (omega arith) k)

subtracts_on-fine : (d : ℕ) (rs : List ℕ) → d + length rs ≤ 32 → AreRegisters rs → Fine (subtracts_on d rs)
subtracts_on-fine d [] h k = tt
subtracts_on-fine d (r ∷ rs) h (low, k) = ((omega arith, low), subtracts_on-fine (suc d) rs (omega arith) k)

subtracts-fine : (d : ℕ) (rs : List ℕ) → d + length rs ≤ 32 → AreRegisters rs → Fine (subtracts d rs)
subtracts-fine d [] h k = tt
subtracts-fine d (r ∷ rs) h (low, k) = ((omega arith, low), subtracts_on-fine (suc d) rs (omega arith) k)

ands-fine : (d : ℕ) (rs : List ℕ) → d + length rs ≤ 32 → AreRegisters rs → Fine (ands d rs)
ands-fine d [] h k = tt
ands-fine d (r ∷ rs) h (low, k) = ((omega arith, low), ands-fine (suc d) rs (omega arith) k)

ors-fine : (d : ℕ) (rs : List ℕ) → d + length rs ≤ 32 → AreRegisters rs → Fine (ors d rs)
ors-fine d [] h k = tt
ors-fine d (r ∷ rs) h (low, k) = ((omega arith, low), ors-fine (suc d) rs (omega arith) k)

eors-fine : (d : ℕ) (rs : List ℕ) → d + length rs ≤ 32 → AreRegisters rs → Fine (eors d rs)
eors-fine d [] h k = tt
eors-fine d (r ∷ rs) h (low, k) = ((omega arith, low), eors-fine (suc d) rs (omega arith) k)

takes_known_on-fine : (d n v : ℕ) → 16 ≤ d → d + n ≤ 32 → Fine (takes_known_on d n v)
takes_known_on-fine d zero v low h = tt
takes_known_on-fine d (suc n) v low h = (((low, omega arith), omega arith), takes_known_on-fine (suc d) n (v / 256) (omega arith) (omega arith))

takes_known-fine : (d n v : ℕ) → 16 ≤ d → d + n ≤ 32 → Fine (takes_known d n v)
takes_known-fine d zero v low h = tt
takes_known-fine d (suc n) v low h = (((low, omega arith), omega arith), takes_known_on-fine (suc d) n (v / 256) (omega arith) (omega arith))

operates-fine : (d : ℕ) (o : Operator) (rs : List ℕ) → d + length rs ≤ 32 → AreRegisters rs → Fine (operates d o rs)
operates-fine d Plus rs h k = adds-fine d rs h k
operates-fine d Minus rs h k = subtracts-fine d rs h k
operates-fine d And rs h k = ands-fine d rs h k
operates-fine d Or rs h k = ors-fine d rs h k
operates-fine d Xor rs h k = eors-fine d rs h k
operates-fine d Times rs h k = tt
operates-fine d Divide rs h k = tt
operates-fine d Remainder rs h k = tt
operates-fine d ShiftLeft rs h k = tt
operates-fine d ShiftRight rs h k = tt

pushes-fine : (rs : List ℕ) → AreRegisters rs → Fine (pushes rs)
pushes-fine [] k = tt
pushes-fine (r ∷ rs) (low, k) = fine_append (pushes rs) (Push r ∷ []) (pushes-fine rs k) (low, tt)

first_low : (rs : List ℕ) → AreRegisters rs → first_of rs < 32
first_low [] k = omega arith
first_low (r ∷ rs) (low, k) = low

loads_x-fine : (d n : ℕ) → d + n ≤ 26 → Fine (loads_x d n)
loads_x-fine d zero h = tt
loads_x-fine d (suc n) h = ((omega arith, omega arith, omega arith), loads_x-fine (suc d) n (omega arith))

stores_x-fine : (rs : List ℕ) → AreBeside 26 28 rs → Fine (stores_x rs)
stores_x-fine [] k = tt
stores_x-fine (r ∷ rs) ((inl low, chip), more) = ((chip, omega (arith, low), omega (arith, low)), stores_x-fine rs more)
stores_x-fine (r ∷ rs) ((inr high, chip), more) = ((chip, omega (arith, high), omega (arith, high)), stores_x-fine rs more)

loads_at-fine : (d n a : ℕ) → d + n ≤ 32 → Fine (loads_at d n a)
loads_at-fine d zero a h = tt
loads_at-fine d (suc n) a h = ((omega arith, omega arith), loads_at-fine (suc d) n (suc a) (omega arith))

stores_at-fine : (rs : List ℕ) (a : ℕ) → AreBeside 26 28 rs → Fine (stores_at rs a)
stores_at-fine [] a k = tt
stores_at-fine (r ∷ rs) a ((beside, chip), more) = ((omega arith, chip), stores_at-fine rs (suc a) more)

loads_by-fine : (near : Bool) (d n a : ℕ) → d + n ≤ 26 → Fine (loads_by near d n a)
loads_by-fine true d n a h = loads_at-fine d n a (omega arith)
loads_by-fine false d n a h = loads_x-fine d n h

stores_by-fine : (near : Bool) (rs : List ℕ) (a : ℕ) → AreBeside 26 28 rs → Fine (stores_by near rs a)
stores_by-fine true rs a k = stores_at-fine rs a k
stores_by-fine false rs a k = stores_x-fine rs k

device_word : (address : ℕ) → IsDeviceAddress address → address < 65536
device_word address d = let small = d.below in omega arith

-- ---- templates

module _ (l : Layout) (ok : IsLayout l) (live behind : ℕ → Bool) where
  found_low : (a : Operand) (d n : ℕ) → IsReady l live a → 18 ≤ d → d + n ≤ 26 → AreRegisters (found_in l a d n)
  found_low a d n ready low h = beside_registers 26 26 (found_in l a d n) (found-beside l ok live a d n 26 26 ready low h (omega arith))

  works_with-fine : (d : ℕ) (o : Operator) (a : Operand) (n : ℕ) → IsReady l live a → n ≤ 4 → d + n ≤ 32 → Fine (works_with l d o a n)
  works_with-fine d o a n ready small high =
      let long = found-length l a 18 n in
      fine_append (finds l a 18 n) (operates d o (found_in l a 18 n)) (finds-fine l ok live a 18 n ready (omega arith) (omega arith))
      (operates-fine d o (found_in l a 18 n) (omega (arith, long, high)) (found_low a 18 n ready (omega arith) (omega arith)))

  works-fine : (o : Operator) (a : Operand) (n : ℕ) → IsReady l live a → n ≤ 4 → Fine (works_with l 22 o a n)
  works-fine o a n ready small = works_with-fine 22 o a n ready small (omega arith)

  all_works-fine : (o : Operator) (a : Operand) (n : ℕ) → IsReady l live a → n ≤ 4 → Fine (works l o a n)
  all_works-fine Plus (Known y) n ready small = takes_known-fine 22 n _ (omega arith) (omega arith)
  all_works-fine Minus (Known y) n ready small = takes_known-fine 22 n y (omega arith) (omega arith)
  all_works-fine Plus (Local j) n ready small = works-fine Plus (Local j) n ready small
  all_works-fine Minus (Local j) n ready small = works-fine Minus (Local j) n ready small
  all_works-fine And a n ready small = works-fine And a n ready small
  all_works-fine Or a n ready small = works-fine Or a n ready small
  all_works-fine Xor a n ready small = works-fine Xor a n ready small
  all_works-fine Times a n ready small = works-fine Times a n ready small
  all_works-fine Divide a n ready small = works-fine Divide a n ready small
  all_works-fine Remainder a n ready small = works-fine Remainder a n ready small
  all_works-fine ShiftLeft a n ready small = works-fine ShiftLeft a n ready small
  all_works-fine ShiftRight a n ready small = works-fine ShiftRight a n ready small

  writes-fine : (near : Bool) (address r : ℕ) → (nat_le 0x20 address && nat_lt address 0x60) ≡ near → address < 65536 → r < 32
      → Fine (if near then Out (address - 0x20) r ∷ [] else Sts address r ∷ [])
  writes-fine true address r e word low = let inside : address < 0x60 = grind (arith, e) in ((omega arith, low), tt)
  writes-fine false address r e word low = ((word, low), tt)

  reads-fine : (near : Bool) (address r : ℕ) → (nat_le 0x20 address && nat_lt address 0x60) ≡ near → address < 65536 → r < 32
      → Fine (if near then In r (address - 0x20) ∷ [] else Lds r address ∷ [])
  reads-fine true address r e word low = let inside : address < 0x60 = grind (arith, e) in ((low, omega arith), tt)
  reads-fine false address r e word low = ((low, word), tt)

  copies_low-fine : (to : ℕ) (a : Operand) (n : ℕ) → IsReady l live a → IsSet l live behind to → n ≤ 4 → Fine (copies_low l to a n)
  copies_low-fine to a n ready can few =
      fine_append (brings l a 22 n) (gives l to 22 n) (brings-fine l ok live a 22 n ready (omega arith) (omega arith))
      (gives-fine l ok live behind to 22 n can (omega arith))

  copies_whole-fine : (to x : ℕ) → IsSet l live behind to → Fine (copies_whole l to x)
  copies_whole-fine to x can =
      let w = width_of l to in
      let narrow = ok.narrow to can.there in
      fine_append (known 22 w x) (gives l to 22 w) (known-fine 22 w x (omega arith) (omega (arith, narrow)))
      (gives-fine l ok live behind to 22 w can (omega (arith, narrow)))

  copies_through-fine : (to k : ℕ) → IsReady l live (Local k) → IsSet l live behind to → Fine (copies_through l to k)
  copies_through-fine to k ready can =
      let w = width_of l to in
      let small = ok.narrow to can.there in
      let h = clear_home (l.spots k) (width_of l k) w (home_of l to w) in
      let is = clear_is l to w (l.spots k) (width_of l k) w (home_of l to w) (home_is l to w) in
      let low = made_low l ok to w h can.there small is in
      fine_append (brings l (Local k) (made_in h) w) (settles l to h w)
      (fetch-fine l ok (l.spots k) (width_of l k) (made_in h) w (ok.spot k ready.0) (ok.narrow k ready.0) (omega (arith, low)))
      (settles-fine l ok live behind to w h can is small)

  copies_local-fine : (to k : ℕ) (s t : Spot) → IsSpot l t (width_of l k) → IsReady l live (Local k) → IsSet l live behind to
      → Fine (copies_local s t l to k)
  copies_local-fine to k (InFrame at) (InRegisters f) spot ready can =
      let inside = spot.1 in gives-fine l ok live behind to f (width_of l k) can (omega arith)
  copies_local-fine to k (InFrame at) (InFrame p) spot ready can = copies_through-fine to k ready can
  copies_local-fine to k (InRegisters r) t spot ready can = copies_through-fine to k ready can

  copies-fine : (to : ℕ) (a : Operand) → IsReady l live a → IsSet l live behind to → Fine (copies l to a)
  copies-fine to (Local k) ready can = copies_local-fine to k (l.spots to) (l.spots k) (ok.spot k ready.0) ready can
  copies-fine to (Known v) ready can =
      let small = ok.narrow to can.there in
      let few = bytes_in_few (width_of l to) v in
      copies_low-fine to (Known v) (bytes_in (width_of l to) v) ready can (omega (arith, few, small))

  base-fine : (base : ℕ) → Fine (plus_base 26 base)
  base-fine base = by_test (base == 0) refl
    where
      by_test : (b : Bool) → (base == 0) ≡ b → Fine (if b then [] else Subi 26 ((65536 - base) % 256) ∷ Sbci 27 ((65536 - base) / 256) ∷ [])
      by_test true q = tt
      by_test false q =
          let some : 0 < base = grind (arith, q) in
          (((omega arith, omega arith), omega arith), (((omega arith, omega arith), omega (arith, some)), tt))

  points-fine : (base : ℕ) (a : Operand) → IsReady l live a → Fine (points_x l base a)
  points-fine base (Known x) ready = known-fine 26 2 (base + x) (omega arith) (omega arith)
  points-fine base (Local j) ready =
      fine_append (brings l (Local j) 26 2) (plus_base 26 base) (brings-fine l ok live (Local j) 26 2 ready (omega arith) (omega arith)) (base-fine base)

  points_by-fine : (near : Bool) (base : ℕ) (a : Operand) → IsReady l live a → Fine (points_by near l base a)
  points_by-fine true base a ready = tt
  points_by-fine false base a ready = points-fine base a ready

  computes_scratch-fine : (c : Computation) (n : ℕ) → IsReady l live c.left → IsReady l live c.right → IsSet l live behind c.to → n ≤ 4
      → Fine (computes_in l c None n)
  computes_scratch-fine c n ready ready' can small =
      fine_append (brings l c.left 22 n) (works l c.operator c.right n ++ gives l c.to 22 n)
      (brings-fine l ok live c.left 22 n ready (omega arith) (omega (arith, small)))
      (fine_append (works l c.operator c.right n) (gives l c.to 22 n) (all_works-fine c.operator c.right n ready' small)
      (gives-fine l ok live behind c.to 22 n can (omega (arith, small))))

  computes_in-fine : (c : Computation) (h : Option ℕ) (n : ℕ) → IsReady l live c.left → IsReady l live c.right → IsSet l live behind c.to
      → IsHome l c.to n h → n ≤ 4 → Fine (computes_in l c (work_home l c n h) n)
  computes_in-fine c None n ready ready' can is small = computes_scratch-fine c n ready ready' can small
  computes_in-fine c (Some r) n ready ready' can is small = by_test (works_at l c r n) refl
    where
      low : r + n ≤ 18
      low = let inside = (subst (λ p. IsSpot l p (width_of l c.to)) is.0 (ok.spot c.to can.there)).1 in let less = is.1 in omega arith

      comes-fine : (b : Bool) (a : Operand) → IsReady l live a → is_there l a r n ≡ b → (b ≡ false → suits_left l a r n ≡ true) → Fine (comes b l a r n)
      comes-fine true (Known x) ready e f = tt
      comes-fine false (Known x) ready e f = tt
      comes-fine true (Local k) ready e f = tt
      comes-fine false (Local k) ready e f = fetch-fine l ok (l.spots k) (width_of l k) r n (ok.spot k ready.0) (ok.narrow k ready.0) (omega (arith, low))

      by_test : (b : Bool) → works_at l c r n ≡ b → Fine (computes_in l c (if b then Some r else None) n)
      by_test false e = computes_scratch-fine c n ready ready' can small
      by_test true e =
          let there = is_there l c.left r n in
          let parts =
          both_rest (is_bytewise c.operator) (suits_right l c.right r (width_of l c.to)) (there || (not (is_known c.right) && suits_left l c.left r n)) e in
          fine_append (comes there l c.left r n) (works_with l r c.operator c.right n ++ settles l c.to (Some r) n)
          (comes-fine there c.left ready refl (left_suits there (is_known c.right) (suits_left l c.left r n) parts.1))
          (fine_append (works_with l r c.operator c.right n) (settles l c.to (Some r) n) (works_with-fine r c.operator c.right n ready' small (omega (arith, low)))
          (settles-fine l ok live behind c.to n (Some r) can is small))

  pub plain_code-fine : (codes : ℕ → ℕ) (q : Plain) → IsCovered l live behind q → Fine (plain_code l codes q)
  plain_code-fine codes (Copy to a) can = copies-fine to a can.0 can.1
  plain_code-fine codes (CodeOf q to) can = copies_whole-fine to (codes q) can
  plain_code-fine codes (Compute c) can =
      let n = least c.width (width_of l c.to) in
      let narrow = ok.narrow c.to can.1.1.there in
      let small : n ≤ 4 = elim (least_is c.width (width_of l c.to)) [ inl k ↦ omega (arith, k.0, k.1, narrow) | inr k ↦ omega (arith, k.0, narrow) ] in
      computes_in-fine c (home_of l c.to n) n can.1.0.0 can.1.0.1 can.1.1 (home_is l c.to n) small
  plain_code-fine codes (Load Ram w to a) can =
      let small = can.0.1 in
      let near = is_near w a.index in
      let h = home_of l to w in
      let d = made_in h in
      let loaded = loads_by near d w (address_of a.base a.index) in
      fine_append (points_by near l a.base a.index) (loaded ++ settles l to h w) (points_by-fine near a.base a.index can.1.0)
      (fine_append loaded (settles l to h w)
      (loads_by-fine near d w (address_of a.base a.index) (made_low l ok to w h can.1.1.there small (home_is l to w)))
      (settles-fine l ok live behind to w h can.1.1 (home_is l to w) small))
  plain_code-fine codes (Store w a from) can =
      let small = can.0.1 in
      let near = is_near w a.index in
      let rs = found_in l from 22 w in
      let stored = stores_by near rs (address_of a.base a.index) in
      fine_append (points_by near l a.base a.index) (finds l from 22 w ++ stored) (points_by-fine near a.base a.index can.1.0.0)
      (fine_append (finds l from 22 w) stored (finds-fine l ok live from 22 w can.1.0.1 (omega arith) (omega (arith, small)))
      (stores_by-fine near rs (address_of a.base a.index)
      (found-beside l ok live from 22 w 26 28 can.1.0.1 (omega arith) (omega (arith, small)) (omega arith))))
  plain_code-fine codes (ReadDevice to address) can =
      let h = home_of l to 1 in
      let d = made_in h in
      let low = made_low l ok to 1 h can.1.there (omega arith) (home_is l to 1) in
      fine_append (if nat_le 0x20 address && nat_lt address 0x60 then In d (address - 0x20) ∷ [] else Lds d address ∷ []) (settles l to h 1)
      (reads-fine (nat_le 0x20 address && nat_lt address 0x60) address d refl (device_word address can.0) (omega (arith, low)))
      (settles-fine l ok live behind to 1 h can.1 (home_is l to 1) (omega arith))
  plain_code-fine codes (WriteDevice address a) can =
      let rs = found_in l a 22 1 in
      fine_append (finds l a 22 1) (if nat_le 0x20 address && nat_lt address 0x60 then Out (address - 0x20) (first_of rs) ∷ [] else Sts address (first_of rs) ∷ [])
      (finds-fine l ok live a 22 1 can.1.0 (omega arith) (omega arith))
      (writes-fine (nat_le 0x20 address && nat_lt address 0x60) address (first_of rs) refl (device_word address can.0)
      (first_low rs (found_low a 22 1 can.1.0 (omega arith) (omega arith))))
  plain_code-fine codes (PushValue w a) can =
      let small = can.0 in
      fine_append (finds l a 22 w) (pushes (found_in l a 22 w)) (finds-fine l ok live a 22 w can.1.0 (omega arith) (omega (arith, small)))
      (pushes-fine (found_in l a 22 w) (found_low a 22 w can.1.0 (omega arith) (omega (arith, small))))
  plain_code-fine codes (Load Flash w to a) can = tt
  plain_code-fine codes (Product to a b) can = tt
  plain_code-fine codes (DivideSteps r d a) can = tt
  plain_code-fine codes (Find dispatch to a) can = tt
  plain_code-fine codes (Pop w to) can = tt
  plain_code-fine codes (Stop code) can = tt
