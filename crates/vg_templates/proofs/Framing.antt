-- The layout of a procedure is sound, and takes few bytes of the stack.
use Rattle.std.proofs.Common.{◌≡◌, ◌≢◌, ℕ, zero, suc, ◌+◌, ◌-◌, ◌<◌, ◌≤◌, ◌⊎◌, inl, inr, Bool, true, false, not, ◌&&◌, ◌||◌, nat_lt, nat_le, if◌then◌else◌}
use Rattle.std.proofs.Common.{List, [], ◌∷◌, length, refl, sym, ap, subst, ◌∙◌, arith, slice_index, take, drop, length-take, length-drop}
use Rattle.avr_view.proofs.Going.{below_or_not}
use Rattle.vg_templates.specs.Spots.{Spot, InFrame, InRegisters, Apart}
use Rattle.vg_lin.specs.Program.{Procedure}
use Rattle.vg_templates.specs.Layouts.{Layout, IsLayout, IsSpot, IsReliable, IsIn, outlives, frame_size, link_size}
use Rattle.vg_templates.specs.Calls.{sum_of, behind_width, by_registers, lives_from, HasPushed, HasArriving, HasBy, HasParameters}
use Rattle.vg_templates.specs.Living.{is_live, lasts}
use Rattle.vg_templates.specs.Framed.{Taken, taken, Seat, Lasting, Passing, Slot, seat_for, seat_spot, with_seat, spots_from, taken_from, spot_at}
use Rattle.vg_templates.specs.Framed.{registers_from, saved_for, is_pointed, all_taken, lying, on_stack, arriving, framed, live_in, CanBeFramed}

-- ---- sums of widths

behind_inside : (ws : List ℕ) (k : ℕ) → k < length ws → behind_width ws k + slice_index ws k ≤ sum_of ws
behind_inside [] k h = absurd (omega arith)
behind_inside (w ∷ ws) zero h = omega arith
behind_inside (w ∷ ws) (suc k) h = let rest = behind_inside ws k (omega arith) in omega (arith, rest)

behind_order : (ws : List ℕ) (j k : ℕ) → j < k → k < length ws → behind_width ws k + slice_index ws k ≤ behind_width ws j
behind_order [] j k h low = absurd (omega arith)
behind_order (w ∷ ws) zero zero h low = absurd (omega arith)
behind_order (w ∷ ws) zero (suc k) h low = behind_inside ws k (omega arith)
behind_order (w ∷ ws) (suc j) zero h low = absurd (omega arith)
behind_order (w ∷ ws) (suc j) (suc k) h low = behind_order ws j k (omega arith) (omega arith)

pub both_parts : (ws : List ℕ) (p : ℕ) → sum_of (take p ws) + sum_of (drop p ws) ≡ sum_of ws
both_parts ws zero = omega arith
both_parts [] (suc p) = omega arith
both_parts (w ∷ ws) (suc p) = let rest = both_parts ws p in omega (arith, rest)

width_in_front : (ws : List ℕ) (p k : ℕ) → k < p → slice_index (take p ws) k ≡ slice_index ws k
width_in_front [] zero k h = refl
width_in_front [] (suc p) k h = refl
width_in_front (w ∷ ws) zero k h = absurd (omega arith)
width_in_front (w ∷ ws) (suc p) zero h = refl
width_in_front (w ∷ ws) (suc p) (suc k) h = width_in_front ws p k (omega arith)

width_behind : (ws : List ℕ) (p k : ℕ) → p ≤ k → p ≤ length ws → slice_index (drop p ws) (k - p) ≡ slice_index ws k
width_behind ws zero k h low = let e : k - 0 ≡ k = omega arith in ap (slice_index ws) e
width_behind [] (suc p) k h low = absurd (omega arith)
width_behind (w ∷ ws) (suc p) zero h low = absurd (omega arith)
width_behind (w ∷ ws) (suc p) (suc k) h low =
    let e : suc k - suc p ≡ k - p = omega arith in ap (slice_index (drop p ws)) e ∙ width_behind ws p k (omega arith) (omega arith)

-- ---- registers

register_there : (r n d : ℕ) → r ≤ d → d < r + n → IsIn d (registers_from r n)
register_there r zero d low high = absurd (omega (arith, low, high))
register_there r (suc n) d low high = elim (below_or_not r d) [
  | inl more ↦ inr (register_there (suc r) n d (omega (arith, more)) (omega (arith, high)))
  | inr less ↦ inl (omega (arith, low, less))
]

register_within : (r n d : ℕ) → IsIn d (registers_from r n) → (r ≤ d) × (d < r + n)
register_within r zero d h = absurd h
register_within r (suc n) d (inl e) = (omega (arith, e), omega (arith, e))
register_within r (suc n) d (inr h) = let rest = register_within (suc r) n d h in (omega (arith, rest.0), omega (arith, rest.1))

pub registers-counted : (r n : ℕ) → length (registers_from r n) ≡ n
registers-counted r zero = refl
registers-counted r (suc n) = ap suc (registers-counted (suc r) n)

-- Y comes in front of the others
saved-counted : (b : Bool) (n : ℕ) → b ≡ true → length (saved_for b n) ≡ 2 + n
saved-counted true n e = omega (arith, registers-counted 2 n)
saved-counted false n e = absurd (let clash : false ≡ true = e in cc)

saved-few : (b : Bool) (n : ℕ) → length (saved_for b n) ≤ 2 + n
saved-few true n = omega (arith, registers-counted 2 n)
saved-few false n = omega (arith, registers-counted 2 n)

saved_there : (b : Bool) (n d : ℕ) → 2 ≤ d → d < 2 + n → IsIn d (saved_for b n)
saved_there true n d low high = inr (inr (register_there 2 n d low high))
saved_there false n d low high = register_there 2 n d low high

registers_reliable : (n d : ℕ) → n ≤ 6 → IsIn d (registers_from 2 n) → IsReliable d
registers_reliable n d few h = let r = register_within 2 n d h in inl (r.0, omega (arith, r.1, few))

saved_reliable : (b : Bool) (n d : ℕ) → n ≤ 6 → IsIn d (saved_for b n) → IsReliable d
saved_reliable true n d few (inl e) = inr (omega arith, omega arith)
saved_reliable true n d few (inr (inl e)) = inr (omega arith, omega arith)
saved_reliable true n d few (inr (inr h)) = registers_reliable n d few h
saved_reliable false n d few h = registers_reliable n d few h

saved_pointer : (b : Bool) (n : ℕ) → b ≡ true → IsIn 28 (saved_for b n) × IsIn 29 (saved_for b n)
saved_pointer true n e = (inl refl, inr (inl refl))
saved_pointer false n e = absurd (let clash : false ≡ true = e in cc)

-- ---- the seat of a local

abbrev HasRoom : Taken → (lasts : Bool) (width : ℕ) → Seat → Type 0
HasRoom t c w Passing = (c ≡ false) × (t.passing + w ≤ 10)
HasRoom t c w Lasting = t.lasting + w ≤ 6
HasRoom t c w Slot = 6 < t.lasting + w

has_room : (t : Taken) (c : Bool) (w : ℕ) → HasRoom t c w (seat_for t c w)
has_room t c w = by_tests c (nat_le (t.passing + w) 10) (nat_le (t.lasting + w) 6) refl refl
  where
    by_tests : (d a b : Bool) → nat_le (t.passing + w) 10 ≡ a → nat_le (t.lasting + w) 6 ≡ b
        → HasRoom t d w (if not d && a then Passing else if b then Lasting else Slot)
    by_tests false true b e f = (refl, grind (arith, e))
    by_tests false false true e f = grind (arith, f)
    by_tests false false false e f = grind (arith, f)
    by_tests true a true e f = grind (arith, f)
    by_tests true a false e f = grind (arith, f)

-- no more is taken of the registers than there are; and what is taken grows
record Small (t : Taken) : Type 0 where
  pub lasting : t.lasting ≤ 6
  pub passing : t.passing ≤ 10

record Grows (t u : Taken) : Type 0 where
  pub lasting : t.lasting ≤ u.lasting
  pub passing : t.passing ≤ u.passing
  pub slots : t.slots ≤ u.slots

stays_small : (t : Taken) (c : Bool) (w : ℕ) (s : Seat) → HasRoom t c w s → Small t → Small (with_seat t s w)
stays_small t c w Lasting h few = record { lasting = h; passing = few.passing }
stays_small t c w Passing h few = record { lasting = few.lasting; passing = h.1 }
stays_small t c w Slot h few = record { lasting = few.lasting; passing = few.passing }

seat_grows : (t : Taken) (w : ℕ) (s : Seat) → Grows t (with_seat t s w)
seat_grows t w Lasting = record { lasting = omega arith; passing = omega arith; slots = omega arith }
seat_grows t w Passing = record { lasting = omega arith; passing = omega arith; slots = omega arith }
seat_grows t w Slot = record { lasting = omega arith; passing = omega arith; slots = omega arith }

-- a spot is among what is taken, or behind it
abbrev Before : Spot → (width : ℕ) → Taken → Type 0
Before (InFrame a) w t = (0 < w) × (a + w ≤ t.slots)
Before (InRegisters r) w t = ((2 ≤ r) × (r + w ≤ 2 + t.lasting)) ⊎ ((8 ≤ r) × (r + w ≤ 8 + t.passing))

abbrev Behind : Spot → (width : ℕ) → Taken → Type 0
Behind (InFrame a) w t = t.slots ≤ a
Behind (InRegisters r) w t = ((2 + t.lasting ≤ r) × (r + w ≤ 8)) ⊎ ((8 + t.passing ≤ r) × (r + w ≤ 18))

seat_before : (t : Taken) (c : Bool) (w : ℕ) (s : Seat) → HasRoom t c w s → Small t → Before (seat_spot t s) w (with_seat t s w)
seat_before t c w Lasting h few = inl (omega arith, omega arith)
seat_before t c w Passing h few = inr (omega arith, omega arith)
seat_before t c w Slot h few = let low = few.lasting in (omega (arith, h, low), omega arith)

seat_behind : (t : Taken) (c : Bool) (w : ℕ) (s : Seat) → HasRoom t c w s → Behind (seat_spot t s) w t
seat_behind t c w Lasting h = inl (omega arith, omega (arith, h))
seat_behind t c w Passing h = let room = h.1 in inr (omega arith, omega (arith, room))
seat_behind t c w Slot h = omega arith

seat_outlives : (t : Taken) (c : Bool) (w : ℕ) (s : Seat) → HasRoom t c w s → c ≡ true → outlives (seat_spot t s) w ≡ true
seat_outlives t c w Lasting h e = let low : 2 + t.lasting + w ≤ 8 = omega (arith, h) in grind (arith, low)
seat_outlives t c w Passing h e = absurd (let clash : true ≡ false = sym e ∙ h.0 in cc)
seat_outlives t c w Slot h e = refl

before_grows : (s : Spot) (w : ℕ) (t u : Taken) → Grows t u → Before s w t → Before s w u
before_grows (InFrame a) w t u g h = let more = g.slots in let low = h.1 in (h.0, omega (arith, more, low))
before_grows (InRegisters r) w t u g (inl h) = let more = g.lasting in let low = h.1 in inl (h.0, omega (arith, more, low))
before_grows (InRegisters r) w t u g (inr h) = let more = g.passing in let low = h.1 in inr (h.0, omega (arith, more, low))

behind_grows : (s : Spot) (w : ℕ) (t u : Taken) → Grows t u → Behind s w u → Behind s w t
behind_grows (InFrame a) w t u g h = let more = g.slots in omega (arith, more, h)
behind_grows (InRegisters r) w t u g (inl h) = let more = g.lasting in let low = h.0 in inl (omega (arith, more, low), h.1)
behind_grows (InRegisters r) w t u g (inr h) = let more = g.passing in let low = h.0 in inr (omega (arith, more, low), h.1)

before-behind : (s r : Spot) (v w : ℕ) (t : Taken) → Small t → Before s v t → Behind r w t → Apart s v r w
before-behind (InFrame a) (InFrame b) v w t few h k = let low = h.1 in inr (omega (arith, low, k))
before-behind (InFrame a) (InRegisters b) v w t few h k = tt
before-behind (InRegisters a) (InFrame b) v w t few h k = tt
before-behind (InRegisters a) (InRegisters b) v w t few (inl h) (inl k) = let low = h.1 in let high = k.0 in inr (omega (arith, low, high))
before-behind (InRegisters a) (InRegisters b) v w t few (inl h) (inr k) =
    let low = h.1 in let high = k.0 in let all = few.lasting in inr (omega (arith, low, high, all))
before-behind (InRegisters a) (InRegisters b) v w t few (inr h) (inl k) = let low = h.0 in let high = k.1 in inl (omega (arith, low, high))
before-behind (InRegisters a) (InRegisters b) v w t few (inr h) (inr k) = let low = h.1 in let high = k.0 in inr (omega (arith, low, high))

-- ---- the spots of all

module _ (c : ℕ → Bool) where
  all_grow : (k : ℕ) (ws : List ℕ) (t : Taken) → Grows t (taken_from c k ws t)
  all_grow k [] t = record { lasting = omega arith; passing = omega arith; slots = omega arith }
  all_grow k (w ∷ ws) t =
      let one = seat_grows t w (seat_for t (c k) w) in
      let rest = all_grow (suc k) ws (with_seat t (seat_for t (c k) w) w) in
      let a = one.lasting in let b = rest.lasting in let a' = one.passing in let b' = rest.passing in let a'' = one.slots in let b'' = rest.slots in
      record { lasting = omega (arith, a, b); passing = omega (arith, a', b'); slots = omega (arith, a'', b'') }

  all_small : (k : ℕ) (ws : List ℕ) (t : Taken) → Small t → Small (taken_from c k ws t)
  all_small k [] t few = few
  all_small k (w ∷ ws) t few =
      all_small (suc k) ws (with_seat t (seat_for t (c k) w) w) (stays_small t (c k) w (seat_for t (c k) w) (has_room t (c k) w) few)

  one_counted : (t : Taken) (w : ℕ) (s : Seat) → (with_seat t s w).lasting + (with_seat t s w).passing + (with_seat t s w).slots ≡ t.lasting + t.passing + t.slots + w
  one_counted t w Lasting = omega arith
  one_counted t w Passing = omega arith
  one_counted t w Slot = omega arith

  all_counted : (k : ℕ) (ws : List ℕ) (t : Taken)
      → (taken_from c k ws t).lasting + (taken_from c k ws t).passing + (taken_from c k ws t).slots ≡ t.lasting + t.passing + t.slots + sum_of ws
  all_counted k [] t = omega arith
  all_counted k (w ∷ ws) t =
      let one = one_counted t w (seat_for t (c k) w) in
      let rest = all_counted (suc k) ws (with_seat t (seat_for t (c k) w) w) in omega (arith, one, rest)

  spot_behind : (k : ℕ) (ws : List ℕ) (t : Taken) (j : ℕ) → j < length ws → Behind (spot_at (spots_from c k ws t) j) (slice_index ws j) t
  spot_behind k [] t j low = absurd (omega arith)
  spot_behind k (w ∷ ws) t zero low = seat_behind t (c k) w (seat_for t (c k) w) (has_room t (c k) w)
  spot_behind k (w ∷ ws) t (suc j) low =
      let u = with_seat t (seat_for t (c k) w) w in
      behind_grows (spot_at (spots_from c (suc k) ws u) j) (slice_index ws j) t u (seat_grows t w (seat_for t (c k) w)) (spot_behind (suc k) ws u j (omega arith))

  spot_before : (k : ℕ) (ws : List ℕ) (t : Taken) → Small t → (j : ℕ) → j < length ws
      → Before (spot_at (spots_from c k ws t) j) (slice_index ws j) (taken_from c k ws t)
  spot_before k [] t few j low = absurd (omega arith)
  spot_before k (w ∷ ws) t few zero low =
      let u = with_seat t (seat_for t (c k) w) w in
      before_grows (seat_spot t (seat_for t (c k) w)) w u (taken_from c (suc k) ws u) (all_grow (suc k) ws u)
      (seat_before t (c k) w (seat_for t (c k) w) (has_room t (c k) w) few)
  spot_before k (w ∷ ws) t few (suc j) low =
      spot_before (suc k) ws (with_seat t (seat_for t (c k) w) w) (stays_small t (c k) w (seat_for t (c k) w) (has_room t (c k) w) few) j (omega arith)

  spot_outlives : (k : ℕ) (ws : List ℕ) (t : Taken) (j : ℕ) → j < length ws → c (k + j) ≡ true
      → outlives (spot_at (spots_from c k ws t) j) (slice_index ws j) ≡ true
  spot_outlives k [] t j low e = absurd (omega arith)
  spot_outlives k (w ∷ ws) t zero low e =
      let here : k + 0 ≡ k = omega arith in
      seat_outlives t (c k) w (seat_for t (c k) w) (has_room t (c k) w) (subst (λ n. c n ≡ true) here e)
  spot_outlives k (w ∷ ws) t (suc j) low e =
      let next : k + suc j ≡ suc k + j = omega arith in
      spot_outlives (suc k) ws (with_seat t (seat_for t (c k) w) w) j (omega arith) (subst (λ n. c n ≡ true) next e)

  spots_apart : (k : ℕ) (ws : List ℕ) (t : Taken) → Small t → (i j : ℕ) → i < j → j < length ws
      → Apart (spot_at (spots_from c k ws t) i) (slice_index ws i) (spot_at (spots_from c k ws t) j) (slice_index ws j)
  spots_apart k [] t few i j less low = absurd (omega arith)
  spots_apart k (w ∷ ws) t few zero zero less low = absurd (omega arith)
  spots_apart k (w ∷ ws) t few zero (suc j) less low =
      let s = seat_for t (c k) w in
      let u = with_seat t s w in
      before-behind (seat_spot t s) (spot_at (spots_from c (suc k) ws u) j) w (slice_index ws j) u (stays_small t (c k) w s (has_room t (c k) w) few)
      (seat_before t (c k) w s (has_room t (c k) w) few) (spot_behind (suc k) ws u j (omega arith))
  spots_apart k (w ∷ ws) t few (suc i) zero less low = absurd (omega arith)
  spots_apart k (w ∷ ws) t few (suc i) (suc j) less low =
      spots_apart (suc k) ws (with_seat t (seat_for t (c k) w) w) (stays_small t (c k) w (seat_for t (c k) w) (has_room t (c k) w) few) i j (omega arith)
      (omega arith)

-- ---- the layout

below : (k n : ℕ) → nat_lt k n ≡ true → k < n
below k n h = grind (arith, h)

is_below : (k n : ℕ) → k < n → nat_lt k n ≡ true
is_below k n h = grind (arith, h)

not_below : (k n : ℕ) → nat_lt k n ≡ false → n ≤ k
not_below k n h = grind (arith, h)

apart-turned : (s t : Spot) (w n : ℕ) → Apart s w t n → Apart t n s w
apart-turned (InFrame a) (InFrame b) w n (inl h) = inr h
apart-turned (InFrame a) (InFrame b) w n (inr h) = inl h
apart-turned (InRegisters a) (InRegisters b) w n (inl h) = inr h
apart-turned (InRegisters a) (InRegisters b) w n (inr h) = inl h
apart-turned (InFrame a) (InRegisters b) w n h = tt
apart-turned (InRegisters a) (InFrame b) w n h = tt

pointed_params : (p n : ℕ) → 0 < p → is_pointed p n ≡ true
pointed_params p n h = let low = is_below 0 p h in either (nat_lt 0 p) (nat_lt 0 n) low
  where
    either : (a b : Bool) → a ≡ true → (a || b) ≡ true
    either true b e = refl
    either false b e = absurd (let clash : false ≡ true = e in cc)

pointed_slots : (p n : ℕ) → 0 < n → is_pointed p n ≡ true
pointed_slots p n h = let low = is_below 0 n h in either (nat_lt 0 p) (nat_lt 0 n) low
  where
    either : (a b : Bool) → b ≡ true → (a || b) ≡ true
    either true b e = refl
    either false b e = e

unpointed : (p n : ℕ) → is_pointed p n ≡ false → n ≡ 0
unpointed p n e = let none = not_below 0 n (neither (nat_lt 0 p) (nat_lt 0 n) e) in omega (arith, none)
  where
    neither : (a b : Bool) → (a || b) ≡ false → b ≡ false
    neither true b f = absurd (let clash : true ≡ false = f in cc)
    neither false b f = f

none_small : Small (taken 0 0 0)
none_small = record { lasting = omega arith; passing = omega arith }

module _ (c : ℕ → Bool) (bs : List Bool) (ws : List ℕ) (p : ℕ) (can : CanBeFramed ws p) where
  abbrev others : List ℕ
  others = drop p ws

  abbrev end : Taken
  end = all_taken c ws p

  abbrev its_layout : Layout
  its_layout = lying c bs ws p

  abbrev its_spots : List Spot
  its_spots = spots_from c p others (taken 0 0 0)

  abbrev at_spot : (b : Bool) (k : ℕ) → Spot
  at_spot b k = if b then InFrame (end.slots + end.lasting + 4 + behind_width (take p ws) k) else spot_at its_spots (k - p)

  end_small : Small end
  end_small = all_small c p others (taken 0 0 0) none_small

  front_long : length (take p ws) ≡ p
  front_long = let low = can.params in omega (arith, length-take p ws, low)

  back_long : length others ≡ length ws - p
  back_long = length-drop p ws

  inside_others : (k : ℕ) → p ≤ k → k < length ws → k - p < length others
  inside_others k beyond low = omega (arith, back_long, beyond, low)

  -- a parameter lies within its frame, behind the return address
  parameter_fits : (k : ℕ) → k < p → behind_width (take p ws) k + slice_index ws k ≤ sum_of (take p ws)
  parameter_fits k inside =
      let fits = behind_inside (take p ws) k (let long = front_long in omega (arith, long, inside)) in
      let width = width_in_front ws p k inside in
      omega (arith, fits, width)

  other_before : (k : ℕ) → p ≤ k → k < length ws → Before (spot_at its_spots (k - p)) (slice_index ws k) end
  other_before k beyond low =
      subst (λ w. Before (spot_at its_spots (k - p)) w end) (width_behind ws p k beyond can.params)
      (spot_before c p others (taken 0 0 0) none_small (k - p) (inside_others k beyond low))

  its_saved : is_pointed p end.slots ≡ true → length its_layout.saved ≡ 2 + end.lasting
  its_saved e = saved-counted (is_pointed p end.slots) end.lasting e

  other_is : (s : Spot) (w : ℕ) → Before s w end → IsSpot its_layout s w
  other_is (InFrame a) w h = let some = h.0 in let low = h.1 in (pointed_slots p end.slots (omega (arith, some, low)), omega (arith, low), inr low)
  other_is (InRegisters r) w (inl h) =
      let all = end_small.lasting in
      let low = h.0 in
      let high = h.1 in
      (low, omega (arith, high, all), λ d lo hi g. saved_there (is_pointed p end.slots) end.lasting d (omega (arith, low, lo)) (omega (arith, high, hi)))
  other_is (InRegisters r) w (inr h) =
      let all = end_small.passing in
      let low = h.0 in
      let high = h.1 in
      (omega (arith, low), omega (arith, high, all), λ d lo hi g. absurd (none d (omega (arith, low, lo)) (omega (arith, high, hi, all)) g))
    where
      none : (d : ℕ) → 8 ≤ d → d < 18 → IsReliable d → ⊥
      none d lo hi (inl g) = let top = g.1 in omega (arith, lo, top)
      none d lo hi (inr g) = let up = g.0 in omega (arith, hi, up)

  spot_is : (b : Bool) (k : ℕ) → nat_lt k p ≡ b → k < length ws → IsSpot its_layout (at_spot b k) (slice_index ws k)
  spot_is true k e low =
      let inside = below k p e in
      let fits = parameter_fits k inside in
      let pointed = pointed_params p end.slots (omega (arith, inside)) in
      let saved = its_saved pointed in
      (pointed, omega (arith, fits, saved), inl (omega (arith, saved)))
  spot_is false k e low = other_is (spot_at its_spots (k - p)) (slice_index ws k) (other_before k (not_below k p e) low)

  -- of two locals, the one with the lower number
  parameter_apart : (a v : ℕ) (s : Spot) (w : ℕ) → end.slots ≤ a → Before s w end → Apart (InFrame a) v s w
  parameter_apart a v (InFrame b) w high h = let low = h.1 in inl (omega (arith, high, low))
  parameter_apart a v (InRegisters r) w high h = tt

  apart_less : (b b' : Bool) (j k : ℕ) → nat_lt j p ≡ b → nat_lt k p ≡ b' → j < k → k < length ws
      → Apart (at_spot b j) (slice_index ws j) (at_spot b' k) (slice_index ws k)
  apart_less true true j k e f less low =
      let inside = below k p f in
      let order = behind_order (take p ws) j k less (let long = front_long in omega (arith, long, inside)) in
      let width = width_in_front ws p k inside in
      inl (omega (arith, order, width))
  apart_less true false j k e f less low =
      parameter_apart (end.slots + end.lasting + 4 + behind_width (take p ws) j) (slice_index ws j) (spot_at its_spots (k - p)) (slice_index ws k) (omega arith)
      (other_before k (not_below k p f) low)
  apart_less false true j k e f less low = absurd (let beyond = not_below j p e in let inside = below k p f in omega (arith, beyond, inside, less))
  apart_less false false j k e f less low =
      let beyond = not_below j p e in
      let past = not_below k p f in
      let both = spots_apart c p others (taken 0 0 0) none_small (j - p) (k - p) (omega (arith, beyond, less)) (inside_others k past low) in
      subst (λ v. Apart (spot_at its_spots (j - p)) v (spot_at its_spots (k - p)) (slice_index ws k)) (width_behind ws p j beyond can.params)
      (subst (λ w. Apart (spot_at its_spots (j - p)) (slice_index others (j - p)) (spot_at its_spots (k - p)) w) (width_behind ws p k past can.params) both)

  lying-apart : (j k : ℕ) → j < length ws → k < length ws → j ≢ k → Apart (its_layout.spots j) (slice_index ws j) (its_layout.spots k) (slice_index ws k)
  lying-apart j k low low' ne = elim (below_or_not j k) [
    | inl less ↦ apart_less (nat_lt j p) (nat_lt k p) j k refl refl less low'
    | inr more ↦ apart-turned (its_layout.spots k) (its_layout.spots j) (slice_index ws k) (slice_index ws j)
        (apart_less (nat_lt k p) (nat_lt j p) k j refl refl (omega (arith, more, ne)) low)
  ]

  lying-counted : end.lasting + end.slots ≤ sum_of others
  lying-counted = let all = all_counted c p others (taken 0 0 0) in omega (arith, all)

  lying-layout : IsLayout its_layout
  lying-layout =
      record {
        narrow = can.narrow;
        spot = λ k low. spot_is (nat_lt k p) k refl low;
        apart = lying-apart;
        pointer = saved_pointer (is_pointed p end.slots) end.lasting;
        no_pointer = unpointed p end.slots;
        reliable = λ d h. saved_reliable (is_pointed p end.slots) end.lasting d end_small.lasting h;
        small = let few = lying-counted in let small = can.small in let parts = both_parts ws p in omega (arith, few, small, parts);
      }

  lying-pushed : bs ≡ [] → HasPushed its_layout p
  lying-pushed none = record { spots = λ k low. at (nat_lt k p) k refl low; bytes = refl; arrive = none }
    where
      at : (b : Bool) (k : ℕ) → nat_lt k p ≡ b → k < p → at_spot b k ≡ InFrame (its_layout.slots + link_size its_layout + behind_width (take p ws) k)
      at true k e low =
          let saved = its_saved (pointed_params p end.slots (omega (arith, low))) in
          let same : end.slots + end.lasting + 4 ≡ its_layout.slots + link_size its_layout = omega (arith, saved) in
          ap (λ m. InFrame (m + behind_width (take p ws) k)) same
      at false k e low = absurd (let none = not_below k p e in omega (arith, none, low))

  lying-outlives : (k : ℕ) → k < length ws → c k ≡ true → outlives (its_layout.spots k) (slice_index ws k) ≡ true
  lying-outlives k low e = by_number (nat_lt k p) refl
    where
      by_number : (b : Bool) → nat_lt k p ≡ b → outlives (at_spot b k) (slice_index ws k) ≡ true
      by_number true f = refl
      by_number false f =
          let beyond = not_below k p f in
          let here : k ≡ p + (k - p) = omega (arith, beyond) in
          subst (λ w. outlives (spot_at its_spots (k - p)) w ≡ true) (width_behind ws p k beyond can.params)
          (spot_outlives c p others (taken 0 0 0) (k - p) (inside_others k beyond low) (subst (λ n. c n ≡ true) here e))

-- the same locals are live where these are numbers of some
lives_alike : (one other : ℕ → Bool) (n k : ℕ) → ((j : ℕ) → k ≤ j → j < k + n → one j ≡ other j) → lives_from one k n ≡ lives_from other k n
lives_alike one other zero k h = refl
lives_alike one other (suc n) k h =
    ap (λ b. b ∷ lives_from one (suc k) n) (h k (omega arith) (omega arith))
    ∙ ap (λ bs. other k ∷ bs) (lives_alike one other n (suc k) (λ j lo hi. h j (omega (arith, lo)) (omega (arith, hi))))

module _ (m : Procedure) (can : CanBeFramed m.widths m.params) where
  abbrev arrives : List Bool
  arrives = arriving (λ k. is_live m.code k 0) m.widths m.params

  abbrev on : ℕ
  on = on_stack m.widths m.params

  on_few : (b : Bool) → (if b then 0 else m.params) ≤ length m.widths
  on_few true = omega arith
  on_few false = can.params

  can_on : CanBeFramed m.widths on
  can_on = record { narrow = can.narrow; params = on_few (by_registers (take m.params m.widths)); small = can.small }

  pub framed-layout : IsLayout (framed m)
  framed-layout = lying-layout (lasts m.code) arrives m.widths on can_on

  pub framed-parameters : HasParameters (framed m) (live_in m 0) m.params
  framed-parameters = by_case (by_registers (take m.params m.widths))
    where
      numbered : (k : ℕ) → live_in m 0 k ≡ true → k < length m.widths
      numbered k h = below k (length m.widths) (first (nat_lt k (length m.widths)) (is_live m.code k 0) h)
        where
          first : (a b : Bool) → (a && b) ≡ true → a ≡ true
          first true b e = refl
          first false b e = e

      alike : (k : ℕ) → k < m.params → is_live m.code k 0 ≡ live_in m 0 k
      alike k low =
          let few = can.params in
          sym (ap (λ b. b && is_live m.code k 0) (is_below k (length m.widths) (omega (arith, low, few))))

      by_case : (b : Bool)
          → HasBy b (lying (lasts m.code) (if b then lives_from (λ k. is_live m.code k 0) 0 m.params else []) m.widths (if b then 0 else m.params)) (live_in m 0) m.params
      by_case true =
          record {
            kept = lives_alike (λ k. is_live m.code k 0) (live_in m 0) m.params 0 (λ j lo hi. alike j (omega (arith, hi)));
            bytes = refl;
            numbered = numbered;
          }
      by_case false = lying-pushed (lasts m.code) [] m.widths m.params can refl

  pub framed-outlives : (k : ℕ) → k < length m.widths → lasts m.code k ≡ true → outlives ((framed m).spots k) (slice_index m.widths k) ≡ true
  framed-outlives = lying-outlives (lasts m.code) arrives m.widths on can_on

-- ---- its bytes

-- The frame has at most four bytes beside those of the locals, and so has what is pushed at an entry beside those of the locals that were not pushed.
lying-taken : (c : ℕ → Bool) (bs : List Bool) (ws : List ℕ) (p : ℕ) → length (lying c bs ws p).saved + (lying c bs ws p).slots ≤ sum_of (drop p ws) + 2
lying-taken c bs ws p =
    let all = all_counted c p (drop p ws) (taken 0 0 0) in
    omega (arith, all, saved-few (is_pointed p (all_taken c ws p).slots) (all_taken c ws p).lasting)

pub framed-taken : (m : Procedure) → length (framed m).saved + (framed m).slots ≤ sum_of (drop (on_stack m.widths m.params) m.widths) + 2
framed-taken m =
    lying-taken (lasts m.code) (arriving (λ k. is_live m.code k 0) m.widths m.params) m.widths (on_stack m.widths m.params)

pub framed-bytes : (m : Procedure) → frame_size (framed m) ≤ sum_of m.widths + 4
framed-bytes m = let parts = both_parts m.widths (on_stack m.widths m.params) in let few = framed-taken m in omega (arith, parts, few)
