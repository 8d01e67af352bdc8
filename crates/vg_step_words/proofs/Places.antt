-- How many words loads and stores take.
use Rattle.std.specs.Prelude.{ℕ, zero, suc, ◌+◌, ◌-◌, ◌*◌, ◌%◌, ◌^◌, ◌≤◌, Bool, true, false, ◌==◌, ◌&&◌, nat_le, if◌then◌else◌, List, [], ◌∷◌}
use Rattle.std.specs.Prelude.{Option, Some, None}
use Rattle.std.proofs.Common.{◌≡◌, refl, sym, subst, arith}
use Rattle.vg_firm.specs.declared.step.ArrayPlace.{ArrayPlace}
use Rattle.vg_firm.specs.declared.step.Elements.{Elements}
use Rattle.vg_firm.specs.declared.step.Home.{Home}
use Rattle.vg_firm.specs.declared.step.Home.TheVariants.{Ram as InRam, Flash as InFlash}
use Rattle.vg_lin.specs.declared.instr.Operand.{Operand}
use Rattle.vg_lin.specs.declared.instr.Operand.TheVariants.{Local, Known}
use Rattle.vg_lin.specs.declared.instr.Operator.TheVariants.{Times as Product}
use Rattle.vg_lin.specs.declared.instr.Memory.{Memory}
use Rattle.vg_lin.specs.declared.instr.Memory.TheVariants.{Ram, Flash}
use Rattle.vg_lin.specs.declared.instr.Plain.{Plain as PlainInstr}
use Rattle.vg_lin.specs.declared.instr.Instr.TheVariants.{Plain}
use Rattle.vg_flatten_shapes.specs.declared.layout.Place.{Place}
use Rattle.vg_flatten_shapes.specs.declared.room.Room.{Room}
use Rattle.vg_flatten_shapes.specs.declared.open.Truth.TheVariants.{Holds}
use Rattle.vg_flatten_shapes.specs.Shapes.{temp}
use Rattle.vg_flatten_shapes.specs.Blocks.{Skip, stop_where}
use Rattle.vg_flatten_shapes.specs.Made.{is_zero}
use Rattle.vg_flatten_places.specs.declared.elements.Reach.{Reach}
use Rattle.vg_flatten_places.specs.Places.{may_be_null, null_check, load_no_field, store_no_field, load_nothing, store_nothing, load_no_item, store_no_item}
use Rattle.vg_flatten_places.specs.Places.{is_width, load_entry, load_from, multiplied, multiple, fetched, load_one, distance, fetched_from, load_sole, load_of}
use Rattle.vg_flatten_places.specs.Places.{length_of, known_length, array_length, store_at, store_one, put_of, put_from, store_placed, put_sole, store_of}
use Rattle.vg_flatten_places.specs.Places.{memory_of, is_place, timed, inside, element_of, load_element, no_element, lone_element}
use Rattle.vg_flatten_places.specs.Places.{load_lone, load_inside, load_dropped, load_item, store_element, store_lone, store_inside, store_dropped, store_item}
use Rattle.vg_expand.specs.Code.{in_two}
use Rattle.vg_step_words.specs.Words.{list_words, unknown, grown_words, block_words}
use Rattle.vg_step_words.specs.Steps.{multiple_words, product_words, load_words, store_words, entry_words}
use Rattle.vg_step_words.proofs.Operands.{bytes_few, reach_few, found_few, zero_test_few}
use Rattle.vg_step_words.proofs.Made.{Within, within_more, within_temp, within_if}

-- each number of bytes that a load takes
each_width : (P : ℕ → Type 0) → P 1 → P 2 → P 3 → P 4 → (w : ℕ) → is_width w ≡ true → P w
each_width P a b c d zero e = absurd (grind (arith, e))
each_width P a b c d (suc zero) e = a
each_width P a b c d (suc (suc zero)) e = b
each_width P a b c d (suc (suc (suc zero))) e = c
each_width P a b c d (suc (suc (suc (suc zero)))) e = d
each_width P a b c d (suc (suc (suc (suc (suc n))))) e = absurd (grind (arith, e))

width_few : (w : ℕ) → is_width w ≡ true → w ≤ 4
width_few = each_width (λ w. w ≤ 4) (omega arith) (omega arith) (omega arith) (omega arith)

-- of two tests the first holds
pub first_of : (a b : Bool) → (a && b) ≡ true → a ≡ true
first_of true b e = refl
first_of false b e = absurd (cc e)

wide_of : (e : Elements) (place : Place) (table : ℕ) → (is_width e.width && is_place e place && nat_le 4 table) ≡ true → is_width e.width ≡ true
wide_of e place table f = first_of (is_width e.width) (is_place e place) (first_of (is_width e.width && is_place e place) (nat_le 4 table) f)

-- a place that is known takes at most two words
near_few : (w : ℕ) → (if nat_le w 2 then w else 2) ≤ 2
near_few w = by (nat_le w 2) refl
  where
    by : (b : Bool) → nat_le w 2 ≡ b → (if b then w else 2) ≤ 2
    by true e = grind (arith, e)
    by false e = omega arith

module _ (cases : ℕ → ℕ) where
  abbrev work : PlainInstr → ℕ
  work p = grown_words cases (Plain p)

  -- ---- parts

  pub null_few : (r : Room) (h : Operand) → block_words cases (null_check r h) ≤ 16
  null_few r h = by (may_be_null r h)
    where
      by : (b : Bool) → block_words cases (if b then stop_where 1 (Holds (is_zero h)) else Skip) ≤ 16
      by true = let few = zero_test_few h in omega (arith, few)
      by false = omega arith

  -- what is no null takes no check
  pub unchecked : (r : Room) (h : Operand) → may_be_null r h ≡ false → block_words cases (null_check r h) ≤ 0
  unchecked r h e = subst (λ b. block_words cases (if b then stop_where 1 (Holds (is_zero h)) else Skip) ≤ 0) (sym e) (omega arith)

  pub stop_few : (h : Operand) → block_words cases (stop_where 1 (Holds (is_zero h))) ≤ 16
  stop_few h = let few = zero_test_few h in omega (arith, few)

  pub distance_few : (to first : ℕ) (h : Operand) → work (distance to first h) ≤ 18
  distance_few to first h = let few = reach_few h in omega (arith, few)

  -- at a place that is known, and at one that is not
  load_known : (m : Memory) (w to base : ℕ) → work (load_from m w to base (Known 0)) ≤ 9 + w
  load_known Ram w to base = let few = near_few w in omega (arith, few)
  load_known Flash w to base = omega arith

  load_few : (home : Home) (w to base : ℕ) (x : Operand) → work (load_from (memory_of home) w to base x) ≤ load_words home w
  load_few InRam w to base (Local i) = omega arith
  load_few InRam w to base (Known v) = let few = near_few w in omega (arith, few)
  load_few InFlash w to base (Local i) = omega arith
  load_few InFlash w to base (Known v) = omega arith

  store_few : (w base : ℕ) (x v : Operand) → work (store_at w base x v) ≤ store_words w
  store_few w base (Local i) v = let few = found_few v w in omega (arith, few)
  store_few w base (Known n) v = let near = near_few w in let few = found_few v w in omega (arith, near, few)

  store_known : (w base : ℕ) (v : Operand) → work (store_at w base (Known 0) v) ≤ 5 + 2 * w
  store_known w base v = let near = near_few w in let few = found_few v w in omega (arith, near, few)

  -- ---- products by the bytes of an entry

  by_one : (to : ℕ) (h : Operand) → work (timed to 1 h) ≤ 12
  by_one to (Local i) = omega arith
  by_one to (Known v) = let few = bytes_few 4 (v * 1 % 256 ^ 2) in omega (arith, few)

  by_two : (to : ℕ) (h : Operand) → work (timed to 2 h) ≤ 14
  by_two to (Local i) = omega arith
  by_two to (Known v) = let few = bytes_few 4 (v * 2 % 256 ^ 2) in omega (arith, few)

  by_three : (to : ℕ) (h : Operand) → work (timed to 3 h) ≤ 34
  by_three to (Known v) = let few = bytes_few 4 (v * 3 % 256 ^ 2) in omega (arith, few)
  by_three to (Local i) = by (i == to)
    where
      by : (b : Bool)
          → list_words cases (in_two unknown (record { operator = Product; width = 2; to = to; left = Local i; right = Known 3 }) (Local i) 3 b) ≤ 34
      by true = omega arith
      by false = omega arith

  by_four : (to : ℕ) (h : Operand) → work (timed to 4 h) ≤ 16
  by_four to (Local i) = omega arith
  by_four to (Known v) = let few = bytes_few 4 (v * 4 % 256 ^ 2) in omega (arith, few)

  multiplied_few : (to w : ℕ) (h : Operand) → is_width w ≡ true → block_words cases (multiplied to w h) ≤ multiple_words w
  multiplied_few to w h e =
      each_width (λ w. block_words cases (multiplied to w h) ≤ multiple_words w) (omega arith) (by_two to h) (by_three to h) (by_four to h) w e

  timed_few : (to w : ℕ) (h : Operand) → is_width w ≡ true → work (timed to w h) ≤ product_words w
  timed_few to w h e = each_width (λ w. work (timed to w h) ≤ product_words w) (by_one to h) (by_two to h) (by_three to h) (by_four to h) w e

  module _ (r : Room) where
    -- ---- columns

    pub within_no_field : (hs : List Operand) → Within cases 16 (load_no_field r hs)
    within_no_field [] = tt
    within_no_field (h ∷ hs) = let few = null_few r h in omega (arith, few)

    pub within_no_store : (hs : List Operand) → Within cases 16 (store_no_field r hs)
    within_no_store [] = tt
    within_no_store (v ∷ []) = tt
    within_no_store (v ∷ h ∷ hs) = let few = null_few r h in omega (arith, few)

    nothing_loaded : (hs : List Operand) → Within cases 16 (load_nothing hs)
    nothing_loaded [] = tt
    nothing_loaded (h ∷ hs) = let few = stop_few h in omega (arith, few)

    nothing_stored : (hs : List Operand) → Within cases 16 (store_nothing hs)
    nothing_stored [] = tt
    nothing_stored (v ∷ []) = tt
    nothing_stored (v ∷ h ∷ hs) = let few = stop_few h in omega (arith, few)

    pub within_load_one : (m : Memory) (o : Option Place) (hs : List Operand) → Within cases 13 (load_one r m o hs)
    within_load_one m None hs = tt
    within_load_one m (Some place) hs =
        within_if cases 13 (is_width place.width) _ _ (λ e. within_temp cases 13 (temp r hs) _ (λ to.
        let wide = width_few place.width e in let few = load_known m place.width to place.address in omega (arith, wide, few))) tt

    pub within_store_one : (w : ℕ) (o : Option Place) (hs : List Operand) → Within cases (5 + 2 * w) (store_one w o hs)
    within_store_one w None hs = tt
    within_store_one w (Some place) [] = tt
    within_store_one w (Some place) (v ∷ hs) =
        within_if cases (5 + 2 * w) (is_width w && (w == place.width)) _ _ (λ e. let few = store_known w place.address v in omega (arith, few)) tt

    -- An entry that a number finds, and one that is counted from a first one; the null check takes so many words.
    module _ (n : ℕ) (h : Operand) (null : block_words cases (null_check r h) ≤ n) (home : Home) where
      abbrev loaded : (w : ℕ) → ℕ
      loaded w = n + 18 + multiple_words w + load_words home w

      fetched_few : (w base : ℕ) (hs : List Operand) → is_width w ≡ true → Within cases (loaded w) (fetched r (memory_of home) w w base h hs)
      fetched_few w base hs wide =
          within_temp cases (loaded w) (temp r hs) _ (λ to.
          let product = multiplied_few to w h wide in
          let load = load_few home w to base (multiple to w h) in omega (arith, null, product, load))

      counted_few : (w first base : ℕ) (hs : List Operand) → is_width w ≡ true → Within cases (loaded w) (fetched_from r (memory_of home) w first base h hs)
      counted_few w first base hs wide =
          within_temp cases (loaded w) (temp r hs) _ (λ to.
          let far = distance_few to first h in let product = multiplied_few to w (Local to) wide in
          let load = load_few home w to base (multiple to w (Local to)) in omega (arith, null, far, product, load))

      sole_few : (w address : ℕ) (hs : List Operand) → Within cases (loaded w) (load_sole r (memory_of home) w address h hs)
      sole_few w address hs =
          within_temp cases (loaded w) (temp r hs) _ (λ to. let load = load_few home w to address (Known 0) in omega (arith, null, load))

      entry_few : (first : ℕ) (place : Place) (hs : List Operand) → is_width place.width ≡ true
          → Within cases (loaded place.width) (load_entry r (memory_of home) first place h hs)
      entry_few first place hs wide =
          within_if cases (loaded place.width) (place.count == 1) _ _ (λ f. sole_few place.width place.address hs)
          (within_if cases (loaded place.width) (nat_le (place.width * first) place.address) _ _
          (λ f. fetched_few place.width (place.address - place.width * first) hs wide) (counted_few place.width first place.address hs wide))

      pub within_read : (first : ℕ) (o : Option Place) (hs : List Operand)
          → Within cases (entry_words home o - 16 + n) (load_of r (memory_of home) first o (h ∷ hs))
      within_read first None hs = tt
      within_read first (Some place) hs =
          within_if cases (entry_words home (Some place) - 16 + n) (is_width place.width) _ _
          (λ e. within_more cases (loaded place.width) (entry_words home (Some place) - 16 + n) _ (omega arith) (entry_few first place hs e)) tt

    pub within_load_of : (home : Home) (first : ℕ) (o : Option Place) (hs : List Operand)
        → Within cases (entry_words home o) (load_of r (memory_of home) first o hs)
    within_load_of home first None hs = tt
    within_load_of home first (Some place) [] = tt
    within_load_of home first (Some place) (h ∷ hs) =
        within_more cases (entry_words home (Some place) - 16 + 16) (entry_words home (Some place)) _ (omega arith)
        (within_read 16 h (null_few r h) home first (Some place) hs)

    module _ (w : ℕ) (wide : is_width w ≡ true) where
      abbrev stored : ℕ
      stored = 34 + multiple_words w + store_words w

      put_few : (base : ℕ) (v h : Operand) (hs : List Operand) → Within cases stored (put_of r w base v h hs)
      put_few base v h hs =
          within_temp cases stored (temp r (v ∷ h ∷ hs)) _ (λ to.
          let null = null_few r h in let product = multiplied_few to w h wide in
          let store = store_few w base (multiple to w h) v in omega (arith, null, product, store))

      put_counted : (first base : ℕ) (v h : Operand) (hs : List Operand) → Within cases stored (put_from r w first base v h hs)
      put_counted first base v h hs =
          within_temp cases stored (temp r (v ∷ h ∷ hs)) _ (λ to.
          let null = null_few r h in let far = distance_few to first h in let product = multiplied_few to w (Local to) wide in
          let store = store_few w base (multiple to w (Local to)) v in omega (arith, null, far, product, store))

      put_sole_few : (address : ℕ) (v h : Operand) (hs : List Operand) → Within cases stored (put_sole r w address v h hs)
      put_sole_few address v h hs = let null = null_few r h in let store = store_few w address (Known 0) v in omega (arith, null, store)

      put_placed_few : (first address : ℕ) (v h : Operand) (hs : List Operand) → Within cases stored (store_placed r w first address v h hs)
      put_placed_few first address v h hs =
          within_if cases stored (nat_le (w * first) address) _ _ (λ f. put_few (address - w * first) v h hs) (put_counted first address v h hs)

    pub within_store_of : (first w : ℕ) (o : Option Place) (hs : List Operand)
        → Within cases (34 + multiple_words w + store_words w) (store_of r first w o hs)
    within_store_of first w None hs = tt
    within_store_of first w (Some place) [] = tt
    within_store_of first w (Some place) (v ∷ []) = tt
    within_store_of first w (Some place) (v ∷ h ∷ hs) =
        within_if cases (34 + multiple_words w + store_words w) (is_width w && (w == place.width)) _ _ (λ e.
        let wide = first_of (is_width w) (w == place.width) e in
        within_if cases (34 + multiple_words w + store_words w) (place.count == 1) _ _ (λ f. put_sole_few w wide place.address v h hs)
        (put_placed_few w wide first place.address v h hs)) tt

    -- ---- arrays

    length_few : (o : Option ℕ) (hs : List Operand) → Within cases 49 (length_of r o hs)
    length_few None hs = within_more cases 16 49 (load_nothing hs) (omega arith) (nothing_loaded hs)
    length_few (Some table) [] = tt
    length_few (Some table) (h ∷ hs) =
        within_if cases 49 (nat_le 2 table) _ _ (λ e. within_temp cases 49 (temp r hs) _ (λ to.
        let null = null_few r h in let four = by_four to h in let few = load_few InFlash 2 to (table - 2) (Local to) in omega (arith, null, four, few))) tt

    known_length_few : (length : ℕ) (hs : List Operand) → Within cases 49 (known_length length hs)
    known_length_few length [] = tt
    known_length_few length (h ∷ hs) = let few = stop_few h in omega (arith, few)

    pub within_length : (single : Option ArrayPlace) (o : Option ℕ) (hs : List Operand) → Within cases 49 (array_length r single o hs)
    within_length (Some a) o hs = known_length_few a.length hs
    within_length None o hs = length_few o hs

    abbrev item_loaded : Elements → ℕ
    item_loaded e = 108 + product_words e.width + load_words e.home e.width

    abbrev item_stored : Elements → ℕ
    item_stored e = 108 + product_words e.width + store_words e.width

    -- the null check, the length and the bounds check of an element
    module _ (x : Reach) where
      checked_few : (last : Option PlainInstr) → block_words cases (element_of x last) ≤ 72 + block_words cases (inside x last)
      checked_few last =
          let null = stop_few x.home in
          let four = by_four x.first x.home in
          let long = load_few InFlash 2 x.second (x.table - 2) (Local x.first) in
          let index = found_few x.index 4 in omega (arith, null, four, long, index)

      inside_few : (n : ℕ) (last : PlainInstr) → work (timed x.second x.width x.index) + work last ≤ n
          → block_words cases (element_of x (Some last)) ≤ 108 + n
      inside_few n last h =
          let check = checked_few (Some last) in
          let place = load_few InFlash 2 x.first (x.table - 4) (Local x.first) in omega (arith, check, place, h)

    lone_few : (n length w to : ℕ) (index home : Operand) (last : PlainInstr) → block_words cases (multiplied to w index) + work last ≤ n
        → block_words cases (lone_element length w to home index last) ≤ 36 + n
    lone_few n length w to index home last h =
        let null = stop_few home in
        let found = found_few index 4 in
        let bytes = bytes_few 4 length in omega (arith, null, found, bytes, h)

    multiple_less : (w : ℕ) → is_width w ≡ true → multiple_words w ≤ product_words w
    multiple_less = each_width (λ w. multiple_words w ≤ product_words w) (omega arith) (omega arith) (omega arith) (omega arith)

    load_element_few : (e : Elements) (table : ℕ) (h i : Operand) (hs : List Operand) → is_width e.width ≡ true
        → Within cases (item_loaded e) (load_element r e table h i hs)
    load_element_few e table h i hs wide =
        within_temp cases (item_loaded e) (temp r hs) _ (λ to. within_temp cases (item_loaded e) (temp r (i ∷ h ∷ hs)) _ (λ first.
        within_temp cases (item_loaded e) (temp r (Local first ∷ i ∷ h ∷ hs)) _ (λ second.
        let product = timed_few second e.width i wide in
        let load = load_few e.home e.width to 0 (Local first) in
        let few = inside_few (record { first = first; second = second; table = table; width = e.width; home = h; index = i })
        (product_words e.width + load_words e.home e.width) (load_from (memory_of e.home) e.width to 0 (Local first)) (omega (arith, product, load)) in
        omega (arith, few))))

    load_lone_few : (e : Elements) (a : ArrayPlace) (h i : Operand) (hs : List Operand) → is_width e.width ≡ true
        → Within cases (item_loaded e) (load_lone r e a h i hs)
    load_lone_few e a h i hs wide =
        within_temp cases (item_loaded e) (temp r hs) _ (λ to.
        let product = multiplied_few to e.width i wide in
        let less = multiple_less e.width wide in
        let load = load_few e.home e.width to a.address (multiple to e.width i) in
        let few = lone_few (multiple_words e.width + load_words e.home e.width) a.length e.width to i h
        (load_from (memory_of e.home) e.width to a.address (multiple to e.width i)) (omega (arith, product, load)) in
        omega (arith, few, less))

    load_inside_few : (single : Option ArrayPlace) (e : Elements) (table : ℕ) (h i : Operand) (hs : List Operand) → is_width e.width ≡ true
        → Within cases (item_loaded e) (load_inside r single e table h i hs)
    load_inside_few (Some a) e table h i hs wide = load_lone_few e a h i hs wide
    load_inside_few None e table h i hs wide = load_element_few e table h i hs wide

    no_element_few : (w table : ℕ) (h i : Operand) (hs left : List Operand) → Within cases 74 (no_element r w table h i hs left)
    no_element_few w table h i hs left =
        within_temp cases 74 (temp r (i ∷ h ∷ hs)) _ (λ first. within_temp cases 74 (temp r (Local first ∷ i ∷ h ∷ hs)) _ (λ second.
        let few = checked_few (record { first = first; second = second; table = table; width = w; home = h; index = i }) None in omega (arith, few)))

    no_item_loaded : (e : Elements) (hs : List Operand) → Within cases (item_loaded e) (load_no_item hs)
    no_item_loaded e [] = tt
    no_item_loaded e (i ∷ hs) = within_more cases 16 (item_loaded e) (load_nothing hs) (omega arith) (nothing_loaded hs)

    no_item_stored : (e : Elements) (hs : List Operand) → Within cases (item_stored e) (store_no_item hs)
    no_item_stored e [] = tt
    no_item_stored e (v ∷ []) = tt
    no_item_stored e (v ∷ i ∷ hs) = within_more cases 16 (item_stored e) (store_nothing (v ∷ hs)) (omega arith) (nothing_stored (v ∷ hs))

    load_dropped_few : (e : Elements) (table : ℕ) (hs : List Operand) → Within cases (item_loaded e) (load_dropped r e table hs)
    load_dropped_few e table [] = tt
    load_dropped_few e table (i ∷ []) = tt
    load_dropped_few e table (i ∷ h ∷ hs) =
        within_if cases (item_loaded e) (nat_le 4 table) _ _
        (λ f. within_more cases 74 (item_loaded e) (no_element r e.width table h i hs (Known 0 ∷ hs)) (omega arith)
        (no_element_few e.width table h i hs (Known 0 ∷ hs))) tt

    pub within_load_item : (single : Option ArrayPlace) (e : Elements) (place : Option Place) (table : Option ℕ) (hs : List Operand)
        → Within cases (item_loaded e) (load_item r single e place table hs)
    within_load_item single e place None hs = no_item_loaded e hs
    within_load_item single e None (Some table) hs = load_dropped_few e table hs
    within_load_item single e (Some place) (Some table) [] = tt
    within_load_item single e (Some place) (Some table) (i ∷ []) = tt
    within_load_item single e (Some place) (Some table) (i ∷ h ∷ hs) =
        within_if cases (item_loaded e) (is_width e.width && is_place e place && nat_le 4 table) _ _
        (λ f. load_inside_few single e table h i hs (wide_of e place table f)) tt

    store_element_few : (e : Elements) (table : ℕ) (v h i : Operand) (hs : List Operand) → is_width e.width ≡ true
        → Within cases (item_stored e) (store_element r e.width table v h i hs)
    store_element_few e table v h i hs wide =
        within_temp cases (item_stored e) (temp r (v ∷ i ∷ h ∷ hs)) _ (λ first.
        within_temp cases (item_stored e) (temp r (Local first ∷ v ∷ i ∷ h ∷ hs)) _ (λ second.
        let product = timed_few second e.width i wide in
        let store = store_few e.width 0 (Local first) v in
        let few = inside_few (record { first = first; second = second; table = table; width = e.width; home = h; index = i })
        (product_words e.width + store_words e.width) (store_at e.width 0 (Local first) v) (omega (arith, product, store)) in
        omega (arith, few)))

    store_lone_few : (e : Elements) (a : ArrayPlace) (v h i : Operand) (hs : List Operand) → is_width e.width ≡ true
        → Within cases (item_stored e) (store_lone r e.width a v h i hs)
    store_lone_few e a v h i hs wide =
        within_temp cases (item_stored e) (temp r (v ∷ i ∷ h ∷ hs)) _ (λ to.
        let product = multiplied_few to e.width i wide in
        let less = multiple_less e.width wide in
        let store = store_few e.width a.address (multiple to e.width i) v in
        let few = lone_few (multiple_words e.width + store_words e.width) a.length e.width to i h
        (store_at e.width a.address (multiple to e.width i) v) (omega (arith, product, store)) in
        omega (arith, few, less))

    store_inside_few : (single : Option ArrayPlace) (e : Elements) (table : ℕ) (v h i : Operand) (hs : List Operand) → is_width e.width ≡ true
        → Within cases (item_stored e) (store_inside r single e.width table v h i hs)
    store_inside_few (Some a) e table v h i hs wide = store_lone_few e a v h i hs wide
    store_inside_few None e table v h i hs wide = store_element_few e table v h i hs wide

    store_dropped_few : (e : Elements) (table : ℕ) (hs : List Operand) → Within cases (item_stored e) (store_dropped r e table hs)
    store_dropped_few e table [] = tt
    store_dropped_few e table (v ∷ []) = tt
    store_dropped_few e table (v ∷ i ∷ []) = tt
    store_dropped_few e table (v ∷ i ∷ h ∷ hs) =
        within_if cases (item_stored e) (nat_le 4 table) _ _
        (λ f. within_more cases 74 (item_stored e) (no_element r e.width table h i hs hs) (omega arith) (no_element_few e.width table h i hs hs)) tt

    pub within_store_item : (single : Option ArrayPlace) (e : Elements) (place : Option Place) (table : Option ℕ) (hs : List Operand)
        → Within cases (item_stored e) (store_item r single e place table hs)
    within_store_item single e place None hs = no_item_stored e hs
    within_store_item single e None (Some table) hs = store_dropped_few e table hs
    within_store_item single e (Some place) (Some table) [] = tt
    within_store_item single e (Some place) (Some table) (v ∷ []) = tt
    within_store_item single e (Some place) (Some table) (v ∷ i ∷ []) = tt
    within_store_item single e (Some place) (Some table) (v ∷ i ∷ h ∷ hs) =
        within_if cases (item_stored e) (is_width e.width && is_place e place && nat_le 4 table) _ _
        (λ f. store_inside_few single e table v h i hs (wide_of e place table f)) tt
