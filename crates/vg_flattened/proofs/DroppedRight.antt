-- That loads of elements, and stores to them, become blocks that do the same where the elements have no column: the array is checked and
-- the index is, and within bounds the packed program has no element.
use Rattle.std.specs.Prelude.{ℕ, ◌+◌, ◌-◌, ◌*◌, ◌<◌, ◌≤◌, ◌^◌, Bool, true, false, not, nat_lt, nat_le, List, [], ◌∷◌}
use Rattle.std.specs.Prelude.{Option, Some, None, slice_get, if◌then◌else◌}
use Rattle.std.specs.Option.{option_map}
use Rattle.std.proofs.Common.{◌≡◌, refl, sym, ap, ◌∙◌, subst, arith}
use Rattle.std.proofs.lemmas.Option.{none-some, slice_get_within}
use Rattle.vg_meaning.specs.History.{History}
use Rattle.vg_meaning.specs.World.{World}
use Rattle.vg_meaning.specs.Outside.{Outside}
use Rattle.vg_meaning.specs.Answer.{Signal, Answer, Piece, and_then, stops}
use Rattle.vg_codes.specs.Codes.{Codes}
use Rattle.vg_firm.specs.declared.step.ArrayPlace.{ArrayPlace}
use Rattle.vg_firm.specs.declared.step.Elements.{Elements}
use Rattle.vg_firm.specs.declared.step.Home.{Home}
use Rattle.vg_firm.specs.declared.step.Home.TheVariants.{Ram as InRam, Flash as InFlash}
use Rattle.vg_firm.specs.declared.step.Step.{Step}
use Rattle.vg_firm.specs.declared.step.Step.TheVariants.{LoadItem, StoreItem}
use Rattle.vg_firm.specs.Program.{Procedure as FirmProcedure, Program as FirmProgram}
use Rattle.vg_firm.specs.Meaning.{State as Firm, Caller as FirmCaller, step as firm_step, put, taking, take_from, not_null, with_found, stop_unless, checked}
use Rattle.vg_firm.specs.Meaning.{of_width, columns_in, column_of, set_found, load, store, arrays_of, stands_in as is_in, item_index, array_at, at_item}
use Rattle.vg_lin.specs.declared.instr.Operand.{Operand}
use Rattle.vg_lin.specs.declared.instr.Operand.TheVariants.{Local, Known}
use Rattle.vg_lin.specs.declared.instr.Operator.TheVariants.{Times as Product}
use Rattle.vg_lin.specs.declared.instr.Comparison.TheVariants.{Below}
use Rattle.vg_lin.specs.declared.instr.Memory.TheVariants.{Flash}
use Rattle.vg_lin.specs.declared.instr.Plain.{Plain}
use Rattle.vg_lin.specs.Program.{Program as LinProgram}
use Rattle.vg_lin.specs.Steps.{Goes}
use Rattle.vg_lin.specs.State.{State, value, sets, plain, first_address}
use Rattle.vg_lin.specs.Structured.{Deciding, Caller as LinCaller}
use Rattle.vg_flatten_shapes.specs.declared.fault.Fault.TheVariants.{NotTaken}
use Rattle.vg_flatten_shapes.specs.declared.layout.Layout.{Layout}
use Rattle.vg_flatten_shapes.specs.declared.open.Truth.TheVariants.{Fails}
use Rattle.vg_flatten_shapes.specs.declared.room.Room.{Room}
use Rattle.vg_flatten_shapes.specs.Shapes.{Shape, only, temp}
use Rattle.vg_flatten_shapes.specs.Blocks.{Block, One, Both}
use Rattle.vg_flatten_shapes.specs.Made.{Made, Gives as Makes, Refused, by_temp}
use Rattle.vg_flatten_places.specs.declared.elements.Reach.{Reach}
use Rattle.vg_flatten_places.specs.Places.{load_from, places_in, timed, inside, bounded, reached, element_of, no_element, load_dropped, store_dropped}
use Rattle.vg_flatten_values.specs.Values.{test_of}
use Rattle.vg_flatten.specs.Columns.{TableStands, FlashStands}
use Rattle.vg_flattened.proofs.MissingRight.{not_found}
use Rattle.vg_flattened.proofs.Alike.{IsFair, Alike, wrong}
use Rattle.vg_flattened.proofs.Related.{ArePlaced, AreAt, AreWidths, AreSame, Held, Leaves}
use Rattle.vg_flattened.proofs.Numbers.{low_two, below_same}
use Rattle.vg_flattened.proofs.Operating.{holds_of}
use Rattle.vg_flattened.proofs.Locals.{value_of_home, put_temp, placed_temp}
use Rattle.vg_flattened.proofs.Right.{Right, linear}
use Rattle.vg_flattened.proofs.StepRight.{computes_to, plain_goes}
use Rattle.vg_flattened.proofs.CombinedRight.{stops_both, stopped}
use Rattle.vg_flattened.proofs.ColumnRight.{null_then, loads}

-- what is done with an entry that is not found is Wrong
not_set : {G : Firm → Deciding State → Type 0} {L : Signal → Firm → Deciding State → Type 0} (c i v : ℕ) (o : Option ℕ) (s : Firm) (w : World History)
    (b : Answer (Deciding State) History) → o ≡ None → Alike G L (set_found c i v o s w) b
not_set c i v None s w b e = wrong
not_set c i v (Some old) s w b e = absurd (none-some old (sym e))

module _ (k : Codes) (f : FirmProgram) (m : FirmProcedure) (call : FirmCaller History) (handle : ℕ → Piece Firm History)
    (p : LinProgram) (go : LinCaller State) (lay : Layout) (r : Room) (ws : List ℕ) (wide : AreWidths r m.widths ws)
    (flash : FlashStands lay f p) where
  abbrev Right' : Shape → Made → Piece Firm History → Type 0
  Right' = Right k f m call handle p go lay r ws wide

  abbrev linear' : Block → Piece (Deciding State) History
  linear' = linear k f m call handle p go lay r ws wide

  abbrev step' : Step → Piece Firm History
  step' = firm_step k f m call handle

  -- one instruction before more
  pub step_then : {G : Firm → Deciding State → Type 0} {L : Signal → Firm → Deciding State → Type 0} (i : Plain) (b : Block) (a : Answer Firm History)
      (d : Deciding State) (w : World History) (t : State) → plain p i d.state w.outside ≡ Goes t w.outside
      → Alike G L a (linear' b (record d { state = t }) w) → Alike G L a (linear' (Both (One i) b) d w)
  step_then {G} {L} i b a d w t e h =
      subst (λ z. Alike G L a (and_then z (linear' b))) (sym (plain_goes k f m call handle p go lay r ws wide i d w t e)) h

  pub times_is : (to by : ℕ) (h : Operand) (n : ℕ) (t : State) (o : Outside) → value h t ≡ Some n → n * by < 65536
      → plain p (timed to by h) t o ≡ Goes (sets to (n * by) t) o
  times_is to by h n t o hv few =
      computes_to k f m call handle p go lay r ws wide Product 2 to h (Known by) n by (n * by) t o hv refl (ap Some (low_two (n * by) few))

  -- the newest value is left out
  pub less : (h : Operand) (hs : List Operand) (v : ℕ) (vs : List ℕ) (s : Firm) (t : State) → AreSame lay r ws (h ∷ hs) (record s { values = v ∷ vs }) t
      → AreSame lay r ws hs (record s { values = vs }) t
  less h hs v vs s t q = record { waits = q.waits.1; kept = q.kept; none = q.none; ram = q.ram }

  -- ---- an element without a column

  module _ (e : Elements) (table : ℕ) (table_at : slice_get lay.tables e.table ≡ Some table) (h i : Operand) (hs left : List Operand)
      (placed : ArePlaced r.locals (i ∷ h ∷ hs)) (first second : ℕ) (has1 : temp r (i ∷ h ∷ hs) ≡ Some first)
      (has2 : temp r (Local first ∷ i ∷ h ∷ hs) ≡ Some second) (next : ℕ → Piece Firm History) where
    abbrev reach : Reach
    reach = record { first = first; second = second; table = table; width = e.width; home = h; index = i }

    abbrev G : Firm → Deciding State → Type 0
    G = Held lay r ws (only left)

    abbrev L : Signal → Firm → Deciding State → Type 0
    L = Leaves lay r ws

    -- what the packed program does with the array's number
    abbrev sought : ℕ → ℕ → Piece Firm History
    sought x n =
        with_found (array_at f e.table n) (λ a. stop_unless (nat_lt x a.length) 2 (checked (is_in e a.address) (next (item_index e a.address x))))

    -- there is no element
    abbrev AreNone : Firm → World History → Type 0
    AreNone s w = (j : ℕ) (b : Answer (Deciding State) History) → Alike G L (next j s w) b

    placed1 : ArePlaced r.locals (Local first ∷ i ∷ h ∷ hs)
    placed1 = placed_temp r (i ∷ h ∷ hs) first has1 placed

    by_place : (j : ℕ) (s : Firm) (w : World History) (b : Answer (Deciding State) History) → AreNone s w → (c : Bool)
        → Alike G L (checked c (next j) s w) b
    by_place j s w b lacks true = lacks j b
    by_place j s w b lacks false = wrong

    -- the bounds check
    by_bound : (x n : ℕ) (a : ArrayPlace) → a.length < 65536 → (s : Firm) (vs : List ℕ) (d : Deciding State) (w : World History) → IsFair w
        → AreNone (record s { values = vs }) w
        → AreSame lay r ws (Local second ∷ Local first ∷ i ∷ h ∷ hs) (record s { values = a.length ∷ n * 4 ∷ x ∷ n ∷ vs }) d.state
        → (b : Bool) → nat_lt x a.length ≡ b
        → Alike G L (stop_unless b 2 (checked (is_in e a.address) (next (item_index e a.address x))) (record s { values = vs }) w)
        (linear' (bounded reach None) d w)
    by_bound x n a short s vs d w fair lacks q true c =
        by_place (item_index e a.address x) (record s { values = vs }) w (linear' (bounded reach None) d w) lacks (is_in e a.address)
    by_bound x n a short s vs d w fair lacks q false c =
        subst (λ z. Alike G L (stops 2 0 (record s { values = vs }) w) (and_then z (linear' (inside reach None))))
        (sym (stopped k f m call handle p go lay r ws wide (Fails (test_of Below i (Local second))) 2 d w
        (ap (option_map not) (holds_of Below i (Local second) x a.length d.state (value_of_home i x d.state q.waits.1.1.0.0) q.waits.0.0
        ∙ ap Some (below_same x a.length q.waits.1.1.0.1 (omega (arith, short)) ∙ c)))))
        (stops_both 2 (record s { values = vs }) (record d { truth = None }) w fair)

    -- the length of the array
    by_array : (arrays : List ArrayPlace) → slice_get f.tables e.table ≡ Some arrays → (n x : ℕ) → 0 < n
        → (s : Firm) (vs : List ℕ) (d : Deciding State) (w : World History) → IsFair w → AreNone (record s { values = vs }) w
        → AreSame lay r ws (i ∷ h ∷ hs) (record s { values = x ∷ n ∷ vs }) d.state
        → (o : Option ArrayPlace) → slice_get arrays (n - 1) ≡ o
        → Alike G L
        (with_found o (λ a. stop_unless (nat_lt x a.length) 2 (checked (is_in e a.address) (next (item_index e a.address x))))
        (record s { values = vs }) w) (linear' (reached reach None) d w)
    by_array arrays tabled n x above s vs d w fair lacks q None found = wrong
    by_array arrays tabled n x above s vs d w fair lacks q (Some a) found =
        step_then (timed first 4 h) (Both (One (load_from Flash 2 second (table - 2) (Local first))) (bounded reach None)) answer d w t1
        (times_is first 4 h n d.state w.outside (value_of_home h n d.state q.waits.1.0.0) few)
        (step_then (load_from Flash 2 second (table - 2) (Local first)) (bounded reach None) answer (record d { state = t1 }) w t2
        (loads k f m call handle p go lay r ws wide flash Flash 2 second (table - 2) (n * 4) (table - first_address Flash + 4 * (n - 1) + 2) a.length
        (Local first) t1 w.outside q1.waits.0.0
        (omega (arith, t_behind, above)) (omega (arith, t_behind, above)) (stood.lengths (n - 1) a found).0)
        (by_bound x n a short s vs (record d { state = t2 }) w fair lacks q2 (nat_lt x a.length) refl))
      where
        answer : Answer Firm History
        answer = stop_unless (nat_lt x a.length) 2 (checked (is_in e a.address) (next (item_index e a.address x))) (record s { values = vs }) w

        stood : TableStands p.tables table arrays
        stood = flash.tables e.table table arrays table_at tabled

        t_behind : first_address Flash ≤ table
        t_behind = stood.behind

        short : a.length < 65536
        short = (stood.lengths (n - 1) a found).1

        few : n * 4 < 65536
        few =
            let inner = slice_get_within arrays (n - 1) a found in
            let all = stood.short in
            let behind = t_behind in
            omega (arith, inner, all, above, behind)

        t1 : State
        t1 = sets first (n * 4) d.state

        q1 : AreSame lay r ws (Local first ∷ i ∷ h ∷ hs) (record s { values = n * 4 ∷ x ∷ n ∷ vs }) t1
        q1 = put_temp lay r m.widths ws (i ∷ h ∷ hs) (record s { values = x ∷ n ∷ vs }) d.state first (n * 4) wide placed has1 (omega (arith, few)) q

        t2 : State
        t2 = sets second a.length t1

        q2 : AreSame lay r ws (Local second ∷ Local first ∷ i ∷ h ∷ hs) (record s { values = a.length ∷ n * 4 ∷ x ∷ n ∷ vs }) t2
        q2 =
            put_temp lay r m.widths ws (Local first ∷ i ∷ h ∷ hs) (record s { values = n * 4 ∷ x ∷ n ∷ vs }) t1 second a.length wide placed1 has2
            (omega (arith, short)) q1

    by_table : (n x : ℕ) → 0 < n → (s : Firm) (vs : List ℕ) (d : Deciding State) (w : World History) → IsFair w → AreNone (record s { values = vs }) w
        → AreSame lay r ws (i ∷ h ∷ hs) (record s { values = x ∷ n ∷ vs }) d.state → (o : Option (List ArrayPlace)) → slice_get f.tables e.table ≡ o
        → Alike G L
        (with_found (slice_get (arrays_of o) (n - 1)) (λ a. stop_unless (nat_lt x a.length) 2
        (checked (is_in e a.address) (next (item_index e a.address x)))) (record s { values = vs }) w) (linear' (reached reach None) d w)
    by_table n x above s vs d w fair lacks q (Some arrays) tabled =
        by_array arrays tabled n x above s vs d w fair lacks q (slice_get arrays (n - 1)) refl
    by_table n x above s vs d w fair lacks q None tabled = wrong

    -- behind the null check
    by_null : (n x : ℕ) (s : Firm) (vs : List ℕ) (d : Deciding State) (w : World History) → IsFair w → AreNone (record s { values = vs }) w
        → AreSame lay r ws (i ∷ h ∷ hs) (record s { values = x ∷ n ∷ vs }) d.state
        → Alike G L (not_null (sought x) n (record s { values = vs }) w) (linear' (element_of reach None) d w)
    by_null n x s vs d w fair lacks q =
        null_then k f m call handle p go lay r ws wide flash h n (sought x) (linear' (reached reach None)) (record s { values = vs }) d w fair
        (value_of_home h n d.state q.waits.1.0.0) q.waits.1.0.1
        (λ above. by_table n x above s vs (record d { truth = None }) w fair lacks
        (record { waits = q.waits; kept = q.kept; none = q.none; ram = q.ram }) (slice_get f.tables e.table) refl)

  -- by the two temporaries
  by_temps : (e : Elements) (table : ℕ) (h i : Operand) (hs left : List Operand) (before : Shape) (g : Piece Firm History)
      → ((first second : ℕ) → temp r (i ∷ h ∷ hs) ≡ Some first → temp r (Local first ∷ i ∷ h ∷ hs) ≡ Some second
      → Right' before (Makes (element_of (record { first = first; second = second; table = table; width = e.width; home = h; index = i }) None)
      (only left)) g) → Right' before (no_element r e.width table h i hs left) g
  by_temps e table h i hs left before g does = by_first (temp r (i ∷ h ∷ hs)) refl
    where
      made : (first second : ℕ) → Made
      made first second = Makes (element_of (record { first = first; second = second; table = table; width = e.width; home = h; index = i }) None) (only left)

      by_second : (first : ℕ) → temp r (i ∷ h ∷ hs) ≡ Some first → (o : Option ℕ) → temp r (Local first ∷ i ∷ h ∷ hs) ≡ o
          → Right' before (by_temp o (λ second. made first second)) g
      by_second first has1 (Some second) has2 = does first second has1 has2
      by_second first has1 None has2 = tt

      by_first : (o : Option ℕ) → temp r (i ∷ h ∷ hs) ≡ o
          → Right' before (by_temp o (λ first. by_temp (temp r (Local first ∷ i ∷ h ∷ hs)) (λ second. made first second))) g
      by_first (Some first) has1 = by_second first has1 (temp r (Local first ∷ i ∷ h ∷ hs)) refl
      by_first None has1 = tt

  -- where the layout has no column, there is none
  no_column : (home : Home) (c : ℕ) → slice_get (places_in lay home) c ≡ None → (hs : List Operand) (s : Firm) (t : State) → AreSame lay r ws hs s t
      → (vs : List ℕ) → slice_get (columns_in f home (record s { values = vs })) c ≡ None
  no_column InRam c e hs s t q vs = q.ram.known c e
  no_column InFlash c e hs s t q vs = flash.known_columns c e

  right_no_element : (e : Elements) (table : ℕ) → slice_get (places_in lay e.home) e.column ≡ None → slice_get lay.tables e.table ≡ Some table
      → (i h : Operand) (hs : List Operand) → ArePlaced r.locals (i ∷ h ∷ hs)
      → Right' (only (i ∷ h ∷ hs)) (no_element r e.width table h i hs (Known 0 ∷ hs)) (step' (LoadItem e))
  right_no_element e table lacks table_at i h hs placed =
      by_temps e table h i hs (Known 0 ∷ hs) (only (i ∷ h ∷ hs)) (step' (LoadItem e))
      (λ first second has1 has2. ((tt, placed.1.1), λ s d w fair q. by_values first second has1 has2 s d w fair q s.values q.waits))
    where
      by_values : (first second : ℕ) → temp r (i ∷ h ∷ hs) ≡ Some first → temp r (Local first ∷ i ∷ h ∷ hs) ≡ Some second
          → (s : Firm) (d : Deciding State) (w : World History) → IsFair w → AreSame lay r ws (i ∷ h ∷ hs) s d.state → (vs : List ℕ)
          → AreAt (i ∷ h ∷ hs) vs d.state.locals
          → Alike (Held lay r ws (only (Known 0 ∷ hs))) (Leaves lay r ws)
          (take_from vs (λ x. taking (at_item f e (load f e.home e.column) x)) s w)
          (linear' (element_of (record { first = first; second = second; table = table; width = e.width; home = h; index = i }) None) d w)
      by_values first second has1 has2 s d w fair q [] at = absurd at
      by_values first second has1 has2 s d w fair q (x ∷ []) at = absurd at.1
      by_values first second has1 has2 s d w fair q (x ∷ n ∷ vs) at =
          by_null e table table_at h i hs (Known 0 ∷ hs) placed first second has1 has2 (load f e.home e.column) n x s vs d w fair
          (λ j b. not_found (slice_get (column_of (slice_get (columns_in f e.home (record s { values = vs })) e.column)) j) put (record s { values = vs }) w b
          (ap (λ o. slice_get (column_of o) j) (no_column e.home e.column lacks (i ∷ h ∷ hs) s d.state q vs)))
          (record { waits = at; kept = q.kept; none = q.none; ram = q.ram })

  right_no_stored : (e : Elements) (table : ℕ) → slice_get lay.ram e.column ≡ None → slice_get lay.tables e.table ≡ Some table
      → (v i h : Operand) (hs : List Operand) → ArePlaced r.locals (v ∷ i ∷ h ∷ hs)
      → Right' (only (v ∷ i ∷ h ∷ hs)) (no_element r e.width table h i hs hs) (step' (StoreItem e))
  right_no_stored e table lacks table_at v i h hs placed =
      by_temps e table h i hs hs (only (v ∷ i ∷ h ∷ hs)) (step' (StoreItem e))
      (λ first second has1 has2. (placed.1.1.1, λ s d w fair q. by_values first second has1 has2 s d w fair q s.values q.waits))
    where
      by_fit : (first second : ℕ) → temp r (i ∷ h ∷ hs) ≡ Some first → temp r (Local first ∷ i ∷ h ∷ hs) ≡ Some second
          → (s : Firm) (d : Deciding State) (w : World History) → IsFair w → AreSame lay r ws (v ∷ i ∷ h ∷ hs) s d.state → (y x n : ℕ) (vs : List ℕ)
          → AreAt (v ∷ i ∷ h ∷ hs) (y ∷ x ∷ n ∷ vs) d.state.locals → (b : Bool)
          → Alike (Held lay r ws (only hs)) (Leaves lay r ws)
          (checked b (taking (λ j. taking (at_item f e (λ c. store e.column c y) j))) (record s { values = x ∷ n ∷ vs }) w)
          (linear' (element_of (record { first = first; second = second; table = table; width = e.width; home = h; index = i }) None) d w)
      by_fit first second has1 has2 s d w fair q y x n vs at true =
          by_null e table table_at h i hs hs placed.1 first second has1 has2 (λ c. store e.column c y) n x s vs d w fair
          (λ j b. not_set e.column j y (slice_get (column_of (slice_get s.columns e.column)) j) (record s { values = vs }) w b
          (ap (λ o. slice_get (column_of o) j) (q.ram.known e.column lacks)))
          (record { waits = at.1; kept = q.kept; none = q.none; ram = q.ram })
      by_fit first second has1 has2 s d w fair q y x n vs at false = wrong

      by_values : (first second : ℕ) → temp r (i ∷ h ∷ hs) ≡ Some first → temp r (Local first ∷ i ∷ h ∷ hs) ≡ Some second
          → (s : Firm) (d : Deciding State) (w : World History) → IsFair w → AreSame lay r ws (v ∷ i ∷ h ∷ hs) s d.state → (vs : List ℕ)
          → AreAt (v ∷ i ∷ h ∷ hs) vs d.state.locals
          → Alike (Held lay r ws (only hs)) (Leaves lay r ws)
          (take_from vs (of_width e.width (λ y. taking (λ x. taking (at_item f e (λ c. store e.column c y) x)))) s w)
          (linear' (element_of (record { first = first; second = second; table = table; width = e.width; home = h; index = i }) None) d w)
      by_values first second has1 has2 s d w fair q [] at = absurd at
      by_values first second has1 has2 s d w fair q (y ∷ []) at = absurd at.1
      by_values first second has1 has2 s d w fair q (y ∷ x ∷ []) at = absurd at.1.1
      by_values first second has1 has2 s d w fair q (y ∷ x ∷ n ∷ vs) at = by_fit first second has1 has2 s d w fair q y x n vs at (nat_lt y (256 ^ e.width))

  pub right_dropped : (e : Elements) (table : ℕ) → slice_get (places_in lay e.home) e.column ≡ None → slice_get lay.tables e.table ≡ Some table
      → (hs : List Operand) → ArePlaced r.locals hs → Right' (only hs) (load_dropped r e table hs) (step' (LoadItem e))
  right_dropped e table lacks table_at [] placed = tt
  right_dropped e table lacks table_at (i ∷ []) placed = tt
  right_dropped e table lacks table_at (i ∷ h ∷ hs) placed = by_above (nat_le 4 table)
    where
      by_above : (b : Bool)
          → Right' (only (i ∷ h ∷ hs)) (if b then no_element r e.width table h i hs (Known 0 ∷ hs) else Refused NotTaken) (step' (LoadItem e))
      by_above true = right_no_element e table lacks table_at i h hs placed
      by_above false = tt

  pub right_store_dropped : (e : Elements) (table : ℕ) → slice_get lay.ram e.column ≡ None → slice_get lay.tables e.table ≡ Some table
      → (hs : List Operand) → ArePlaced r.locals hs → Right' (only hs) (store_dropped r e table hs) (step' (StoreItem e))
  right_store_dropped e table lacks table_at [] placed = tt
  right_store_dropped e table lacks table_at (v ∷ []) placed = tt
  right_store_dropped e table lacks table_at (v ∷ i ∷ []) placed = tt
  right_store_dropped e table lacks table_at (v ∷ i ∷ h ∷ hs) placed = by_above (nat_le 4 table)
    where
      by_above : (b : Bool)
          → Right' (only (v ∷ i ∷ h ∷ hs)) (if b then no_element r e.width table h i hs hs else Refused NotTaken) (step' (StoreItem e))
      by_above true = right_no_stored e table lacks table_at v i h hs placed
      by_above false = tt
