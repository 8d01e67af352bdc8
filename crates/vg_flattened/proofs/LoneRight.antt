-- That what is done with the only array of a table, by its known place and length, is what the packed program does.
use Rattle.std.specs.Prelude.{ℕ, zero, suc, ◌+◌, ◌-◌, ◌*◌, ◌%◌, ◌<◌, ◌≤◌, ◌^◌, Bool, true, false, not, ◌==◌, ◌&&◌, nat_lt, nat_le, List, [], ◌∷◌}
use Rattle.std.specs.Prelude.{Option, Some, None, slice_get}
use Rattle.std.specs.Option.{option_map}
use Rattle.std.proofs.Common.{◌≡◌, refl, sym, ap, ◌∙◌, subst, arith}
use Rattle.std.proofs.lemmas.Option.{none-some, same_Some}
use Rattle.vg_meaning.specs.History.{History}
use Rattle.vg_meaning.specs.World.{World}
use Rattle.vg_meaning.specs.Answer.{Signal, Gives, Piece, and_then, stops}
use Rattle.vg_codes.specs.Codes.{Codes}
use Rattle.vg_firm.specs.declared.step.ArrayPlace.{ArrayPlace}
use Rattle.vg_firm.specs.declared.step.Elements.{Elements}
use Rattle.vg_firm.specs.declared.step.Step.{Step}
use Rattle.vg_firm.specs.declared.step.Step.TheVariants.{LoadItem, StoreItem, Length}
use Rattle.vg_firm.specs.Program.{Procedure as FirmProcedure, Program as FirmProgram}
use Rattle.vg_firm.specs.Meaning.{State as Firm, Caller as FirmCaller, step as firm_step, put, taking, take_from, with_found, not_null, stop_unless, checked}
use Rattle.vg_firm.specs.Meaning.{of_width, columns_in, column_of, set_found, load, store, arrays_of, stands_in as is_in, item_index, array_at, at_item, put_length}
use Rattle.vg_lin.specs.declared.instr.Operand.{Operand}
use Rattle.vg_lin.specs.declared.instr.Operand.TheVariants.{Local, Known}
use Rattle.vg_lin.specs.declared.instr.Comparison.TheVariants.{Below}
use Rattle.vg_lin.specs.declared.instr.Memory.TheVariants.{Ram}
use Rattle.vg_lin.specs.Program.{Program as LinProgram}
use Rattle.vg_lin.specs.State.{State, value, holds, first_address, bytes_of, number_at}
use Rattle.vg_lin.specs.Structured.{Deciding, Caller as LinCaller}
use Rattle.vg_flatten_shapes.specs.declared.layout.Place.{Place}
use Rattle.vg_flatten_shapes.specs.declared.layout.Layout.{Layout}
use Rattle.vg_flatten_shapes.specs.declared.open.Truth.TheVariants.{Holds, Fails}
use Rattle.vg_flatten_shapes.specs.declared.room.Room.{Room}
use Rattle.vg_flatten_shapes.specs.Shapes.{Shape, only, temp}
use Rattle.vg_flatten_shapes.specs.Blocks.{Block, One, Both, stop_where}
use Rattle.vg_flatten_shapes.specs.Made.{Made, Gives as Makes, by_temp, is_zero}
use Rattle.vg_flatten_places.specs.Places.{is_width, load_from, multiplied, multiple, places_in, memory_of, store_at}
use Rattle.vg_flatten_places.specs.Places.{lone_in, lone_of, known_length, array_length, lone_element, load_lone, store_lone}
use Rattle.vg_flatten_values.specs.Values.{test_of}
use Rattle.vg_flatten.specs.Columns.{ColumnStands, FlashStands}
use Rattle.vg_flattened.proofs.Alike.{IsFair, Alike, gives, wrong}
use Rattle.vg_flattened.proofs.Related.{ArePlaced, AreAt, AreWidths, AreSame, Held, Leaves}
use Rattle.vg_flattened.proofs.Numbers.{below_same}
use Rattle.vg_flattened.proofs.Operating.{holds_of}
use Rattle.vg_flattened.proofs.Locals.{value_of_home, placed_temp}
use Rattle.vg_flattened.proofs.Right.{Right, linear}
use Rattle.vg_flattened.proofs.CombinedRight.{stops_both, stopped, passed}
use Rattle.vg_flattened.proofs.ObjectRight.{null_check}
use Rattle.vg_flattened.proofs.ColumnRight.{width_high, four_bytes, null_then, stands_in, does_fetched, right_by_table}
use Rattle.vg_flattened.proofs.StoreRight.{does_put}
use Rattle.vg_flattened.proofs.ElementPlace.{IsThere, element_there}

-- A list of one array has no other.
only_one : (a b : ArrayPlace) (j : ℕ) → slice_get (a ∷ []) j ≡ Some b → a ≡ b
only_one a b zero e = same_Some a b e
only_one a b (suc j) e = absurd (none-some b e)

module _ (k : Codes) (f : FirmProgram) (m : FirmProcedure) (call : FirmCaller History) (handle : ℕ → Piece Firm History)
    (p : LinProgram) (go : LinCaller State) (lay : Layout) (r : Room) (ws : List ℕ) (wide : AreWidths r m.widths ws)
    (flash : FlashStands lay f p) where
  abbrev Right' : Shape → Made → Piece Firm History → Type 0
  Right' = Right k f m call handle p go lay r ws wide

  abbrev linear' : Block → Piece (Deciding State) History
  linear' = linear k f m call handle p go lay r ws wide

  abbrev step' : Step → Piece Firm History
  step' = firm_step k f m call handle

  -- ---- the array

  -- the table has no other
  tabled : (t : ℕ) (a : ArrayPlace) → lone_of lay t ≡ Some a → slice_get f.tables t ≡ Some (a ∷ [])
  tabled t a alone = flash.lone t a (by (slice_get lay.lone_arrays t) alone)
    where
      by : (o : Option (Option ArrayPlace)) → lone_in o ≡ Some a → o ≡ Some (Some a)
      by (Some o) e = ap Some e
      by None e = absurd (none-some a e)

  -- its length is that of an array of a table in flash
  short : (t : ℕ) (a : ArrayPlace) → lone_of lay t ≡ Some a → a.length < 65536
  short t a alone = by (slice_get lay.tables t) refl
    where
      by : (o : Option ℕ) → slice_get lay.tables t ≡ o → a.length < 65536
      by (Some address) e = ((flash.tables t address (a ∷ []) e (tabled t a alone)).lengths 0 a refl).1
      by None e = absurd (none-some (a ∷ []) (sym (flash.known t e) ∙ tabled t a alone))

  -- whatever is found is this array
  found : {G : Firm → Deciding State → Type 0} {L : Signal → Firm → Deciding State → Type 0} (t n : ℕ) (a : ArrayPlace)
      (next : ArrayPlace → Piece Firm History) (block : Block) (s : Firm) (d : Deciding State) (w : World History) → lone_of lay t ≡ Some a
      → Alike G L (next a s w) (linear' block d w) → Alike G L (with_found (array_at f t n) next s w) (linear' block d w)
  found {G} {L} t n a next block s d w alone goes =
      subst (λ z. Alike G L (with_found (slice_get (arrays_of z) (n - 1)) next s w) (linear' block d w)) (sym (tabled t a alone))
      (by (slice_get (a ∷ []) (n - 1)) refl)
    where
      by : (o : Option ArrayPlace) → slice_get (a ∷ []) (n - 1) ≡ o → Alike G L (with_found o next s w) (linear' block d w)
      by (Some b) e = subst (λ z. Alike G L (next z s w) (linear' block d w)) (only_one a b (n - 1) e) goes
      by None e = wrong

  -- ---- its length

  right_known : (t : ℕ) (a : ArrayPlace) → lone_of lay t ≡ Some a → (hs : List Operand) → ArePlaced r.locals hs
      → Right' (only hs) (known_length a.length hs) (step' (Length t))
  right_known t a alone [] placed = tt
  right_known t a alone (h ∷ hs) placed = ((tt, placed.1), λ s d w i q. by_values s d w i q s.values q.waits)
    where
      by_values : (s : Firm) (d : Deciding State) (w : World History) → IsFair w → AreSame lay r ws (h ∷ hs) s d.state → (vs : List ℕ)
          → AreAt (h ∷ hs) vs d.state.locals
          → Alike (Held lay r ws (only (Known a.length ∷ hs))) (Leaves lay r ws) (take_from vs (not_null (λ n. with_found (array_at f t n) put_length)) s w)
          (linear' (stop_where 1 (Holds (is_zero h))) d w)
      by_values s d w i q [] at = absurd at
      by_values s d w i q (x ∷ vs) at =
          null_check k f m call handle p go lay r ws wide h x (λ n. with_found (array_at f t n) put_length) (record s { values = vs }) d w i
          (value_of_home h x d.state at.0.0) at.0.1 (λ n e. by_found (array_at f t (suc n)) (is_this n))
        where
          small : a.length < 2 ^ 32
          small = let l = short t a alone in omega (arith, l)

          -- what is found is this array or none
          is_this : (n : ℕ) (b : ArrayPlace) → array_at f t (suc n) ≡ Some b → a ≡ b
          is_this n b e = only_one a b (suc n - 1) (sym (ap (λ z. slice_get (arrays_of z) (suc n - 1)) (tabled t a alone)) ∙ e)

          by_found : (o : Option ArrayPlace) → ((b : ArrayPlace) → o ≡ Some b → a ≡ b)
              → Alike (Held lay r ws (only (Known a.length ∷ hs))) (Leaves lay r ws) (with_found o put_length (record s { values = vs }) w)
              (Gives (record d { truth = None }) w)
          by_found None is = wrong
          by_found (Some b) is =
              subst (λ z. Alike (Held lay r ws (only (Known a.length ∷ hs))) (Leaves lay r ws) (put_length z (record s { values = vs }) w)
              (Gives (record d { truth = None }) w)) (is b refl)
              (gives i (record { waits = ((refl, small), at.1); kept = q.kept; none = q.none; ram = q.ram }))

  pub right_length : (t : ℕ) (hs : List Operand) → ArePlaced r.locals hs
      → Right' (only hs) (array_length r (lone_of lay t) (slice_get lay.tables t) hs) (step' (Length t))
  right_length t hs placed = by (lone_of lay t) refl
    where
      by : (o : Option ArrayPlace) → lone_of lay t ≡ o → Right' (only hs) (array_length r o (slice_get lay.tables t) hs) (step' (Length t))
      by (Some a) e = right_known t a e hs placed
      by None e = right_by_table k f m call handle p go lay r ws wide flash t hs placed

  -- ---- its elements

  module _ (e : Elements) (a : ArrayPlace) (alone : lone_of lay e.table ≡ Some a) (h i : Operand) (next : ℕ → Piece Firm History) (inside : Block) where
    -- what the packed program does with the array
    abbrev sought : ℕ → ArrayPlace → Piece Firm History
    sought x = λ b. stop_unless (nat_lt x b.length) 2 (checked (is_in e b.address) (next (item_index e b.address x)))

    abbrev block : Block
    block = Both (stop_where 2 (Fails (test_of Below i (Known a.length)))) inside

    -- behind the checks
    does_lone : {G : Firm → Deciding State → Type 0} {L : Signal → Firm → Deciding State → Type 0} (n x : ℕ) (s : Firm) (d : Deciding State)
        (w : World History) → IsFair w → value h d.state ≡ Some n → n < 2 ^ 32 → value i d.state ≡ Some x → x < 2 ^ 32
        → (e.address ≤ a.address → (a.address - e.address) % e.width ≡ 0
        → Alike G L (next (item_index e a.address x) s w) (linear' inside (record d { truth = None }) w))
        → Alike G L (not_null (λ z. with_found (array_at f e.table z) (sought x)) n s w) (linear' (Both (stop_where 1 (Holds (is_zero h))) block) d w)
    does_lone {G} {L} n x s d w fair hn ln hx lx goes =
        null_then k f m call handle p go lay r ws wide flash h n (λ z. with_found (array_at f e.table z) (sought x)) (linear' block) s d w fair hn ln
        (λ above. found e.table n a (sought x) block s (record d { truth = None }) w alone (by_bound (nat_lt x a.length) refl))
      where
        says : (b : Bool) → nat_lt x a.length ≡ b → option_map not (holds (test_of Below i (Known a.length)) d.state) ≡ Some (not b)
        says b c =
            let l = short e.table a alone in
            ap (option_map not) (holds_of Below i (Known a.length) x a.length d.state hx refl ∙ ap Some (below_same x a.length lx (omega (arith, l)) ∙ c))

        by_place : (b b1 : Bool) → nat_le e.address a.address ≡ b → ((a.address - e.address) % e.width == 0) ≡ b1
            → Alike G L (checked (b && b1) (next (item_index e a.address x)) s w) (linear' inside (record d { truth = None }) w)
        by_place true true c c1 = goes (grind arith) (grind arith)
        by_place true false c c1 = wrong
        by_place false b1 c c1 = wrong

        by_bound : (b : Bool) → nat_lt x a.length ≡ b
            → Alike G L (stop_unless b 2 (checked (is_in e a.address) (next (item_index e a.address x))) s w) (linear' block (record d { truth = None }) w)
        by_bound true c =
            subst (λ z. Alike G L (checked (is_in e a.address) (next (item_index e a.address x)) s w) (and_then z (linear' inside)))
            (sym (passed k f m call handle p go lay r ws wide (Fails (test_of Below i (Known a.length))) 2 (record d { truth = None }) w (says true c)))
            (by_place (nat_le e.address a.address) ((a.address - e.address) % e.width == 0) refl refl)
        by_bound false c =
            subst (λ z. Alike G L (stops 2 0 s w) (and_then z (linear' inside)))
            (sym (stopped k f m call handle p go lay r ws wide (Fails (test_of Below i (Known a.length))) 2 (record d { truth = None }) w (says false c)))
            (stops_both 2 s (record d { truth = None }) w fair)

  -- a value that waits is left out
  less : (h : Operand) (hs : List Operand) (v : ℕ) (vs : List ℕ) (s : Firm) (t : State) → AreSame lay r ws (h ∷ hs) (record s { values = v ∷ vs }) t
      → AreSame lay r ws hs (record s { values = vs }) t
  less h hs v vs s t q = record { waits = q.waits.1; kept = q.kept; none = q.none; ram = q.ram }

  -- ---- loads

  pub right_lone : (e : Elements) (a : ArrayPlace) → lone_of lay e.table ≡ Some a → (place : Place) → slice_get (places_in lay e.home) e.column ≡ Some place
      → e.address ≡ place.address → e.width ≡ place.width → is_width e.width ≡ true → (h i : Operand) (hs : List Operand)
      → ArePlaced r.locals (i ∷ h ∷ hs) → Right' (only (i ∷ h ∷ hs)) (load_lone r e a h i hs) (step' (LoadItem e))
  right_lone e a alone place column_at ea ew is h i hs placed = by_room (temp r hs) refl
    where
      inside : ℕ → Block
      inside to = Both (multiplied to e.width i) (One (load_from (memory_of e.home) e.width to a.address (multiple to e.width i)))

      index : ℕ → ℕ
      index x = item_index e a.address x

      by_entry : (to : ℕ) → temp r hs ≡ Some to → e.address ≤ a.address → (a.address - e.address) % e.width ≡ 0 → (x : ℕ) (s : Firm) (d : Deciding State)
          (w : World History) → IsFair w → value i d.state ≡ Some x → AreSame lay r ws hs s d.state → (us : List ℕ)
          → slice_get (columns_in f e.home s) e.column ≡ Some us → (o : Option ℕ) → slice_get us (index x) ≡ o
          → Alike (Held lay r ws (only (Local to ∷ hs))) (Leaves lay r ws) (with_found o put s w) (linear' (inside to) d w)
      by_entry to has low' whole x s d w fair hx q us hc (Some v) he =
          does_fetched k f m call handle p go lay r ws wide flash (memory_of e.home) e.width e.width a.address i hs placed.1.1 to has x
          (place.address - first_address (memory_of e.home) + place.width * index x) v s d w fair hx there.few q there.behind there.index
          (subst (λ z. number_at (bytes_of p (memory_of e.home) d.state) z (place.address - first_address (memory_of e.home) + place.width * index x) ≡ Some v)
          (sym ew) (stands.held (index x) v he).0)
          (four_bytes e.width v (width_high e.width is) (subst (λ z. v < 256 ^ z) (sym ew) (stands.held (index x) v he).1))
        where
          stands : ColumnStands (memory_of e.home) (bytes_of p (memory_of e.home) d.state) place us
          stands = stands_in k f m call handle p go lay r ws wide flash e.home hs s d.state q e.column place us column_at hc

          there : IsThere (memory_of e.home) e a place x
          there = element_there (memory_of e.home) (bytes_of p (memory_of e.home) d.state) e a place us x v stands ea ew is low' whole he
      by_entry to has low' whole x s d w fair hx q us hc None he = wrong

      by_column : (to : ℕ) → temp r hs ≡ Some to → e.address ≤ a.address → (a.address - e.address) % e.width ≡ 0 → (x : ℕ) (s : Firm) (d : Deciding State)
          (w : World History) → IsFair w → value i d.state ≡ Some x → AreSame lay r ws hs s d.state → (o : Option (List ℕ))
          → slice_get (columns_in f e.home s) e.column ≡ o
          → Alike (Held lay r ws (only (Local to ∷ hs))) (Leaves lay r ws) (with_found (slice_get (column_of o) (index x)) put s w) (linear' (inside to) d w)
      by_column to has low' whole x s d w fair hx q (Some us) hc = by_entry to has low' whole x s d w fair hx q us hc (slice_get us (index x)) refl
      by_column to has low' whole x s d w fair hx q None hc = wrong

      by_values : (to : ℕ) → temp r hs ≡ Some to → (s : Firm) (d : Deciding State) (w : World History) → IsFair w → AreSame lay r ws (i ∷ h ∷ hs) s d.state
          → (vs : List ℕ) → AreAt (i ∷ h ∷ hs) vs d.state.locals
          → Alike (Held lay r ws (only (Local to ∷ hs))) (Leaves lay r ws) (take_from vs (λ x. taking (at_item f e (load f e.home e.column) x)) s w)
          (linear' (lone_element a.length e.width to h i (load_from (memory_of e.home) e.width to a.address (multiple to e.width i))) d w)
      by_values to has s d w fair q [] at = absurd at
      by_values to has s d w fair q (x ∷ []) at = absurd at.1
      by_values to has s d w fair q (x ∷ n ∷ vs) at =
          does_lone e a alone h i (load f e.home e.column) (inside to) n x (record s { values = vs }) d w fair (value_of_home h n d.state at.1.0.0) at.1.0.1
          (value_of_home i x d.state at.0.0) at.0.1
          (λ low' whole. by_column to has low' whole x (record s { values = vs }) (record d { truth = None }) w fair (value_of_home i x d.state at.0.0)
          (record { waits = at.1.1; kept = q.kept; none = q.none; ram = q.ram })
          (slice_get (columns_in f e.home (record s { values = vs })) e.column) refl)

      by_room : (o : Option ℕ) → temp r hs ≡ o
          → Right' (only (i ∷ h ∷ hs)) (by_temp o (λ to. Makes (lone_element a.length e.width to h i
          (load_from (memory_of e.home) e.width to a.address (multiple to e.width i))) (only (Local to ∷ hs)))) (step' (LoadItem e))
      by_room (Some to) has = (placed_temp r hs to has placed.1.1, λ s d w fair q. by_values to has s d w fair q s.values q.waits)
      by_room None has = tt

  -- ---- stores

  pub right_lone_store : (e : Elements) (a : ArrayPlace) → lone_of lay e.table ≡ Some a → (place : Place) → slice_get lay.ram e.column ≡ Some place
      → e.address ≡ place.address → e.width ≡ place.width → is_width e.width ≡ true → (v h i : Operand) (hs : List Operand)
      → ArePlaced r.locals (v ∷ i ∷ h ∷ hs) → Right' (only (v ∷ i ∷ h ∷ hs)) (store_lone r e.width a v h i hs) (step' (StoreItem e))
  right_lone_store e a alone place column_at ea ew is v h i hs placed = by_room (temp r (v ∷ i ∷ h ∷ hs)) refl
    where
      inside : ℕ → Block
      inside to = Both (multiplied to e.width i) (One (store_at e.width a.address (multiple to e.width i) v))

      index : ℕ → ℕ
      index x = item_index e a.address x

      by_entry : (to : ℕ) → temp r (v ∷ i ∷ h ∷ hs) ≡ Some to → e.address ≤ a.address → (a.address - e.address) % e.width ≡ 0 → (n x y : ℕ)
          → y < 256 ^ e.width → (s : Firm) (vs : List ℕ) (d : Deciding State) (w : World History) → IsFair w
          → AreSame lay r ws (v ∷ i ∷ h ∷ hs) (record s { values = y ∷ x ∷ n ∷ vs }) d.state → (us : List ℕ) → slice_get s.columns e.column ≡ Some us
          → (o : Option ℕ) → slice_get us (index x) ≡ o
          → Alike (Held lay r ws (only hs)) (Leaves lay r ws) (set_found e.column (index x) y o (record s { values = vs }) w) (linear' (inside to) d w)
      by_entry to has low' whole n x y small s vs d w fair q us hc (Some old) he =
          subst (λ z. Alike (Held lay r ws (only hs)) (Leaves lay r ws) (set_found e.column (index x) y (Some old) (record s { values = vs }) w)
          (linear' (Both (multiplied to z i) (One (store_at z a.address (multiple to z i) v))) d w)) (sym ew)
          (does_put k f m call handle p go lay r ws wide flash e.column (index x) place column_at v (i ∷ h ∷ hs) hs placed to has i x a.address y
          (subst (λ z. y < 256 ^ z) ew small) s (x ∷ n ∷ vs) vs
          (λ t q1. less h hs n vs s t (less i (h ∷ hs) x (n ∷ vs) s t q1)) d w fair q us hc old he (value_of_home i x d.state q.waits.1.0.0)
          (subst (λ z. x * z < 65536) ew there.few) (subst (λ z. first_address Ram ≤ a.address + x * z) ew there.behind)
          (subst (λ z. a.address + x * z - first_address Ram ≡ place.address - first_address Ram + place.width * index x) ew there.index))
        where
          there : IsThere Ram e a place x
          there = element_there Ram d.state.ram e a place us x old (q.ram.stands e.column place us column_at hc) ea ew is low' whole he
      by_entry to has low' whole n x y small s vs d w fair q us hc None he = wrong

      by_column : (to : ℕ) → temp r (v ∷ i ∷ h ∷ hs) ≡ Some to → e.address ≤ a.address → (a.address - e.address) % e.width ≡ 0 → (n x y : ℕ)
          → y < 256 ^ e.width → (s : Firm) (vs : List ℕ) (d : Deciding State) (w : World History) → IsFair w
          → AreSame lay r ws (v ∷ i ∷ h ∷ hs) (record s { values = y ∷ x ∷ n ∷ vs }) d.state → (o : Option (List ℕ)) → slice_get s.columns e.column ≡ o
          → Alike (Held lay r ws (only hs)) (Leaves lay r ws)
          (set_found e.column (index x) y (slice_get (column_of o) (index x)) (record s { values = vs }) w) (linear' (inside to) d w)
      by_column to has low' whole n x y small s vs d w fair q (Some us) hc =
          by_entry to has low' whole n x y small s vs d w fair q us hc (slice_get us (index x)) refl
      by_column to has low' whole n x y small s vs d w fair q None hc = wrong

      by_fit : (to : ℕ) → temp r (v ∷ i ∷ h ∷ hs) ≡ Some to → (s : Firm) (d : Deciding State) (w : World History) → IsFair w
          → AreSame lay r ws (v ∷ i ∷ h ∷ hs) s d.state → (y x n : ℕ) (vs : List ℕ) → AreAt (v ∷ i ∷ h ∷ hs) (y ∷ x ∷ n ∷ vs) d.state.locals
          → (b : Bool) → nat_lt y (256 ^ e.width) ≡ b
          → Alike (Held lay r ws (only hs)) (Leaves lay r ws)
          (checked b (taking (λ j. taking (at_item f e (λ c. store e.column c y) j))) (record s { values = x ∷ n ∷ vs }) w)
          (linear' (lone_element a.length e.width to h i (store_at e.width a.address (multiple to e.width i) v)) d w)
      by_fit to has s d w fair q y x n vs at true fit =
          does_lone e a alone h i (λ c. store e.column c y) (inside to) n x (record s { values = vs }) d w fair (value_of_home h n d.state at.1.1.0.0) at.1.1.0.1
          (value_of_home i x d.state at.1.0.0) at.1.0.1
          (λ low' whole. by_column to has low' whole n x y (grind arith) s vs (record d { truth = None }) w fair
          (record { waits = at; kept = q.kept; none = q.none; ram = q.ram }) (slice_get s.columns e.column) refl)
      by_fit to has s d w fair q y x n vs at false fit = wrong

      by_values : (to : ℕ) → temp r (v ∷ i ∷ h ∷ hs) ≡ Some to → (s : Firm) (d : Deciding State) (w : World History) → IsFair w
          → AreSame lay r ws (v ∷ i ∷ h ∷ hs) s d.state → (vs : List ℕ) → AreAt (v ∷ i ∷ h ∷ hs) vs d.state.locals
          → Alike (Held lay r ws (only hs)) (Leaves lay r ws)
          (take_from vs (of_width e.width (λ y. taking (λ x. taking (at_item f e (λ c. store e.column c y) x)))) s w)
          (linear' (lone_element a.length e.width to h i (store_at e.width a.address (multiple to e.width i) v)) d w)
      by_values to has s d w fair q [] at = absurd at
      by_values to has s d w fair q (y ∷ []) at = absurd at.1
      by_values to has s d w fair q (y ∷ x ∷ []) at = absurd at.1.1
      by_values to has s d w fair q (y ∷ x ∷ n ∷ vs) at = by_fit to has s d w fair q y x n vs at (nat_lt y (256 ^ e.width)) refl

      by_room : (o : Option ℕ) → temp r (v ∷ i ∷ h ∷ hs) ≡ o
          → Right' (only (v ∷ i ∷ h ∷ hs)) (by_temp o (λ to. Makes (lone_element a.length e.width to h i
          (store_at e.width a.address (multiple to e.width i) v)) (only hs))) (step' (StoreItem e))
      by_room (Some to) has = (placed.1.1.1, λ s d w fair q. by_values to has s d w fair q s.values q.waits)
      by_room None has = tt
