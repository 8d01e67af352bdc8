-- That stores to elements become blocks that do the same.
use Rattle.std.specs.Prelude.{ℕ, ◌+◌, ◌-◌, ◌*◌, ◌/◌, ◌%◌, ◌<◌, ◌≤◌, ◌^◌, Bool, true, false, not, ◌==◌, ◌&&◌, nat_lt, nat_le, List, [], ◌∷◌, length}
use Rattle.std.specs.Prelude.{Option, Some, None, slice_get, if◌then◌else◌}
use Rattle.std.specs.Option.{option_map}
use Rattle.std.proofs.Common.{◌≡◌, refl, sym, ap, ◌∙◌, subst, arith}
use Rattle.std.proofs.Math.Nat.{mul_comm}
use Rattle.std.proofs.lemmas.Option.{slice_get_within}
use Rattle.vg_meaning.specs.History.{History}
use Rattle.vg_meaning.specs.World.{World}
use Rattle.vg_meaning.specs.Answer.{Signal, Answer, Gives, Piece, and_then, stops}
use Rattle.vg_codes.specs.Codes.{Codes}
use Rattle.vg_firm.specs.declared.step.ArrayPlace.{ArrayPlace}
use Rattle.vg_firm.specs.declared.step.Elements.{Elements}
use Rattle.vg_firm.specs.declared.step.Step.{Step}
use Rattle.vg_firm.specs.declared.step.Step.TheVariants.{StoreItem}
use Rattle.vg_firm.specs.Program.{Procedure as FirmProcedure, Program as FirmProgram}
use Rattle.vg_firm.specs.Meaning.{State as Firm, Caller as FirmCaller, step as firm_step, taking, take_from, with_found, stop_unless, checked, of_width, column_of, set_entry, set_found}
use Rattle.vg_firm.specs.Meaning.{store, arrays_of, stands_in as is_in, item_index, array_at, at_item}
use Rattle.vg_lin.specs.declared.instr.Operand.{Operand}
use Rattle.vg_lin.specs.declared.instr.Operand.TheVariants.{Local}
use Rattle.vg_lin.specs.declared.instr.Operator.TheVariants.{Plus as Sum}
use Rattle.vg_lin.specs.declared.instr.Comparison.TheVariants.{Below}
use Rattle.vg_lin.specs.declared.instr.Memory.TheVariants.{Ram, Flash}
use Rattle.vg_lin.specs.declared.instr.Plain.{Plain}
use Rattle.vg_lin.specs.declared.instr.Plain.TheVariants.{Compute}
use Rattle.vg_lin.specs.Program.{Program as LinProgram}
use Rattle.vg_lin.specs.State.{State, sets, first_address}
use Rattle.vg_lin.specs.Structured.{Deciding, Caller as LinCaller}
use Rattle.vg_flatten_shapes.specs.declared.fault.Fault.TheVariants.{NotTaken}
use Rattle.vg_flatten_shapes.specs.declared.layout.Place.{Place}
use Rattle.vg_flatten_shapes.specs.declared.layout.Layout.{Layout}
use Rattle.vg_flatten_shapes.specs.declared.open.Truth.TheVariants.{Fails}
use Rattle.vg_flatten_shapes.specs.declared.room.Room.{Room}
use Rattle.vg_flatten_shapes.specs.Shapes.{Shape, only, temp}
use Rattle.vg_flatten_shapes.specs.Blocks.{Block, One, Both}
use Rattle.vg_flatten_shapes.specs.Made.{Made, Gives as Makes, Refused, by_temp}
use Rattle.vg_flatten_places.specs.declared.elements.Reach.{Reach}
use Rattle.vg_flatten_places.specs.Places.{is_width, load_from, timed, place_of, bounded, reached, element_of, lone_of, store_at, store_element, store_inside, store_item}
use Rattle.vg_flatten_values.specs.Values.{test_of}
use Rattle.vg_flatten.specs.Columns.{ColumnStands, TableStands, FlashStands}
use Rattle.vg_flattened.proofs.MissingRight.{right_no_store}
use Rattle.vg_flattened.proofs.DroppedRight.{right_store_dropped, step_then, times_is, less}
use Rattle.vg_flattened.proofs.Alike.{IsFair, Alike, wrong}
use Rattle.vg_flattened.proofs.Related.{ArePlaced, AreAt, AreWidths, AreSame, Held, Leaves}
use Rattle.vg_flattened.proofs.Numbers.{low_two, below_same}
use Rattle.vg_flattened.proofs.Operating.{holds_of}
use Rattle.vg_flattened.proofs.Locals.{value_of_home, put_temp, placed_temp}
use Rattle.vg_flattened.proofs.Right.{Right, linear}
use Rattle.vg_flattened.proofs.StepRight.{computes_to}
use Rattle.vg_flattened.proofs.CombinedRight.{stops_both, stopped, passed}
use Rattle.vg_flattened.proofs.ColumnRight.{width_low, entry_within, null_then, loads}
use Rattle.vg_flattened.proofs.StoreRight.{does_store}
use Rattle.vg_flattened.proofs.ElementPlace.{whole_behind, sum_small, times_small, sum_behind, sum_is}
use Rattle.vg_flattened.proofs.LoneRight.{right_lone_store}

module _ (k : Codes) (f : FirmProgram) (m : FirmProcedure) (call : FirmCaller History) (handle : ℕ → Piece Firm History)
    (p : LinProgram) (go : LinCaller State) (lay : Layout) (r : Room) (ws : List ℕ) (wide : AreWidths r m.widths ws)
    (flash : FlashStands lay f p) where
  abbrev Right' : Shape → Made → Piece Firm History → Type 0
  Right' = Right k f m call handle p go lay r ws wide

  abbrev linear' : Block → Piece (Deciding State) History
  linear' = linear k f m call handle p go lay r ws wide

  abbrev step' : Step → Piece Firm History
  step' = firm_step k f m call handle

  module _ (e : Elements) (place : Place) (table : ℕ) (column_at : slice_get lay.ram e.column ≡ Some place)
      (table_at : slice_get lay.tables e.table ≡ Some table) (same_address : e.address ≡ place.address) (same_width : e.width ≡ place.width)
      (is : is_width e.width ≡ true) (from h i : Operand) (hs : List Operand) (placed : ArePlaced r.locals (from ∷ i ∷ h ∷ hs)) (first second : ℕ)
      (has1 : temp r (from ∷ i ∷ h ∷ hs) ≡ Some first) (has2 : temp r (Local first ∷ from ∷ i ∷ h ∷ hs) ≡ Some second) where
    abbrev reach : Reach
    reach = record { first = first; second = second; table = table; width = e.width; home = h; index = i }

    abbrev last : Plain
    last = store_at e.width 0 (Local first) from

    abbrev G : Firm → Deciding State → Type 0
    G = Held lay r ws (only hs)

    abbrev L : Signal → Firm → Deciding State → Type 0
    L = Leaves lay r ws

    -- the last sum
    abbrev sum : Plain
    sum = Compute (record { operator = Sum; width = 2; to = first; left = Local first; right = Local second })

    -- what the packed program does with the array's number
    abbrev sought : ℕ → ℕ → ℕ → Piece Firm History
    sought y x n =
        with_found (array_at f e.table n) (λ a. stop_unless (nat_lt x a.length) 2
        (checked (is_in e a.address) (store e.column (item_index e a.address x) y)))

    placed1 : ArePlaced r.locals (Local first ∷ from ∷ i ∷ h ∷ hs)
    placed1 = placed_temp r (from ∷ i ∷ h ∷ hs) first has1 placed

    -- from the place of the array to the element
    does_last : (arrays : List ArrayPlace) → slice_get f.tables e.table ≡ Some arrays → (n x y : ℕ) → y < 256 ^ e.width → 0 < n → (a : ArrayPlace)
        → slice_get arrays (n - 1) ≡ Some a → e.address ≤ a.address → (a.address - e.address) % e.width ≡ 0
        → (s : Firm) (vs : List ℕ) (d : Deciding State) (w : World History) → IsFair w
        → AreSame lay r ws (Local first ∷ from ∷ i ∷ h ∷ hs) (record s { values = n * 4 ∷ y ∷ x ∷ n ∷ vs }) d.state
        → (us : List ℕ) → slice_get s.columns e.column ≡ Some us → (old : ℕ) → slice_get us ((a.address - e.address) / e.width + x) ≡ Some old
        → Alike G L (Gives (record s { values = vs; columns = set_entry s.columns e.column ((a.address - e.address) / e.width + x) y }) w)
        (linear' (place_of reach last) d w)
    does_last arrays tabled n x y small-y above a found low' whole s vs d w fair q us hc old he =
        step_then k f m call handle p go lay r ws wide flash (load_from Flash 2 first (table - 4) (Local first))
        (Both (One (timed second e.width i)) (Both (One sum) (One last))) answer d w t1
        (loads k f m call handle p go lay r ws wide flash Flash 2 first (table - 4) (n * 4) (table - first_address Flash + 4 * (n - 1)) a.address
        (Local first) d.state w.outside q.waits.0.0
        (omega (arith, t_behind, above, four)) (omega (arith, t_behind, above, four)) (stood.addresses (n - 1) a found).0)
        (step_then k f m call handle p go lay r ws wide flash (timed second e.width i) (Both (One sum) (One last)) answer (record d { state = t1 }) w t2
        (times_is k f m call handle p go lay r ws wide flash second e.width i x t1 w.outside (value_of_home i x t1 q1.waits.1.1.0.0) few)
        (step_then k f m call handle p go lay r ws wide flash sum (One last) answer (record d { state = t2 }) w t3
        (computes_to k f m call handle p go lay r ws wide Sum 2 first (Local first) (Local second) a.address (x * e.width) (a.address + x * e.width) t2
        w.outside q2.waits.1.0.0 q2.waits.0.0 (ap Some (low_two (a.address + x * e.width) sum_few)))
        (subst (λ z. Alike G L answer (linear' (One (store_at z 0 (Local first) from)) (record d { state = t3 }) w)) (sym same_width)
        (does_store k f m call handle p go lay r ws wide flash hs e.column index y old (a.address + x * e.width) 0 place us (Local first) from
        (record s { values = vs }) (record d { state = t3 }) w fair column_at hc he (subst (λ z. y < 256 ^ z) same_width small-y) q3.waits.0.0
        (value_of_home from y t3 q3.waits.1.0.0) (sum_behind (first_address Ram) a.address e.address (x * e.width) c_behind low') place_is
        (less k f m call handle p go lay r ws wide flash h hs n vs s t3 (less k f m call handle p go lay r ws wide flash i (h ∷ hs) x
        (n ∷ vs) s t3
        (less k f m call handle p go lay r ws wide flash from (i ∷ h ∷ hs) y (x ∷ n ∷ vs) s t3
        (less k f m call handle p go lay r ws wide flash (Local first) (from ∷ i ∷ h ∷ hs) (a.address + x * e.width) (y ∷ x ∷ n ∷ vs) s t3 q3))))))))
      where
        answer : Answer Firm History
        answer = Gives (record s { values = vs; columns = set_entry s.columns e.column ((a.address - e.address) / e.width + x) y }) w

        stood : TableStands p.tables table arrays
        stood = flash.tables e.table table arrays table_at tabled

        t_behind : first_address Flash ≤ table
        t_behind = stood.behind

        four : 4 ≤ table
        four = omega (arith, t_behind)

        index : ℕ
        index = (a.address - e.address) / e.width + x

        t1 : State
        t1 = sets first a.address d.state

        q1 : AreSame lay r ws (Local first ∷ from ∷ i ∷ h ∷ hs) (record s { values = a.address ∷ y ∷ x ∷ n ∷ vs }) t1
        q1 =
            let small = (stood.addresses (n - 1) a found).1 in
            put_temp lay r m.widths ws (from ∷ i ∷ h ∷ hs) (record s {
              values =
                  y ∷ x ∷ n ∷ vs;
            }) d.state first a.address wide placed has1 (omega (arith, small))
            (less k f m call handle p go lay r ws wide flash (Local first) (from ∷ i ∷ h ∷ hs) (n * 4) (y ∷ x ∷ n ∷ vs) s d.state q)

        before : ColumnStands Ram d.state.ram place us
        before = q.ram.stands e.column place us column_at hc

        c_behind : first_address Ram ≤ e.address
        c_behind = subst (λ z. first_address Ram ≤ z) (sym same_address) before.behind

        within : e.width * index < e.width * length us
        within = entry_within e.width index (length us) (width_low e.width is) (slice_get_within us index old he)

        all_short : e.address + e.width * length us ≤ 65536
        all_short =
            subst (λ z. z + e.width * length us ≤ 65536) (sym same_address) (subst (λ z. place.address + z * length us ≤ 65536) (sym same_width) before.short)

        turned : x * e.width ≡ e.width * x
        turned = mul_comm x e.width

        behind_array : e.width * index ≡ a.address - e.address + x * e.width
        behind_array = whole_behind a.address e.address e.width x low' whole ∙ ap (λ z. a.address - e.address + z) (sym turned)

        at_most : a.address - e.address + x * e.width < e.width * length us
        at_most = subst (λ z. z < e.width * length us) behind_array within

        few : x * e.width < 65536
        few = times_small (a.address - e.address) (x * e.width) (e.width * length us) e.address all_short at_most

        sum_few : a.address + x * e.width < 65536
        sum_few = sum_small a.address e.address (x * e.width) (e.width * length us) low' all_short at_most

        t2 : State
        t2 = sets second (x * e.width) t1

        q2 : AreSame lay r ws (Local second ∷ Local first ∷ from ∷ i ∷ h ∷ hs) (record s { values = (x * e.width) ∷ a.address ∷ y ∷ x ∷ n ∷ vs }) t2
        q2 =
            put_temp lay r m.widths ws (Local first ∷ from ∷ i ∷ h ∷ hs) (record s {
              values =
                  a.address ∷ y ∷ x ∷ n ∷ vs;
            }) t1 second (x * e.width) wide placed1 has2 (omega (arith, few)) q1

        t3 : State
        t3 = sets first (a.address + x * e.width) t2

        q3 : AreSame lay r ws (Local first ∷ from ∷ i ∷ h ∷ hs) (record s { values = (a.address + x * e.width) ∷ y ∷ x ∷ n ∷ vs }) t3
        q3 =
            put_temp lay r m.widths ws (from ∷ i ∷ h ∷ hs) (record s { values = y ∷ x ∷ n ∷ vs }) t2 first (a.address + x * e.width) wide placed has1 (omega (arith, sum_few))
            (less k f m call handle p go lay r ws wide flash (Local first) (from ∷ i ∷ h ∷ hs) a.address (y ∷ x ∷ n ∷ vs) s t2
            (less k f m call handle p go lay r ws wide flash (Local second) (Local first ∷ from ∷ i ∷ h ∷ hs) (x * e.width)
            (a.address ∷ y ∷ x ∷ n ∷ vs) s t2 q2))

        place_is : 0 + (a.address + x * e.width) - first_address Ram ≡ place.address - first_address Ram + place.width * index
        place_is =
            sum_is (first_address Ram) a.address e.address (x * e.width) c_behind low'
            ∙ ap (λ z. e.address - first_address Ram + z) (sym behind_array)
            ∙ ap (λ z. z - first_address Ram + e.width * index) same_address
            ∙ ap (λ z. place.address - first_address Ram + z * index) same_width

    -- by what the packed program finds
    by_entry : (arrays : List ArrayPlace) → slice_get f.tables e.table ≡ Some arrays → (n x y : ℕ) → y < 256 ^ e.width → 0 < n → (a : ArrayPlace)
        → slice_get arrays (n - 1) ≡ Some a → e.address ≤ a.address → (a.address - e.address) % e.width ≡ 0
        → (s : Firm) (vs : List ℕ) (d : Deciding State) (w : World History) → IsFair w
        → AreSame lay r ws (Local first ∷ from ∷ i ∷ h ∷ hs) (record s { values = n * 4 ∷ y ∷ x ∷ n ∷ vs }) d.state
        → (us : List ℕ) → slice_get s.columns e.column ≡ Some us → (o : Option ℕ) → slice_get us ((a.address - e.address) / e.width + x) ≡ o
        → Alike G L (set_found e.column ((a.address - e.address) / e.width + x) y o (record s { values = vs }) w) (linear' (place_of reach last) d w)
    by_entry arrays tabled n x y small-y above a found low' whole s vs d w fair q us hc (Some old) he =
        does_last arrays tabled n x y small-y above a found low' whole s vs d w fair q us hc old he
    by_entry arrays tabled n x y small-y above a found low' whole s vs d w fair q us hc None he = wrong

    by_column : (arrays : List ArrayPlace) → slice_get f.tables e.table ≡ Some arrays → (n x y : ℕ) → y < 256 ^ e.width → 0 < n → (a : ArrayPlace)
        → slice_get arrays (n - 1) ≡ Some a → e.address ≤ a.address → (a.address - e.address) % e.width ≡ 0
        → (s : Firm) (vs : List ℕ) (d : Deciding State) (w : World History) → IsFair w
        → AreSame lay r ws (Local first ∷ from ∷ i ∷ h ∷ hs) (record s { values = n * 4 ∷ y ∷ x ∷ n ∷ vs }) d.state
        → (o : Option (List ℕ)) → slice_get s.columns e.column ≡ o
        → Alike G L (set_found e.column ((a.address - e.address) / e.width + x) y (slice_get (column_of o) ((a.address - e.address) / e.width + x))
        (record s { values = vs }) w)
        (linear' (place_of reach last) d w)
    by_column arrays tabled n x y small-y above a found low' whole s vs d w fair q (Some us) hc =
        by_entry arrays tabled n x y small-y above a found low' whole s vs d w fair q us hc (slice_get us ((a.address - e.address) / e.width + x)) refl
    by_column arrays tabled n x y small-y above a found low' whole s vs d w fair q None hc = wrong

    by_place : (arrays : List ArrayPlace) → slice_get f.tables e.table ≡ Some arrays → (n x y : ℕ) → y < 256 ^ e.width → 0 < n → (a : ArrayPlace)
        → slice_get arrays (n - 1) ≡ Some a → (s : Firm) (vs : List ℕ) (d : Deciding State) (w : World History) → IsFair w
        → AreSame lay r ws (Local first ∷ from ∷ i ∷ h ∷ hs) (record s { values = n * 4 ∷ y ∷ x ∷ n ∷ vs }) d.state
        → (b b1 : Bool) → nat_le e.address a.address ≡ b → ((a.address - e.address) % e.width == 0) ≡ b1
        → Alike G L (checked (b && b1) (store e.column (item_index e a.address x) y) (record s { values = vs }) w) (linear' (place_of reach last) d w)
    by_place arrays tabled n x y small-y above a found s vs d w fair q true true c1 c2 =
        by_column arrays tabled n x y small-y above a found (grind arith) (grind arith) s vs d w fair q (slice_get s.columns e.column) refl
    by_place arrays tabled n x y small-y above a found s vs d w fair q true false c1 c2 = wrong
    by_place arrays tabled n x y small-y above a found s vs d w fair q false b1 c1 c2 = wrong

    -- the bounds check
    by_bound : (arrays : List ArrayPlace) → slice_get f.tables e.table ≡ Some arrays → (n x y : ℕ) → y < 256 ^ e.width → 0 < n → (a : ArrayPlace)
        → slice_get arrays (n - 1) ≡ Some a → a.length < 65536 → (s : Firm) (vs : List ℕ) (d : Deciding State) (w : World History) → IsFair w
        → AreSame lay r ws (Local second ∷ Local first ∷ from ∷ i ∷ h ∷ hs) (record s { values = a.length ∷ n * 4 ∷ y ∷ x ∷ n ∷ vs }) d.state
        → (b : Bool) → nat_lt x a.length ≡ b
        → Alike G L
        (stop_unless b 2 (checked (is_in e a.address) (store e.column (item_index e a.address x) y)) (record s { values = vs }) w)
        (linear' (bounded reach (Some last)) d w)
    by_bound arrays tabled n x y small-y above a found short s vs d w fair q true c =
        subst (λ z. Alike G L (checked (is_in e a.address) (store e.column (item_index e a.address x) y) (record s { values = vs }) w)
        (and_then z (linear' (place_of reach last))))
        (sym (passed k f m call handle p go lay r ws wide (Fails (test_of Below i (Local second))) 2 d w
        (ap (option_map not) (holds_of Below i (Local second) x a.length d.state (value_of_home i x d.state q.waits.1.1.1.0.0) q.waits.0.0
        ∙ ap Some (below_same x a.length q.waits.1.1.1.0.1 (omega (arith, short)) ∙ c)))))
        (by_place arrays tabled n x y small-y above a found s vs (record d { truth = None }) w fair
        (less k f m call handle p go lay r ws wide flash (Local second) (Local first ∷ from ∷ i ∷ h ∷ hs) a.length
        (n * 4 ∷ y ∷ x ∷ n ∷ vs) s d.state q) (nat_le e.address a.address)
        ((a.address - e.address) % e.width == 0) refl refl)
    by_bound arrays tabled n x y small-y above a found short s vs d w fair q false c =
        subst (λ z. Alike G L (stops 2 0 (record s { values = vs }) w) (and_then z (linear' (place_of reach last))))
        (sym (stopped k f m call handle p go lay r ws wide (Fails (test_of Below i (Local second))) 2 d w
        (ap (option_map not) (holds_of Below i (Local second) x a.length d.state (value_of_home i x d.state q.waits.1.1.1.0.0) q.waits.0.0
        ∙ ap Some (below_same x a.length q.waits.1.1.1.0.1 (omega (arith, short)) ∙ c)))))
        (stops_both 2 (record s { values = vs }) (record d { truth = None }) w fair)

    -- the length of the array
    by_array : (arrays : List ArrayPlace) → slice_get f.tables e.table ≡ Some arrays → (n x y : ℕ) → y < 256 ^ e.width → 0 < n
        → (s : Firm) (vs : List ℕ) (d : Deciding State) (w : World History) → IsFair w
        → AreSame lay r ws (from ∷ i ∷ h ∷ hs) (record s { values = y ∷ x ∷ n ∷ vs }) d.state
        → (o : Option ArrayPlace) → slice_get arrays (n - 1) ≡ o
        → Alike G L
        (with_found o (λ a. stop_unless (nat_lt x a.length) 2 (checked (is_in e a.address) (store e.column (item_index e a.address x) y)))
        (record s { values = vs }) w) (linear' (reached reach (Some last)) d w)
    by_array arrays tabled n x y small-y above s vs d w fair q None found = wrong
    by_array arrays tabled n x y small-y above s vs d w fair q (Some a) found =
        step_then k f m call handle p go lay r ws wide flash (timed first 4 h) (Both (One (load_from Flash 2 second (table - 2) (Local first)))
        (bounded reach (Some last))) answer d w t1 (times_is k f m call handle p go lay r ws wide flash first 4 h n d.state w.outside
        (value_of_home h n d.state q.waits.1.1.0.0) few)
        (step_then k f m call handle p go lay r ws wide flash (load_from Flash 2 second (table - 2) (Local first)) (bounded reach (Some last)) answer
        (record d { state = t1 }) w t2
        (loads k f m call handle p go lay r ws wide flash Flash 2 second (table - 2) (n * 4) (table - first_address Flash + 4 * (n - 1) + 2) a.length
        (Local first) t1 w.outside q1.waits.0.0
        (omega (arith, t_behind, above)) (omega (arith, t_behind, above)) (stood.lengths (n - 1) a found).0)
        (by_bound arrays tabled n x y small-y above a found short s vs (record d { state = t2 }) w fair q2 (nat_lt x a.length) refl))
      where
        answer : Answer Firm History
        answer =
            stop_unless (nat_lt x a.length) 2 (checked (is_in e a.address) (store e.column (item_index e a.address x) y)) (record s { values = vs }) w

        stood : TableStands p.tables table arrays
        stood = flash.tables e.table table arrays table_at tabled

        t_behind : first_address Flash ≤ table
        t_behind = stood.behind

        short : a.length < 65536
        short = (stood.lengths (n - 1) a found).1

        few : n * 4 < 65536
        few =
            let inner = slice_get_within arrays (n - 1) a found in
            let all = stood.short in
            let behind = t_behind in
            omega (arith, inner, all, above, behind)

        t1 : State
        t1 = sets first (n * 4) d.state

        q1 : AreSame lay r ws (Local first ∷ from ∷ i ∷ h ∷ hs) (record s { values = n * 4 ∷ y ∷ x ∷ n ∷ vs }) t1
        q1 = put_temp lay r m.widths ws (from ∷ i ∷ h ∷ hs) (record s { values = y ∷ x ∷ n ∷ vs }) d.state first (n * 4) wide placed has1 (omega (arith, few)) q

        t2 : State
        t2 = sets second a.length t1

        q2 : AreSame lay r ws (Local second ∷ Local first ∷ from ∷ i ∷ h ∷ hs) (record s { values = a.length ∷ n * 4 ∷ y ∷ x ∷ n ∷ vs }) t2
        q2 =
            put_temp lay r m.widths ws (Local first ∷ from ∷ i ∷ h ∷ hs) (record s { values = n * 4 ∷ y ∷ x ∷ n ∷ vs }) t1 second a.length wide placed1 has2
            (omega (arith, short)) q1

    by_table : (n x y : ℕ) → y < 256 ^ e.width → 0 < n → (s : Firm) (vs : List ℕ) (d : Deciding State) (w : World History) → IsFair w
        → AreSame lay r ws (from ∷ i ∷ h ∷ hs) (record s { values = y ∷ x ∷ n ∷ vs }) d.state → (o : Option (List ArrayPlace)) → slice_get f.tables e.table ≡ o
        → Alike G L
        (with_found (slice_get (arrays_of o) (n - 1)) (λ a. stop_unless (nat_lt x a.length) 2
        (checked (is_in e a.address) (store e.column (item_index e a.address x) y))) (record s { values = vs }) w) (linear' (reached reach (Some last)) d w)
    by_table n x y small-y above s vs d w fair q (Some arrays) tabled =
        by_array arrays tabled n x y small-y above s vs d w fair q (slice_get arrays (n - 1)) refl
    by_table n x y small-y above s vs d w fair q None tabled = wrong

    by_fit : (s : Firm) (d : Deciding State) (w : World History) → IsFair w → AreSame lay r ws (from ∷ i ∷ h ∷ hs) s d.state → (y x n : ℕ) (vs : List ℕ)
        → AreAt (from ∷ i ∷ h ∷ hs) (y ∷ x ∷ n ∷ vs) d.state.locals → (b : Bool) → nat_lt y (256 ^ e.width) ≡ b
        → Alike G L (checked b (taking (λ j. taking (at_item f e (λ c. store e.column c y) j))) (record s { values = x ∷ n ∷ vs }) w)
        (linear' (element_of reach (Some last)) d w)
    by_fit s d w fair q y x n vs at true fit =
        null_then k f m call handle p go lay r ws wide flash h n (sought y x) (linear' (reached reach (Some last))) (record s { values = vs }) d w fair
        (value_of_home h n d.state at.1.1.0.0) at.1.1.0.1
        (λ above. by_table n x y (grind arith) above s vs (record d { truth = None }) w fair
        (record { waits = at; kept = q.kept; none = q.none; ram = q.ram }) (slice_get f.tables e.table) refl)
    by_fit s d w fair q y x n vs at false fit = wrong

    by_values : (s : Firm) (d : Deciding State) (w : World History) → IsFair w → AreSame lay r ws (from ∷ i ∷ h ∷ hs) s d.state → (vs : List ℕ)
        → AreAt (from ∷ i ∷ h ∷ hs) vs d.state.locals
        → Alike G L (take_from vs (of_width e.width (λ y. taking (λ x. taking (at_item f e (λ c. store e.column c y) x)))) s w)
        (linear' (element_of reach (Some last)) d w)
    by_values s d w fair q [] at = absurd at
    by_values s d w fair q (y ∷ []) at = absurd at.1
    by_values s d w fair q (y ∷ x ∷ []) at = absurd at.1.1
    by_values s d w fair q (y ∷ x ∷ n ∷ vs) at = by_fit s d w fair q y x n vs at (nat_lt y (256 ^ e.width)) refl

  right_element : (e : Elements) (place : Place) (table : ℕ) → slice_get lay.ram e.column ≡ Some place
      → slice_get lay.tables e.table ≡ Some table → e.address ≡ place.address → e.width ≡ place.width → is_width e.width ≡ true
      → (from h i : Operand) (hs : List Operand) → ArePlaced r.locals (from ∷ i ∷ h ∷ hs)
      → Right' (only (from ∷ i ∷ h ∷ hs)) (store_element r e.width table from h i hs) (step' (StoreItem e))
  right_element e place table column_at table_at ea ew is from h i hs placed = by_first (temp r (from ∷ i ∷ h ∷ hs)) refl
    where
      made : (first second : ℕ) → Made
      made first second =
          Makes (element_of (record { first = first; second = second; table = table; width = e.width; home = h; index = i })
          (Some (store_at e.width 0 (Local first) from))) (only hs)

      by_second : (first : ℕ) → temp r (from ∷ i ∷ h ∷ hs) ≡ Some first → (o : Option ℕ) → temp r (Local first ∷ from ∷ i ∷ h ∷ hs) ≡ o
          → Right' (only (from ∷ i ∷ h ∷ hs)) (by_temp o (λ second. made first second)) (step' (StoreItem e))
      by_second first has1 (Some second) has2 = (
        placed.1.1.1,
        λ s d w fair q. by_values e place table column_at table_at ea ew is from h i hs placed first second has1 has2 s d w fair q s.values q.waits,
      )
      by_second first has1 None has2 = tt

      by_first : (o : Option ℕ) → temp r (from ∷ i ∷ h ∷ hs) ≡ o
          → Right' (only (from ∷ i ∷ h ∷ hs)) (by_temp o (λ first. by_temp (temp r (Local first ∷ from ∷ i ∷ h ∷ hs)) (λ second. made first second)))
          (step' (StoreItem e))
      by_first (Some first) has1 = by_second first has1 (temp r (Local first ∷ from ∷ i ∷ h ∷ hs)) refl
      by_first None has1 = tt

  -- by whether the array of the table is the only one
  right_inside : (single : Option ArrayPlace) (e : Elements) (place : Place) (table : ℕ) → lone_of lay e.table ≡ single → slice_get lay.ram e.column ≡ Some place
      → slice_get lay.tables e.table ≡ Some table → e.address ≡ place.address → e.width ≡ place.width → is_width e.width ≡ true
      → (from h i : Operand) (hs : List Operand) → ArePlaced r.locals (from ∷ i ∷ h ∷ hs)
      → Right' (only (from ∷ i ∷ h ∷ hs)) (store_inside r single e.width table from h i hs) (step' (StoreItem e))
  right_inside (Some a) e place table alone column_at table_at ea ew is from h i hs placed =
      right_lone_store k f m call handle p go lay r ws wide flash e a alone place column_at ea ew is from h i hs placed
  right_inside None e place table alone column_at table_at ea ew is from h i hs placed =
      right_element e place table column_at table_at ea ew is from h i hs placed

  pub right_store_item : (e : Elements) (hs : List Operand) → ArePlaced r.locals hs
      → Right' (only hs) (store_item r (lone_of lay e.table) e (slice_get lay.ram e.column) (slice_get lay.tables e.table) hs) (step' (StoreItem e))
  right_store_item e hs placed = by_found (slice_get lay.ram e.column) refl (slice_get lay.tables e.table) refl hs placed
    where
      by_found : (o : Option Place) → slice_get lay.ram e.column ≡ o → (u : Option ℕ) → slice_get lay.tables e.table ≡ u
          → (gs : List Operand) → ArePlaced r.locals gs → Right' (only gs) (store_item r (lone_of lay e.table) e o u gs) (step' (StoreItem e))
      by_found o c None d gs placed1 = right_no_store k f m call handle p go lay r ws wide flash e d gs placed1
      by_found None c (Some table) d gs placed1 = right_store_dropped k f m call handle p go lay r ws wide flash e table c d gs placed1
      by_found (Some place) c (Some table) d [] placed1 = tt
      by_found (Some place) c (Some table) d (v ∷ []) placed1 = tt
      by_found (Some place) c (Some table) d (v ∷ i ∷ []) placed1 = tt
      by_found (Some place) c (Some table) d (v ∷ i ∷ h ∷ gs) placed1 =
          by_width (is_width e.width) refl (e.address == place.address) refl (e.width == place.width) refl (nat_le 4 table)
        where
          by_width : (b : Bool) → is_width e.width ≡ b → (b1 : Bool) → (e.address == place.address) ≡ b1 → (b2 : Bool) → (e.width == place.width) ≡ b2
              → (b3 : Bool)
              → Right' (only (v ∷ i ∷ h ∷ gs)) (if b && (b1 && b2) && b3 then store_inside r (lone_of lay e.table) e.width table v h i gs
              else Refused NotTaken) (step' (StoreItem e))
          by_width true is true ea true ew true =
              right_inside (lone_of lay e.table) e place table refl c d (grind arith) (grind arith) is v h i gs placed1
          by_width true is true ea true ew false = tt
          by_width true is true ea false ew b3 = tt
          by_width true is false ea b2 ew b3 = tt
          by_width false is b1 ea b2 ew b3 = tt
