-- That loads of elements become blocks that do the same.
use Rattle.std.specs.Prelude.{ℕ, ◌+◌, ◌-◌, ◌*◌, ◌/◌, ◌%◌, ◌<◌, ◌≤◌, ◌^◌, Bool, true, false, not, ◌==◌, ◌&&◌, nat_lt, nat_le, List, [], ◌∷◌, length}
use Rattle.std.specs.Prelude.{Option, Some, None, slice_get, if◌then◌else◌}
use Rattle.std.specs.Option.{option_map}
use Rattle.std.proofs.Common.{◌≡◌, refl, sym, ap, ◌∙◌, subst, arith}
use Rattle.std.proofs.Math.Nat.{mul_comm}
use Rattle.std.proofs.lemmas.Option.{slice_get_within}
use Rattle.vg_meaning.specs.History.{History}
use Rattle.vg_meaning.specs.World.{World}
use Rattle.vg_meaning.specs.Answer.{Signal, Answer, Piece, and_then, stops}
use Rattle.vg_codes.specs.Codes.{Codes}
use Rattle.vg_firm.specs.declared.step.ArrayPlace.{ArrayPlace}
use Rattle.vg_firm.specs.declared.step.Elements.{Elements}
use Rattle.vg_firm.specs.declared.step.Home.{Home}
use Rattle.vg_firm.specs.declared.step.Home.TheVariants.{Ram as InRam, Flash as InFlash}
use Rattle.vg_firm.specs.declared.step.Step.{Step}
use Rattle.vg_firm.specs.declared.step.Step.TheVariants.{LoadItem}
use Rattle.vg_firm.specs.Program.{Procedure as FirmProcedure, Program as FirmProgram}
use Rattle.vg_firm.specs.Meaning.{State as Firm, Caller as FirmCaller, step as firm_step, put, taking, take_from, with_found, stop_unless, checked, columns_in, column_of}
use Rattle.vg_firm.specs.Meaning.{load, arrays_of, stands_in as is_in, item_index, array_at, at_item}
use Rattle.vg_lin.specs.declared.instr.Operand.{Operand}
use Rattle.vg_lin.specs.declared.instr.Operand.TheVariants.{Local}
use Rattle.vg_lin.specs.declared.instr.Operator.TheVariants.{Plus as Sum}
use Rattle.vg_lin.specs.declared.instr.Comparison.TheVariants.{Below}
use Rattle.vg_lin.specs.declared.instr.Memory.TheVariants.{Flash}
use Rattle.vg_lin.specs.declared.instr.Plain.{Plain}
use Rattle.vg_lin.specs.declared.instr.Plain.TheVariants.{Compute}
use Rattle.vg_lin.specs.Program.{Program as LinProgram}
use Rattle.vg_lin.specs.State.{State, sets, first_address, bytes_of, number_at}
use Rattle.vg_lin.specs.Structured.{Deciding, Caller as LinCaller}
use Rattle.vg_flatten_shapes.specs.declared.fault.Fault.TheVariants.{NotTaken}
use Rattle.vg_flatten_shapes.specs.declared.layout.Place.{Place}
use Rattle.vg_flatten_shapes.specs.declared.layout.Layout.{Layout}
use Rattle.vg_flatten_shapes.specs.declared.open.Truth.TheVariants.{Fails}
use Rattle.vg_flatten_shapes.specs.declared.room.Room.{Room}
use Rattle.vg_flatten_shapes.specs.Shapes.{Shape, only, temp}
use Rattle.vg_flatten_shapes.specs.Blocks.{Block, One, Both}
use Rattle.vg_flatten_shapes.specs.Made.{Made, Gives as Makes, Refused, by_temp}
use Rattle.vg_flatten_places.specs.declared.elements.Reach.{Reach}
use Rattle.vg_flatten_places.specs.Places.{is_width, load_from, places_in, memory_of, timed, place_of, bounded, reached, element_of, lone_of, load_element, load_inside, load_item}
use Rattle.vg_flatten_values.specs.Values.{test_of}
use Rattle.vg_flatten.specs.Columns.{ColumnStands, TableStands, FlashStands}
use Rattle.vg_flattened.proofs.MissingRight.{right_no_item}
use Rattle.vg_flattened.proofs.DroppedRight.{right_dropped, step_then, times_is, less}
use Rattle.vg_flattened.proofs.Alike.{IsFair, Alike, wrong}
use Rattle.vg_flattened.proofs.Related.{ArePlaced, AreAt, AreWidths, AreSame, Held, Leaves}
use Rattle.vg_flattened.proofs.Numbers.{low_two, below_same}
use Rattle.vg_flattened.proofs.Operating.{holds_of}
use Rattle.vg_flattened.proofs.Locals.{value_of_home, put_temp, placed_temp}
use Rattle.vg_flattened.proofs.Right.{Right, linear}
use Rattle.vg_flattened.proofs.StepRight.{into_temp, computes_to}
use Rattle.vg_flattened.proofs.CombinedRight.{stops_both, stopped, passed}
use Rattle.vg_flattened.proofs.ElementPlace.{whole_behind, sum_small, times_small, sum_behind, sum_is}
use Rattle.vg_flattened.proofs.LoneRight.{right_lone}
use Rattle.vg_flattened.proofs.ColumnRight.{width_low, entry_within, width_high, four_bytes, null_then, loads, stands_in}

module _ (k : Codes) (f : FirmProgram) (m : FirmProcedure) (call : FirmCaller History) (handle : ℕ → Piece Firm History)
    (p : LinProgram) (go : LinCaller State) (lay : Layout) (r : Room) (ws : List ℕ) (wide : AreWidths r m.widths ws)
    (flash : FlashStands lay f p) where
  abbrev Right' : Shape → Made → Piece Firm History → Type 0
  Right' = Right k f m call handle p go lay r ws wide

  abbrev linear' : Block → Piece (Deciding State) History
  linear' = linear k f m call handle p go lay r ws wide

  abbrev step' : Step → Piece Firm History
  step' = firm_step k f m call handle

  -- the values that wait are no columns
  columns_same : (home : Home) (s : Firm) (xs ys : List ℕ) → columns_in f home (record s { values = xs }) ≡ columns_in f home (record s { values = ys })
  columns_same InRam s xs ys = refl
  columns_same InFlash s xs ys = refl

  module _ (e : Elements) (place : Place) (table : ℕ) (column_at : slice_get (places_in lay e.home) e.column ≡ Some place)
      (table_at : slice_get lay.tables e.table ≡ Some table) (same_address : e.address ≡ place.address) (same_width : e.width ≡ place.width)
      (is : is_width e.width ≡ true) (h i : Operand) (hs : List Operand) (placed : ArePlaced r.locals (i ∷ h ∷ hs)) (to first second : ℕ)
      (has0 : temp r hs ≡ Some to) (has1 : temp r (i ∷ h ∷ hs) ≡ Some first) (has2 : temp r (Local first ∷ i ∷ h ∷ hs) ≡ Some second) where
    abbrev reach : Reach
    reach = record { first = first; second = second; table = table; width = e.width; home = h; index = i }

    abbrev last : Plain
    last = load_from (memory_of e.home) e.width to 0 (Local first)

    abbrev G : Firm → Deciding State → Type 0
    G = Held lay r ws (only (Local to ∷ hs))

    abbrev L : Signal → Firm → Deciding State → Type 0
    L = Leaves lay r ws

    -- the last sum
    abbrev sum : Plain
    sum = Compute (record { operator = Sum; width = 2; to = first; left = Local first; right = Local second })

    -- what the packed program does with the array's number
    abbrev sought : ℕ → ℕ → Piece Firm History
    sought x n =
        with_found (array_at f e.table n) (λ a. stop_unless (nat_lt x a.length) 2
        (checked (is_in e a.address) (load f e.home e.column (item_index e a.address x))))

    placed1 : ArePlaced r.locals (Local first ∷ i ∷ h ∷ hs)
    placed1 = placed_temp r (i ∷ h ∷ hs) first has1 placed

    -- from the place of the array to the element
    does_last : (arrays : List ArrayPlace) → slice_get f.tables e.table ≡ Some arrays → (n x : ℕ) → 0 < n → (a : ArrayPlace)
        → slice_get arrays (n - 1) ≡ Some a → e.address ≤ a.address → (a.address - e.address) % e.width ≡ 0
        → (s : Firm) (vs : List ℕ) (d : Deciding State) (w : World History) → IsFair w
        → AreSame lay r ws (Local first ∷ i ∷ h ∷ hs) (record s { values = n * 4 ∷ x ∷ n ∷ vs }) d.state
        → (us : List ℕ) → slice_get (columns_in f e.home (record s { values = vs })) e.column ≡ Some us → (v : ℕ)
        → slice_get us ((a.address - e.address) / e.width + x) ≡ Some v
        → Alike G L (put v (record s { values = vs }) w) (linear' (place_of reach last) d w)
    does_last arrays tabled n x above a found low' whole s vs d w fair q us hc v he =
        step_then k f m call handle p go lay r ws wide flash (load_from Flash 2 first (table - 4) (Local first))
        (Both (One (timed second e.width i)) (Both (One sum) (One last))) answer d w t1
        (loads k f m call handle p go lay r ws wide flash Flash 2 first (table - 4) (n * 4) (table - first_address Flash + 4 * (n - 1)) a.address
        (Local first) d.state w.outside q.waits.0.0
        (omega (arith, t_behind, above, four)) (omega (arith, t_behind, above, four)) (stood.addresses (n - 1) a found).0)
        (step_then k f m call handle p go lay r ws wide flash (timed second e.width i) (Both (One sum) (One last)) answer (record d { state = t1 }) w t2
        (times_is k f m call handle p go lay r ws wide flash second e.width i x t1 w.outside (value_of_home i x t1 q1.waits.1.0.0) few)
        (step_then k f m call handle p go lay r ws wide flash sum (One last) answer (record d { state = t2 }) w t3
        (computes_to k f m call handle p go lay r ws wide Sum 2 first (Local first) (Local second) a.address (x * e.width) (a.address + x * e.width) t2
        w.outside q2.waits.1.0.0 q2.waits.0.0 (ap Some (low_two (a.address + x * e.width) sum_few)))
        (into_temp k f m call handle p go lay r ws wide hs to v last (record s { values = vs }) (record d { state = t3 }) w fair placed.1.1 has0
        (four_bytes e.width v (width_high e.width is) (subst (λ z. v < 256 ^ z) (sym same_width) (stands.held index v he).1))
        (less k f m call handle p go lay r ws wide flash h hs n vs s t3 (less k f m call handle p go lay r ws wide flash i (h ∷ hs) x (n ∷ vs) s t3
        (less k f m call handle p go lay r ws wide flash (Local first) (i ∷ h ∷ hs) (a.address + x * e.width) (x ∷ n ∷ vs) s t3 q3)))
        (loads k f m call handle p go lay r ws wide flash (memory_of e.home) e.width to 0 (a.address + x * e.width)
        (place.address - first_address (memory_of e.home) + place.width * index) v
        (Local first) t3 w.outside q3.waits.0.0 (sum_behind (first_address (memory_of e.home)) a.address e.address (x * e.width) c_behind low')
        place_is (subst (λ z. number_at (bytes_of p (memory_of e.home) t3) z (place.address - first_address (memory_of e.home) + place.width * index) ≡ Some v)
        (sym same_width) (stands.held index v he).0)))))
      where
        answer : Answer Firm History
        answer = put v (record s { values = vs }) w

        stood : TableStands p.tables table arrays
        stood = flash.tables e.table table arrays table_at tabled

        t_behind : first_address Flash ≤ table
        t_behind = stood.behind

        four : 4 ≤ table
        four = omega (arith, t_behind)

        index : ℕ
        index = (a.address - e.address) / e.width + x

        t1 : State
        t1 = sets first a.address d.state

        q1 : AreSame lay r ws (Local first ∷ i ∷ h ∷ hs) (record s { values = a.address ∷ x ∷ n ∷ vs }) t1
        q1 =
            let small = (stood.addresses (n - 1) a found).1 in
            put_temp lay r m.widths ws (i ∷ h ∷ hs) (record s { values = x ∷ n ∷ vs }) d.state first a.address wide placed has1 (omega (arith, small))
            (less k f m call handle p go lay r ws wide flash (Local first) (i ∷ h ∷ hs) (n * 4) (x ∷ n ∷ vs) s d.state q)

        before : ColumnStands (memory_of e.home) (bytes_of p (memory_of e.home) d.state) place us
        before =
            stands_in k f m call handle p go lay r ws wide flash e.home (Local first ∷ i ∷ h ∷ hs) (record s { values = n * 4 ∷ x ∷ n ∷ vs }) d.state q
            e.column place us column_at (ap (λ z. slice_get z e.column) (columns_same e.home s (n * 4 ∷ x ∷ n ∷ vs) vs) ∙ hc)

        c_behind : first_address (memory_of e.home) ≤ e.address
        c_behind = subst (λ z. first_address (memory_of e.home) ≤ z) (sym same_address) before.behind

        within : e.width * index < e.width * length us
        within = entry_within e.width index (length us) (width_low e.width is) (slice_get_within us index v he)

        all_short : e.address + e.width * length us ≤ 65536
        all_short =
            subst (λ z. z + e.width * length us ≤ 65536) (sym same_address) (subst (λ z. place.address + z * length us ≤ 65536) (sym same_width) before.short)

        turned : x * e.width ≡ e.width * x
        turned = mul_comm x e.width

        behind_array : e.width * index ≡ a.address - e.address + x * e.width
        behind_array = whole_behind a.address e.address e.width x low' whole ∙ ap (λ z. a.address - e.address + z) (sym turned)

        at_most : a.address - e.address + x * e.width < e.width * length us
        at_most = subst (λ z. z < e.width * length us) behind_array within

        few : x * e.width < 65536
        few = times_small (a.address - e.address) (x * e.width) (e.width * length us) e.address all_short at_most

        sum_few : a.address + x * e.width < 65536
        sum_few = sum_small a.address e.address (x * e.width) (e.width * length us) low' all_short at_most

        t2 : State
        t2 = sets second (x * e.width) t1

        q2 : AreSame lay r ws (Local second ∷ Local first ∷ i ∷ h ∷ hs) (record s { values = (x * e.width) ∷ a.address ∷ x ∷ n ∷ vs }) t2
        q2 =
            put_temp lay r m.widths ws (Local first ∷ i ∷ h ∷ hs) (record s {
              values =
                  a.address ∷ x ∷ n ∷ vs;
            }) t1 second (x * e.width) wide placed1 has2 (omega (arith, few)) q1

        t3 : State
        t3 = sets first (a.address + x * e.width) t2

        q3 : AreSame lay r ws (Local first ∷ i ∷ h ∷ hs) (record s { values = (a.address + x * e.width) ∷ x ∷ n ∷ vs }) t3
        q3 =
            put_temp lay r m.widths ws (i ∷ h ∷ hs) (record s { values = x ∷ n ∷ vs }) t2 first (a.address + x * e.width) wide placed has1 (omega (arith, sum_few))
            (less k f m call handle p go lay r ws wide flash (Local first) (i ∷ h ∷ hs) a.address (x ∷ n ∷ vs) s t2
            (less k f m call handle p go lay r ws wide flash (Local second) (Local first ∷ i ∷ h ∷ hs) (x * e.width) (a.address ∷ x ∷ n ∷ vs) s t2 q2))

        stands : ColumnStands (memory_of e.home) (bytes_of p (memory_of e.home) t3) place us
        stands =
            stands_in k f m call handle p go lay r ws wide flash e.home (Local first ∷ i ∷ h ∷ hs)
            (record s { values = (a.address + x * e.width) ∷ x ∷ n ∷ vs }) t3 q3 e.column place us column_at
            (ap (λ z. slice_get z e.column) (columns_same e.home s ((a.address + x * e.width) ∷ x ∷ n ∷ vs) vs) ∙ hc)

        place_is : 0 + (a.address + x * e.width) - first_address (memory_of e.home) ≡ place.address - first_address (memory_of e.home) + place.width * index
        place_is =
            sum_is (first_address (memory_of e.home)) a.address e.address (x * e.width) c_behind low'
            ∙ ap (λ z. e.address - first_address (memory_of e.home) + z) (sym behind_array)
            ∙ ap (λ z. z - first_address (memory_of e.home) + e.width * index) same_address
            ∙ ap (λ z. place.address - first_address (memory_of e.home) + z * index) same_width

    -- by what the packed program finds
    by_entry : (arrays : List ArrayPlace) → slice_get f.tables e.table ≡ Some arrays → (n x : ℕ) → 0 < n → (a : ArrayPlace)
        → slice_get arrays (n - 1) ≡ Some a → e.address ≤ a.address → (a.address - e.address) % e.width ≡ 0
        → (s : Firm) (vs : List ℕ) (d : Deciding State) (w : World History) → IsFair w
        → AreSame lay r ws (Local first ∷ i ∷ h ∷ hs) (record s { values = n * 4 ∷ x ∷ n ∷ vs }) d.state
        → (us : List ℕ) → slice_get (columns_in f e.home (record s { values = vs })) e.column ≡ Some us → (o : Option ℕ)
        → slice_get us ((a.address - e.address) / e.width + x) ≡ o
        → Alike G L (with_found o put (record s { values = vs }) w) (linear' (place_of reach last) d w)
    by_entry arrays tabled n x above a found low' whole s vs d w fair q us hc (Some v) he =
        does_last arrays tabled n x above a found low' whole s vs d w fair q us hc v he
    by_entry arrays tabled n x above a found low' whole s vs d w fair q us hc None he = wrong

    by_column : (arrays : List ArrayPlace) → slice_get f.tables e.table ≡ Some arrays → (n x : ℕ) → 0 < n → (a : ArrayPlace)
        → slice_get arrays (n - 1) ≡ Some a → e.address ≤ a.address → (a.address - e.address) % e.width ≡ 0
        → (s : Firm) (vs : List ℕ) (d : Deciding State) (w : World History) → IsFair w
        → AreSame lay r ws (Local first ∷ i ∷ h ∷ hs) (record s { values = n * 4 ∷ x ∷ n ∷ vs }) d.state
        → (o : Option (List ℕ)) → slice_get (columns_in f e.home (record s { values = vs })) e.column ≡ o
        → Alike G L (with_found (slice_get (column_of o) ((a.address - e.address) / e.width + x)) put (record s { values = vs }) w)
        (linear' (place_of reach last) d w)
    by_column arrays tabled n x above a found low' whole s vs d w fair q (Some us) hc =
        by_entry arrays tabled n x above a found low' whole s vs d w fair q us hc (slice_get us ((a.address - e.address) / e.width + x)) refl
    by_column arrays tabled n x above a found low' whole s vs d w fair q None hc = wrong

    by_place : (arrays : List ArrayPlace) → slice_get f.tables e.table ≡ Some arrays → (n x : ℕ) → 0 < n → (a : ArrayPlace)
        → slice_get arrays (n - 1) ≡ Some a → (s : Firm) (vs : List ℕ) (d : Deciding State) (w : World History) → IsFair w
        → AreSame lay r ws (Local first ∷ i ∷ h ∷ hs) (record s { values = n * 4 ∷ x ∷ n ∷ vs }) d.state
        → (b b1 : Bool) → nat_le e.address a.address ≡ b → ((a.address - e.address) % e.width == 0) ≡ b1
        → Alike G L (checked (b && b1) (load f e.home e.column (item_index e a.address x)) (record s { values = vs }) w) (linear' (place_of reach last) d w)
    by_place arrays tabled n x above a found s vs d w fair q true true c1 c2 =
        by_column arrays tabled n x above a found (grind arith) (grind arith) s vs d w fair q (slice_get (columns_in f e.home (record s {
          values =
              vs;
        })) e.column) refl
    by_place arrays tabled n x above a found s vs d w fair q true false c1 c2 = wrong
    by_place arrays tabled n x above a found s vs d w fair q false b1 c1 c2 = wrong

    -- the bounds check
    by_bound : (arrays : List ArrayPlace) → slice_get f.tables e.table ≡ Some arrays → (n x : ℕ) → 0 < n → (a : ArrayPlace)
        → slice_get arrays (n - 1) ≡ Some a → a.length < 65536 → (s : Firm) (vs : List ℕ) (d : Deciding State) (w : World History) → IsFair w
        → AreSame lay r ws (Local second ∷ Local first ∷ i ∷ h ∷ hs) (record s { values = a.length ∷ n * 4 ∷ x ∷ n ∷ vs }) d.state
        → (b : Bool) → nat_lt x a.length ≡ b
        → Alike G L
        (stop_unless b 2 (checked (is_in e a.address) (load f e.home e.column (item_index e a.address x))) (record s { values = vs }) w)
        (linear' (bounded reach (Some last)) d w)
    by_bound arrays tabled n x above a found short s vs d w fair q true c =
        subst (λ z. Alike G L (checked (is_in e a.address) (load f e.home e.column (item_index e a.address x)) (record s { values = vs }) w)
        (and_then z (linear' (place_of reach last))))
        (sym (passed k f m call handle p go lay r ws wide (Fails (test_of Below i (Local second))) 2 d w
        (ap (option_map not) (holds_of Below i (Local second) x a.length d.state (value_of_home i x d.state q.waits.1.1.0.0) q.waits.0.0
        ∙ ap Some (below_same x a.length q.waits.1.1.0.1 (omega (arith, short)) ∙ c)))))
        (by_place arrays tabled n x above a found s vs (record d { truth = None }) w fair
        (less k f m call handle p go lay r ws wide flash (Local second) (Local first ∷ i ∷ h ∷ hs) a.length (n * 4 ∷ x ∷ n ∷ vs) s d.state q)
        (nat_le e.address a.address)
        ((a.address - e.address) % e.width == 0) refl refl)
    by_bound arrays tabled n x above a found short s vs d w fair q false c =
        subst (λ z. Alike G L (stops 2 0 (record s { values = vs }) w) (and_then z (linear' (place_of reach last))))
        (sym (stopped k f m call handle p go lay r ws wide (Fails (test_of Below i (Local second))) 2 d w
        (ap (option_map not) (holds_of Below i (Local second) x a.length d.state (value_of_home i x d.state q.waits.1.1.0.0) q.waits.0.0
        ∙ ap Some (below_same x a.length q.waits.1.1.0.1 (omega (arith, short)) ∙ c)))))
        (stops_both 2 (record s { values = vs }) (record d { truth = None }) w fair)

    -- the length of the array
    by_array : (arrays : List ArrayPlace) → slice_get f.tables e.table ≡ Some arrays → (n x : ℕ) → 0 < n
        → (s : Firm) (vs : List ℕ) (d : Deciding State) (w : World History) → IsFair w
        → AreSame lay r ws (i ∷ h ∷ hs) (record s { values = x ∷ n ∷ vs }) d.state
        → (o : Option ArrayPlace) → slice_get arrays (n - 1) ≡ o
        → Alike G L
        (with_found o (λ a. stop_unless (nat_lt x a.length) 2 (checked (is_in e a.address) (load f e.home e.column (item_index e a.address x))))
        (record s { values = vs }) w) (linear' (reached reach (Some last)) d w)
    by_array arrays tabled n x above s vs d w fair q None found = wrong
    by_array arrays tabled n x above s vs d w fair q (Some a) found =
        step_then k f m call handle p go lay r ws wide flash (timed first 4 h)
        (Both (One (load_from Flash 2 second (table - 2) (Local first))) (bounded reach (Some last))) answer d w t1
        (times_is k f m call handle p go lay r ws wide flash first 4 h n d.state w.outside (value_of_home h n d.state q.waits.1.0.0) few)
        (step_then k f m call handle p go lay r ws wide flash (load_from Flash 2 second (table - 2) (Local first)) (bounded reach (Some last)) answer
        (record d { state = t1 }) w t2
        (loads k f m call handle p go lay r ws wide flash Flash 2 second (table - 2) (n * 4) (table - first_address Flash + 4 * (n - 1) + 2) a.length
        (Local first) t1 w.outside q1.waits.0.0
        (omega (arith, t_behind, above)) (omega (arith, t_behind, above)) (stood.lengths (n - 1) a found).0)
        (by_bound arrays tabled n x above a found short s vs (record d { state = t2 }) w fair q2 (nat_lt x a.length) refl))
      where
        answer : Answer Firm History
        answer =
            stop_unless (nat_lt x a.length) 2 (checked (is_in e a.address) (load f e.home e.column (item_index e a.address x))) (record s { values = vs }) w

        stood : TableStands p.tables table arrays
        stood = flash.tables e.table table arrays table_at tabled

        t_behind : first_address Flash ≤ table
        t_behind = stood.behind

        short : a.length < 65536
        short = (stood.lengths (n - 1) a found).1

        few : n * 4 < 65536
        few =
            let inner = slice_get_within arrays (n - 1) a found in
            let all = stood.short in
            let behind = t_behind in
            omega (arith, inner, all, above, behind)

        t1 : State
        t1 = sets first (n * 4) d.state

        q1 : AreSame lay r ws (Local first ∷ i ∷ h ∷ hs) (record s { values = n * 4 ∷ x ∷ n ∷ vs }) t1
        q1 = put_temp lay r m.widths ws (i ∷ h ∷ hs) (record s { values = x ∷ n ∷ vs }) d.state first (n * 4) wide placed has1 (omega (arith, few)) q

        t2 : State
        t2 = sets second a.length t1

        q2 : AreSame lay r ws (Local second ∷ Local first ∷ i ∷ h ∷ hs) (record s { values = a.length ∷ n * 4 ∷ x ∷ n ∷ vs }) t2
        q2 =
            put_temp lay r m.widths ws (Local first ∷ i ∷ h ∷ hs) (record s { values = n * 4 ∷ x ∷ n ∷ vs }) t1 second a.length wide placed1 has2
            (omega (arith, short)) q1

    by_table : (n x : ℕ) → 0 < n → (s : Firm) (vs : List ℕ) (d : Deciding State) (w : World History) → IsFair w
        → AreSame lay r ws (i ∷ h ∷ hs) (record s { values = x ∷ n ∷ vs }) d.state → (o : Option (List ArrayPlace)) → slice_get f.tables e.table ≡ o
        → Alike G L
        (with_found (slice_get (arrays_of o) (n - 1)) (λ a. stop_unless (nat_lt x a.length) 2
        (checked (is_in e a.address) (load f e.home e.column (item_index e a.address x)))) (record s { values = vs }) w)
        (linear' (reached reach (Some last)) d w)
    by_table n x above s vs d w fair q (Some arrays) tabled = by_array arrays tabled n x above s vs d w fair q (slice_get arrays (n - 1)) refl
    by_table n x above s vs d w fair q None tabled = wrong

    by_values : (s : Firm) (d : Deciding State) (w : World History) → IsFair w → AreSame lay r ws (i ∷ h ∷ hs) s d.state → (vs : List ℕ)
        → AreAt (i ∷ h ∷ hs) vs d.state.locals
        → Alike G L (take_from vs (λ x. taking (at_item f e (load f e.home e.column) x)) s w) (linear' (element_of reach (Some last)) d w)
    by_values s d w fair q [] at = absurd at
    by_values s d w fair q (x ∷ []) at = absurd at.1
    by_values s d w fair q (x ∷ n ∷ vs) at =
        null_then k f m call handle p go lay r ws wide flash h n (sought x) (linear' (reached reach (Some last))) (record s { values = vs }) d w fair
        (value_of_home h n d.state at.1.0.0) at.1.0.1
        (λ above. by_table n x above s vs (record d { truth = None }) w fair (record { waits = at; kept = q.kept; none = q.none; ram = q.ram })
        (slice_get f.tables e.table) refl)

  right_element : (e : Elements) (place : Place) (table : ℕ) → slice_get (places_in lay e.home) e.column ≡ Some place
      → slice_get lay.tables e.table ≡ Some table → e.address ≡ place.address → e.width ≡ place.width → is_width e.width ≡ true
      → (h i : Operand) (hs : List Operand) → ArePlaced r.locals (i ∷ h ∷ hs) → Right' (only (i ∷ h ∷ hs)) (load_element r e table h i hs) (step' (LoadItem e))
  right_element e place table column_at table_at ea ew is h i hs placed = by_to (temp r hs) refl
    where
      made : (to first second : ℕ) → Made
      made to first second =
          Makes (element_of (record { first = first; second = second; table = table; width = e.width; home = h; index = i })
          (Some (load_from (memory_of e.home) e.width to 0 (Local first)))) (only (Local to ∷ hs))

      by_second : (to first : ℕ) → temp r hs ≡ Some to → temp r (i ∷ h ∷ hs) ≡ Some first → (o : Option ℕ) → temp r (Local first ∷ i ∷ h ∷ hs) ≡ o
          → Right' (only (i ∷ h ∷ hs)) (by_temp o (λ second. made to first second)) (step' (LoadItem e))
      by_second to first has0 has1 (Some second) has2 = (
        placed_temp r hs to has0 placed.1.1,
        λ s d w fair q. by_values e place table column_at table_at ea ew is h i hs placed to first second has0 has1 has2 s d w fair q s.values q.waits,
      )
      by_second to first has0 has1 None has2 = tt

      by_first : (to : ℕ) → temp r hs ≡ Some to → (o : Option ℕ) → temp r (i ∷ h ∷ hs) ≡ o
          → Right' (only (i ∷ h ∷ hs)) (by_temp o (λ first. by_temp (temp r (Local first ∷ i ∷ h ∷ hs)) (λ second. made to first second)))
          (step' (LoadItem e))
      by_first to has0 (Some first) has1 = by_second to first has0 has1 (temp r (Local first ∷ i ∷ h ∷ hs)) refl
      by_first to has0 None has1 = tt

      by_to : (o : Option ℕ) → temp r hs ≡ o
          → Right' (only (i ∷ h ∷ hs)) (by_temp o (λ to. by_temp (temp r (i ∷ h ∷ hs)) (λ first. by_temp (temp r (Local first ∷ i ∷ h ∷ hs))
          (λ second. made to first second)))) (step' (LoadItem e))
      by_to (Some to) has0 = by_first to has0 (temp r (i ∷ h ∷ hs)) refl
      by_to None has0 = tt

  -- by whether the array of the table is the only one
  right_inside : (single : Option ArrayPlace) (e : Elements) (place : Place) (table : ℕ) → lone_of lay e.table ≡ single
      → slice_get (places_in lay e.home) e.column ≡ Some place → slice_get lay.tables e.table ≡ Some table → e.address ≡ place.address
      → e.width ≡ place.width → is_width e.width ≡ true → (h i : Operand) (hs : List Operand) → ArePlaced r.locals (i ∷ h ∷ hs)
      → Right' (only (i ∷ h ∷ hs)) (load_inside r single e table h i hs) (step' (LoadItem e))
  right_inside (Some a) e place table alone column_at table_at ea ew is h i hs placed =
      right_lone k f m call handle p go lay r ws wide flash e a alone place column_at ea ew is h i hs placed
  right_inside None e place table alone column_at table_at ea ew is h i hs placed = right_element e place table column_at table_at ea ew is h i hs placed

  pub right_item : (e : Elements) (hs : List Operand) → ArePlaced r.locals hs
      → Right' (only hs) (load_item r (lone_of lay e.table) e (slice_get (places_in lay e.home) e.column) (slice_get lay.tables e.table) hs)
      (step' (LoadItem e))
  right_item e hs placed = by_found (slice_get (places_in lay e.home) e.column) refl (slice_get lay.tables e.table) refl hs placed
    where
      by_found : (o : Option Place) → slice_get (places_in lay e.home) e.column ≡ o → (u : Option ℕ) → slice_get lay.tables e.table ≡ u
          → (gs : List Operand) → ArePlaced r.locals gs → Right' (only gs) (load_item r (lone_of lay e.table) e o u gs) (step' (LoadItem e))
      by_found o c None d gs placed1 = right_no_item k f m call handle p go lay r ws wide flash e d gs placed1
      by_found None c (Some table) d gs placed1 = right_dropped k f m call handle p go lay r ws wide flash e table c d gs placed1
      by_found (Some place) c (Some table) d [] placed1 = tt
      by_found (Some place) c (Some table) d (i ∷ []) placed1 = tt
      by_found (Some place) c (Some table) d (i ∷ h ∷ gs) placed1 =
          by_width (is_width e.width) refl (e.address == place.address) refl (e.width == place.width) refl (nat_le 4 table)
        where
          by_width : (b : Bool) → is_width e.width ≡ b → (b1 : Bool) → (e.address == place.address) ≡ b1 → (b2 : Bool) → (e.width == place.width) ≡ b2
              → (b3 : Bool)
              → Right' (only (i ∷ h ∷ gs)) (if b && (b1 && b2) && b3 then load_inside r (lone_of lay e.table) e table h i gs else Refused NotTaken)
              (step' (LoadItem e))
          by_width true is true ea true ew true =
              right_inside (lone_of lay e.table) e place table refl c d (grind arith) (grind arith) is h i gs placed1
          by_width true is true ea true ew false = tt
          by_width true is true ea false ew b3 = tt
          by_width true is false ea b2 ew b3 = tt
          by_width false is b1 ea b2 ew b3 = tt
