-- That loads from columns and tables become blocks that do the same.
use Rattle.std.specs.Prelude.{ℕ, zero, suc, ◌+◌, ◌-◌, ◌*◌, ◌<◌, ◌≤◌, ◌^◌, Bool, true, false, ◌==◌, nat_lt, nat_le, List, [], ◌∷◌, length, Option, Some, None}
use Rattle.std.specs.Prelude.{slice_get, if◌then◌else◌}
use Rattle.std.proofs.Common.{◌≡◌, refl, sym, ap, ◌∙◌, subst, arith}
use Rattle.std.proofs.Math.Nat.{mul_comm, mul-add, mul-le-mul_left}
use Rattle.std.proofs.lemmas.Option.{slice_get_within}
use Rattle.vg_meaning.specs.History.{History}
use Rattle.vg_meaning.specs.World.{World}
use Rattle.vg_meaning.specs.Outside.{Outside}
use Rattle.vg_meaning.specs.Answer.{Signal, Gives, Piece, and_then}
use Rattle.vg_codes.specs.Codes.{Codes}
use Rattle.vg_firm.specs.declared.step.ArrayPlace.{ArrayPlace}
use Rattle.vg_firm.specs.declared.step.Home.{Home}
use Rattle.vg_firm.specs.declared.step.Home.TheVariants.{Ram as InRam, Flash as InFlash}
use Rattle.vg_firm.specs.declared.step.Step.{Step}
use Rattle.vg_firm.specs.declared.step.Step.TheVariants.{Load as LoadOne, LoadAt, Length}
use Rattle.vg_firm.specs.Program.{Procedure as FirmProcedure, Program as FirmProgram}
use Rattle.vg_firm.specs.Meaning.{State as Firm, Caller as FirmCaller, step as firm_step, put, with_found, take_from, not_null, checked, columns_in, column_of, load}
use Rattle.vg_firm.specs.Meaning.{arrays_of, array_at, put_length}
use Rattle.vg_lin.specs.declared.instr.Operand.{Operand}
use Rattle.vg_lin.specs.declared.instr.Operand.TheVariants.{Local, Known}
use Rattle.vg_lin.specs.declared.instr.Operator.TheVariants.{Minus as Difference, Times as Product}
use Rattle.vg_lin.specs.declared.instr.Memory.{Memory}
use Rattle.vg_lin.specs.declared.instr.Memory.TheVariants.{Ram, Flash}
use Rattle.vg_lin.specs.declared.instr.Plain.TheVariants.{Compute}
use Rattle.vg_lin.specs.Values.{low}
use Rattle.vg_lin.specs.Program.{Program as LinProgram}
use Rattle.vg_lin.specs.Steps.{Goes}
use Rattle.vg_lin.specs.State.{State, value, using, sets, plain, first_address, bytes_of, index_of, loaded, number_at}
use Rattle.vg_lin.specs.Structured.{Deciding, Caller as LinCaller}
use Rattle.vg_flatten_shapes.specs.declared.fault.Fault.TheVariants.{NotTaken}
use Rattle.vg_flatten_shapes.specs.declared.layout.Place.{Place}
use Rattle.vg_flatten_shapes.specs.declared.layout.Layout.{Layout}
use Rattle.vg_flatten_shapes.specs.declared.open.Truth.TheVariants.{Holds}
use Rattle.vg_flatten_shapes.specs.declared.room.Room.{Room}
use Rattle.vg_flatten_shapes.specs.Shapes.{Shape, only, temp}
use Rattle.vg_flatten_shapes.specs.Blocks.{Block, Skip, One, Both, stop_where}
use Rattle.vg_flatten_shapes.specs.Made.{Made, Gives as Makes, Refused, by_temp, is_zero}
use Rattle.vg_flatten_places.specs.Places.{null_check, distance, fetched_from, load_placed, is_width, load_from, multiplied, multiple, fetched, load_one, load_sole, load_entry, load_of, length_of, places_in, memory_of}
use Rattle.vg_flatten.specs.Columns.{ColumnStands, FlashStands}
use Rattle.vg_flattened.proofs.MissingRight.{right_no_length}
use Rattle.vg_flattened.proofs.Alike.{IsFair, Alike, wrong}
use Rattle.vg_flattened.proofs.Related.{ArePlaced, AreAt, AreWidths, AreSame, Held, Leaves}
use Rattle.vg_flattened.proofs.Numbers.{low_two}
use Rattle.vg_flattened.proofs.Locals.{value_of_home, put_temp, placed_temp}
use Rattle.vg_flattened.proofs.Right.{Right, linear}
use Rattle.vg_flattened.proofs.StepRight.{into_temp, computes_to, plain_goes}
use Rattle.vg_flattened.proofs.NullRight.{stops_before, checks_before}

-- ---- places

pub found_at : (memory : Memory) (address : ℕ) → first_address memory ≤ address → index_of memory address ≡ Some (address - first_address memory)
found_at memory address le = ap (λ b. if b then None else Some (address - first_address memory)) (is_not address (first_address memory) le)
  where
    is_not : (a b : ℕ) → b ≤ a → nat_lt a b ≡ false
    is_not a b l = grind arith

pub width_high : (w : ℕ) → is_width w ≡ true → w ≤ 4
width_high w e = grind arith

pub width_low : (w : ℕ) → is_width w ≡ true → 0 < w
width_low w e = grind arith

-- an entry ends within its column
pub entry_within : (w i n : ℕ) → 0 < w → i < n → w * i < w * n
entry_within w i n above lt =
    let le : w * suc i ≤ w * n = mul-le-mul_left w (omega (arith, lt)) in
    let one : w * suc i ≡ w * i + w = grind arith in
    omega (arith, le, one, above)

pub four_bytes : (w v : ℕ) → w ≤ 4 → v < 256 ^ w → v < 2 ^ 32
four_bytes zero v le lt = omega (arith, lt)
four_bytes (suc zero) v le lt = omega (arith, lt)
four_bytes (suc (suc zero)) v le lt = omega (arith, lt)
four_bytes (suc (suc (suc zero))) v le lt = omega (arith, lt)
four_bytes (suc (suc (suc (suc zero)))) v le lt = omega (arith, lt)
four_bytes (suc (suc (suc (suc (suc w))))) v le lt = absurd (omega (arith, le))

-- a number that is one behind another, so many times
pub times_both : (n first w : ℕ) → first ≤ n → n * w ≡ w * first + w * (n - first)
times_both n first w le = mul_comm n w ∙ ap (λ z. w * z) (sum_is n first le) ∙ mul-add w first (n - first)
  where
    sum_is : (a b : ℕ) → b ≤ a → a ≡ b + (a - b)
    sum_is a b l = omega (arith, l)

-- the place of the first entry
pub reached : (address low' : ℕ) → low' ≤ address → low' ≤ address + 0
reached address low' h = omega (arith, h)

pub first_is : (address low' w : ℕ) → low' ≤ address → address + 0 - low' ≡ address - low' + w * 0
first_is address low' w h = omega (arith, h)

-- the place in a column of one entry, which is the first
pub at_first : (j n count : ℕ) → j < n → n ≡ count → count ≡ 1 → j ≡ 0
at_first j n count lt e one = omega (arith, lt, e, one)

pub sole_is : (address low' w j : ℕ) → low' ≤ address → j ≡ 0 → address + 0 - low' ≡ address - low' + w * j
sole_is address low' w j h e = subst (λ z. address + 0 - low' ≡ address - low' + w * z) (sym e) (first_is address low' w h)

module _ (k : Codes) (f : FirmProgram) (m : FirmProcedure) (call : FirmCaller History) (handle : ℕ → Piece Firm History)
    (p : LinProgram) (go : LinCaller State) (lay : Layout) (r : Room) (ws : List ℕ) (wide : AreWidths r m.widths ws)
    (flash : FlashStands lay f p) where
  abbrev Right' : Shape → Made → Piece Firm History → Type 0
  Right' = Right k f m call handle p go lay r ws wide

  abbrev linear' : Block → Piece (Deciding State) History
  linear' = linear k f m call handle p go lay r ws wide

  abbrev step' : Step → Piece Firm History
  step' = firm_step k f m call handle

  -- bytes go to a local
  pub loads : (memory : Memory) (width to base n j x : ℕ) (index : Operand) (t : State) (o : Outside) → value index t ≡ Some n
      → first_address memory ≤ base + n → base + n - first_address memory ≡ j → number_at (bytes_of p memory t) width j ≡ Some x
      → plain p (load_from memory width to base index) t o ≡ Goes (sets to x t) o
  loads memory width to base n j x index t o hv le e h =
      ap (λ q. using q (λ i. using (loaded p memory t width (index_of memory (base + i))) (λ y. Goes (sets to y t) o))) hv
      ∙ ap (λ q. using (loaded p memory t width q) (λ y. Goes (sets to y t) o)) (found_at memory (base + n) le)
      ∙ ap (λ q. using (number_at (bytes_of p memory t) width q) (λ y. Goes (sets to y t) o)) e ∙ ap (λ q. using q (λ y. Goes (sets to y t) o)) h

  -- no write to a local changes the bytes
  bytes_same : (memory : Memory) (to z : ℕ) (t : State) → bytes_of p memory (sets to z t) ≡ bytes_of p memory t
  bytes_same Ram to z t = refl
  bytes_same Flash to z t = refl

  -- the same, where a number says how far
  pub does_fetched : (memory : Memory) (width by base : ℕ) (h : Operand) (hs : List Operand) → ArePlaced r.locals hs → (to : ℕ) → temp r hs ≡ Some to
      → (n j x : ℕ) (s : Firm) (d : Deciding State) (w : World History) → IsFair w → value h d.state ≡ Some n → n * by < 65536
      → AreSame lay r ws hs s d.state → first_address memory ≤ base + n * by → base + n * by - first_address memory ≡ j
      → number_at (bytes_of p memory d.state) width j ≡ Some x → x < 2 ^ 32
      → Alike (Held lay r ws (only (Local to ∷ hs))) (Leaves lay r ws) (put x s w)
      (linear' (Both (multiplied to by h) (One (load_from memory width to base (multiple to by h)))) d w)
  does_fetched memory width by base h hs placed to has n j x s d w i hv few same le e num small = by_one (by == 1) refl
    where
      product : Block
      product = One (Compute (record { operator = Product; width = 2; to = to; left = h; right = Known by }))

      there : AreSame lay r ws (Local to ∷ hs) (record s { values = n * by ∷ s.values }) (sets to (n * by) d.state)
      there = put_temp lay r m.widths ws hs s d.state to (n * by) wide placed has (omega (arith, few)) same

      once : (a b : ℕ) → b ≡ 1 → a ≡ a * b
      once a b e1 = grind arith

      by_one : (b : Bool) → (by == 1) ≡ b
          → Alike (Held lay r ws (only (Local to ∷ hs))) (Leaves lay r ws) (put x s w)
          (linear' (Both (if b then Skip else product) (One (load_from memory width to base (if b then h else Local to)))) d w)
      by_one true e1 =
          let is : by ≡ 1 = grind arith in
          into_temp k f m call handle p go lay r ws wide hs to x (load_from memory width to base h) s d w i placed has small same
          (loads memory width to base (n * by) j x h d.state w.outside (hv ∙ ap Some (once n by is)) le e num)
      by_one false e1 =
          subst (λ z. Alike (Held lay r ws (only (Local to ∷ hs))) (Leaves lay r ws) (put x s w)
          (and_then z (linear' (One (load_from memory width to base (Local to))))))
          (sym (plain_goes k f m call handle p go lay r ws wide
          (Compute (record { operator = Product; width = 2; to = to; left = h; right = Known by })) d w (sets to (n * by) d.state)
          (computes_to k f m call handle p go lay r ws wide Product 2 to h (Known by) n by (n * by) d.state w.outside hv refl
          (ap Some (low_two (n * by) few)))))
          (into_temp k f m call handle p go lay r ws wide hs to x (load_from memory width to base (Local to)) s
          (record d { state = sets to (n * by) d.state }) w i placed has small
          (record { waits = there.waits.1; kept = there.kept; none = there.none; ram = there.ram })
          (loads memory width to base (n * by) j x (Local to) (sets to (n * by) d.state) w.outside there.waits.0.0 le e
          (ap (λ z. number_at z width j) (bytes_same memory to (n * by) d.state) ∙ num)))

  -- where the columns of a home stand
  pub stands_in : (home : Home) (hs : List Operand) (s : Firm) (t : State) → AreSame lay r ws hs s t → (c : ℕ) (place : Place) (vs : List ℕ)
      → slice_get (places_in lay home) c ≡ Some place → slice_get (columns_in f home s) c ≡ Some vs
      → ColumnStands (memory_of home) (bytes_of p (memory_of home) t) place vs
  stands_in InRam hs s t q c place vs e h = q.ram.stands c place vs e h
  stands_in InFlash hs s t q c place vs e h = flash.columns c place vs e h

  -- a null check before more
  pub null_then : {G : Firm → Deciding State → Type 0} {L : Signal → Firm → Deciding State → Type 0} (h : Operand) (x : ℕ) (next : ℕ → Piece Firm History)
      (rest : Piece (Deciding State) History) (s : Firm) (d : Deciding State) (w : World History) → IsFair w → value h d.state ≡ Some x → x < 2 ^ 32
      → (0 < x → Alike G L (next x s w) (rest (record d { truth = None }) w))
      → Alike G L (not_null next x s w) (and_then (linear' (stop_where 1 (Holds (is_zero h))) d w) rest)
  null_then {G} {L} h x next rest s d w i at lt goes = stops_before k f m call handle p go lay r ws wide h x next rest s d w i at lt goes

  -- ---- the one value of a column

  right_one : (home : Home) (c : ℕ) (o : Option Place) → slice_get (places_in lay home) c ≡ o → (hs : List Operand) → ArePlaced r.locals hs
      → Right' (only hs) (load_one r (memory_of home) o hs) (step' (LoadOne home c))
  right_one home c None e hs placed = tt
  right_one home c (Some place) e hs placed = by_width (is_width place.width) refl
    where
      does : is_width place.width ≡ true → (to : ℕ) → temp r hs ≡ Some to → (s : Firm) (d : Deciding State) (w : World History) → IsFair w
          → AreSame lay r ws hs s d.state → (vs : List ℕ) → slice_get (columns_in f home s) c ≡ Some vs → (v : ℕ) → slice_get vs 0 ≡ Some v
          → Alike (Held lay r ws (only (Local to ∷ hs))) (Leaves lay r ws) (put v s w) (linear'
          (One (load_from (memory_of home) place.width to place.address (Known 0))) d w)
      does is to has s d w i q vs hc v he =
          let stands = stands_in home hs s d.state q c place vs e hc in
          let behind = stands.behind in
          into_temp k f m call handle p go lay r ws wide hs to v (load_from (memory_of home) place.width to place.address (Known 0)) s d w i placed has
          (four_bytes place.width v (width_high place.width is) (stands.held 0 v he).1) q
          (loads (memory_of home) place.width to place.address 0 (place.address - first_address (memory_of home) + place.width * 0) v
          (Known 0) d.state w.outside refl
          (reached place.address (first_address (memory_of home)) behind)
          (first_is place.address (first_address (memory_of home)) place.width behind) (stands.held 0 v he).0)

      by_entry : is_width place.width ≡ true → (to : ℕ) → temp r hs ≡ Some to → (s : Firm) (d : Deciding State) (w : World History) → IsFair w
          → AreSame lay r ws hs s d.state → (vs : List ℕ) → slice_get (columns_in f home s) c ≡ Some vs → (o : Option ℕ) → slice_get vs 0 ≡ o
          → Alike (Held lay r ws (only (Local to ∷ hs))) (Leaves lay r ws) (with_found o put s w)
          (linear' (One (load_from (memory_of home) place.width to place.address (Known 0))) d w)
      by_entry is to has s d w i q vs hc (Some v) he = does is to has s d w i q vs hc v he
      by_entry is to has s d w i q vs hc None he = wrong

      by_column : is_width place.width ≡ true → (to : ℕ) → temp r hs ≡ Some to → (s : Firm) (d : Deciding State) (w : World History) → IsFair w
          → AreSame lay r ws hs s d.state → (o : Option (List ℕ)) → slice_get (columns_in f home s) c ≡ o
          → Alike (Held lay r ws (only (Local to ∷ hs))) (Leaves lay r ws) (with_found (slice_get (column_of o) 0) put s w)
          (linear' (One (load_from (memory_of home) place.width to place.address (Known 0))) d w)
      by_column is to has s d w i q (Some vs) hc = by_entry is to has s d w i q vs hc (slice_get vs 0) refl
      by_column is to has s d w i q None hc = wrong

      by_room : is_width place.width ≡ true → (o : Option ℕ) → temp r hs ≡ o
          → Right' (only hs) (by_temp o (λ to. Makes (One (load_from (memory_of home) place.width to place.address (Known 0))) (only (Local to ∷ hs))))
          (step' (LoadOne home c))
      by_room is (Some to) has = (placed_temp r hs to has placed, λ s d w i q. by_column is to has s d w i q (slice_get (columns_in f home s) c) refl)
      by_room is None has = tt

      by_width : (b : Bool) → is_width place.width ≡ b
          → Right' (only hs) (if b then by_temp (temp r hs) (λ to. Makes (One (load_from (memory_of home) place.width to place.address (Known 0)))
          (only (Local to ∷ hs)))
          else Refused NotTaken) (step' (LoadOne home c))
      by_width true is = by_room is (temp r hs) refl
      by_width false is = tt

  pub right_load : (home : Home) (c : ℕ) (hs : List Operand) → ArePlaced r.locals hs
      → Right' (only hs) (load_one r (memory_of home) (slice_get (places_in lay home) c) hs) (step' (LoadOne home c))
  right_load home c hs placed = right_one home c (slice_get (places_in lay home) c) refl hs placed

  -- ---- what is fetched behind a null check

  right_checked : (h : Operand) (hs : List Operand) (inside : ℕ → Block) (q' : Step) (next : ℕ → Piece Firm History) → ArePlaced r.locals hs
      → ((s : Firm) (w : World History) → step' q' s w ≡ take_from s.values (not_null next) s w)
      → ((to : ℕ) → temp r hs ≡ Some to → (n : ℕ) → 0 < n → n < 2 ^ 32 → (s : Firm) (d : Deciding State) (w : World History) → IsFair w
      → value h d.state ≡ Some n → AreSame lay r ws hs s d.state
      → Alike (Held lay r ws (only (Local to ∷ hs))) (Leaves lay r ws) (next n s w) (linear' (inside to) d w))
      → Right' (only (h ∷ hs)) (by_temp (temp r hs) (λ to. Makes (Both (null_check r h) (inside to)) (only (Local to ∷ hs)))) (step' q')
  right_checked h hs inside q' next placed is law = by_room (temp r hs) refl
    where
      block : ℕ → Block
      block to = Both (null_check r h) (inside to)

      by_values : (to : ℕ) → temp r hs ≡ Some to → (s : Firm) (d : Deciding State) (w : World History) → IsFair w → AreSame lay r ws (h ∷ hs) s d.state
          → (vs : List ℕ) → AreAt (h ∷ hs) vs d.state.locals
          → Alike (Held lay r ws (only (Local to ∷ hs))) (Leaves lay r ws) (take_from vs (not_null next) s w) (linear' (block to) d w)
      by_values to has s d w i q [] at = absurd at
      by_values to has s d w i q (n ∷ vs) at =
          checks_before k f m call handle p go lay r ws wide h n next (linear' (inside to)) (record s { values = vs }) d w i
          (value_of_home h n d.state at.0.0) at.0.1 q.kept
          (λ c above. law to has n above at.0.1 (record s { values = vs }) (record d { truth = c }) w i (value_of_home h n d.state at.0.0)
          (record { waits = at.1; kept = q.kept; none = q.none; ram = q.ram }))

      by_room : (o : Option ℕ) → temp r hs ≡ o → Right' (only (h ∷ hs)) (by_temp o (λ to. Makes (block to) (only (Local to ∷ hs)))) (step' q')
      by_room (Some to) has = (
        placed_temp r hs to has placed,
        λ s d w i q. subst (λ z. Alike (Held lay r ws (only (Local to ∷ hs))) (Leaves lay r ws) z (linear' (block to) d w)) (sym (is s w))
            (by_values to has s d w i q s.values q.waits),
      )
      by_room None has = tt

  -- a number behind another
  pub near_number : (n first : ℕ) → first ≤ n → n < 2 ^ 32 → low 4 (n + (256 ^ 4 - low 4 first)) ≡ n - first
  near_number n first ge lt = omega (arith, ge, lt)

  pub measured : (to first n : ℕ) (h : Operand) (d : Deciding State) (w : World History) → value h d.state ≡ Some n → first ≤ n → n < 2 ^ 32
      → linear' (One (distance to first h)) d w ≡ Gives (record d { state = sets to (n - first) d.state }) w
  measured to first n h d w hv ge lt =
      plain_goes k f m call handle p go lay r ws wide (distance to first h) d w (sets to (n - first) d.state)
      (computes_to k f m call handle p go lay r ws wide Difference 4 to h (Known first) n first (n - first) d.state w.outside hv refl
      (ap Some (near_number n first ge lt)))

  -- an entry is loaded where it stands
  loaded_right : {G : Firm → Deciding State → Type 0} {L : Signal → Firm → Deciding State → Type 0} (home : Home) (c first n : ℕ) (s : Firm)
      (d : Deciding State) (w : World History) (b : Block)
      → (first ≤ n → (vs : List ℕ) → slice_get (columns_in f home s) c ≡ Some vs → (v : ℕ) → slice_get vs (n - first) ≡ Some v
      → Alike G L (put v s w) (linear' b d w))
      → Alike G L (checked (nat_le first n) (load f home c (n - first)) s w) (linear' b d w)
  loaded_right {G} {L} home c first n s d w b does = by_first (nat_le first n) refl
    where
      by_entry : first ≤ n → (vs : List ℕ) → slice_get (columns_in f home s) c ≡ Some vs → (o : Option ℕ) → slice_get vs (n - first) ≡ o
          → Alike G L (with_found o put s w) (linear' b d w)
      by_entry ge vs hc (Some v) he = does ge vs hc v he
      by_entry ge vs hc None he = wrong

      by_column : first ≤ n → (o : Option (List ℕ)) → slice_get (columns_in f home s) c ≡ o
          → Alike G L (with_found (slice_get (column_of o) (n - first)) put s w) (linear' b d w)
      by_column ge (Some vs) hc = by_entry ge vs hc (slice_get vs (n - first)) refl
      by_column ge None hc = wrong

      by_first : (o : Bool) → nat_le first n ≡ o → Alike G L (checked o (load f home c (n - first)) s w) (linear' b d w)
      by_first true ge = by_column (grind arith) (slice_get (columns_in f home s) c) refl
      by_first false ge = wrong

  -- ---- the value of an object

  right_of : (home : Home) (c first : ℕ) (o : Option Place) → slice_get (places_in lay home) c ≡ o → (hs : List Operand) → ArePlaced r.locals hs
      → Right' (only hs) (load_of r (memory_of home) first o hs) (step' (LoadAt home c first))
  right_of home c first None e hs placed = tt
  right_of home c first (Some place) e [] placed = tt
  right_of home c first (Some place) e (h ∷ hs) placed = by_width (is_width place.width) refl
    where
      base : ℕ
      base = place.address - place.width * first

      inside : ℕ → Block
      inside to = Both (multiplied to place.width h) (One (load_from (memory_of home) place.width to base (multiple to place.width h)))

      -- the place of an entry, over plain numbers
      short_is : (address a b all : ℕ) → address + all ≤ 65536 → a ≤ address → b < all → a + b < 65536
      short_is address a b all h1 h2 h3 = omega (arith, h1, h2, h3)

      behind_is : (low' address a b : ℕ) → low' ≤ address → a ≤ address → low' ≤ address - a + (a + b)
      behind_is low' address a b h1 h2 = omega (arith, h1, h2)

      place_is : (low' address a b : ℕ) → low' ≤ address → a ≤ address
          → address - a + (a + b) - low' ≡ address - low' + b
      place_is low' address a b h1 h2 = omega (arith, h1, h2)

      does : is_width place.width ≡ true → place.width * first ≤ place.address → (to : ℕ) → temp r hs ≡ Some to → (n : ℕ) → first ≤ n → (s : Firm)
          (d : Deciding State) (w : World History) → IsFair w → value h d.state ≡ Some n → AreSame lay r ws hs s d.state
          → (vs : List ℕ) → slice_get (columns_in f home s) c ≡ Some vs → (v : ℕ) → slice_get vs (n - first) ≡ Some v
          → Alike (Held lay r ws (only (Local to ∷ hs))) (Leaves lay r ws) (put v s w) (linear' (inside to) d w)
      does is le to has n ge s d w i hv same vs hc v he =
          let stands = stands_in home hs s d.state same c place vs e hc in
          let lt = slice_get_within vs (n - first) v he in
          let within = entry_within place.width (n - first) (length vs) (width_low place.width is) lt in
          let both = times_both n first place.width ge in
          let a = place.width * first in
          let b = place.width * (n - first) in
          does_fetched (memory_of home) place.width place.width base h hs placed.1 to has n (place.address - first_address (memory_of home) + b) v s d w i hv
          (subst (λ z. z < 65536) (sym both) (short_is place.address a b (place.width * length vs) stands.short le within)) same
          (subst (λ z. first_address (memory_of home) ≤ base + z) (sym both) (behind_is (first_address (memory_of home)) place.address a b stands.behind le))
          (ap (λ z. base + z - first_address (memory_of home)) both ∙ place_is (first_address (memory_of home)) place.address a b stands.behind le)
          (stands.held (n - first) v he).0 (four_bytes place.width v (width_high place.width is) (stands.held (n - first) v he).1)

      -- the same, counted from the first object
      inside_from : ℕ → Block
      inside_from to =
          Both (One (distance to first h))
          (Both (multiplied to place.width (Local to)) (One (load_from (memory_of home) place.width to place.address (multiple to place.width (Local to)))))

      times : (a b : ℕ) → a * b ≡ b * a
      times a b = grind arith

      few_is : (address b all : ℕ) → address + all ≤ 65536 → b < all → b < 65536
      few_is address b all h1 h2 = omega (arith, h1, h2)

      low_is : (low' address b : ℕ) → low' ≤ address → low' ≤ address + b
      low_is low' address b h1 = omega (arith, h1)

      index_is : (low' address b : ℕ) → low' ≤ address → address + b - low' ≡ address - low' + b
      index_is low' address b h1 = omega (arith, h1)

      less : (a b c1 : ℕ) → a < c1 → a - b < c1
      less a b c1 h1 = omega (arith, h1)

      does_from : is_width place.width ≡ true → (to : ℕ) → temp r hs ≡ Some to → (n : ℕ) → first ≤ n → n < 2 ^ 32 → (s : Firm)
          (d : Deciding State) (w : World History) → IsFair w → value h d.state ≡ Some n → AreSame lay r ws hs s d.state
          → (vs : List ℕ) → slice_get (columns_in f home s) c ≡ Some vs → (v : ℕ) → slice_get vs (n - first) ≡ Some v
          → Alike (Held lay r ws (only (Local to ∷ hs))) (Leaves lay r ws) (put v s w) (linear' (inside_from to) d w)
      does_from is to has n ge small s d w i hv same vs hc v he =
          let stands = stands_in home hs s d.state same c place vs e hc in
          let lt = slice_get_within vs (n - first) v he in
          let within = entry_within place.width (n - first) (length vs) (width_low place.width is) lt in
          let turned = times (n - first) place.width in
          let b = place.width * (n - first) in
          subst (λ z. Alike (Held lay r ws (only (Local to ∷ hs))) (Leaves lay r ws) (put v s w) (and_then z (linear'
          (Both (multiplied to place.width (Local to)) (One (load_from (memory_of home) place.width to place.address (multiple to place.width (Local to))))))))
          (sym (measured to first n h d w hv ge small))
          (does_fetched (memory_of home) place.width place.width place.address (Local to) hs placed.1 to has (n - first)
          (place.address - first_address (memory_of home) + b) v s (record d { state = sets to (n - first) d.state }) w i there.waits.0.0
          (subst (λ z. z < 65536) (sym turned) (few_is place.address b (place.width * length vs) stands.short within))
          (record { waits = there.waits.1; kept = there.kept; none = there.none; ram = there.ram })
          (subst (λ z. first_address (memory_of home) ≤ place.address + z) (sym turned) (low_is (first_address (memory_of home)) place.address b stands.behind))
          (ap (λ z. place.address + z - first_address (memory_of home)) turned ∙ index_is (first_address (memory_of home)) place.address b stands.behind)
          (ap (λ z. number_at z place.width (place.address - first_address (memory_of home) + b)) (bytes_same (memory_of home) to (n - first) d.state)
          ∙ (stands.held (n - first) v he).0)
          (four_bytes place.width v (width_high place.width is) (stands.held (n - first) v he).1))
        where
          there : AreSame lay r ws (Local to ∷ hs) (record s { values = (n - first) ∷ s.values }) (sets to (n - first) d.state)
          there = put_temp lay r m.widths ws hs s d.state to (n - first) wide placed.1 has (less n first (2 ^ 32) small) same

      -- the same, where there is one
      inside_sole : ℕ → Block
      inside_sole to = One (load_from (memory_of home) place.width to place.address (Known 0))

      does_sole : is_width place.width ≡ true → place.count ≡ 1 → (to : ℕ) → temp r hs ≡ Some to → (n : ℕ) → (s : Firm) (d : Deciding State)
          (w : World History) → IsFair w → AreSame lay r ws hs s d.state
          → (vs : List ℕ) → slice_get (columns_in f home s) c ≡ Some vs → (v : ℕ) → slice_get vs (n - first) ≡ Some v
          → Alike (Held lay r ws (only (Local to ∷ hs))) (Leaves lay r ws) (put v s w) (linear' (inside_sole to) d w)
      does_sole is one to has n s d w i same vs hc v he =
          let stands = stands_in home hs s d.state same c place vs e hc in
          let zero' = at_first (n - first) (length vs) place.count (slice_get_within vs (n - first) v he) stands.counted one in
          let stood = stands.held (n - first) v he in
          into_temp k f m call handle p go lay r ws wide hs to v (load_from (memory_of home) place.width to place.address (Known 0)) s d w i placed.1 has
          (four_bytes place.width v (width_high place.width is) stood.1) same
          (loads (memory_of home) place.width to place.address 0 (place.address - first_address (memory_of home) + place.width * (n - first)) v
          (Known 0) d.state w.outside refl (reached place.address (first_address (memory_of home)) stands.behind)
          (sole_is place.address (first_address (memory_of home)) place.width (n - first) stands.behind zero') stood.0)

      next : ℕ → Piece Firm History
      next = λ n. checked (nat_le first n) (load f home c (n - first))

      by_address : is_width place.width ≡ true → (b : Bool) → nat_le (place.width * first) place.address ≡ b
          → Right' (only (h ∷ hs)) (if b then fetched r (memory_of home) place.width place.width base h hs
          else fetched_from r (memory_of home) place.width first place.address h hs) (step' (LoadAt home c first))
      by_address is true le =
          right_checked h hs inside (LoadAt home c first) next placed.1 (λ s w. refl)
          (λ to has n above small s d w i hv same. loaded_right home c first n s d w (inside to)
          (λ ge vs hc v he. does is (grind arith) to has n ge s d w i hv same vs hc v he))
      by_address is false le =
          right_checked h hs inside_from (LoadAt home c first) next placed.1 (λ s w. refl)
          (λ to has n above small s d w i hv same. loaded_right home c first n s d w (inside_from to)
          (λ ge vs hc v he. does_from is to has n ge small s d w i hv same vs hc v he))

      by_count : is_width place.width ≡ true → (b : Bool) → (place.count == 1) ≡ b
          → Right' (only (h ∷ hs)) (if b then load_sole r (memory_of home) place.width place.address h hs
          else load_placed r (memory_of home) place.width first place.address h hs) (step' (LoadAt home c first))
      by_count is true one =
          right_checked h hs inside_sole (LoadAt home c first) next placed.1 (λ s w. refl)
          (λ to has n above small s d w i hv same. loaded_right home c first n s d w (inside_sole to)
          (λ ge vs hc v he. does_sole is (grind arith) to has n s d w i same vs hc v he))
      by_count is false many = by_address is (nat_le (place.width * first) place.address) refl

      by_width : (b : Bool) → is_width place.width ≡ b
          → Right' (only (h ∷ hs)) (if b then load_entry r (memory_of home) first place h hs else Refused NotTaken) (step' (LoadAt home c first))
      by_width true is = by_count is (place.count == 1) refl
      by_width false is = tt

  pub right_load_at : (home : Home) (c first : ℕ) (hs : List Operand) → ArePlaced r.locals hs
      → Right' (only hs) (load_of r (memory_of home) first (slice_get (places_in lay home) c) hs) (step' (LoadAt home c first))
  right_load_at home c first hs placed = right_of home c first (slice_get (places_in lay home) c) refl hs placed

  -- ---- the length of an array

  right_length_of : (t : ℕ) (o : Option ℕ) → slice_get lay.tables t ≡ o → (hs : List Operand) → ArePlaced r.locals hs
      → Right' (only hs) (length_of r o hs) (step' (Length t))
  right_length_of t None e hs placed = right_no_length k f m call handle p go lay r ws wide flash t e hs placed
  right_length_of t (Some table) e [] placed = tt
  right_length_of t (Some table) e (h ∷ hs) placed = by_size (nat_le 2 table) refl
    where
      inside : ℕ → Block
      inside to = Both (multiplied to 4 h) (One (load_from Flash 2 to (table - 2) (multiple to 4 h)))

      does : 2 ≤ table → (to : ℕ) → temp r hs ≡ Some to → (n : ℕ) → 0 < n → (s : Firm) (d : Deciding State) (w : World History) → IsFair w
          → value h d.state ≡ Some n → AreSame lay r ws hs s d.state
          → (arrays : List ArrayPlace) → slice_get f.tables t ≡ Some arrays → (a : ArrayPlace) → slice_get arrays (n - 1) ≡ Some a
          → Alike (Held lay r ws (only (Local to ∷ hs))) (Leaves lay r ws) (put_length a s w) (linear' (inside to) d w)
      does le to has n above s d w i hv same arrays hc a he =
          let stands = flash.tables t table arrays e hc in
          let lt = slice_get_within arrays (n - 1) a he in
          let short = stands.short in
          let behind = stands.behind in
          let len = (stands.lengths (n - 1) a he).1 in
          does_fetched Flash 2 4 (table - 2) h hs placed.1 to has n (table - first_address Flash + 4 * (n - 1) + 2) a.length s d w i hv
          (omega (arith, lt, short, above)) same (omega (arith, behind, above, le)) (omega (arith, behind, above, le))
          (stands.lengths (n - 1) a he).0 (omega (arith, len))

      by_array : 2 ≤ table → (to : ℕ) → temp r hs ≡ Some to → (n : ℕ) → 0 < n → (s : Firm) (d : Deciding State) (w : World History) → IsFair w
          → value h d.state ≡ Some n → AreSame lay r ws hs s d.state
          → (arrays : List ArrayPlace) → slice_get f.tables t ≡ Some arrays → (o : Option ArrayPlace) → slice_get arrays (n - 1) ≡ o
          → Alike (Held lay r ws (only (Local to ∷ hs))) (Leaves lay r ws) (with_found o put_length s w) (linear' (inside to) d w)
      by_array le to has n above s d w i hv same arrays hc (Some a) he = does le to has n above s d w i hv same arrays hc a he
      by_array le to has n above s d w i hv same arrays hc None he = wrong

      by_table : 2 ≤ table → (to : ℕ) → temp r hs ≡ Some to → (n : ℕ) → 0 < n → (s : Firm) (d : Deciding State) (w : World History) → IsFair w
          → value h d.state ≡ Some n → AreSame lay r ws hs s d.state → (o : Option (List ArrayPlace)) → slice_get f.tables t ≡ o
          → Alike (Held lay r ws (only (Local to ∷ hs))) (Leaves lay r ws) (with_found (slice_get (arrays_of o) (n - 1)) put_length s w)
          (linear' (inside to) d w)
      by_table le to has n above s d w i hv same (Some arrays) hc = by_array le to has n above s d w i hv same arrays hc (slice_get arrays (n - 1)) refl
      by_table le to has n above s d w i hv same None hc = wrong

      by_size : (b : Bool) → nat_le 2 table ≡ b
          → Right' (only (h ∷ hs)) (if b then fetched r Flash 2 4 (table - 2) h hs else Refused NotTaken) (step' (Length t))
      by_size true le =
          right_checked h hs inside (Length t) (λ n. with_found (array_at f t n) put_length) placed.1 (λ s w. refl)
          (λ to has n above small s d w i hv same. by_table (grind arith) to has n above s d w i hv same (slice_get f.tables t) refl)
      by_size false le = tt

  pub right_by_table : (t : ℕ) (hs : List Operand) → ArePlaced r.locals hs → Right' (only hs) (length_of r (slice_get lay.tables t) hs) (step' (Length t))
  right_by_table t hs placed = right_length_of t (slice_get lay.tables t) refl hs placed
