-- That stores to columns become blocks that do the same.
use Rattle.std.specs.Prelude.{ℕ, ◌+◌, ◌-◌, ◌*◌, ◌<◌, ◌≤◌, ◌^◌, Bool, true, false, ◌==◌, ◌&&◌, nat_lt, nat_le, List, [], ◌∷◌, length, Option, Some, None}
use Rattle.std.specs.Prelude.{slice_get, if◌then◌else◌}
use Rattle.std.proofs.Common.{◌≡◌, refl, sym, ap, ◌∙◌, subst, arith}
use Rattle.std.proofs.lemmas.Option.{slice_get_within}
use Rattle.vg_meaning.specs.History.{History}
use Rattle.vg_meaning.specs.World.{World}
use Rattle.vg_meaning.specs.Outside.{Outside}
use Rattle.vg_meaning.specs.Answer.{Gives, Piece, and_then}
use Rattle.vg_codes.specs.Codes.{Codes}
use Rattle.vg_firm.specs.declared.step.Step.{Step}
use Rattle.vg_firm.specs.declared.step.Step.TheVariants.{Store as StoreOne, StoreAt}
use Rattle.vg_firm.specs.Program.{Procedure as FirmProcedure, Program as FirmProgram}
use Rattle.vg_firm.specs.Meaning.{State as Firm, Caller as FirmCaller, step as firm_step, taking, take_from, checked, of_width, column_of, set_entry, set_found}
use Rattle.vg_firm.specs.Meaning.{store, at_object}
use Rattle.vg_lin.specs.declared.instr.Operand.{Operand}
use Rattle.vg_lin.specs.declared.instr.Operand.TheVariants.{Local, Known}
use Rattle.vg_lin.specs.declared.instr.Operator.TheVariants.{Times as Product}
use Rattle.vg_lin.specs.declared.instr.Memory.TheVariants.{Ram}
use Rattle.vg_lin.specs.declared.instr.Plain.TheVariants.{Compute}
use Rattle.vg_lin.specs.Program.{Program as LinProgram}
use Rattle.vg_lin.specs.Steps.{Goes}
use Rattle.vg_lin.specs.State.{State, value, using, sets, plain, stores, first_address, index_of, number_at, with_number}
use Rattle.vg_lin.specs.Structured.{Deciding, Caller as LinCaller}
use Rattle.vg_flatten_shapes.specs.declared.fault.Fault.TheVariants.{NotTaken}
use Rattle.vg_flatten_shapes.specs.declared.layout.Place.{Place}
use Rattle.vg_flatten_shapes.specs.declared.layout.Layout.{Layout}
use Rattle.vg_flatten_shapes.specs.declared.room.Room.{Room}
use Rattle.vg_flatten_shapes.specs.Shapes.{Shape, only, temp}
use Rattle.vg_flatten_shapes.specs.Blocks.{Block, Skip, One, Both}
use Rattle.vg_flatten_shapes.specs.Made.{Made, Gives as Makes, Refused, by_temp}
use Rattle.vg_flatten_places.specs.Places.{null_check, distance, put_from, store_placed, is_width, multiplied, multiple, store_at, store_one, put_of, put_sole, store_entry, store_of}
use Rattle.vg_flatten.specs.Columns.{ColumnStands, FlashStands}
use Rattle.vg_flattened.proofs.Alike.{IsFair, Alike, gives, wrong}
use Rattle.vg_flattened.proofs.Related.{ArePlaced, AreAt, AreWidths, AreSame, Held, Leaves}
use Rattle.vg_flattened.proofs.Numbers.{low_two}
use Rattle.vg_flattened.proofs.Locals.{value_of_home, put_temp}
use Rattle.vg_flattened.proofs.Right.{Right, linear}
use Rattle.vg_flattened.proofs.StepRight.{computes_to, plain_goes}
use Rattle.vg_flattened.proofs.Writing.{ram_behind_store}
use Rattle.vg_flattened.proofs.NullRight.{checks_before}
use Rattle.vg_flattened.proofs.ColumnRight.{width_low, entry_within, found_at, at_first, sole_is, reached, first_is, times_both, measured}

module _ (k : Codes) (f : FirmProgram) (m : FirmProcedure) (call : FirmCaller History) (handle : ℕ → Piece Firm History)
    (p : LinProgram) (go : LinCaller State) (lay : Layout) (r : Room) (ws : List ℕ) (wide : AreWidths r m.widths ws)
    (flash : FlashStands lay f p) where
  abbrev Right' : Shape → Made → Piece Firm History → Type 0
  Right' = Right k f m call handle p go lay r ws wide

  abbrev linear' : Block → Piece (Deciding State) History
  linear' = linear k f m call handle p go lay r ws wide

  abbrev step' : Step → Piece Firm History
  step' = firm_step k f m call handle

  -- a value goes to bytes
  wrote : (width base n j x old : ℕ) (index from : Operand) (t : State) (o : Outside) → value index t ≡ Some n → value from t ≡ Some x
      → first_address Ram ≤ base + n → base + n - first_address Ram ≡ j → number_at t.ram width j ≡ Some old
      → plain p (store_at width base index from) t o ≡ Goes (record t { ram = with_number t.ram width j x }) o
  wrote width base n j x old index from t o hv hx le e there =
      ap (λ q. using q (λ i. using (value from t) (λ y. stores t o width y (index_of Ram (base + i))))) hv
      ∙ ap (λ q. using q (λ y. stores t o width y (index_of Ram (base + n)))) hx ∙ ap (λ q. stores t o width x q) (found_at Ram (base + n) le)
      ∙ ap (λ q. stores t o width x (Some q)) e ∙ ap (λ q. using q (λ y. Goes (record t { ram = with_number t.ram width j x }) o)) there

  -- an entry of a column gets it
  pub does_store : (hs : List Operand) (c i x old n base : ℕ) (place : Place) (vs : List ℕ) (index from : Operand) (s : Firm) (d : Deciding State)
      (w : World History) → IsFair w → slice_get lay.ram c ≡ Some place → slice_get s.columns c ≡ Some vs → slice_get vs i ≡ Some old
      → x < 256 ^ place.width → value index d.state ≡ Some n → value from d.state ≡ Some x → first_address Ram ≤ base + n
      → base + n - first_address Ram ≡ place.address - first_address Ram + place.width * i → AreSame lay r ws hs s d.state
      → Alike (Held lay r ws (only hs)) (Leaves lay r ws) (Gives (record s { columns = set_entry s.columns c i x }) w)
      (linear' (One (store_at place.width base index from)) d w)
  does_store hs c i x old n base place vs index from s d w fair at has there fits hv hx le e q =
      subst (λ z. Alike (Held lay r ws (only hs)) (Leaves lay r ws) (Gives (record s { columns = set_entry s.columns c i x }) w) z)
      (sym (plain_goes k f m call handle p go lay r ws wide (store_at place.width base index from) d w
      (record d.state { ram = with_number d.state.ram place.width (place.address - first_address Ram + place.width * i) x })
      (wrote place.width base n (place.address - first_address Ram + place.width * i) x old index from d.state w.outside hv hx le e
      ((q.ram.stands c place vs at has).held i old there).0)))
      (gives fair (record {
        waits = q.waits;
        kept = q.kept;
        none = q.none;
        ram = ram_behind_store lay.ram s.columns d.state.ram q.ram c i x old place vs at has there fits;
      }))

  -- ---- the one value of a column

  right_one : (c : ℕ) (place : Place) → slice_get lay.ram c ≡ Some place → (v : Operand) (hs : List Operand) → ArePlaced r.locals (v ∷ hs)
      → Right' (only (v ∷ hs)) (Makes (One (store_at place.width place.address (Known 0) v)) (only hs)) (step' (StoreOne c place.width))
  right_one c place at v hs placed = (placed.1, λ s d w i q. by_values s d w i q s.values q.waits)
    where
      block : Block
      block = One (store_at place.width place.address (Known 0) v)

      by_entry : (s : Firm) (d : Deciding State) (w : World History) → IsFair w → (x : ℕ) → x < 256 ^ place.width → value v d.state ≡ Some x
          → AreSame lay r ws hs s d.state → (vs : List ℕ) → slice_get s.columns c ≡ Some vs → (o : Option ℕ) → slice_get vs 0 ≡ o
          → Alike (Held lay r ws (only hs)) (Leaves lay r ws) (set_found c 0 x o s w) (linear' block d w)
      by_entry s d w i x lt hx q vs has (Some old) there =
          let behind = (q.ram.stands c place vs at has).behind in
          does_store hs c 0 x old 0 place.address place vs (Known 0) v s d w i at has there lt refl hx (reached place.address (first_address Ram) behind)
          (first_is place.address (first_address Ram) place.width behind) q
      by_entry s d w i x lt hx q vs has None there = wrong

      by_column : (s : Firm) (d : Deciding State) (w : World History) → IsFair w → (x : ℕ) → x < 256 ^ place.width → value v d.state ≡ Some x
          → AreSame lay r ws hs s d.state → (o : Option (List ℕ)) → slice_get s.columns c ≡ o
          → Alike (Held lay r ws (only hs)) (Leaves lay r ws) (set_found c 0 x (slice_get (column_of o) 0) s w) (linear' block d w)
      by_column s d w i x lt hx q (Some vs) has = by_entry s d w i x lt hx q vs has (slice_get vs 0) refl
      by_column s d w i x lt hx q None has = wrong

      by_fit : (s : Firm) (d : Deciding State) (w : World History) → IsFair w → (x : ℕ) → value v d.state ≡ Some x → AreSame lay r ws hs s d.state
          → (b : Bool) → nat_lt x (256 ^ place.width) ≡ b
          → Alike (Held lay r ws (only hs)) (Leaves lay r ws) (checked b (store c 0 x) s w) (linear' block d w)
      by_fit s d w i x hx q true e = by_column s d w i x (grind arith) hx q (slice_get s.columns c) refl
      by_fit s d w i x hx q false e = wrong

      by_values : (s : Firm) (d : Deciding State) (w : World History) → IsFair w → AreSame lay r ws (v ∷ hs) s d.state → (vs : List ℕ)
          → AreAt (v ∷ hs) vs d.state.locals
          → Alike (Held lay r ws (only hs)) (Leaves lay r ws) (take_from vs (of_width place.width (store c 0)) s w) (linear' block d w)
      by_values s d w i q [] at1 = absurd at1
      by_values s d w i q (x ∷ vs) at1 =
          by_fit (record s { values = vs }) d w i x (value_of_home v x d.state at1.0.0)
          (record { waits = at1.1; kept = q.kept; none = q.none; ram = q.ram }) (nat_lt x (256 ^ place.width)) refl

  pub right_store : (c width : ℕ) (hs : List Operand) → ArePlaced r.locals hs → Right' (only hs) (store_one width (slice_get lay.ram c) hs) (step'
      (StoreOne c width))
  right_store c width hs placed = by_place (slice_get lay.ram c) refl hs placed
    where
      by_place : (o : Option Place) → slice_get lay.ram c ≡ o → (gs : List Operand) → ArePlaced r.locals gs
          → Right' (only gs) (store_one width o gs) (step' (StoreOne c width))
      by_place None e gs placed1 = tt
      by_place (Some place) e [] placed1 = tt
      by_place (Some place) e (v ∷ gs) placed1 = by_width (is_width width) (width == place.width) refl
        where
          by_width : (b b1 : Bool) → (width == place.width) ≡ b1
              → Right' (only (v ∷ gs)) (if b && b1 then Makes (One (store_at width place.address (Known 0) v)) (only gs) else Refused NotTaken)
              (step' (StoreOne c width))
          by_width true true same =
              let is : width ≡ place.width = grind arith in
              subst (λ z. Right' (only (v ∷ gs)) (Makes (One (store_at z place.address (Known 0) v)) (only gs)) (step' (StoreOne c z))) (sym is)
              (right_one c place e v gs placed1)
          by_width true false same = tt
          by_width false b1 same = tt

  -- ---- the value of an object

  -- a value is put where the object's number leads, behind its null check
  does_behind : (c first : ℕ) (place : Place) → (v h : Operand) (hs : List Operand) → (inside : Block)
      → ((n x : ℕ) → first ≤ n → x < 256 ^ place.width → (s : Firm) (gs : List ℕ) (d : Deciding State)
      (w : World History) → IsFair w → AreSame lay r ws (v ∷ h ∷ hs) (record s { values = x ∷ n ∷ gs }) d.state
      → (vs : List ℕ) → slice_get s.columns c ≡ Some vs → (old : ℕ) → slice_get vs (n - first) ≡ Some old
      → Alike (Held lay r ws (only hs)) (Leaves lay r ws) (Gives (record s { values = gs; columns = set_entry s.columns c (n - first) x }) w)
      (linear' inside d w))
      → (s : Firm) (d : Deciding State) (w : World History) → IsFair w → Held lay r ws (only (v ∷ h ∷ hs)) s d
      → Alike (Held lay r ws (only hs)) (Leaves lay r ws) (step' (StoreAt c first place.width) s w)
      (linear' (Both (null_check r h) inside) d w)
  does_behind c first place v h hs inside does = λ s d w i q. by_values s d w i q s.values q.waits
    where
      block : Block
      block = Both (null_check r h) inside

      by_entry : (n x : ℕ) → first ≤ n → x < 256 ^ place.width → (s : Firm) (gs : List ℕ) (d : Deciding State)
          (w : World History) → IsFair w → AreSame lay r ws (v ∷ h ∷ hs) (record s { values = x ∷ n ∷ gs }) d.state
          → (vs : List ℕ) → slice_get s.columns c ≡ Some vs → (o : Option ℕ) → slice_get vs (n - first) ≡ o
          → Alike (Held lay r ws (only hs)) (Leaves lay r ws) (set_found c (n - first) x o (record s { values = gs }) w) (linear' inside d w)
      by_entry n x ge lt s gs d w i q vs hc (Some old) he = does n x ge lt s gs d w i q vs hc old he
      by_entry n x ge lt s gs d w i q vs hc None he = wrong

      by_column : (n x : ℕ) → first ≤ n → x < 256 ^ place.width → (s : Firm) (gs : List ℕ) (d : Deciding State)
          (w : World History) → IsFair w → AreSame lay r ws (v ∷ h ∷ hs) (record s { values = x ∷ n ∷ gs }) d.state
          → (o : Option (List ℕ)) → slice_get s.columns c ≡ o
          → Alike (Held lay r ws (only hs)) (Leaves lay r ws) (set_found c (n - first) x (slice_get (column_of o) (n - first)) (record s { values = gs }) w)
          (linear' inside d w)
      by_column n x ge lt s gs d w i q (Some vs) hc = by_entry n x ge lt s gs d w i q vs hc (slice_get vs (n - first)) refl
      by_column n x ge lt s gs d w i q None hc = wrong

      by_first : (n x : ℕ) → x < 256 ^ place.width → (s : Firm) (gs : List ℕ) (d : Deciding State)
          (w : World History) → IsFair w → AreSame lay r ws (v ∷ h ∷ hs) (record s { values = x ∷ n ∷ gs }) d.state → (b : Bool) → nat_le first n ≡ b
          → Alike (Held lay r ws (only hs)) (Leaves lay r ws) (checked b (store c (n - first) x) (record s { values = gs }) w) (linear' inside d w)
      by_first n x lt s gs d w i q true ge = by_column n x (grind arith) lt s gs d w i q (slice_get s.columns c) refl
      by_first n x lt s gs d w i q false ge = wrong

      by_fit : (s : Firm) (d : Deciding State) (w : World History) → IsFair w → (n x : ℕ) (gs : List ℕ)
          → AreAt (v ∷ h ∷ hs) (x ∷ n ∷ gs) d.state.locals → AreSame lay r ws (v ∷ h ∷ hs) s d.state → (b : Bool) → nat_lt x (256 ^ place.width) ≡ b
          → Alike (Held lay r ws (only hs)) (Leaves lay r ws)
          (checked b (taking (at_object first (λ j. store c j x))) (record s { values = n ∷ gs }) w) (linear' block d w)
      by_fit s d w i n x gs at1 q true e =
          checks_before k f m call handle p go lay r ws wide h n (λ z. checked (nat_le first z) (store c (z - first) x)) (linear' inside)
          (record s { values = gs }) d w i (value_of_home h n d.state at1.1.0.0) at1.1.0.1 q.kept
          (λ c1 above. by_first n x (grind arith) s gs (record d { truth = c1 }) w i
          (record { waits = at1; kept = q.kept; none = q.none; ram = q.ram }) (nat_le first n) refl)
      by_fit s d w i n x gs at1 q false e = wrong

      by_values : (s : Firm) (d : Deciding State) (w : World History) → IsFair w
          → AreSame lay r ws (v ∷ h ∷ hs) s d.state → (vs : List ℕ) → AreAt (v ∷ h ∷ hs) vs d.state.locals
          → Alike (Held lay r ws (only hs)) (Leaves lay r ws)
          (take_from vs (of_width place.width (λ x. taking (at_object first (λ j. store c j x)))) s w) (linear' block d w)
      by_values s d w i q [] at1 = absurd at1
      by_values s d w i q (x ∷ []) at1 = absurd at1.1
      by_values s d w i q (x ∷ n ∷ gs) at1 = by_fit s d w i n x gs at1 q (nat_lt x (256 ^ place.width)) refl

  -- by a temporary
  right_put_by : (c first : ℕ) (place : Place) → (v h : Operand) (hs : List Operand) → ArePlaced r.locals (v ∷ h ∷ hs) → (inside : ℕ → Block)
      → ((to : ℕ) → temp r (v ∷ h ∷ hs) ≡ Some to → (n x : ℕ) → first ≤ n → x < 256 ^ place.width → (s : Firm) (gs : List ℕ) (d : Deciding State)
      (w : World History) → IsFair w → AreSame lay r ws (v ∷ h ∷ hs) (record s { values = x ∷ n ∷ gs }) d.state
      → (vs : List ℕ) → slice_get s.columns c ≡ Some vs → (old : ℕ) → slice_get vs (n - first) ≡ Some old
      → Alike (Held lay r ws (only hs)) (Leaves lay r ws) (Gives (record s { values = gs; columns = set_entry s.columns c (n - first) x }) w)
      (linear' (inside to) d w))
      → Right' (only (v ∷ h ∷ hs)) (by_temp (temp r (v ∷ h ∷ hs)) (λ to. Makes (Both (null_check r h) (inside to)) (only hs)))
      (step' (StoreAt c first place.width))
  right_put_by c first place v h hs placed inside does = by_room (temp r (v ∷ h ∷ hs)) refl
    where
      by_room : (o : Option ℕ) → temp r (v ∷ h ∷ hs) ≡ o
          → Right' (only (v ∷ h ∷ hs)) (by_temp o (λ to. Makes (Both (null_check r h) (inside to)) (only hs))) (step' (StoreAt c first place.width))
      by_room (Some to) has = (placed.1.1, does_behind c first place v h hs (inside to) (does to has))
      by_room None has = tt

  -- to the one entry that there is
  right_sole : (c first : ℕ) (place : Place) → slice_get lay.ram c ≡ Some place → place.count ≡ 1 → (v h : Operand) (hs : List Operand)
      → ArePlaced r.locals (v ∷ h ∷ hs) → Right' (only (v ∷ h ∷ hs)) (put_sole r place.width place.address v h hs) (step' (StoreAt c first place.width))
  right_sole c first place at one v h hs placed = (placed.1.1, does_behind c first place v h hs inside does)
    where
      inside : Block
      inside = One (store_at place.width place.address (Known 0) v)

      does : (n x : ℕ) → first ≤ n → x < 256 ^ place.width → (s : Firm) (gs : List ℕ) (d : Deciding State)
          (w : World History) → IsFair w → AreSame lay r ws (v ∷ h ∷ hs) (record s { values = x ∷ n ∷ gs }) d.state
          → (vs : List ℕ) → slice_get s.columns c ≡ Some vs → (old : ℕ) → slice_get vs (n - first) ≡ Some old
          → Alike (Held lay r ws (only hs)) (Leaves lay r ws) (Gives (record s { values = gs; columns = set_entry s.columns c (n - first) x }) w)
          (linear' inside d w)
      does n x ge lt s gs d w i q vs hc old he =
          let stands = q.ram.stands c place vs at hc in
          let zero' = at_first (n - first) (length vs) place.count (slice_get_within vs (n - first) old he) stands.counted one in
          does_store hs c (n - first) x old 0 place.address place vs (Known 0) v (record s { values = gs }) d w i at hc he lt refl
          (value_of_home v x d.state q.waits.0.0) (reached place.address (first_address Ram) stands.behind)
          (sole_is place.address (first_address Ram) place.width (n - first) stands.behind zero')
          (record { waits = q.waits.1.1; kept = q.kept; none = q.none; ram = q.ram })

  -- a value that waits is left out
  pub without : (h : Operand) (hs : List Operand) (n : ℕ) (gs : List ℕ) (s : Firm) (t : State) → AreSame lay r ws (h ∷ hs) (record s { values = n ∷ gs }) t
      → AreSame lay r ws hs (record s { values = gs }) t
  without h hs n gs s t q = record { waits = q.waits.1; kept = q.kept; none = q.none; ram = q.ram }

  -- a value goes where a number times the width of an entry leads
  pub does_put : (c j : ℕ) (place : Place) → slice_get lay.ram c ≡ Some place → (v : Operand) (ms hs : List Operand) → ArePlaced r.locals (v ∷ ms)
      → (to : ℕ) → temp r (v ∷ ms) ≡ Some to → (number : Operand) (a base x : ℕ) → x < 256 ^ place.width → (s : Firm) (zs gs : List ℕ)
      → ((t : State) → AreSame lay r ws ms (record s { values = zs }) t → AreSame lay r ws hs (record s { values = gs }) t)
      → (d : Deciding State) (w : World History) → IsFair w → AreSame lay r ws (v ∷ ms) (record s { values = x ∷ zs }) d.state
      → (vs : List ℕ) → slice_get s.columns c ≡ Some vs → (old : ℕ) → slice_get vs j ≡ Some old
      → value number d.state ≡ Some a → a * place.width < 65536 → first_address Ram ≤ base + a * place.width
      → base + a * place.width - first_address Ram ≡ place.address - first_address Ram + place.width * j
      → Alike (Held lay r ws (only hs)) (Leaves lay r ws) (Gives (record s { values = gs; columns = set_entry s.columns c j x }) w)
      (linear' (Both (multiplied to place.width number) (One (store_at place.width base (multiple to place.width number) v))) d w)
  does_put c j place at v ms hs placed to has number a base x lt s zs gs fewer d w i q vs hc old he hv few low_is index_is = by_one (place.width == 1) refl
    where
      once : (e b : ℕ) → b ≡ 1 → e ≡ e * b
      once e b e1 = grind arith

      product : Block
      product = One (Compute (record { operator = Product; width = 2; to = to; left = number; right = Known place.width }))

      there : AreSame lay r ws (Local to ∷ v ∷ ms) (record s { values = a * place.width ∷ x ∷ zs }) (sets to (a * place.width) d.state)
      there = put_temp lay r m.widths ws (v ∷ ms) (record s { values = x ∷ zs }) d.state to (a * place.width) wide placed has (omega (arith, few)) q

      by_one : (b : Bool) → (place.width == 1) ≡ b
          → Alike (Held lay r ws (only hs)) (Leaves lay r ws) (Gives (record s { values = gs; columns = set_entry s.columns c j x }) w)
          (linear' (Both (if b then Skip else product) (One (store_at place.width base (if b then number else Local to) v))) d w)
      by_one true e1 =
          let is : place.width ≡ 1 = grind arith in
          does_store hs c j x old (a * place.width) base place vs number v (record s { values = gs }) d w i at hc he lt
          (hv ∙ ap Some (once a place.width is)) (value_of_home v x d.state q.waits.0.0) low_is index_is
          (fewer d.state (record { waits = q.waits.1; kept = q.kept; none = q.none; ram = q.ram }))
      by_one false e1 =
          subst (λ z. Alike (Held lay r ws (only hs)) (Leaves lay r ws)
          (Gives (record s { values = gs; columns = set_entry s.columns c j x }) w)
          (and_then z (linear' (One (store_at place.width base (Local to) v)))))
          (sym (plain_goes k f m call handle p go lay r ws wide
          (Compute (record { operator = Product; width = 2; to = to; left = number; right = Known place.width })) d w (sets to (a * place.width) d.state)
          (computes_to k f m call handle p go lay r ws wide Product 2 to number (Known place.width) a place.width (a * place.width) d.state w.outside
          hv refl (ap Some (low_two (a * place.width) few)))))
          (does_store hs c j x old (a * place.width) base place vs (Local to) v (record s { values = gs })
          (record d { state = sets to (a * place.width) d.state }) w i at hc he lt there.waits.0.0
          (value_of_home v x (sets to (a * place.width) d.state) there.waits.1.0.0) low_is index_is
          (fewer (sets to (a * place.width) d.state) (record { waits = there.waits.1.1; kept = there.kept; none = there.none; ram = there.ram })))

  right_put : (c first : ℕ) (place : Place) → slice_get lay.ram c ≡ Some place → 0 < place.width → place.width * first ≤ place.address → (v h : Operand) (hs : List Operand)
      → ArePlaced r.locals (v ∷ h ∷ hs)
      → Right' (only (v ∷ h ∷ hs)) (put_of r place.width (place.address - place.width * first) v h hs) (step' (StoreAt c first place.width))
  right_put c first place at above le v h hs placed =
      right_put_by c first place v h hs placed
      (λ to. Both (multiplied to place.width h) (One (store_at place.width base (multiple to place.width h) v)))
      (λ to has n x ge lt s gs d w i q vs hc old he. does to has n x ge lt s gs d w i q vs hc old he (q.ram.stands c place vs at hc) (times_both n first place.width ge))
    where
      base : ℕ
      base = place.address - place.width * first

      short_is : (address a b all : ℕ) → address + all ≤ 65536 → a ≤ address → b < all → a + b < 65536
      short_is address a b all h1 h2 h3 = omega (arith, h1, h2, h3)

      behind_is : (low' address a b : ℕ) → low' ≤ address → a ≤ address → low' ≤ address - a + (a + b)
      behind_is low' address a b h1 h2 = omega (arith, h1, h2)

      place_is : (low' address a b : ℕ) → low' ≤ address → a ≤ address → address - a + (a + b) - low' ≡ address - low' + b
      place_is low' address a b h1 h2 = omega (arith, h1, h2)

      does : (to : ℕ) → temp r (v ∷ h ∷ hs) ≡ Some to → (n x : ℕ) → first ≤ n → x < 256 ^ place.width → (s : Firm) (gs : List ℕ) (d : Deciding State)
          (w : World History) → IsFair w → AreSame lay r ws (v ∷ h ∷ hs) (record s { values = x ∷ n ∷ gs }) d.state
          → (vs : List ℕ) → slice_get s.columns c ≡ Some vs → (old : ℕ) → slice_get vs (n - first) ≡ Some old → ColumnStands Ram d.state.ram place vs
          → n * place.width ≡ place.width * first + place.width * (n - first)
          → Alike (Held lay r ws (only hs)) (Leaves lay r ws) (Gives (record s { values = gs; columns = set_entry s.columns c (n - first) x }) w)
          (linear' (Both (multiplied to place.width h) (One (store_at place.width base (multiple to place.width h) v))) d w)
      does to has n x ge lt s gs d w i q vs hc old he stands both =
          let inner = slice_get_within vs (n - first) old he in
          let within = entry_within place.width (n - first) (length vs) above inner in
          does_put c (n - first) place at v (h ∷ hs) hs placed to has h n base x lt s (n ∷ gs) gs (without h hs n gs s) d w i q vs hc old he
          (value_of_home h n d.state q.waits.1.0.0)
          (subst (λ z. z < 65536) (sym both)
          (short_is place.address (place.width * first) (place.width * (n - first)) (place.width * length vs) stands.short le within))
          (subst (λ z. first_address Ram ≤ base + z) (sym both)
          (behind_is (first_address Ram) place.address (place.width * first) (place.width * (n - first)) stands.behind le))
          (ap (λ z. base + z - first_address Ram) both
          ∙ place_is (first_address Ram) place.address (place.width * first) (place.width * (n - first)) stands.behind le)

  -- the same, counted from the first object
  right_put_from : (c first : ℕ) (place : Place) → slice_get lay.ram c ≡ Some place → 0 < place.width → (v h : Operand) (hs : List Operand) → ArePlaced r.locals (v ∷ h ∷ hs)
      → Right' (only (v ∷ h ∷ hs)) (put_from r place.width first place.address v h hs) (step' (StoreAt c first place.width))
  right_put_from c first place at above v h hs placed =
      right_put_by c first place v h hs placed inside
      (λ to has n x ge lt s gs d w i q vs hc old he. does to has n x ge lt s gs d w i q vs hc old he (q.ram.stands c place vs at hc))
    where
      last : (to : ℕ) → Block
      last to = Both (multiplied to place.width (Local to)) (One (store_at place.width place.address (multiple to place.width (Local to)) v))

      inside : (to : ℕ) → Block
      inside to = Both (One (distance to first h)) (last to)

      times : (a b : ℕ) → a * b ≡ b * a
      times a b = grind arith

      few_is : (address b all : ℕ) → address + all ≤ 65536 → b < all → b < 65536
      few_is address b all h1 h2 = omega (arith, h1, h2)

      low_is : (low' address b : ℕ) → low' ≤ address → low' ≤ address + b
      low_is low' address b h1 = omega (arith, h1)

      index_is : (low' address b : ℕ) → low' ≤ address → address + b - low' ≡ address - low' + b
      index_is low' address b h1 = omega (arith, h1)

      less : (a b c1 : ℕ) → a < c1 → a - b < c1
      less a b c1 h1 = omega (arith, h1)

      does : (to : ℕ) → temp r (v ∷ h ∷ hs) ≡ Some to → (n x : ℕ) → first ≤ n → x < 256 ^ place.width → (s : Firm) (gs : List ℕ) (d : Deciding State)
          (w : World History) → IsFair w → AreSame lay r ws (v ∷ h ∷ hs) (record s { values = x ∷ n ∷ gs }) d.state
          → (vs : List ℕ) → slice_get s.columns c ≡ Some vs → (old : ℕ) → slice_get vs (n - first) ≡ Some old → ColumnStands Ram d.state.ram place vs
          → Alike (Held lay r ws (only hs)) (Leaves lay r ws) (Gives (record s { values = gs; columns = set_entry s.columns c (n - first) x }) w)
          (linear' (inside to) d w)
      does to has n x ge lt s gs d w i q vs hc old he stands =
          let inner = slice_get_within vs (n - first) old he in
          let within = entry_within place.width (n - first) (length vs) above inner in
          let turned = times (n - first) place.width in
          subst (λ z. Alike (Held lay r ws (only hs)) (Leaves lay r ws) (Gives (record s { values = gs; columns = set_entry s.columns c (n - first) x }) w)
          (and_then z (linear' (last to))))
          (sym (measured k f m call handle p go lay r ws wide flash to first n h d w (value_of_home h n d.state q.waits.1.0.0) ge q.waits.1.0.1))
          (does_put c (n - first) place at v (h ∷ hs) hs placed to has (Local to) (n - first) place.address x lt s (n ∷ gs) gs (without h hs n gs s)
          (record d { state = sets to (n - first) d.state }) w i
          (record { waits = there.waits.1; kept = there.kept; none = there.none; ram = there.ram }) vs hc old he there.waits.0.0
          (subst (λ z. z < 65536) (sym turned) (few_is place.address (place.width * (n - first)) (place.width * length vs) stands.short within))
          (subst (λ z. first_address Ram ≤ place.address + z) (sym turned)
          (low_is (first_address Ram) place.address (place.width * (n - first)) stands.behind))
          (ap (λ z. place.address + z - first_address Ram) turned
          ∙ index_is (first_address Ram) place.address (place.width * (n - first)) stands.behind))
        where
          there : AreSame lay r ws (Local to ∷ v ∷ h ∷ hs) (record s { values = (n - first) ∷ x ∷ n ∷ gs }) (sets to (n - first) d.state)
          there =
              put_temp lay r m.widths ws (v ∷ h ∷ hs) (record s { values = x ∷ n ∷ gs }) d.state to (n - first) wide placed has
              (less n first (2 ^ 32) q.waits.1.0.1) q

  pub right_store_at : (c first width : ℕ) (hs : List Operand) → ArePlaced r.locals hs
      → Right' (only hs) (store_of r first width (slice_get lay.ram c) hs) (step' (StoreAt c first width))
  right_store_at c first width hs placed = by_place (slice_get lay.ram c) refl hs placed
    where
      by_place : (o : Option Place) → slice_get lay.ram c ≡ o → (gs : List Operand) → ArePlaced r.locals gs
          → Right' (only gs) (store_of r first width o gs) (step' (StoreAt c first width))
      by_place None e gs placed1 = tt
      by_place (Some place) e [] placed1 = tt
      by_place (Some place) e (v ∷ []) placed1 = tt
      by_place (Some place) e (v ∷ h ∷ gs) placed1 =
          by_width (is_width width) refl (width == place.width) refl
        where
          by_address : 0 < place.width → (b : Bool) → nat_le (place.width * first) place.address ≡ b
              → Right' (only (v ∷ h ∷ gs)) (if b then put_of r place.width (place.address - place.width * first) v h gs
              else put_from r place.width first place.address v h gs) (step' (StoreAt c first place.width))
          by_address above true le = right_put c first place e above (grind arith) v h gs placed1
          by_address above false le = right_put_from c first place e above v h gs placed1

          by_count : 0 < place.width → (b : Bool) → (place.count == 1) ≡ b
              → Right' (only (v ∷ h ∷ gs)) (if b then put_sole r place.width place.address v h gs
              else store_placed r place.width first place.address v h gs) (step' (StoreAt c first place.width))
          by_count above true one = right_sole c first place e (grind arith) v h gs placed1
          by_count above false many = by_address above (nat_le (place.width * first) place.address) refl

          by_width : (b : Bool) → is_width width ≡ b → (b1 : Bool) → (width == place.width) ≡ b1
              → Right' (only (v ∷ h ∷ gs)) (if b && b1 then store_entry r first width place v h gs else Refused NotTaken) (step' (StoreAt c first width))
          by_width true fit true same =
              let is : width ≡ place.width = grind arith in
              subst (λ z. Right' (only (v ∷ h ∷ gs)) (store_entry r first z place v h gs) (step' (StoreAt c first z))) (sym is)
              (by_count (width_low place.width (ap is_width (sym is) ∙ fit)) (place.count == 1) refl)
          by_width true fit false same = tt
          by_width false fit b1 same = tt
