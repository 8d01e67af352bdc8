-- That null checks and tests of objects become blocks that do the same.
use Rattle.std.specs.Prelude.{ℕ, zero, suc, ◌+◌, ◌-◌, ◌<◌, ◌^◌, Bool, true, false, not, ◌==◌, nat_lt, List, [], ◌∷◌, Option, Some, None, if◌then◌else◌}
use Rattle.std.specs.Option.{option_map}
use Rattle.std.proofs.Common.{◌≡◌, refl, sym, ap, ◌∙◌, subst, arith}
use Rattle.std.proofs.Math.Dec.{eqb-suc-zero}
use Rattle.vg_meaning.specs.History.{History}
use Rattle.vg_meaning.specs.World.{World}
use Rattle.vg_meaning.specs.Answer.{Signal, Answer, Gives, Piece, and_then, go_on, stops}
use Rattle.vg_codes.specs.Dispatch.{is_within}
use Rattle.vg_codes.specs.Codes.{Codes}
use Rattle.vg_firm.specs.declared.step.Step.{Step}
use Rattle.vg_firm.specs.declared.step.Step.TheVariants.{LoadNothing, StoreNothing, IsWithin, StopUnlessWithin}
use Rattle.vg_firm.specs.Program.{Procedure as FirmProcedure, Program as FirmProgram}
use Rattle.vg_firm.specs.Meaning.{State as Firm, Caller as FirmCaller, step as firm_step, put, taking, take_from, not_null, stop_unless, stop_unless_within}
use Rattle.vg_firm.specs.Operators.{as_number}
use Rattle.vg_lin.specs.declared.instr.Operand.{Operand}
use Rattle.vg_lin.specs.declared.instr.Operand.TheVariants.{Local, Known}
use Rattle.vg_lin.specs.declared.instr.Operator.TheVariants.{Minus as Difference}
use Rattle.vg_lin.specs.declared.instr.Comparison.TheVariants.{Below}
use Rattle.vg_lin.specs.Values.{low}
use Rattle.vg_lin.specs.Program.{Program as LinProgram}
use Rattle.vg_lin.specs.State.{State, value, holds, sets}
use Rattle.vg_lin.specs.Structured.{Deciding, Caller as LinCaller}
use Rattle.vg_flatten_shapes.specs.declared.fault.Fault.TheVariants.{NotTaken}
use Rattle.vg_flatten_shapes.specs.declared.open.Truth.TheVariants.{Holds, Fails}
use Rattle.vg_flatten_shapes.specs.declared.layout.Layout.{Layout}
use Rattle.vg_flatten_shapes.specs.declared.room.Room.{Room}
use Rattle.vg_flatten_shapes.specs.Shapes.{Shape, only, temp}
use Rattle.vg_flatten_shapes.specs.Blocks.{Block, Skip, One, Both, Choice, stop_where}
use Rattle.vg_flatten_shapes.specs.Made.{Made, Gives as Makes, Refused, by_temp, is_zero}
use Rattle.vg_flatten_steps.specs.Objects.{is_near, is_one_of, cast_to}
use Rattle.vg_flatten_places.specs.Places.{null_check as checking, load_no_field, store_no_field, distance}
use Rattle.vg_flattened.proofs.Alike.{IsFair, Alike, gives}
use Rattle.vg_flattened.proofs.Related.{ArePlaced, AreAt, AreWidths, AreSame, Held, Leaves, said}
use Rattle.vg_flattened.proofs.Numbers.{low_small, near_same}
use Rattle.vg_flattened.proofs.Operating.{holds_of}
use Rattle.vg_flattened.proofs.Locals.{value_of_home, put_temp}
use Rattle.vg_flattened.proofs.Right.{Right, linear, chooses}
use Rattle.vg_flattened.proofs.StepRight.{computes_to, plain_goes}
use Rattle.vg_flattened.proofs.CombinedRight.{stops_both, says_zero, stopped, passed}
use Rattle.vg_flattened.proofs.NullRight.{checks_alone}

module _ (k : Codes) (f : FirmProgram) (m : FirmProcedure) (call : FirmCaller History) (handle : ℕ → Piece Firm History)
    (p : LinProgram) (go : LinCaller State) (lay : Layout) (r : Room) (ws : List ℕ) (wide : AreWidths r m.widths ws) where
  abbrev Right' : Shape → Made → Piece Firm History → Type 0
  Right' = Right k f m call handle p go lay r ws wide

  abbrev linear' : Block → Piece (Deciding State) History
  linear' = linear k f m call handle p go lay r ws wide

  abbrev step' : Step → Piece Firm History
  step' = firm_step k f m call handle

  -- ---- null checks

  pub null_check : {G : Firm → Deciding State → Type 0} {L : Signal → Firm → Deciding State → Type 0} (h : Operand) (x : ℕ) (next : ℕ → Piece Firm History)
      (s : Firm) (d : Deciding State) (w : World History) → IsFair w → value h d.state ≡ Some x → x < 2 ^ 32
      → ((n : ℕ) → x ≡ suc n → Alike G L (next (suc n) s w) (Gives (record d { truth = None }) w))
      → Alike G L (not_null next x s w) (linear' (stop_where 1 (Holds (is_zero h))) d w)
  null_check {G} {L} h zero next s d w i at lt goes =
      subst (λ z. Alike G L (stops 1 0 s w) z)
      (sym (stopped k f m call handle p go lay r ws wide (Holds (is_zero h)) 1 d w (says_zero h 0 d.state at lt)))
      (stops_both 1 s (record d { truth = None }) w i)
  null_check {G} {L} h (suc n) next s d w i at lt goes =
      subst (λ z. Alike G L (next (suc n) s w) z)
      (sym (passed k f m call handle p go lay r ws wide (Holds (is_zero h)) 1 d w (says_zero h (suc n) d.state at lt ∙ ap Some (eqb-suc-zero n))))
      (goes n refl)

  pub right_no_field : (hs : List Operand) → ArePlaced r.locals hs → Right' (only hs) (load_no_field r hs) (step' LoadNothing)
  right_no_field [] placed = tt
  right_no_field (h ∷ hs) placed = ((tt, placed.1), λ s d w i q. by_values s d w i q s.values q.waits)
    where
      by_values : (s : Firm) (d : Deciding State) (w : World History) → IsFair w → AreSame lay r ws (h ∷ hs) s d.state → (vs : List ℕ)
          → AreAt (h ∷ hs) vs d.state.locals
          → Alike (Held lay r ws (only (Known 0 ∷ hs))) (Leaves lay r ws) (take_from vs (not_null (λ n. put 0)) s w) (linear' (checking r h) d w)
      by_values s d w i q [] at = absurd at
      by_values s d w i q (x ∷ vs) at =
          checks_alone k f m call handle p go lay r ws wide h x (λ n. put 0) (record s { values = vs }) d w i (value_of_home h x d.state at.0.0) at.0.1 q.kept
          (λ c pos. gives i (record { waits = ((refl, omega arith), at.1); kept = q.kept; none = q.none; ram = q.ram }))

  pub right_no_field_store : (hs : List Operand) → ArePlaced r.locals hs → Right' (only hs) (store_no_field r hs) (step' StoreNothing)
  right_no_field_store [] placed = tt
  right_no_field_store (v ∷ []) placed = tt
  right_no_field_store (v ∷ h ∷ hs) placed = (placed.1.1, λ s d w i q. by_values s d w i q s.values q.waits)
    where
      by_values : (s : Firm) (d : Deciding State) (w : World History) → IsFair w → AreSame lay r ws (v ∷ h ∷ hs) s d.state → (vs : List ℕ)
          → AreAt (v ∷ h ∷ hs) vs d.state.locals
          → Alike (Held lay r ws (only hs)) (Leaves lay r ws) (take_from vs (λ y. taking (not_null (λ n. go_on))) s w) (linear' (checking r h) d w)
      by_values s d w i q [] at = absurd at
      by_values s d w i q (y ∷ []) at = absurd at.1
      by_values s d w i q (y ∷ x ∷ vs) at =
          checks_alone k f m call handle p go lay r ws wide h x (λ n. go_on) (record s { values = vs }) d w i (value_of_home h x d.state at.1.0.0) at.1.0.1 q.kept
          (λ c pos. gives i (record { waits = at.1.1; kept = q.kept; none = q.none; ram = q.ram }))

  -- ---- the number of an object

  abbrev distance_of : (n first : ℕ) → ℕ
  distance_of n first = low 4 (n + (256 ^ 4 - low 4 first))

  -- how far it is behind the first of so many
  measured : (to first : ℕ) (h : Operand) (n : ℕ) (d : Deciding State) (w : World History) → value h d.state ≡ Some n
      → linear' (One (distance to first h)) d w ≡ Gives (record d { state = sets to (distance_of n first) d.state }) w
  measured to first h n d w at =
      plain_goes k f m call handle p go lay r ws wide (distance to first h) d w (sets to (distance_of n first) d.state)
      (computes_to k f m call handle p go lay r ws wide Difference 4 to h (Known first) n first (distance_of n first) d.state w.outside at refl refl)

  near : (to first count n : ℕ) (t : State) → n < 2 ^ 32 → first + count < 2 ^ 32 → value (Local to) t ≡ Some (distance_of n first)
      → holds (is_near to count) t ≡ Some (is_within first count n)
  near to first count n t lt few at = holds_of Below (Local to) (Known count) (distance_of n first) count t at refl ∙ ap Some (near_same n first count lt few)

  pub right_one_of : (first count : ℕ) (hs : List Operand) → ArePlaced r.locals hs
      → Right' (only hs) (is_one_of r first count hs) (step' (IsWithin first count))
  right_one_of first count [] placed = tt
  right_one_of first count (h ∷ hs) placed = by_size (nat_lt (first + count) (2 ^ 32)) refl
    where
      shape : (to : ℕ) → Shape
      shape to = record { truth = Some (Holds (is_near to count)); homes = hs }

      by_values : first + count < 2 ^ 32 → (to : ℕ) → temp r hs ≡ Some to → (s : Firm) (d : Deciding State) (w : World History) → IsFair w
          → AreSame lay r ws (h ∷ hs) s d.state → (vs : List ℕ) → AreAt (h ∷ hs) vs d.state.locals
          → Alike (Held lay r ws (shape to)) (Leaves lay r ws) (take_from vs (λ n. put (as_number (is_within first count n))) s w)
          (linear' (One (distance to first h)) d w)
      by_values few to has s d w i q [] at = absurd at
      by_values few to has s d w i q (n ∷ vs) at =
          subst (λ z. Alike (Held lay r ws (shape to)) (Leaves lay r ws) (put (as_number (is_within first count n)) (record s { values = vs }) w) z)
          (sym (measured to first h n d w (value_of_home h n d.state at.0.0)))
          (gives i (record {
            b = is_within first count n;
            vs = vs;
            newest = refl;
            says = near to first count n (sets to (distance_of n first) d.state) at.0.1 few there.waits.0.0;
            rest = record { waits = there.waits.1; kept = there.kept; none = there.none; ram = there.ram };
          }))
        where
          there : AreSame lay r ws (Local to ∷ hs) (record s { values = distance_of n first ∷ vs }) (sets to (distance_of n first) d.state)
          there =
              put_temp lay r m.widths ws hs (record s {
                values =
                    vs;
              }) d.state to (distance_of n first) wide placed.1 has (low_small (n + (256 ^ 4 - low 4 first)))
              (record { waits = at.1; kept = q.kept; none = q.none; ram = q.ram })

      by_room : first + count < 2 ^ 32 → (o : Option ℕ) → temp r hs ≡ o
          → Right' (only (h ∷ hs)) (by_temp o (λ to. Makes (One (distance to first h)) (shape to))) (step' (IsWithin first count))
      by_room few (Some to) has = (placed.1, λ s d w i q. by_values few to has s d w i q s.values q.waits)
      by_room few None has = tt

      by_size : (b : Bool) → nat_lt (first + count) (2 ^ 32) ≡ b
          → Right' (only (h ∷ hs)) (if b then by_temp (temp r hs) (λ to. Makes (One (distance to first h)) (shape to)) else Refused NotTaken)
          (step' (IsWithin first count))
      by_size true e = by_room (grind arith) (temp r hs) refl
      by_size false e = tt

  pub right_cast : (first count : ℕ) (hs : List Operand) → ArePlaced r.locals hs
      → Right' (only hs) (cast_to r first count hs) (step' (StopUnlessWithin first count))
  right_cast first count [] placed = tt
  right_cast first count (h ∷ hs) placed = by_size (nat_lt (first + count) (2 ^ 32)) refl
    where
      inside : ℕ → Block
      inside to = Both (One (distance to first h)) (stop_where 4 (Fails (is_near to count)))

      block : ℕ → Block
      block to = Choice (Fails (is_zero h)) (inside to) Skip

      says : (n : ℕ) (t : State) (b : Bool) → value h t ≡ Some n → n < 2 ^ 32 → (n == 0) ≡ b → said (Fails (is_zero h)) t ≡ Some (not b)
      says n t b at lt e = ap (option_map not) (says_zero h n t at lt) ∙ ap (λ z. Some (not z)) e

      -- the number of an object, whose distance was measured
      by_near : (to n : ℕ) (s : Firm) (d : Deciding State) (w : World History) → IsFair w
          → AreSame lay r ws (h ∷ hs) (record s { values = n ∷ s.values }) d.state
          → (b : Bool) → holds (is_near to count) d.state ≡ Some b
          → Alike (Held lay r ws (only (h ∷ hs))) (Leaves lay r ws) (stop_unless b 4 (put n) s w) (linear' (stop_where 4 (Fails (is_near to count))) d w)
      by_near to n s d w i q true e =
          subst (λ z. Alike (Held lay r ws (only (h ∷ hs))) (Leaves lay r ws) (put n s w) z)
          (sym (passed k f m call handle p go lay r ws wide (Fails (is_near to count)) 4 d w (ap (option_map not) e)))
          (gives i q)
      by_near to n s d w i q false e =
          subst (λ z. Alike (Held lay r ws (only (h ∷ hs))) (Leaves lay r ws) (stops 4 0 s w) z)
          (sym (stopped k f m call handle p go lay r ws wide (Fails (is_near to count)) 4 d w (ap (option_map not) e)))
          (stops_both 4 s (record d { truth = None }) w i)

      by_number : first + count < 2 ^ 32 → (to : ℕ) → temp r (h ∷ hs) ≡ Some to → (s : Firm) (d : Deciding State) (w : World History) → IsFair w
          → AreSame lay r ws (h ∷ hs) s d.state → (n : ℕ) (vs : List ℕ) → s.values ≡ n ∷ vs → AreAt (h ∷ hs) (n ∷ vs) d.state.locals
          → Alike (Held lay r ws (only (h ∷ hs))) (Leaves lay r ws) (stop_unless_within first count n (record s { values = vs }) w) (linear' (block to) d w)
      by_number few to has s d w i q zero vs ev at =
          subst (λ z. Alike (Held lay r ws (only (h ∷ hs))) (Leaves lay r ws) (put 0 (record s { values = vs }) w) z)
          (sym (chooses k f m call handle p go lay r ws wide (Fails (is_zero h)) false (inside to) Skip d w
          (says 0 d.state true (value_of_home h 0 d.state at.0.0) at.0.1 refl)))
          (gives i (record { waits = at; kept = q.kept; none = q.none; ram = q.ram }))
      by_number few to has s d w i q (suc n) vs ev at =
          subst (λ z. Alike (Held lay r ws (only (h ∷ hs))) (Leaves lay r ws) packed z)
          (sym (chooses k f m call handle p go lay r ws wide (Fails (is_zero h)) true (inside to) Skip d w
          (says (suc n) d.state false (value_of_home h (suc n) d.state at.0.0) at.0.1 (eqb-suc-zero n))))
          (subst (λ z. Alike (Held lay r ws (only (h ∷ hs))) (Leaves lay r ws) packed (and_then z (linear' (stop_where 4 (Fails (is_near to count))))))
          (sym (measured to first h (suc n) (record d { truth = None }) w (value_of_home h (suc n) d.state at.0.0)))
          (by_near to (suc n) (record s { values = vs }) (record d { state = behind; truth = None }) w i
          (record { waits = there.waits.1; kept = there.kept; none = there.none; ram = there.ram }) (is_within first count (suc n))
          (near to first count (suc n) behind at.0.1 few there.waits.0.0)))
        where
          packed : Answer Firm History
          packed = stop_unless (is_within first count (suc n)) 4 (put (suc n)) (record s { values = vs }) w

          behind : State
          behind = sets to (distance_of (suc n) first) d.state

          there : AreSame lay r ws (Local to ∷ h ∷ hs) (record s { values = distance_of (suc n) first ∷ suc n ∷ vs }) behind
          there =
              put_temp lay r m.widths ws (h ∷ hs) (record s { values = suc n ∷ vs }) d.state to (distance_of (suc n) first) wide placed has
              (low_small (suc n + (256 ^ 4 - low 4 first))) (record { waits = at; kept = q.kept; none = q.none; ram = q.ram })

      by_values : first + count < 2 ^ 32 → (to : ℕ) → temp r (h ∷ hs) ≡ Some to → (s : Firm) (d : Deciding State) (w : World History) → IsFair w
          → AreSame lay r ws (h ∷ hs) s d.state → (vs : List ℕ) → s.values ≡ vs → AreAt (h ∷ hs) vs d.state.locals
          → Alike (Held lay r ws (only (h ∷ hs))) (Leaves lay r ws) (take_from vs (stop_unless_within first count) s w) (linear' (block to) d w)
      by_values few to has s d w i q [] ev at = absurd at
      by_values few to has s d w i q (n ∷ vs) ev at = by_number few to has s d w i q n vs ev at

      by_room : first + count < 2 ^ 32 → (o : Option ℕ) → temp r (h ∷ hs) ≡ o
          → Right' (only (h ∷ hs)) (by_temp o (λ to. Makes (block to) (only (h ∷ hs)))) (step' (StopUnlessWithin first count))
      by_room few (Some to) has = (placed, λ s d w i q. by_values few to has s d w i q s.values refl q.waits)
      by_room few None has = tt

      by_size : (b : Bool) → nat_lt (first + count) (2 ^ 32) ≡ b
          → Right' (only (h ∷ hs)) (if b then by_temp (temp r (h ∷ hs)) (λ to. Makes (block to) (only (h ∷ hs))) else Refused NotTaken)
          (step' (StopUnlessWithin first count))
      by_size true e = by_room (grind arith) (temp r (h ∷ hs)) refl
      by_size false e = tt
