-- That divisions and shifts become blocks that do the same.
use Rattle.std.specs.Prelude.{ℕ, zero, suc, ◌+◌, ◌-◌, ◌*◌, ◌<◌, ◌≤◌, ◌^◌, Bool, true, false, ◌==◌, ◌&&◌, nat_lt, nat_le, List, [], ◌∷◌, Option, Some, None, if◌then◌else◌}
use Rattle.std.proofs.Common.{◌≡◌, refl, sym, ap, ◌∙◌, subst, arith}
use Rattle.std.proofs.Math.Dec.{eqb-suc-zero}
use Rattle.vg_meaning.specs.History.{History}
use Rattle.vg_meaning.specs.World.{World}
use Rattle.vg_meaning.specs.Answer.{Signal, Stops, Gives, Piece, and_then, over, stops, kept}
use Rattle.vg_codes.specs.Codes.{Codes}
use Rattle.vg_firm.specs.declared.step.Operator.{Operator}
use Rattle.vg_firm.specs.declared.step.Operator.TheVariants.{Plus, Minus, Times, Divide, Remainder, Less, AtMost, Greater, AtLeast, Equal, Unequal}
use Rattle.vg_firm.specs.declared.step.Operator.TheVariants.{And, Or, Xor, ShiftLeft, ShiftRight, Concat}
use Rattle.vg_firm.specs.declared.step.Step.{Step}
use Rattle.vg_firm.specs.declared.step.Step.TheVariants.{Operate}
use Rattle.vg_firm.specs.Program.{Procedure as FirmProcedure, Program as FirmProgram}
use Rattle.vg_firm.specs.Meaning.{State as Firm, Caller as FirmCaller, step as firm_step, put, put_computed, taking, take_from, checked}
use Rattle.vg_firm.specs.Operators.{computed as firm_computed, has_strings, is_string}
use Rattle.vg_lin.specs.declared.instr.Operand.{Operand}
use Rattle.vg_lin.specs.declared.instr.Operand.TheVariants.{Local, Known}
use Rattle.vg_lin.specs.declared.instr.Operator.{Operator as LinOperator}
use Rattle.vg_lin.specs.declared.instr.Operator.TheVariants.{Plus as Sum, Minus as Difference, Times as Product, And as Both', Or as Either', Xor as Unlike}
use Rattle.vg_lin.specs.declared.instr.Operator.TheVariants.{Divide as Quotient, Remainder as Rest, ShiftLeft as LeftShift, ShiftRight as RightShift}
use Rattle.vg_lin.specs.declared.instr.Comparison.TheVariants.{Same}
use Rattle.vg_lin.specs.declared.instr.Plain.TheVariants.{Compute, Stop}
use Rattle.vg_lin.specs.Program.{Program as LinProgram}
use Rattle.vg_lin.specs.State.{State, value, sets}
use Rattle.vg_lin.specs.Structured.{Deciding, Caller as LinCaller}
use Rattle.vg_flatten_shapes.specs.declared.open.Truth.{Truth}
use Rattle.vg_flatten_shapes.specs.declared.open.Truth.TheVariants.{Holds}
use Rattle.vg_flatten_shapes.specs.declared.layout.Layout.{Layout}
use Rattle.vg_flatten_shapes.specs.declared.room.Room.{Room}
use Rattle.vg_flatten_shapes.specs.Shapes.{Shape, only, temp}
use Rattle.vg_flatten_shapes.specs.Blocks.{Block, Skip, One, Both, stop_where}
use Rattle.vg_flatten_shapes.specs.Made.{Made, Gives as Makes, is_zero}
use Rattle.vg_flatten_values.specs.Values.{computing, comparing, computed, operated, operated_as, bytes_of, bytes_around, may_be_zero}
use Rattle.vg_flatten_values.specs.Values.{divided, masked, shifted_left, shifted_right, bytes_for, concatenated, combined}
use Rattle.vg_flatten_shapes.proofs.Temps.{some_is, none_is_not}
use Rattle.vg_flattened.proofs.Alike.{IsFair, Alike, gives, overs, wrong}
use Rattle.vg_flattened.proofs.Related.{ArePlaced, AreAt, AreWidths, AreSame, Held, Leaves, said}
use Rattle.vg_flattened.proofs.Numbers.{low_same, same_same, quotient_same, quotient_below, remainder_same, remainder_below}
use Rattle.vg_flattened.proofs.Operating.{Computes, computes, holds_of}
use Rattle.vg_flattened.proofs.Shifting.{left_in, left_in_small, left_is, left_whole, left_wide, left_wide_small, left_masked}
use Rattle.vg_flattened.proofs.Strings.{right_string, right_nothing_left}
use Rattle.vg_flattened.proofs.Joined.{shifted_whole, concat_small, concat_above}
use Rattle.vg_flattened.proofs.Locals.{put_temp, value_stays}
use Rattle.vg_flattened.proofs.Right.{Right, linear, chooses}
use Rattle.vg_flattened.proofs.StepRight.{into_temp, computes_to, plain_goes, right_block, does_computed, right_binary, right_compared}

-- Both sides stop with the same exception.
pub stops_both : {G : Firm → Deciding State → Type 0} {L : Signal → Firm → Deciding State → Type 0} (code : ℕ) (s : Firm) (d : Deciding State)
    (w : World History) → IsFair w → Alike G L (stops code 0 s w) (over (Stops code None) d w)
stops_both {G} {L} code s d w i = subst (λ z. Alike G L (over (Stops code (kept z 0)) s w) (over (Stops code None) d w)) (sym i.running) overs

-- What a null check tests.
pub says_zero : (h : Operand) (x : ℕ) (t : State) → value h t ≡ Some x → x < 2 ^ 32 → said (Holds (is_zero h)) t ≡ Some (x == 0)
says_zero h x t e lt = holds_of Same h (Known 0) x 0 t e refl ∙ ap Some (same_same x 0 lt (omega arith))

quotient_of : (x n : ℕ) → x < 2 ^ 32 → suc n < 2 ^ 32 → Computes Divide Quotient 4 x (suc n)
quotient_of x n h g = record { z = _; packed = refl; linear = quotient_same x n h g; small = quotient_below x (suc n) h }

remainder_of : (x n : ℕ) → x < 2 ^ 32 → suc n < 2 ^ 32 → Computes Remainder Rest 4 x (suc n)
remainder_of x n h g = record { z = _; packed = refl; linear = remainder_same x n h g; small = remainder_below x (suc n) h }

-- A divisor that is known, and not 0.
not_zero : (y : Operand) (t : State) → may_be_zero y ≡ false → value y t ≡ Some 0 → ⊥
not_zero (Local i) t e h = absurd (grind arith)
not_zero (Known v) t e h = let is = some_is v 0 h in absurd (grind arith)

module _ (k : Codes) (f : FirmProgram) (m : FirmProcedure) (call : FirmCaller History) (handle : ℕ → Piece Firm History)
    (p : LinProgram) (go : LinCaller State) (lay : Layout) (r : Room) (ws : List ℕ) (wide : AreWidths r m.widths ws) where
  abbrev Right' : Shape → Made → Piece Firm History → Type 0
  Right' = Right k f m call handle p go lay r ws wide

  abbrev linear' : Block → Piece (Deciding State) History
  linear' = linear k f m call handle p go lay r ws wide

  abbrev step' : Step → Piece Firm History
  step' = firm_step k f m call handle

  -- the run stops, or goes on
  pub stopped : (t : Truth) (code : ℕ) (d : Deciding State) (w : World History) → said t d.state ≡ Some true
      → linear' (stop_where code t) d w ≡ over (Stops code None) (record d { truth = None }) w
  stopped t code d w e = chooses k f m call handle p go lay r ws wide t true (One (Stop code)) Skip d w e

  pub passed : (t : Truth) (code : ℕ) (d : Deciding State) (w : World History) → said t d.state ≡ Some false
      → linear' (stop_where code t) d w ≡ Gives (record d { truth = None }) w
  passed t code d w e = chooses k f m call handle p go lay r ws wide t false (One (Stop code)) Skip d w e

  -- ---- divisions

  right_divided : (op : Operator) (lop : LinOperator) (x y : Operand) (hs : List Operand) → ArePlaced r.locals hs
      → ((u : ℕ) → firm_computed op u 0 ≡ None) → ((u n : ℕ) → u < 2 ^ 32 → suc n < 2 ^ 32 → Computes op lop 4 u (suc n))
      → Right' (only (y ∷ x ∷ hs)) (divided r lop x y hs) (step' (Operate op))
  right_divided op lop x y hs placed none law =
      right_block k f m call handle p go lay r ws wide op x y hs (λ to. Both (if may_be_zero y then stop_where 3 (Holds (is_zero y)) else Skip)
      (division to))
      placed (λ to has u v s d w i hu hv lu lv same ok. by_zero to has u s d w i hu lu same (may_be_zero y) refl v hv lv)
    where
      division : ℕ → Block
      division to = One (Compute (record { operator = lop; width = 4; to = to; left = x; right = y }))

      does : (to : ℕ) → temp r hs ≡ Some to → (u n : ℕ) (s : Firm) (d : Deciding State) (w : World History) → IsFair w → value x d.state ≡ Some u
          → value y d.state ≡ Some (suc n) → u < 2 ^ 32 → suc n < 2 ^ 32 → AreSame lay r ws hs s d.state
          → Alike (Held lay r ws (only (Local to ∷ hs))) (Leaves lay r ws) (put_computed (firm_computed op u (suc n)) s w) (linear' (division to) d w)
      does to has u n s d w i hu hv lu lv same =
          does_computed k f m call handle p go lay r ws wide op lop 4 x y hs placed to has u (suc n) s d w i hu hv same (law u n lu lv)

      by_zero : (to : ℕ) → temp r hs ≡ Some to → (u : ℕ) (s : Firm) (d : Deciding State) (w : World History) → IsFair w → value x d.state ≡ Some u
          → u < 2 ^ 32 → AreSame lay r ws hs s d.state → (b : Bool) → may_be_zero y ≡ b → (v : ℕ) → value y d.state ≡ Some v → v < 2 ^ 32
          → Alike (Held lay r ws (only (Local to ∷ hs))) (Leaves lay r ws) (put_computed (firm_computed op u v) s w)
          (linear' (Both (if b then stop_where 3 (Holds (is_zero y)) else Skip) (division to)) d w)
      by_zero to has u s d w i hu lu same true e zero hv lv =
          subst (λ z. Alike (Held lay r ws (only (Local to ∷ hs))) (Leaves lay r ws) (put_computed z s w)
          (linear' (Both (stop_where 3 (Holds (is_zero y))) (division to)) d w)) (sym (none u))
          (subst (λ z. Alike (Held lay r ws (only (Local to ∷ hs))) (Leaves lay r ws) (stops 3 0 s w) (and_then z (linear' (division to))))
          (sym (stopped (Holds (is_zero y)) 3 d w (says_zero y 0 d.state hv lv)))
          (stops_both 3 s (record d { truth = None }) w i))
      by_zero to has u s d w i hu lu same true e (suc n) hv lv =
          subst (λ z. Alike (Held lay r ws (only (Local to ∷ hs))) (Leaves lay r ws) (put_computed (firm_computed op u (suc n)) s w)
          (and_then z (linear' (division to))))
          (sym (passed (Holds (is_zero y)) 3 d w (says_zero y (suc n) d.state hv lv ∙ ap Some (eqb-suc-zero n))))
          (does to has u n s (record d { truth = None }) w i hu hv lu lv same)
      by_zero to has u s d w i hu lu same false e zero hv lv = absurd (not_zero y d.state e hv)
      by_zero to has u s d w i hu lu same false e (suc n) hv lv = does to has u n s d w i hu hv lu lv same

  -- ---- shifts

  not_whole : (bits : ℕ) → bytes_of bits ≡ None → (bits == 32) ≡ false
  not_whole bits e = grind arith

  right_masked : (bits : ℕ) (x y : Operand) (hs : List Operand) → ArePlaced r.locals hs → bytes_of bits ≡ None → (o : Option ℕ) → bytes_around bits ≡ o
      → Right' (only (y ∷ x ∷ hs)) (masked r bits o x y hs) (step' (Operate (ShiftLeft bits)))
  right_masked bits x y hs placed none None e = ((tt, placed), λ s d w i q. by_values s d w i q s.values q.waits)
    where
      many : (n : ℕ) → bytes_around n ≡ None → (n == 32) ≡ false → nat_le n 32 ≡ false
      many n e1 e2 = grind arith

      by_values : (s : Firm) (d : Deciding State) (w : World History) → IsFair w → AreSame lay r ws (y ∷ x ∷ hs) s d.state → (vs : List ℕ)
          → AreAt (y ∷ x ∷ hs) vs d.state.locals
          → Alike (Held lay r ws (only (Known 0 ∷ hs))) (Leaves lay r ws)
          (take_from vs (λ v. taking (λ u. checked (nat_le bits 32 && nat_lt u (2 ^ bits)) (put_computed (firm_computed (ShiftLeft bits) u v)))) s w) (Gives d w)
      by_values s d w i q [] at = absurd at
      by_values s d w i q (v ∷ []) at = absurd at.1
      by_values s d w i q (v ∷ u ∷ vs) at =
          subst (λ z. Alike (Held lay r ws (only (Known 0 ∷ hs))) (Leaves lay r ws)
          (checked (z && nat_lt u (2 ^ bits)) (put_computed (firm_computed (ShiftLeft bits) u v)) (record s { values = vs }) w) (Gives d w))
          (sym (many bits e (not_whole bits none))) wrong
  right_masked bits x y hs placed none (Some width) e =
      right_block k f m call handle p go lay r ws wide (ShiftLeft bits) x y hs (λ to. Both (shift to) (mask to)) placed
      (λ to has u v s d w i hu hv lu lv same ok. does to has u v s d w i hu hv lv same)
    where
      shift : ℕ → Block
      shift to = One (Compute (record { operator = LeftShift; width = width; to = to; left = x; right = y }))

      mask : ℕ → Block
      mask to = One (Compute (record { operator = Both'; width = width; to = to; left = Local to; right = Known (2 ^ bits - 1) }))

      few : (n v : ℕ) → bytes_around n ≡ Some v → n < 8 * v
      few n v e1 = grind arith

      bytes : (n v : ℕ) → bytes_around n ≡ Some v → 256 ^ v ≡ 2 ^ (8 * v)
      bytes n v e1 = by_width v (high n v e1)
        where
          high : (n1 v1 : ℕ) → bytes_around n1 ≡ Some v1 → v1 ≤ 4
          high n1 v1 e2 = grind arith

          by_width : (z : ℕ) → z ≤ 4 → 256 ^ z ≡ 2 ^ (8 * z)
          by_width zero le = refl
          by_width (suc zero) le = refl
          by_width (suc (suc zero)) le = refl
          by_width (suc (suc (suc zero))) le = refl
          by_width (suc (suc (suc (suc zero)))) le = refl
          by_width (suc (suc (suc (suc (suc z))))) le = absurd (omega (arith, le))

      within : (n v : ℕ) → bytes_around n ≡ Some v → n ≤ 32
      within n v e1 = grind arith

      does : (to : ℕ) → temp r hs ≡ Some to → (u v : ℕ) (s : Firm) (d : Deciding State) (w : World History) → IsFair w → value x d.state ≡ Some u
          → value y d.state ≡ Some v → v < 2 ^ 32 → AreSame lay r ws hs s d.state
          → Alike (Held lay r ws (only (Local to ∷ hs))) (Leaves lay r ws) (put_computed (firm_computed (ShiftLeft bits) u v) s w)
          (linear' (Both (shift to) (mask to)) d w)
      does to has u v s d w i hu hv lv same =
          subst (λ z. Alike (Held lay r ws (only (Local to ∷ hs))) (Leaves lay r ws) (put_computed z s w) (linear' (Both (shift to) (mask to)) d w))
          (sym (left_is bits u v lv (within bits width e)))
          (subst (λ z. Alike (Held lay r ws (only (Local to ∷ hs))) (Leaves lay r ws) (put (left_in bits u v) s w) (and_then z (linear' (mask to))))
          (sym (plain_goes k f m call handle p go lay r ws wide
          (Compute (record { operator = LeftShift; width = width; to = to; left = x; right = y })) d w
          (sets to wide' d.state)
          (computes_to k f m call handle p go lay r ws wide LeftShift width to x y u v wide' d.state w.outside hu hv refl)))
          (into_temp k f m call handle p go lay r ws wide hs to (left_in bits u v)
          (Compute (record { operator = Both'; width = width; to = to; left = Local to; right = Known (2 ^ bits - 1) })) s
          (record d { state = sets to wide' d.state }) w i placed has small-in
          (record { waits = there.waits.1; kept = there.kept; none = there.none; ram = there.ram })
          (computes_to k f m call handle p go lay r ws wide Both' width to (Local to) (Known (2 ^ bits - 1)) wide' (2 ^ bits - 1) (left_in bits u v)
          (sets to wide' d.state) w.outside there.waits.0.0 refl (ap Some (left_masked bits width u v (few bits width e) (bytes bits width e))))))
        where
          wide' : ℕ
          wide' = left_wide width u v

          small-wide : left_wide width u v < 2 ^ 32
          small-wide = left_wide_small width u v (high bits width e)
            where
              high : (n1 v1 : ℕ) → bytes_around n1 ≡ Some v1 → v1 ≤ 4
              high n1 v1 e2 = grind arith

          small-in : left_in bits u v < 2 ^ 32
          small-in = left_in_small bits u v (within bits width e)

          there : AreSame lay r ws (Local to ∷ hs) (record s { values = wide' ∷ s.values }) (sets to wide' d.state)
          there = put_temp lay r m.widths ws hs s d.state to wide' wide placed has small-wide same

  right_left : (bits : ℕ) (x y : Operand) (hs : List Operand) → ArePlaced r.locals hs → (o : Option ℕ) → bytes_of bits ≡ o
      → Right' (only (y ∷ x ∷ hs)) (shifted_left r bits o x y hs) (step' (Operate (ShiftLeft bits)))
  right_left bits x y hs placed None e = right_masked bits x y hs placed e (bytes_around bits) refl
  right_left bits x y hs placed (Some width) e =
      right_binary k f m call handle p go lay r ws wide (ShiftLeft bits) LeftShift width x y hs placed
      (λ u v t hv lu lv ok. left_whole bits width u v e lv)

  -- by all bits, or more
  right_nothing : (bits : ℕ) (x : Operand) (n : ℕ) (hs : List Operand) → ArePlaced r.locals hs → nat_lt n bits ≡ false
      → Right' (only (Known n ∷ x ∷ hs)) (Makes Skip (only (Known 0 ∷ hs))) (step' (Operate (ShiftRight bits)))
  right_nothing bits x n hs placed e = ((tt, placed), λ s d w i q. by_values s d w i q s.values q.waits)
    where
      by_string : (s : Firm) (d : Deciding State) (w : World History) → IsFair w → (v u : ℕ) (vs : List ℕ)
          → AreAt (Known n ∷ x ∷ hs) (v ∷ u ∷ vs) d.state.locals → AreSame lay r ws hs (record s { values = vs }) d.state
          → (ok : Bool) → is_string bits u ≡ ok
          → Alike (Held lay r ws (only (Known 0 ∷ hs))) (Leaves lay r ws)
          (checked ok (put_computed (firm_computed (ShiftRight bits) u v)) (record s { values = vs }) w) (Gives d w)
      by_string s d w i v u vs at q false ok = wrong
      by_string s d w i v u vs at q true ok =
          subst (λ z. Alike (Held lay r ws (only (Known 0 ∷ hs))) (Leaves lay r ws) (put_computed z (record s { values = vs }) w) (Gives d w))
          (sym (right_nothing_left bits u v at.0.1 ok (ap (λ z. nat_lt z bits) (sym at.0.0) ∙ e)))
          (gives i (record { waits = ((refl, omega arith), q.waits); kept = q.kept; none = q.none; ram = q.ram }))

      by_values : (s : Firm) (d : Deciding State) (w : World History) → IsFair w → AreSame lay r ws (Known n ∷ x ∷ hs) s d.state → (vs : List ℕ)
          → AreAt (Known n ∷ x ∷ hs) vs d.state.locals
          → Alike (Held lay r ws (only (Known 0 ∷ hs))) (Leaves lay r ws)
          (take_from vs (λ v. taking (λ u. checked (is_string bits u) (put_computed (firm_computed (ShiftRight bits) u v)))) s w) (Gives d w)
      by_values s d w i q [] at = absurd at
      by_values s d w i q (v ∷ []) at = absurd at.1
      by_values s d w i q (v ∷ u ∷ vs) at =
          by_string s d w i v u vs at (record { waits = at.1.1; kept = q.kept; none = q.none; ram = q.ram }) (is_string bits u) refl

  right_right : (bits : ℕ) (x y : Operand) (hs : List Operand) → ArePlaced r.locals hs
      → Right' (only (y ∷ x ∷ hs)) (computed r RightShift (bytes_for bits) x y hs) (step' (Operate (ShiftRight bits)))
  right_right bits x y hs placed =
      right_binary k f m call handle p go lay r ws wide (ShiftRight bits) RightShift (bytes_for bits) x y hs placed
      (λ u v t hv lu lv ok. right_string bits u v lu lv ok)

  right_known : (bits : ℕ) (x : Operand) (n : ℕ) (hs : List Operand) → ArePlaced r.locals hs
      → Right' (only (Known n ∷ x ∷ hs)) (shifted_right r bits x (Known n) hs) (step' (Operate (ShiftRight bits)))
  right_known bits x n hs placed = by_amount (nat_lt n bits) refl
    where
      by_amount : (b : Bool) → nat_lt n bits ≡ b
          → Right' (only (Known n ∷ x ∷ hs)) (if b then computed r RightShift (bytes_for bits) x (Known n) hs else Makes Skip (only (Known 0 ∷ hs)))
          (step' (Operate (ShiftRight bits)))
      by_amount true e = right_right bits x (Known n) hs placed
      by_amount false e = right_nothing bits x n hs placed e

  -- ---- strings side by side

  right_concatenated : (bits : ℕ) (x y : Operand) (hs : List Operand) → ArePlaced r.locals (y ∷ x ∷ hs)
      → Right' (only (y ∷ x ∷ hs)) (concatenated r bits x y hs) (step' (Operate (Concat bits)))
  right_concatenated bits x y hs placed =
      right_block k f m call handle p go lay r ws wide (Concat bits) x y hs (λ to. Both (shift to) (sum to)) placed.1.1
      (λ to has u v s d w i hu hv lu lv same ok. does to has u v s d w i hu hv lu lv same ok)
    where
      shift : ℕ → Block
      shift to = One (Compute (record { operator = LeftShift; width = 4; to = to; left = x; right = Known bits }))

      sum : ℕ → Block
      sum to = One (Compute (record { operator = Sum; width = 4; to = to; left = Local to; right = y }))

      does : (to : ℕ) → temp r hs ≡ Some to → (u v : ℕ) (s : Firm) (d : Deciding State) (w : World History) → IsFair w → value x d.state ≡ Some u
          → value y d.state ≡ Some v → u < 2 ^ 32 → v < 2 ^ 32 → AreSame lay r ws hs s d.state → has_strings (Concat bits) u v ≡ true
          → Alike (Held lay r ws (only (Local to ∷ hs))) (Leaves lay r ws) (put (u * 2 ^ bits + v) s w) (linear' (Both (shift to) (sum to)) d w)
      does to has u v s d w i hu hv lu lv same ok =
          subst (λ z. Alike (Held lay r ws (only (Local to ∷ hs))) (Leaves lay r ws) (put (u * 2 ^ bits + v) s w) (and_then z (linear' (sum to))))
          (sym (plain_goes k f m call handle p go lay r ws wide
          (Compute (record { operator = LeftShift; width = 4; to = to; left = x; right = Known bits })) d w (sets to above d.state)
          (computes_to k f m call handle p go lay r ws wide LeftShift 4 to x (Known bits) u bits above d.state w.outside hu refl (shifted_whole bits u v ok))))
          (into_temp k f m call handle p go lay r ws wide hs to (u * 2 ^ bits + v)
          (Compute (record { operator = Sum; width = 4; to = to; left = Local to; right = y })) s (record d { state = sets to above d.state }) w i placed.1.1 has
          (concat_small bits u v ok)
          (record { waits = there.waits.1; kept = there.kept; none = there.none; ram = there.ram })
          (computes_to k f m call handle p go lay r ws wide Sum 4 to (Local to) y above v (u * 2 ^ bits + v) (sets to above d.state) w.outside there.waits.0.0
          (value_stays r hs y x v d.state to above has placed hv) (ap Some (low_same (u * 2 ^ bits + v) (concat_small bits u v ok)))))
        where
          above : ℕ
          above = u * 2 ^ bits

          there : AreSame lay r ws (Local to ∷ hs) (record s { values = above ∷ s.values }) (sets to above d.state)
          there = put_temp lay r m.widths ws hs s d.state to above wide placed.1.1 has (concat_above bits u v ok) same

  -- ---- all operators

  right_combined : (op : Operator) (x y : Operand) (hs : List Operand) → ArePlaced r.locals (y ∷ x ∷ hs) → computing op ≡ None → comparing op x y ≡ None
      → Right' (only (y ∷ x ∷ hs)) (combined r op x y hs) (step' (Operate op))
  right_combined Divide x y hs placed e c = right_divided Divide Quotient x y hs placed.1.1 (λ u. refl) quotient_of
  right_combined Remainder x y hs placed e c = right_divided Remainder Rest x y hs placed.1.1 (λ u. refl) remainder_of
  right_combined (ShiftLeft bits) x y hs placed e c = right_left bits x y hs placed.1.1 (bytes_of bits) refl
  right_combined (ShiftRight bits) x (Known n) hs placed e c = right_known bits x n hs placed.1.1
  right_combined (ShiftRight bits) x (Local j) hs placed e c = right_right bits x (Local j) hs placed.1.1
  right_combined (Concat n) x y hs placed e c = right_concatenated n x y hs placed
  right_combined Plus x y hs placed e c = none_is_not Sum (sym e)
  right_combined Minus x y hs placed e c = none_is_not Difference (sym e)
  right_combined Times x y hs placed e c = none_is_not Product (sym e)
  right_combined And x y hs placed e c = none_is_not Both' (sym e)
  right_combined Or x y hs placed e c = none_is_not Either' (sym e)
  right_combined Xor x y hs placed e c = none_is_not Unlike (sym e)
  right_combined (Less o) x y hs placed e c = none_is_not _ (sym c)
  right_combined (AtMost o) x y hs placed e c = none_is_not _ (sym c)
  right_combined (Greater o) x y hs placed e c = none_is_not _ (sym c)
  right_combined (AtLeast o) x y hs placed e c = none_is_not _ (sym c)
  right_combined Equal x y hs placed e c = none_is_not _ (sym c)
  right_combined Unequal x y hs placed e c = none_is_not _ (sym c)

  pub right_operated : (op : Operator) (hs : List Operand) → ArePlaced r.locals hs → Right' (only hs) (operated r op hs) (step' (Operate op))
  right_operated op [] placed = tt
  right_operated op (y ∷ []) placed = tt
  right_operated op (y ∷ x ∷ hs) placed = by_kind (computing op) refl (comparing op x y) refl
    where
      by_kind : (o : Option LinOperator) → computing op ≡ o → (t : Option Truth) → comparing op x y ≡ t
          → Right' (only (y ∷ x ∷ hs)) (operated_as r op o t x y hs) (step' (Operate op))
      by_kind (Some lop) e t e1 =
          right_binary k f m call handle p go lay r ws wide op lop 4 x y hs placed.1.1 (λ u v s hv lu lv ok. computes op lop u v lu lv e)
      by_kind None e (Some t) e1 = right_compared k f m call handle p go lay r ws wide op x y hs placed.1.1 t e1
      by_kind None e None e1 = right_combined op x y hs placed e e1
