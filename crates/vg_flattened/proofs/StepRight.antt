-- That each step becomes a block that does the same.
use Rattle.std.specs.Prelude.{ℕ, zero, suc, ◌+◌, ◌-◌, ◌<◌, ◌≤◌, ◌^◌, ◌%◌, Bool, true, false, ◌==◌, ◌&&◌, nat_lt, nat_le, List, [], ◌∷◌, reverse, Option, Some, None}
use Rattle.std.specs.Prelude.{slice_get, if◌then◌else◌}
use Rattle.std.proofs.Common.{◌≡◌, inl, refl, sym, ap, ◌∙◌, subst, arith}
use Rattle.vg_meaning.specs.declared.event.Event.TheVariants.{Write}
use Rattle.vg_meaning.specs.Outside.{Outside, IsRead, AreReads, with_event}
use Rattle.vg_meaning.specs.History.{History}
use Rattle.vg_meaning.specs.World.{World, Running}
use Rattle.vg_meaning.specs.Answer.{Gives, Piece, go_on}
use Rattle.vg_meaning.specs.Devices.{read_from, write_in, write_device}
use Rattle.vg_codes.specs.Codes.{Codes}
use Rattle.vg_firm.specs.declared.step.Operator.{Operator}
use Rattle.vg_firm.specs.declared.step.Prefix.{Prefix}
use Rattle.vg_firm.specs.declared.step.Prefix.TheVariants.{Negative, Not, Complement, Cut}
use Rattle.vg_firm.specs.declared.step.Step.{Step}
use Rattle.vg_firm.specs.declared.step.Step.TheVariants.{Number, This, Local as GetLocal, SetLocal, Forget, Operate, Apply, ReadDevice, WriteDevice}
use Rattle.vg_firm.specs.Program.{Procedure as FirmProcedure, Program as FirmProgram}
use Rattle.vg_firm.specs.Meaning.{State as Firm, Caller as FirmCaller, step as firm_step, put, put_computed, taking, take_from, with_found, of_width, checked, set_local}
use Rattle.vg_firm.specs.Operators.{computed as firm_computed, has_strings, applied as firm_applied, has_string}
use Rattle.vg_lin.specs.declared.instr.Operand.{Operand}
use Rattle.vg_lin.specs.declared.instr.Operand.TheVariants.{Local, Known}
use Rattle.vg_lin.specs.declared.instr.Operator.{Operator as LinOperator}
use Rattle.vg_lin.specs.declared.instr.Operator.TheVariants.{Plus as Sum, Minus as Difference, And as Both'}
use Rattle.vg_lin.specs.declared.instr.Plain.{Plain}
use Rattle.vg_lin.specs.declared.instr.Plain.TheVariants.{Copy, Compute, ReadDevice as ReadsDevice, WriteDevice as WritesDevice}
use Rattle.vg_lin.specs.declared.instr.Comparison.TheVariants.{Same}
use Rattle.vg_lin.specs.Values.{low, computed as lin_computed}
use Rattle.vg_lin.specs.Program.{Program as LinProgram}
use Rattle.vg_lin.specs.Steps.{Goes}
use Rattle.vg_lin.specs.State.{State, value, using, sets, computes as lin_computes, plain, reads_from}
use Rattle.vg_lin.specs.Structured.{Deciding, Caller as LinCaller, lifted}
use Rattle.vg_flatten_shapes.specs.declared.fault.Fault.TheVariants.{NotTaken}
use Rattle.vg_flatten_shapes.specs.declared.open.Truth.{Truth}
use Rattle.vg_flatten_shapes.specs.declared.open.Truth.TheVariants.{Holds}
use Rattle.vg_flatten_shapes.specs.declared.layout.Layout.{Layout}
use Rattle.vg_flatten_shapes.specs.declared.room.Room.{Room}
use Rattle.vg_flatten_shapes.specs.Shapes.{Shape, only, is_free, temp}
use Rattle.vg_flatten_shapes.specs.Blocks.{Block, Skip, One}
use Rattle.vg_flatten_shapes.specs.Made.{Made, Gives as Makes, Refused, by_temp, is_zero}
use Rattle.vg_flatten_values.specs.Values.{bytes_around, bytes_for, cut_bits, comparing, computed, bytes_of, applied}
use Rattle.vg_flatten_steps.specs.Locals.{at_local, get_receiver, put_number, get_local, set_local as sets_local, forgotten, read, written}
use Rattle.vg_flatten_values.specs.Values.{cut}
use Rattle.vg_flattened.proofs.Alike.{IsFair, Alike, gives, overs, wrong}
use Rattle.vg_flattened.proofs.Related.{ArePlaced, AreAt, AreWidths, IsReceiver, AreSame, Held, Leaves}
use Rattle.vg_flattened.proofs.Numbers.{low_small, low_within, opposite_same, same_same}
use Rattle.vg_flatten_shapes.proofs.Temps.{some_is, none_is_not}
use Rattle.vg_flattened.proofs.Locals.{value_of_home, put_temp, placed_temp}
use Rattle.vg_flattened.proofs.Free.{homes_beside, kept_behind_set}
use Rattle.vg_flattened.proofs.Operating.{Computes, Compares, compares, holds_of}
use Rattle.vg_flattened.proofs.Strings.{string_below, masked_is, masked_small, complement_is, complement_below}
use Rattle.vg_flattened.proofs.Right.{Right, linear}
use Rattle.std.proofs.Math.Nat.{mod-eq_of_lt, lt_of_lt_of_le}
use Rattle.std.proofs.Math.Pow.{pow_mono}

module _ (k : Codes) (f : FirmProgram) (m : FirmProcedure) (call : FirmCaller History) (handle : ℕ → Piece Firm History)
    (p : LinProgram) (go : LinCaller State) (lay : Layout) (r : Room) (ws : List ℕ) (wide : AreWidths r m.widths ws) where
  abbrev Right' : Shape → Made → Piece Firm History → Type 0
  Right' = Right k f m call handle p go lay r ws wide

  abbrev linear' : Block → Piece (Deciding State) History
  linear' = linear k f m call handle p go lay r ws wide

  abbrev step' : Step → Piece Firm History
  step' = firm_step k f m call handle

  -- behind a plain instruction that goes on
  pub plain_goes : (i : Plain) (d : Deciding State) (w : World History) (t : State) → plain p i d.state w.outside ≡ Goes t w.outside
      → linear' (One i) d w ≡ Gives (record d { state = t }) w
  plain_goes i d w t e = ap (λ z. lifted z d w) e

  -- a number goes to a temporary
  pub into_temp : (hs : List Operand) (to z : ℕ) (i : Plain) (s : Firm) (d : Deciding State) (w : World History) → IsFair w → ArePlaced r.locals hs
      → temp r hs ≡ Some to → z < 2 ^ 32 → AreSame lay r ws hs s d.state → plain p i d.state w.outside ≡ Goes (sets to z d.state) w.outside
      → Alike (Held lay r ws (only (Local to ∷ hs))) (Leaves lay r ws) (put z s w) (linear' (One i) d w)
  into_temp hs to z i s d w fair placed e small same goes =
      subst (λ x. Alike (Held lay r ws (only (Local to ∷ hs))) (Leaves lay r ws) (put z s w) x) (sym (plain_goes i d w (sets to z d.state) goes))
      (gives fair (put_temp lay r m.widths ws hs s d.state to z wide placed e small same))

  pub computes_to : (op : LinOperator) (width to : ℕ) (a b : Operand) (x y z : ℕ) (t : State) (o : Outside) → value a t ≡ Some x → value b t ≡ Some y
      → lin_computed op width x y ≡ Some z
      → plain p (Compute (record { operator = op; width = width; to = to; left = a; right = b })) t o ≡ Goes (sets to z t) o
  computes_to op width to a b x y z t o ha hb e =
      ap (λ q. using q (λ x1. using (value b t) (lin_computes (record { operator = op; width = width; to = to; left = a; right = b }) t o x1))) ha
      ∙ ap (λ q. using q (lin_computes (record { operator = op; width = width; to = to; left = a; right = b }) t o x)) hb
      ∙ ap (λ q. using q (λ z1. Goes (sets to z1 t) o)) e

  -- ---- numbers and locals

  pub right_number : (v : ℕ) (hs : List Operand) → ArePlaced r.locals hs → Right' (only hs) (put_number v hs) (step' (Number v))
  right_number v hs placed = by_size (nat_lt v (2 ^ 32)) refl
    where
      by_size : (b : Bool) → nat_lt v (2 ^ 32) ≡ b
          → Right' (only hs) (if b then Makes Skip (only (Known v ∷ hs)) else Refused NotTaken) (step' (Number v))
      by_size true e = (
        (tt, placed),
        λ s d w i q. gives i (record { waits = ((refl, grind arith), q.waits); kept = q.kept; none = q.none; ram = q.ram }),
      )
      by_size false e = tt

  at_local_right : (j : ℕ) (hs : List Operand) (g : Piece Firm History) → ArePlaced r.locals hs
      → ((s : Firm) (d : Deciding State) (w : World History) → IsFair w → j < r.locals → AreSame lay r ws hs s d.state
      → Alike (Held lay r ws (only (Local j ∷ hs))) (Leaves lay r ws) (g s w) (Gives d w))
      → Right' (only hs) (at_local r j hs) g
  at_local_right j hs g placed does = by_size (nat_lt j r.locals) refl
    where
      by_size : (b : Bool) → nat_lt j r.locals ≡ b → Right' (only hs) (if b then Makes Skip (only (Local j ∷ hs)) else Refused NotTaken) g
      by_size true e = let lt : j < r.locals = grind arith in ((inl lt, placed), λ s d w i q. does s d w i lt q)
      by_size false e = tt

  pub right_local : (j : ℕ) (hs : List Operand) → ArePlaced r.locals hs → Right' (only hs) (get_local r j hs) (step' (GetLocal j))
  right_local j hs placed = at_local_right (r.receiver + j) hs (step' (GetLocal j)) placed (λ s d w i lt q. by_value s d w i lt q (slice_get s.locals j) refl)
    where
      by_value : (s : Firm) (d : Deciding State) (w : World History) → IsFair w → r.receiver + j < r.locals → AreSame lay r ws hs s d.state
          → (o : Option ℕ) → slice_get s.locals j ≡ o
          → Alike (Held lay r ws (only (Local (r.receiver + j) ∷ hs))) (Leaves lay r ws) (with_found o put s w) (Gives d w)
      by_value s d w i lt q (Some v) e = gives i (record { waits = (q.kept.locals j v lt e, q.waits); kept = q.kept; none = q.none; ram = q.ram })
      by_value s d w i lt q None e = wrong

  pub right_receiver : (hs : List Operand) → ArePlaced r.locals hs → Right' (only hs) (get_receiver r hs) (step' This)
  right_receiver hs placed = by_room (r.receiver == 0) refl
    where
      by_self : (s : Firm) (d : Deciding State) (w : World History) → IsFair w → AreSame lay r ws hs s d.state → (o : Option ℕ) → s.self ≡ o
          → Alike (Held lay r ws (only (Local 0 ∷ hs))) (Leaves lay r ws) (with_found o put s w) (Gives d w)
      by_self s d w i q None e = wrong
      by_self s d w i q (Some n) e =
          let there = subst (λ z. IsReceiver r z d.state.locals) e q.kept.receiver in
          gives i (record { waits = ((there.1, there.2), q.waits); kept = q.kept; none = q.none; ram = q.ram })

      by_none : r.receiver ≡ 0 → (s : Firm) (d : Deciding State) (w : World History) → IsFair w → AreSame lay r ws hs s d.state → (o : Option ℕ) → s.self ≡ o
          → Alike (Held lay r ws (only (Known 0 ∷ hs))) (Leaves lay r ws) (with_found o put s w) (Gives d w)
      by_none none s d w i q None e = wrong
      by_none none s d w i q (Some n) e =
          let there = subst (λ z. IsReceiver r z d.state.locals) e q.kept.receiver in
          let lt = there.0.0 in absurd (omega (arith, lt, none))

      by_room : (b : Bool) → (r.receiver == 0) ≡ b
          → Right' (only hs) (if b then Makes Skip (only (Known 0 ∷ hs)) else at_local r 0 hs) (step' This)
      by_room true e =
          let none : r.receiver ≡ 0 = grind arith in ((tt, placed), λ s d w i q. by_none none s d w i q s.self refl)
      by_room false e = at_local_right 0 hs (step' This) placed (λ s d w i lt q. by_self s d w i q s.self refl)

  pub right_set : (j : ℕ) (hs : List Operand) → ArePlaced r.locals hs → Right' (only hs) (sets_local r j hs) (step' (SetLocal j))
  right_set j [] placed = tt
  right_set j (h ∷ hs) placed = by_size (nat_lt to r.locals && is_free to (reverse hs)) refl
    where
      to : ℕ
      to = r.receiver + j

      by_fit : (s : Firm) (d : Deciding State) (w : World History) → IsFair w → is_free to (reverse hs) ≡ true → (v : ℕ) (vs : List ℕ)
          → AreAt (h ∷ hs) (v ∷ vs) d.state.locals → AreSame lay r ws (h ∷ hs) s d.state → (width : ℕ) → slice_get m.widths j ≡ Some width
          → (b : Bool) → nat_lt v (256 ^ width) ≡ b
          → Alike (Held lay r ws (only hs)) (Leaves lay r ws) (checked b (set_local j v) (record s { values = vs }) w) (linear' (One (Copy to h)) d w)
      by_fit s d w i free v vs at q width has true e =
          subst (λ x. Alike (Held lay r ws (only hs)) (Leaves lay r ws) (set_local j v (record s { values = vs }) w) x)
          (sym (plain_goes (Copy to h) d w (sets to v d.state) (ap (λ z. using z (λ x. Goes (sets to x d.state) w.outside)) (value_of_home h v d.state at.0.0))))
          (gives i (record {
            waits = homes_beside to v hs vs d.state.locals free at.1;
            kept = kept_behind_set r ws s.self s.locals d.state.locals j wider.0 v wider.1 (fits width wider.0 v wider.2 e) at.0.1 q.kept;
            none = q.none;
            ram = q.ram;
          }))
        where
          wider : (u : ℕ) × (slice_get ws (r.receiver + j) ≡ Some u) × (width ≤ u)
          wider = wide.locals j width has

          lt_of : (x y : ℕ) → nat_lt x y ≡ true → x < y
          lt_of x y l = grind arith

          fits : (n u x : ℕ) → n ≤ u → nat_lt x (256 ^ n) ≡ true → low u x ≡ x
          fits n u x le lt = low_within n u x le (lt_of x (256 ^ n) lt)
      by_fit s d w i free v vs at q width has false e = wrong

      by_width : (s : Firm) (d : Deciding State) (w : World History) → IsFair w → is_free to (reverse hs) ≡ true → (v : ℕ) (vs : List ℕ)
          → AreAt (h ∷ hs) (v ∷ vs) d.state.locals → AreSame lay r ws (h ∷ hs) s d.state → (o : Option ℕ) → slice_get m.widths j ≡ o
          → Alike (Held lay r ws (only hs)) (Leaves lay r ws) (with_found o (λ width. of_width width (set_local j) v) (record s { values = vs }) w)
          (linear' (One (Copy to h)) d w)
      by_width s d w i free v vs at q (Some width) has = by_fit s d w i free v vs at q width has (nat_lt v (256 ^ width)) refl
      by_width s d w i free v vs at q None has = wrong

      by_values : (s : Firm) (d : Deciding State) (w : World History) → IsFair w → is_free to (reverse hs) ≡ true → AreSame lay r ws (h ∷ hs) s d.state
          → (vs : List ℕ) → AreAt (h ∷ hs) vs d.state.locals
          → Alike (Held lay r ws (only hs)) (Leaves lay r ws) (take_from vs (λ v. with_found (slice_get m.widths j)
          (λ width. of_width width (set_local j) v)) s w)
          (linear' (One (Copy to h)) d w)
      by_values s d w i free q [] at = absurd at
      by_values s d w i free q (v ∷ vs) at = by_width s d w i free v vs at q (slice_get m.widths j) refl

      by_size : (b : Bool) → (nat_lt to r.locals && is_free to (reverse hs)) ≡ b
          → Right' (only (h ∷ hs)) (if b then Makes (One (Copy to h)) (only hs) else Refused NotTaken) (step' (SetLocal j))
      by_size true e = let free : is_free to (reverse hs) ≡ true = grind arith in (placed.1, λ s d w i q. by_values s d w i free q s.values q.waits)
      by_size false e = tt

  pub right_forget : (hs : List Operand) → ArePlaced r.locals hs → Right' (only hs) (forgotten hs) (step' Forget)
  right_forget [] placed = tt
  right_forget (h ∷ hs) placed = (placed.1, λ s d w i q. by_values s d w i q s.values q.waits)
    where
      by_values : (s : Firm) (d : Deciding State) (w : World History) → IsFair w → AreSame lay r ws (h ∷ hs) s d.state → (vs : List ℕ)
          → AreAt (h ∷ hs) vs d.state.locals → Alike (Held lay r ws (only hs)) (Leaves lay r ws) (take_from vs (λ v. go_on) s w) (Gives d w)
      by_values s d w i q [] at = absurd at
      by_values s d w i q (v ∷ vs) at = gives i (record { waits = at.1; kept = q.kept; none = q.none; ram = q.ram })

  -- ---- operators

  -- an operator of two numbers becomes a block
  pub right_block : (op : Operator) (x y : Operand) (hs : List Operand) (b : ℕ → Block) → ArePlaced r.locals hs
      → ((to : ℕ) → temp r hs ≡ Some to → (u v : ℕ) (s : Firm) (d : Deciding State) (w : World History) → IsFair w
      → value x d.state ≡ Some u → value y d.state ≡ Some v → u < 2 ^ 32 → v < 2 ^ 32 → AreSame lay r ws hs s d.state → has_strings op u v ≡ true
      → Alike (Held lay r ws (only (Local to ∷ hs))) (Leaves lay r ws) (put_computed (firm_computed op u v) s w) (linear' (b to) d w))
      → Right' (only (y ∷ x ∷ hs)) (by_temp (temp r hs) (λ to. Makes (b to) (only (Local to ∷ hs)))) (step' (Operate op))
  right_block op x y hs b placed law = by_room (temp r hs) refl
    where
      by_strings : (to : ℕ) → temp r hs ≡ Some to → (s : Firm) (d : Deciding State) (w : World History) → IsFair w → (v u : ℕ) (vs : List ℕ)
          → AreAt (y ∷ x ∷ hs) (v ∷ u ∷ vs) d.state.locals → AreSame lay r ws hs (record s { values = vs }) d.state → (ok : Bool) → has_strings op u v ≡ ok
          → Alike (Held lay r ws (only (Local to ∷ hs))) (Leaves lay r ws) (checked ok (put_computed (firm_computed op u v)) (record s { values = vs }) w)
          (linear' (b to) d w)
      by_strings to has s d w i v u vs at q true e =
          law to has u v (record s { values = vs }) d w i (value_of_home x u d.state at.1.0.0) (value_of_home y v d.state at.0.0) at.1.0.1 at.0.1 q e
      by_strings to has s d w i v u vs at q false e = wrong

      by_values : (to : ℕ) → temp r hs ≡ Some to → (s : Firm) (d : Deciding State) (w : World History) → IsFair w → AreSame lay r ws (y ∷ x ∷ hs) s d.state
          → (vs : List ℕ) → AreAt (y ∷ x ∷ hs) vs d.state.locals
          → Alike (Held lay r ws (only (Local to ∷ hs))) (Leaves lay r ws)
          (take_from vs (λ v. taking (λ u. checked (has_strings op u v) (put_computed (firm_computed op u v)))) s w)
          (linear' (b to) d w)
      by_values to has s d w i q [] at = absurd at
      by_values to has s d w i q (v ∷ []) at = absurd at.1
      by_values to has s d w i q (v ∷ u ∷ vs) at =
          by_strings to has s d w i v u vs at (record { waits = at.1.1; kept = q.kept; none = q.none; ram = q.ram }) (has_strings op u v) refl

      by_room : (o : Option ℕ) → temp r hs ≡ o → Right' (only (y ∷ x ∷ hs)) (by_temp o (λ to. Makes (b to) (only (Local to ∷ hs)))) (step' (Operate op))
      by_room (Some to) has = (placed_temp r hs to has placed, λ s d w i q. by_values to has s d w i q s.values q.waits)
      by_room None has = tt

  -- one computation does it
  pub does_computed : (op : Operator) (lop : LinOperator) (width : ℕ) (x y : Operand) (hs : List Operand) → ArePlaced r.locals hs
      → (to : ℕ) → temp r hs ≡ Some to → (u v : ℕ) (s : Firm) (d : Deciding State) (w : World History) → IsFair w
      → value x d.state ≡ Some u → value y d.state ≡ Some v → AreSame lay r ws hs s d.state → Computes op lop width u v
      → Alike (Held lay r ws (only (Local to ∷ hs))) (Leaves lay r ws) (put_computed (firm_computed op u v) s w)
      (linear' (One (Compute (record { operator = lop; width = width; to = to; left = x; right = y }))) d w)
  does_computed op lop width x y hs placed to has u v s d w i hu hv same c =
      subst (λ z. Alike (Held lay r ws (only (Local to ∷ hs))) (Leaves lay r ws) (put_computed z s w)
      (linear' (One (Compute (record { operator = lop; width = width; to = to; left = x; right = y }))) d w)) (sym c.packed)
      (into_temp hs to c.z (Compute (record { operator = lop; width = width; to = to; left = x; right = y })) s d w i placed has c.small same
      (computes_to lop width to x y u v c.z d.state w.outside hu hv c.linear))

  pub right_binary : (op : Operator) (lop : LinOperator) (width : ℕ) (x y : Operand) (hs : List Operand) → ArePlaced r.locals hs
      → ((u v : ℕ) (t : State) → value y t ≡ Some v → u < 2 ^ 32 → v < 2 ^ 32 → has_strings op u v ≡ true → Computes op lop width u v)
      → Right' (only (y ∷ x ∷ hs)) (computed r lop width x y hs) (step' (Operate op))
  right_binary op lop width x y hs placed law =
      right_block op x y hs (λ to. One (Compute (record { operator = lop; width = width; to = to; left = x; right = y }))) placed
      (λ to has u v s d w i hu hv lu lv same ok. does_computed op lop width x y hs placed to has u v s d w i hu hv same (law u v d.state hv lu lv ok))

  pub right_compared : (op : Operator) (x y : Operand) (hs : List Operand) → ArePlaced r.locals hs → (t : Truth) → comparing op x y ≡ Some t
      → Right' (only (y ∷ x ∷ hs)) (Makes Skip (record { truth = Some t; homes = hs })) (step' (Operate op))
  right_compared op x y hs placed t e = (placed, λ s d w i q. by_values s d w i q s.values q.waits)
    where
      by_result : (s : Firm) (d : Deciding State) (w : World History) → IsFair w → (b a : ℕ) (vs : List ℕ)
          → AreSame lay r ws hs (record s { values = vs }) d.state
          → Compares op t a b d.state
          → Alike (Held lay r ws (record { truth = Some t; homes = hs })) (Leaves lay r ws) (put_computed (firm_computed op a b) (record s { values = vs }) w)
          (Gives d w)
      by_result s d w i b a vs q c =
          subst (λ z. Alike (Held lay r ws (record { truth = Some t; homes = hs })) (Leaves lay r ws) (put_computed z (record s { values = vs }) w) (Gives d w))
          (sym c.packed)
          (gives i (record { b = c.b; vs = vs; newest = refl; says = c.linear; rest = q }))

      by_strings : (s : Firm) (d : Deciding State) (w : World History) → IsFair w → (b a : ℕ) (vs : List ℕ) → (ok : Bool)
          → Alike (Held lay r ws (record { truth = Some t; homes = hs })) (Leaves lay r ws) (put_computed (firm_computed op a b) (record s { values = vs }) w)
          (Gives d w)
          → Alike (Held lay r ws (record { truth = Some t; homes = hs })) (Leaves lay r ws)
          (checked ok (put_computed (firm_computed op a b)) (record s { values = vs }) w) (Gives d w)
      by_strings s d w i b a vs true h = h
      by_strings s d w i b a vs false h = wrong

      by_values : (s : Firm) (d : Deciding State) (w : World History) → IsFair w → AreSame lay r ws (y ∷ x ∷ hs) s d.state
          → (vs : List ℕ) → AreAt (y ∷ x ∷ hs) vs d.state.locals
          → Alike (Held lay r ws (record { truth = Some t; homes = hs })) (Leaves lay r ws) (take_from vs (λ b. taking (λ a. checked (has_strings op a b)
          (put_computed (firm_computed op a b)))) s w) (Gives d w)
      by_values s d w i q [] at = absurd at
      by_values s d w i q (b ∷ []) at = absurd at.1
      by_values s d w i q (b ∷ a ∷ vs) at =
          by_strings s d w i b a vs (has_strings op a b) (by_result s d w i b a vs (record { waits = at.1.1; kept = q.kept; none = q.none; ram = q.ram })
          (compares x y a b d.state (value_of_home x a d.state at.1.0.0) (value_of_home y b d.state at.0.0) at.1.0.1 at.0.1 op t e))

  -- one number becomes another, where it is one of those that are asked for
  right_unary : (op : LinOperator) (width : ℕ) (a b h : Operand) (g : Prefix) (hs : List Operand) → ArePlaced r.locals hs
      → ((x : ℕ) (t : State) → x < 2 ^ 32 → has_string g x ≡ true → value h t ≡ Some x → (y z : ℕ) × (value a t ≡ Some y) × (value b t ≡ Some z) ×
      (lin_computed op width y z ≡ Some (firm_applied g x)) × (firm_applied g x < 2 ^ 32))
      → Right' (only (h ∷ hs)) (computed r op width a b hs) (step' (Apply g))
  right_unary op width a b h g hs placed law = by_room (temp r hs) refl
    where
      compute : ℕ → Block
      compute to = One (Compute (record { operator = op; width = width; to = to; left = a; right = b }))

      by_law : (to : ℕ) → temp r hs ≡ Some to → (s : Firm) (d : Deciding State) (w : World History) → IsFair w → (x : ℕ) (vs : List ℕ)
          → AreSame lay r ws hs (record s { values = vs }) d.state
          → (y z : ℕ) × (value a d.state ≡ Some y) × (value b d.state ≡ Some z) × (lin_computed op width y z ≡ Some (firm_applied g x))
          × (firm_applied g x < 2 ^ 32)
          → Alike (Held lay r ws (only (Local to ∷ hs))) (Leaves lay r ws) (put (firm_applied g x) (record s { values = vs }) w) (linear' (compute to) d w)
      by_law to has s d w i x vs same (y, z, ea, eb, e, small) =
          into_temp hs to (firm_applied g x) (Compute (record { operator = op; width = width; to = to; left = a; right = b }))
          (record s { values = vs }) d w i placed has small same
          (computes_to op width to a b y z (firm_applied g x) d.state w.outside ea eb e)

      by_string : (to : ℕ) → temp r hs ≡ Some to → (s : Firm) (d : Deciding State) (w : World History) → IsFair w → (x : ℕ) (vs : List ℕ)
          → AreAt (h ∷ hs) (x ∷ vs) d.state.locals → AreSame lay r ws hs (record s { values = vs }) d.state → (ok : Bool) → has_string g x ≡ ok
          → Alike (Held lay r ws (only (Local to ∷ hs))) (Leaves lay r ws) (checked ok (put (firm_applied g x)) (record s { values = vs }) w)
          (linear' (compute to) d w)
      by_string to has s d w i x vs at same true e = by_law to has s d w i x vs same (law x d.state at.0.1 e (value_of_home h x d.state at.0.0))
      by_string to has s d w i x vs at same false e = wrong

      by_values : (to : ℕ) → temp r hs ≡ Some to → (s : Firm) (d : Deciding State) (w : World History) → IsFair w → AreSame lay r ws (h ∷ hs) s d.state
          → (vs : List ℕ) → AreAt (h ∷ hs) vs d.state.locals
          → Alike (Held lay r ws (only (Local to ∷ hs))) (Leaves lay r ws) (take_from vs (λ x. checked (has_string g x) (put (firm_applied g x))) s w)
          (linear' (compute to) d w)
      by_values to has s d w i q [] at = absurd at
      by_values to has s d w i q (x ∷ vs) at =
          by_string to has s d w i x vs at (record { waits = at.1; kept = q.kept; none = q.none; ram = q.ram }) (has_string g x) refl

      by_room : (o : Option ℕ) → temp r hs ≡ o → Right' (only (h ∷ hs)) (by_temp o (λ to. Makes (compute to) (only (Local to ∷ hs)))) (step' (Apply g))
      by_room (Some to) has = (placed_temp r hs to has placed, λ s d w i q. by_values to has s d w i q s.values q.waits)
      by_room None has = tt

  -- a number of at most 32 bits is not cut by as many, or more
  right_uncut : (bits : ℕ) (h : Operand) (hs : List Operand) → ArePlaced r.locals (h ∷ hs) → 32 ≤ bits
      → Right' (only (h ∷ hs)) (Makes Skip (only (h ∷ hs))) (step' (Apply (Cut bits)))
  right_uncut bits h hs placed le = (placed, λ s d w i q. by_values s d w i q s.values refl q.waits)
    where
      same : (x : ℕ) → x < 2 ^ 32 → x % 2 ^ bits ≡ x
      same x lt = mod-eq_of_lt (lt_of_lt_of_le lt (pow_mono le))

      by_values : (s : Firm) (d : Deciding State) (w : World History) → IsFair w → AreSame lay r ws (h ∷ hs) s d.state → (vs : List ℕ) → s.values ≡ vs
          → AreAt (h ∷ hs) vs d.state.locals
          → Alike (Held lay r ws (only (h ∷ hs))) (Leaves lay r ws) (take_from vs (λ x. put (x % 2 ^ bits)) s w) (Gives d w)
      by_values s d w i q [] e at = absurd at
      by_values s d w i q (x ∷ vs) e at =
          subst (λ z. Alike (Held lay r ws (only (h ∷ hs))) (Leaves lay r ws) (put z (record s { values = vs }) w) (Gives d w)) (sym (same x at.0.1))
          (gives i (record { waits = at; kept = q.kept; none = q.none; ram = q.ram }))

  right_cut_bits : (bits : ℕ) (h : Operand) (hs : List Operand) → ArePlaced r.locals (h ∷ hs) → (o : Option ℕ) → bytes_around bits ≡ o
      → Right' (only (h ∷ hs)) (cut_bits r bits o h hs) (step' (Apply (Cut bits)))
  right_cut_bits bits h hs placed None e = right_uncut bits h hs placed (many bits e)
    where
      many : (n : ℕ) → bytes_around n ≡ None → 32 ≤ n
      many n e1 = grind arith
  right_cut_bits bits h hs placed (Some width) e =
      right_unary Both' width h (Known (2 ^ bits - 1)) h (Cut bits) hs placed.1
      (λ x t small ok at. (x, 2 ^ bits - 1, at, refl, ap Some (masked_is bits width x e), masked_small bits width x e))

  right_cut : (bits : ℕ) (h : Operand) (hs : List Operand) → ArePlaced r.locals (h ∷ hs) → (o : Option ℕ) → bytes_of bits ≡ o
      → Right' (only (h ∷ hs)) (cut r bits o h hs) (step' (Apply (Cut bits)))
  right_cut bits h hs placed None e = right_cut_bits bits h hs placed (bytes_around bits) refl
  right_cut bits h hs placed (Some width) e =
      right_unary Sum width h (Known 0) h (Cut bits) hs placed.1
      (λ x t small ok at. (x, 0, at, refl, ap Some (cuts bits width x e), below bits width x e))
    where
      cuts : (n v x : ℕ) → bytes_of n ≡ Some v → low v (x + 0) ≡ x % 2 ^ n
      cuts n v x e1 = by_8 (n == 8) refl e1
        where
          same : (n1 v1 : ℕ) → n ≡ n1 → v1 ≡ v → low v1 (x + 0) ≡ x % 2 ^ n1 → low v (x + 0) ≡ x % 2 ^ n
          same n1 v1 en ev eq = subst (λ z. low z (x + 0) ≡ x % 2 ^ n) ev (subst (λ z. low v1 (x + 0) ≡ x % 2 ^ z) (sym en) eq)

          by_32 : (b : Bool) → (n == 32) ≡ b → (if b then Some 4 else None) ≡ Some v → low v (x + 0) ≡ x % 2 ^ n
          by_32 true h1 e2 = same 32 4 (grind arith) (some_is 4 v e2) (omega arith)
          by_32 false h1 e2 = none_is_not v e2

          by_24 : (b : Bool) → (n == 24) ≡ b → (if b then Some 3 else if n == 32 then Some 4 else None) ≡ Some v → low v (x + 0) ≡ x % 2 ^ n
          by_24 true h1 e2 = same 24 3 (grind arith) (some_is 3 v e2) (omega arith)
          by_24 false h1 e2 = by_32 (n == 32) refl e2

          by_16 : (b : Bool) → (n == 16) ≡ b → (if b then Some 2 else if n == 24 then Some 3 else if n == 32 then Some 4 else None) ≡ Some v
              → low v (x + 0) ≡ x % 2 ^ n
          by_16 true h1 e2 = same 16 2 (grind arith) (some_is 2 v e2) (omega arith)
          by_16 false h1 e2 = by_24 (n == 24) refl e2

          by_8 : (b : Bool) → (n == 8) ≡ b
              → (if b then Some 1 else if n == 16 then Some 2 else if n == 24 then Some 3 else if n == 32 then Some 4 else None) ≡ Some v
              → low v (x + 0) ≡ x % 2 ^ n
          by_8 true h1 e2 = same 8 1 (grind arith) (some_is 1 v e2) (omega arith)
          by_8 false h1 e2 = by_16 (n == 16) refl e2

      widths : (n v : ℕ) → bytes_of n ≡ Some v → v ≤ 4
      widths n v e1 = grind arith

      below : (n v x : ℕ) → bytes_of n ≡ Some v → x % 2 ^ n < 2 ^ 32
      below n v x e1 = subst (λ z. z < 2 ^ 32) (cuts n v x e1) (low_below v (x + 0) (widths n v e1))
        where
          low_below : (u y : ℕ) → u ≤ 4 → low u y < 2 ^ 32
          low_below zero y le = omega arith
          low_below (suc zero) y le = omega arith
          low_below (suc (suc zero)) y le = omega arith
          low_below (suc (suc (suc zero))) y le = omega arith
          low_below (suc (suc (suc (suc zero)))) y le = omega arith
          low_below (suc (suc (suc (suc (suc u))))) y le = absurd (omega arith)

  right_not : (h : Operand) (hs : List Operand) → ArePlaced r.locals hs
      → Right' (only (h ∷ hs)) (Makes Skip (record { truth = Some (Holds (is_zero h)); homes = hs })) (step' (Apply Not))
  right_not h hs placed = (placed, λ s d w i q. by_values s d w i q s.values q.waits)
    where
      by_values : (s : Firm) (d : Deciding State) (w : World History) → IsFair w → AreSame lay r ws (h ∷ hs) s d.state → (vs : List ℕ)
          → AreAt (h ∷ hs) vs d.state.locals
          → Alike (Held lay r ws (record { truth = Some (Holds (is_zero h)); homes = hs })) (Leaves lay r ws) (take_from vs (λ x. put (firm_applied Not x)) s w)
          (Gives d w)
      by_values s d w i q [] at = absurd at
      by_values s d w i q (x ∷ vs) at =
          gives i (record {
            b = x == 0;
            vs = vs;
            newest = refl;
            says = holds_of Same h (Known 0) x 0 d.state (value_of_home h x d.state at.0.0) refl ∙ ap Some (same_same x 0 at.0.1 (omega arith));
            rest = record { waits = at.1; kept = q.kept; none = q.none; ram = q.ram };
          })

  pub right_applied : (op : Prefix) (hs : List Operand) → ArePlaced r.locals hs → Right' (only hs) (applied r op hs) (step' (Apply op))
  right_applied Not [] placed = tt
  right_applied Negative [] placed = tt
  right_applied (Cut bits) [] placed = tt
  right_applied (Complement bits) [] placed = tt
  right_applied Not (h ∷ hs) placed = right_not h hs placed.1
  right_applied Negative (h ∷ hs) placed =
      right_unary Difference 4 (Known 0) h h Negative hs placed.1
      (λ x t small ok at. (
        0,
        x,
        refl,
        at,
        ap Some (sym (opposite_same x small)),
        subst (λ z. z < 2 ^ 32) (sym (opposite_same x small)) (low_small (0 +
            (256 ^ 4 - low 4 x))),
      ))
  right_applied (Cut bits) (h ∷ hs) placed = right_cut bits h hs placed (bytes_of bits) refl
  right_applied (Complement bits) (h ∷ hs) placed = by_width (nat_le bits 32) refl
    where
      by_values : nat_le bits 32 ≡ false → (s : Firm) (d : Deciding State) (w : World History) → IsFair w → AreSame lay r ws (h ∷ hs) s d.state → (vs : List ℕ)
          → AreAt (h ∷ hs) vs d.state.locals
          → Alike (Held lay r ws (only (Known 0 ∷ hs))) (Leaves lay r ws)
          (take_from vs (λ x. checked (nat_le bits 32 && nat_lt x (2 ^ bits)) (put (firm_applied (Complement bits) x))) s w) (Gives d w)
      by_values e s d w i q [] at = absurd at
      by_values e s d w i q (x ∷ vs) at =
          subst (λ z. Alike (Held lay r ws (only (Known 0 ∷ hs))) (Leaves lay r ws)
          (checked (z && nat_lt x (2 ^ bits)) (put (firm_applied (Complement bits) x)) (record s { values = vs }) w) (Gives d w)) (sym e) wrong

      by_width : (b : Bool) → nat_le bits 32 ≡ b
          → Right' (only (h ∷ hs)) (if b then computed r Difference (bytes_for bits) (Known (2 ^ bits - 1)) h hs else Makes Skip (only (Known 0 ∷ hs)))
          (step' (Apply (Complement bits)))
      by_width false e = ((tt, placed.1), λ s d w i q. by_values e s d w i q s.values q.waits)
      by_width true e =
          right_unary Difference (bytes_for bits) (Known (2 ^ bits - 1)) h h (Complement bits) hs placed.1
          (λ x t small ok at. (2 ^ bits - 1, x, refl, at, ap Some (complement_is bits x (grind arith) (string_below bits x ok)), complement_below bits x (grind arith)))

  -- ---- devices

  pub right_read : (address : ℕ) (hs : List Operand) → ArePlaced r.locals hs → Right' (only hs) (read r address hs) (step' (ReadDevice address))
  right_read address hs placed = by_room (temp r hs) refl
    where
      by_reads : (to : ℕ) → temp r hs ≡ Some to → (s : Firm) (d : Deciding State) (w : World History) → w.phase ≡ Running → AreSame lay r ws hs s d.state
          → (vs : List ℕ) → AreReads vs
          → Alike (Held lay r ws (only (Local to ∷ hs))) (Leaves lay r ws) (read_from Running vs address put s w)
          (lifted (reads_from vs to address d.state w.outside) d w)
      by_reads to has s d w e q [] are = overs
      by_reads to has s d w e q (v ∷ vs) are =
          gives (record { running = e; reads = are.1 })
          (put_temp lay r m.widths ws hs s d.state to v wide placed has (byte v are.0) q)
        where
          byte : (x : ℕ) → IsRead x → x < 2 ^ 32
          byte x lt = omega arith

      by_room : (o : Option ℕ) → temp r hs ≡ o
          → Right' (only hs) (by_temp o (λ to. Makes (One (ReadsDevice to address)) (only (Local to ∷ hs)))) (step' (ReadDevice address))
      by_room (Some to) has = (
        placed_temp r hs to has placed,
        λ s d w i q. subst (λ z. Alike (Held lay r ws (only (Local to ∷ hs))) (Leaves lay r ws) (read_from z w.outside.reads address put s w)
            (linear' (One (ReadsDevice to address)) d w)) (sym i.running) (by_reads to has s d w i.running q w.outside.reads i.reads),
      )
      by_room None has = tt

  pub right_written : (address : ℕ) (hs : List Operand) → ArePlaced r.locals hs → Right' (only hs) (written address hs) (step' (WriteDevice address))
  right_written address [] placed = tt
  right_written address (h ∷ hs) placed = (placed.1, λ s d w i q. by_values s d w i q s.values q.waits)
    where
      by_fit : (s : Firm) (d : Deciding State) (w : World History) → IsFair w → (v : ℕ) (vs : List ℕ) → AreAt (h ∷ hs) (v ∷ vs) d.state.locals
          → AreSame lay r ws (h ∷ hs) s d.state → (b : Bool) → nat_lt v (256 ^ 1) ≡ b
          → Alike (Held lay r ws (only hs)) (Leaves lay r ws) (checked b (write_device address v) (record s { values = vs }) w) (linear' (One
          (WritesDevice address h)) d w)
      by_fit s d w i v vs at q true e =
          subst (λ z. Alike (Held lay r ws (only hs)) (Leaves lay r ws) (write_in z address v (record s { values = vs }) w) (linear' (One
          (WritesDevice address h)) d w)) (sym i.running)
          (subst (λ z. Alike (Held lay r ws (only hs)) (Leaves lay r ws) (write_in Running address v (record s { values = vs }) w) z) (sym goes)
          (gives (record { running = i.running; reads = i.reads }) (record { waits = at.1; kept = q.kept; none = q.none; ram = q.ram })))
        where
          byte : low 1 v ≡ v
          byte = grind arith

          goes : linear' (One (WritesDevice address h)) d w ≡ Gives d (record w { outside = with_event w.outside (Write address v) })
          goes =
              ap (λ z. lifted (using z (λ x. Goes d.state (with_event w.outside (Write address (low 1 x))))) d w) (value_of_home h v d.state at.0.0)
              ∙ ap (λ z. Gives d (record w { outside = with_event w.outside (Write address z) })) byte
      by_fit s d w i v vs at q false e = wrong

      by_values : (s : Firm) (d : Deciding State) (w : World History) → IsFair w → AreSame lay r ws (h ∷ hs) s d.state → (vs : List ℕ)
          → AreAt (h ∷ hs) vs d.state.locals
          → Alike (Held lay r ws (only hs)) (Leaves lay r ws) (take_from vs (of_width 1 (write_device address)) s w)
          (linear' (One (WritesDevice address h)) d w)
      by_values s d w i q [] at = absurd at
      by_values s d w i q (v ∷ vs) at = by_fit s d w i v vs at q (nat_lt v (256 ^ 1)) refl
