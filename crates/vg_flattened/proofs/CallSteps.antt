-- That the steps that call, and those that make delegates, become blocks that do the same.
use Rattle.std.specs.Prelude.{ℕ, zero, suc, ◌+◌, ◌*◌, ◌/◌, ◌%◌, ◌<◌, ◌≤◌, ◌^◌, Bool, true, false, ◌==◌, ◌&&◌, nat_lt, nat_le, List, [], ◌∷◌, ◌++◌, length, reverse, take, drop, Option, Some, None}
use Rattle.std.specs.Prelude.{slice_get, if◌then◌else◌}
use Rattle.std.proofs.Common.{◌≡◌, ◌⊎◌, inl, inr, refl, sym, ap, ◌∙◌, subst, arith}
use Rattle.std.proofs.lemmas.List.{length-take-le}
use Rattle.vg_meaning.specs.History.{History}
use Rattle.vg_meaning.specs.World.{World}
use Rattle.vg_meaning.specs.Outside.{Outside}
use Rattle.vg_meaning.specs.Answer.{Wrong, Piece, over, and_then}
use Rattle.vg_codes.specs.Codes.{Codes, AreCodes, delegate, code_in, receiver_in}
use Rattle.vg_codes.specs.Dispatch.{dispatched}
use Rattle.vg_firm.specs.declared.step.Step.{Step}
use Rattle.vg_firm.specs.declared.step.Step.TheVariants.{Bind, BindFor, Call, CallFor, CallValue}
use Rattle.vg_firm.specs.Program.{Procedure as FirmProcedure, Program as FirmProgram}
use Rattle.vg_firm.specs.Meaning.{State as Firm, Caller as FirmCaller, step as firm_step, with_found, not_null, checked, fits, put, put_delegate, take_from}
use Rattle.vg_firm.specs.Session.{arguments}
use Rattle.vg_lin.specs.declared.instr.Operand.{Operand}
use Rattle.vg_lin.specs.declared.instr.Operand.TheVariants.{Local, Known}
use Rattle.vg_lin.specs.declared.instr.Operator.TheVariants.{Plus as Sum, ShiftLeft as LeftShift, ShiftRight as RightShift}
use Rattle.vg_lin.specs.declared.instr.Plain.TheVariants.{Compute, Find, CodeOf}
use Rattle.vg_lin.specs.declared.instr.Callee.TheVariants.{Procedure as ByNumber, Code as ByCode}
use Rattle.vg_lin.specs.Values.{low}
use Rattle.vg_lin.specs.Program.{Program as LinProgram}
use Rattle.vg_lin.specs.Steps.{Goes}
use Rattle.vg_lin.specs.State.{State, value, using, sets, plain}
use Rattle.vg_lin.specs.declared.instr.Target.{Target}
use Rattle.vg_lin.specs.Meaning.{with_code, gives_to}
use Rattle.vg_lin.specs.Structured.{Deciding, Caller as LinCaller}
use Rattle.vg_flatten_shapes.specs.declared.layout.Layout.{Layout}
use Rattle.vg_flatten_shapes.specs.declared.layout.Passing.{Passing}
use Rattle.vg_flatten_shapes.specs.declared.layout.Width.{Width}
use Rattle.vg_flatten_shapes.specs.declared.layout.Width.TheVariants.{Two as Two'}
use Rattle.vg_flatten_shapes.specs.Widths.{bytes_of, result_bytes}
use Rattle.vg_flatten_shapes.specs.declared.room.Room.{Room}
use Rattle.vg_flatten_shapes.specs.Shapes.{Shape, only, taken, temp}
use Rattle.vg_flatten_shapes.specs.Blocks.{Block, One, Both}
use Rattle.vg_flatten_shapes.specs.Made.{Made, Gives as Makes, by_temp}
use Rattle.vg_flatten_steps.specs.Calls.{in_widths, passing, with_taken, passing_of, with_receiver, resulting, called, passing_found, found_and_called, called_on, called_for, parted_and_called, called_by, called_value, bound, found_and_bound, bound_for}
use Rattle.vg_flatten.specs.Columns.{FlashStands}
use Rattle.vg_flatten.specs.Flattened.{receivers, own_params, all_widths, result_width, IsPassing}
use Rattle.vg_flatten.proofs.Whole.{own_long, all_long}
use Rattle.vg_flattened.proofs.Alike.{IsFair, Alike, wrong}
use Rattle.vg_flattened.proofs.Related.{ArePlaced, AreAt, AreWidths, AreSame, Held, Leaves}
use Rattle.vg_flattened.proofs.Numbers.{low_same}
use Rattle.vg_flattened.proofs.Locals.{value_of_home, put_temp, placed_temp, value_stays}
use Rattle.vg_flattened.proofs.Passed.{IsNarrow, Valued, bytes_in_widths, all_bytes_long, valued_homes, valued_long, valued_take, valued_reverse, split_below, without, placed_drop, at_drop}
use Rattle.vg_flattened.proofs.Right.{Right, linear}
use Rattle.vg_flattened.proofs.StepRight.{plain_goes, into_temp, computes_to}
use Rattle.vg_flattened.proofs.NullRight.{checks_before}
use Rattle.vg_flattened.proofs.ColumnRight.{null_then}
use Rattle.vg_flattened.proofs.CallRight.{ArePassed, Enters, AlikeCalls, TakesIn, Lands, right_passing, in_temp, in_none, found_taken}

-- The numbers that are passed where a procedure is called on no receiver.
abbrev numbers : Bool → List ℕ → List ℕ
numbers true vs = 0 ∷ vs
numbers false vs = vs

numbers_valued : (b : Bool) (xs : List Operand) (vs : List ℕ) (t : State) → Valued xs vs t → Valued (with_receiver b xs) (numbers b vs) t
numbers_valued true xs vs t h = (refl, omega arith, h)
numbers_valued false xs vs t h = h

numbers_passed : (b : Bool) (vs : List ℕ) → ArePassed b None vs (numbers b vs) × (length (numbers b vs) ≡ receivers b + length vs)
numbers_passed true vs = (inl (0, refl), omega arith)
numbers_passed false vs = (refl, omega arith)

numbers_narrow : (b : Bool) (vs : List ℕ) → IsNarrow b (numbers b vs)
numbers_narrow true vs = omega arith
numbers_narrow false vs = tt

receiver_long : (b : Bool) (xs : List Operand) → length (with_receiver b xs) ≡ receivers b + length xs
receiver_long true xs = omega arith
receiver_long false xs = omega arith

below : {A : Type 0} (xs : List A) (i : ℕ) (x : A) → slice_get xs i ≡ Some x → i < length xs
below [] i x e = absurd (is_none e)
  where
    is_none : {B : Type 0} {y : B} → None ≡ Some y → ⊥
    is_none h = grind arith
below (y ∷ xs) zero x e = omega arith
below (y ∷ xs) (suc i) x e = let h = below xs i x e in omega (arith, h)

module _ (k : Codes) (f : FirmProgram) (m : FirmProcedure) (call : FirmCaller History) (handle : ℕ → Piece Firm History)
    (p : LinProgram) (go : LinCaller State) (lay : Layout) (r : Room) (ws : List ℕ) (wide : AreWidths r m.widths ws)
    (flash : FlashStands lay f p) (calls : AlikeCalls lay f p call go)
    (receives : (q : ℕ) (mq : FirmProcedure) → slice_get f.procedures q ≡ Some mq → IsPassing mq (passing_of (slice_get lay.passing q)))
    (codes : p.codes ≡ k) (codes_are : AreCodes (length f.procedures) k) (dispatches : p.dispatches ≡ f.dispatches) where
  abbrev Right' : Shape → Made → Piece Firm History → Type 0
  Right' = Right k f m call handle p go lay r ws wide

  abbrev linear' : Block → Piece (Deciding State) History
  linear' = linear k f m call handle p go lay r ws wide

  abbrev step' : Step → Piece Firm History
  step' = firm_step k f m call handle

  right_taken : (count : ℕ) (hs : List Operand) (make : List Operand → List Operand → Made) (g : Piece Firm History)
      → (count ≤ length hs → Right' (only hs) (make (reverse (take count hs)) (drop count hs)) g) → Right' (only hs) (with_taken (taken count hs) make) g
  right_taken count hs make g h = by_count (nat_le count (length hs)) refl
    where
      le_of : (a b : ℕ) → nat_le a b ≡ true → a ≤ b
      le_of a b e = grind arith

      by_count : (b : Bool) → nat_le count (length hs) ≡ b
          → Right' (only hs) (with_taken (if b then Some (record { args = reverse (take count hs); rest = drop count hs }) else None) make) g
      by_count true e = h (le_of count (length hs) e)
      by_count false e = tt

  -- the arguments in a state, the first of them first
  args_valued : (count : ℕ) (hs : List Operand) (vs : List ℕ) (t : State) → AreAt hs vs t.locals
      → Valued (reverse (take count hs)) (reverse (take count vs)) t
  args_valued count hs vs t at = valued_reverse (take count hs) (take count vs) t (valued_take count hs vs t (valued_homes hs vs t at))

  -- ---- a call by number

  -- what a procedure takes of a call as the layout says that it is called
  takes_as : (q count : ℕ) (to : Option Target) (args : List ℕ) (os : List Operand) → length os ≡ length args
      → ((mq : FirmProcedure) → slice_get f.procedures q ≡ Some mq → gives_to (result_width mq) to ≡ true)
      → TakesIn k f m call handle p go lay r ws wide calls q count None args (numbers (passing_of (slice_get lay.passing q)).receives args)
      (in_widths (passing_of (slice_get lay.passing q)).widths (with_receiver (passing_of (slice_get lay.passing q)).receives os)) to
  takes_as q count to args os many ok mq e fit cm long may =
      record {
        passed = subst (λ z. ArePassed z None args (numbers x.receives args)) is.receives (numbers_passed x.receives args).0;
        long = (numbers_passed x.receives args).1 ∙ ap (λ z. receivers z + length args) is.receives;
        narrow = subst (λ z. IsNarrow z (numbers x.receives args)) is.receives (numbers_narrow x.receives args);
        widths = sym is.widths ∙ sym (bytes_in_widths x.widths (with_receiver x.receives os) as_many);
        result = ok mq e;
      }
    where
      x : Passing
      x = passing_of (slice_get lay.passing q)

      is : IsPassing mq x
      is = receives q mq e

      as_many : length x.widths ≡ length (with_receiver x.receives os)
      as_many =
          let a = all_bytes_long x.widths in
          let b = ap length is.widths in
          let c = length-take-le (own_params mq) (all_widths mq) le in
          let d1 = receiver_long x.receives os in
          let o = ap receivers is.receives in
          omega (arith, a, b, c, d1, o, many, long, cm)
        where
          le : own_params mq ≤ length (all_widths mq)
          le = let l = all_long mq in let o = own_long mq.receives mq.widths in let h = fit.params in omega (arith, l, o, h)

  right_resulting : (q count : ℕ) (hs : List Operand) → ArePlaced r.locals hs → (o : Option Width)
      → result_bytes o ≡ result_bytes (passing_of (slice_get lay.passing q)).result
      → Right' (only hs) (resulting r (ByNumber q) o
      (in_widths (passing_of (slice_get lay.passing q)).widths (with_receiver (passing_of (slice_get lay.passing q)).receives (reverse (take count hs))))
      (drop count hs)) (call q count None)
  right_resulting q count hs placed o eo = by_result o eo
    where
      rest : List Operand
      rest = drop count hs

      placed_rest : ArePlaced r.locals rest
      placed_rest = placed_drop r.locals count hs placed

      x : Passing
      x = passing_of (slice_get lay.passing q)

      does : (to : Option Target) (home : Operand) → Lands k f m call handle p go lay r ws wide calls q to home rest
          → ((mq : FirmProcedure) → slice_get f.procedures q ≡ Some mq → gives_to (result_width mq) to ≡ true)
          → (s : Firm) (d : Deciding State) (w : World History) → IsFair w → AreSame lay r ws hs s d.state
          → Alike (Held lay r ws (only (home ∷ rest))) (Leaves lay r ws) (call q count None s w)
          (linear' (passing (ByNumber q) to (in_widths x.widths (with_receiver x.receives (reverse (take count hs))))) d w)
      does to home lands ok s d w i same =
          right_passing k f m call handle p go lay r ws wide calls (ByNumber q) q count to home None x.widths
          (with_receiver x.receives (reverse (take count hs))) rest lands s d w i (numbers x.receives (arguments count s))
          (numbers_valued x.receives (reverse (take count hs)) (arguments count s) d.state (args_valued count hs s.values d.state same.waits))
          (λ u. refl)
          (takes_as q count to (arguments count s) (reverse (take count hs))
          (valued_long (reverse (take count hs)) (arguments count s) d.state (args_valued count hs s.values d.state same.waits)) ok)
          (at_drop count hs s.values d.state.locals same.waits) same.kept same.none same.ram

      by_result : (o : Option Width) → result_bytes o ≡ result_bytes x.result
          → Right' (only hs) (resulting r (ByNumber q) o (in_widths x.widths (with_receiver x.receives (reverse (take count hs)))) rest) (call q count None)
      by_result None eo = (
        (tt, placed_rest),
        does None (Known 0) (λ mq e v fit small ok s2 t same. record {
          waits = ((sym (in_none k f m call handle p go lay r ws wide calls mq v fit (sym (receives q mq e).result ∙ sym eo)), small), same.waits);
          kept = same.kept;
          none = same.none;
          ram = same.ram;
        }) (λ mq e. refl),
      )
      by_result (Some w) eo = by_room (temp r rest) refl
        where
          by_room : (t : Option ℕ) → temp r rest ≡ t
              → Right' (only hs) (by_temp t (λ to. Makes (passing (ByNumber q) (Some (record { width = bytes_of w; local = to }))
              (in_widths x.widths (with_receiver x.receives (reverse (take count hs))))) (only (Local to ∷ rest)))) (call q count None)
          by_room None has = tt
          by_room (Some to) has = (
            placed_temp r rest to has placed_rest,
            does (Some (record { width = bytes_of w; local = to })) (Local to)
                (in_temp k f m call handle p go lay r ws wide calls q (bytes_of w) to rest placed_rest has)
                (λ mq e. same_is (bytes_of w) (result_width mq) (eo ∙ (receives q mq e).result)),
          )
            where
              same_is : (a b : ℕ) → a ≡ b → (a == b) ≡ true
              same_is a b e = grind arith

  pub right_called : (q count : ℕ) (hs : List Operand) → ArePlaced r.locals hs → Right' (only hs) (called lay r q count hs) (step' (Call q count))
  right_called q count hs placed =
      right_taken count hs _ (call q count None) (λ le. right_resulting q count hs placed (passing_of (slice_get lay.passing q)).result refl)

  -- ---- a call on a receiver

  found : (d to n q : ℕ) (h : Operand) (t : State) (o : Outside) → value h t ≡ Some n → dispatched f.dispatches d n ≡ Some q
      → plain p (Find d to h) t o ≡ Goes (sets to (k.code q) t) o
  found d to n q h t o hv e =
      ap (λ z. using z (λ n1. using (dispatched p.dispatches d n1) (λ q1. Goes (sets to (p.codes.code q1) t) o))) hv
      ∙ ap (λ z. using (dispatched z d n) (λ q1. Goes (sets to (p.codes.code q1) t) o)) dispatches
      ∙ ap (λ z. using z (λ q1. Goes (sets to (p.codes.code q1) t) o)) e
      ∙ ap (λ z. Goes (sets to (z.code q) t) o) codes

  code_small : (q : ℕ) → q < length f.procedures → k.code q < 2 ^ 32
  code_small q lt = let h = codes_are.two_bytes q lt in omega (arith, h)

  called_code : (q v : ℕ) → v ≡ k.code q → q < length f.procedures → with_code p (Some v) ≡ Some q
  called_code q v e lt =
      ap (λ z. z.at_code (code_in v)) codes ∙ ap k.at_code (ap code_in e ∙ whole (k.code q) (codes_are.two_bytes q lt)) ∙ codes_are.back q lt
    where
      whole : (a : ℕ) → a < 65536 → a % 65536 ≡ a
      whole a l = omega (arith, l)

  -- what waits below the arguments
  abbrev without_receiver : (count : ℕ) → Firm → Firm
  without_receiver count s = record s { values = take count s.values ++ drop (count + 1) s.values }

  pub right_called_for : (d count : ℕ) (hs : List Operand) → ArePlaced r.locals hs → Right' (only hs) (called_for r d count hs) (step' (CallFor d count))
  right_called_for d count hs placed = by_code (temp r hs) refl
    where
      rest : List Operand
      rest = drop (count + 1) hs

      placed_rest : ArePlaced r.locals rest
      placed_rest = placed_drop r.locals (count + 1) hs placed

      next : ℕ → Piece Firm History
      next = λ n. with_found (dispatched f.dispatches d n) (λ q. call q count (Some n))

      does : (code : ℕ) → temp r hs ≡ Some code → (h : Operand) (xs : List Operand) → reverse (take (count + 1) hs) ≡ h ∷ xs
          → (to : ℕ) → temp r rest ≡ Some to → (s : Firm) (dd : Deciding State) (w : World History) → IsFair w → AreSame lay r ws hs s dd.state
          → (n : ℕ) (us : List ℕ) → reverse (take (count + 1) s.values) ≡ n ∷ us → count + 1 ≤ length s.values
          → value h dd.state ≡ Some n → (q : ℕ) → dispatched f.dispatches d n ≡ Some q
          → Alike (Held lay r ws (only (Local to ∷ rest))) (Leaves lay r ws) (call q count (Some n) (without_receiver count s) w)
          (linear' (Both (One (Find d code h)) (passing_found (ByCode (Local code)) to (h ∷ xs))) dd w)
      does code has_code h xs eh to has s dd w i same n us en le hv q eq =
          by_call (calls q count (Some n) (without_receiver count s) w dd.state.ram i same.ram)
        where
          t1 : State
          t1 = sets code (k.code q) dd.state

          args_are : arguments count (without_receiver count s) ≡ us
          args_are = ap reverse (without count s.values (omega (arith, le))).0 ∙ (split_below count s.values n us le en).1

          by_range : q < length f.procedures
              → Alike (Held lay r ws (only (Local to ∷ rest))) (Leaves lay r ws) (call q count (Some n) (without_receiver count s) w)
              (linear' (Both (One (Find d code h)) (passing_found (ByCode (Local code)) to (h ∷ xs))) dd w)
          by_range lt =
              subst (λ z. Alike (Held lay r ws (only (Local to ∷ rest))) (Leaves lay r ws) (call q count (Some n) (without_receiver count s) w)
              (and_then z (linear' (passing_found (ByCode (Local code)) to (h ∷ xs)))))
              (sym (plain_goes k f m call handle p go lay r ws wide (Find d code h) dd w t1 (found d code n q h dd.state w.outside hv eq)))
              (right_passing k f m call handle p go lay r ws wide calls (ByCode (Local code)) q count (Some (record { width = 4; local = to })) (Local to)
              (Some n) (Two' ∷ []) (h ∷ xs) rest (in_temp k f m call handle p go lay r ws wide calls q 4 to rest placed_rest has)
              (without_receiver count s) (record dd { state = t1 }) w i (n ∷ us)
              valued1
              (λ u. ap (with_code p) there.waits.0.0 ∙ called_code q (k.code q) refl lt)
              (found_taken k f m call handle p go lay r ws wide calls q count to n (arguments count (without_receiver count s)) us h xs
              (valued_long xs us t1 valued1.2) (sym args_are))
              (subst (λ z. AreAt rest z t1.locals) (sym (without count s.values (omega (arith, le))).1) (at_drop (count + 1) hs s.values t1.locals there.waits.1))
              there.kept there.none there.ram)
            where
              there : AreSame lay r ws (Local code ∷ hs) (record s { values = k.code q ∷ s.values }) t1
              there = put_temp lay r m.widths ws hs s dd.state code (k.code q) wide placed has_code (code_small q lt) same

              valued1 : Valued (h ∷ xs) (n ∷ us) t1
              valued1 =
                  subst (λ z. Valued z (n ∷ us) t1) eh
                  (subst (λ z. Valued (reverse (take (count + 1) hs)) z t1) en (args_valued (count + 1) hs s.values t1 there.waits.1))

          by_call : (call q count (Some n) (without_receiver count s) w ≡ over Wrong (without_receiver count s) w)
              ⊎ Enters lay f p call go q count (Some n) (without_receiver count s) w dd.state.ram
              → Alike (Held lay r ws (only (Local to ∷ rest))) (Leaves lay r ws) (call q count (Some n) (without_receiver count s) w)
              (linear' (Both (One (Find d code h)) (passing_found (ByCode (Local code)) to (h ∷ xs))) dd w)
          by_call (inl e) =
              subst (λ z. Alike (Held lay r ws (only (Local to ∷ rest))) (Leaves lay r ws) z
              (linear' (Both (One (Find d code h)) (passing_found (ByCode (Local code)) to (h ∷ xs))) dd w)) (sym e) wrong
          by_call (inr en1) = by_range (below f.procedures q en1.packed en1.is_packed)

      by_found : (code : ℕ) → temp r hs ≡ Some code → (h : Operand) (xs : List Operand) → reverse (take (count + 1) hs) ≡ h ∷ xs
          → (to : ℕ) → temp r rest ≡ Some to → (s : Firm) (dd : Deciding State) (w : World History) → IsFair w → AreSame lay r ws hs s dd.state
          → (n : ℕ) (us : List ℕ) → reverse (take (count + 1) s.values) ≡ n ∷ us → count + 1 ≤ length s.values
          → value h dd.state ≡ Some n → (o : Option ℕ) → dispatched f.dispatches d n ≡ o
          → Alike (Held lay r ws (only (Local to ∷ rest))) (Leaves lay r ws) (with_found o (λ q. call q count (Some n)) (without_receiver count s) w)
          (linear' (Both (One (Find d code h)) (passing_found (ByCode (Local code)) to (h ∷ xs))) dd w)
      by_found code has_code h xs eh to has s dd w i same n us en le hv None eq = wrong
      by_found code has_code h xs eh to has s dd w i same n us en le hv (Some q) eq = does code has_code h xs eh to has s dd w i same n us en le hv q eq

      by_values : (code : ℕ) → temp r hs ≡ Some code → (h : Operand) (xs : List Operand) → reverse (take (count + 1) hs) ≡ h ∷ xs
          → (to : ℕ) → temp r rest ≡ Some to → (s : Firm) (dd : Deciding State) (w : World History) → IsFair w → AreSame lay r ws hs s dd.state
          → count + 1 ≤ length s.values → (vs : List ℕ) → reverse (take (count + 1) s.values) ≡ vs → Valued (h ∷ xs) vs dd.state
          → Alike (Held lay r ws (only (Local to ∷ rest))) (Leaves lay r ws)
          (with_found (slice_get s.values count) (not_null next) (without_receiver count s) w) (linear' (found_and_called r d to code h xs) dd w)
      by_values code has_code h xs eh to has s dd w i same le [] ev valued = absurd valued
      by_values code has_code h xs eh to has s dd w i same le (n ∷ us) ev valued =
          subst (λ z. Alike (Held lay r ws (only (Local to ∷ rest))) (Leaves lay r ws) (with_found z (not_null next) (without_receiver count s) w)
          (linear' (found_and_called r d to code h xs) dd w)) (sym (split_below count s.values n us le ev).0)
          (checks_before k f m call handle p go lay r ws wide h n next (linear' (Both (One (Find d code h)) (passing_found (ByCode (Local code)) to (h ∷ xs))))
          (without_receiver count s) dd w i valued.0 valued.1 same.kept
          (λ c pos. by_found code has_code h xs eh to has s (record dd { truth = c }) w i same n us ev le valued.0 (dispatched f.dispatches d n) refl))

      by_room : (code : ℕ) → temp r hs ≡ Some code → count + 1 ≤ length hs → (h : Operand) (xs : List Operand) → reverse (take (count + 1) hs) ≡ h ∷ xs
          → (o : Option ℕ) → temp r rest ≡ o
          → Right' (only hs) (by_temp o (λ to. Makes (found_and_called r d to code h xs) (only (Local to ∷ rest)))) (step' (CallFor d count))
      by_room code has_code le h xs eh None has = tt
      by_room code has_code le h xs eh (Some to) has = (
        placed_temp r rest to has placed_rest,
        λ s dd w i same. by_values code has_code h xs eh to has s dd w i same
            (let l = valued_long hs s.values dd.state (valued_homes hs s.values dd.state same.waits) in omega (arith, l, le))
            (reverse (take (count + 1) s.values)) refl
            (subst (λ z. Valued z (reverse (take (count + 1) s.values)) dd.state) eh (args_valued (count + 1) hs s.values dd.state same.waits)),
      )

      by_args : (code : ℕ) → temp r hs ≡ Some code → count + 1 ≤ length hs → (xs : List Operand) → reverse (take (count + 1) hs) ≡ xs
          → Right' (only hs) (called_on r d code xs rest) (step' (CallFor d count))
      by_args code has_code le [] eh = tt
      by_args code has_code le (h ∷ xs) eh = by_room code has_code le h xs eh (temp r rest) refl

      by_code : (o : Option ℕ) → temp r hs ≡ o
          → Right' (only hs) (by_temp o (λ code. with_taken (taken (count + 1) hs) (called_on r d code))) (step' (CallFor d count))
      by_code None has_code = tt
      by_code (Some code) has_code =
          right_taken (count + 1) hs (called_on r d code) (step' (CallFor d count)) (λ le. by_args code has_code le (reverse (take (count + 1) hs)) refl)

  -- ---- a call of a delegate

  pub right_called_value : (count : ℕ) (hs : List Operand) → ArePlaced r.locals hs → Right' (only hs) (called_value r count hs) (step' (CallValue count))
  right_called_value count hs placed = by_receiver (temp r hs) refl
    where
      rest : List Operand
      rest = drop (count + 1) hs

      placed_rest : ArePlaced r.locals rest
      placed_rest = placed_drop r.locals (count + 1) hs placed

      next : ℕ → Piece Firm History
      next = λ v. with_found (k.at_code (code_in v)) (λ q. call q count (Some (receiver_in v)))

      part : (receiver : ℕ) → Operand → Block
      part receiver h = One (Compute (record { operator = RightShift; width = 4; to = receiver; left = h; right = Known 16 }))

      by_found : (receiver : ℕ) → temp r hs ≡ Some receiver → (h : Operand) (xs : List Operand) → reverse (take (count + 1) hs) ≡ h ∷ xs
          → (to : ℕ) → temp r rest ≡ Some to → (s : Firm) (dd : Deciding State) (w : World History) → IsFair w → AreSame lay r ws hs s dd.state
          → (v : ℕ) (us : List ℕ) → reverse (take (count + 1) s.values) ≡ v ∷ us → count + 1 ≤ length s.values
          → value h dd.state ≡ Some v → v < 2 ^ 32 → (o : Option ℕ) → k.at_code (code_in v) ≡ o
          → Alike (Held lay r ws (only (Local to ∷ rest))) (Leaves lay r ws) (with_found o (λ q. call q count (Some (receiver_in v))) (without_receiver count s) w)
          (linear' (Both (part receiver h) (passing_found (ByCode h) to (Local receiver ∷ xs))) dd w)
      by_found receiver has_r h xs eh to has s dd w i same v us en le hv small None eq = wrong
      by_found receiver has_r h xs eh to has s dd w i same v us en le hv small (Some q) eq =
          subst (λ z. Alike (Held lay r ws (only (Local to ∷ rest))) (Leaves lay r ws) (call q count (Some (receiver_in v)) (without_receiver count s) w)
          (and_then z (linear' (passing_found (ByCode h) to (Local receiver ∷ xs)))))
          (sym (plain_goes k f m call handle p go lay r ws wide
          (Compute (record { operator = RightShift; width = 4; to = receiver; left = h; right = Known 16 })) dd w t1
          (computes_to k f m call handle p go lay r ws wide RightShift 4 receiver h (Known 16) v 16 (receiver_in v) dd.state w.outside hv refl
          (ap (λ z. Some (z / 2 ^ 16)) (low_same v small)))))
          (right_passing k f m call handle p go lay r ws wide calls (ByCode h) q count (Some (record { width = 4; local = to })) (Local to)
          (Some (receiver_in v)) (Two' ∷ []) (Local receiver ∷ xs) rest (in_temp k f m call handle p go lay r ws wide calls q 4 to rest placed_rest has)
          (without_receiver count s) (record dd { state = t1 }) w i (receiver_in v ∷ us)
          (there.waits.0.0, there.waits.0.1, valued1.2)
          (λ u. ap (with_code p) (value_waiting h u ∙ valued1.0) ∙ ap (λ z. z.at_code (code_in v)) codes ∙ eq)
          (found_taken k f m call handle p go lay r ws wide calls q count to (receiver_in v) (arguments count (without_receiver count s)) us
          (Local receiver) xs (valued_long xs us t1 valued1.2) (sym args_are))
          (subst (λ z. AreAt rest z t1.locals) (sym (without count s.values (omega (arith, le))).1) (at_drop (count + 1) hs s.values t1.locals there.waits.1))
          there.kept there.none there.ram)
        where
          t1 : State
          t1 = sets receiver (receiver_in v) dd.state

          few : (a : ℕ) → a < 2 ^ 32 → a / 65536 < 2 ^ 32
          few a l = omega (arith, l)

          there : AreSame lay r ws (Local receiver ∷ hs) (record s { values = receiver_in v ∷ s.values }) t1
          there = put_temp lay r m.widths ws hs s dd.state receiver (receiver_in v) wide placed has_r (few v small) same

          valued1 : Valued (h ∷ xs) (v ∷ us) t1
          valued1 =
              subst (λ z. Valued z (v ∷ us) t1) eh
              (subst (λ z. Valued (reverse (take (count + 1) hs)) z t1) en (args_valued (count + 1) hs s.values t1 there.waits.1))

          args_are : arguments count (without_receiver count s) ≡ us
          args_are = ap reverse (without count s.values (omega (arith, le))).0 ∙ (split_below count s.values v us le en).1

          value_waiting : (a : Operand) (u : _) → value a (record t1 { waiting = u }) ≡ value a t1
          value_waiting (Local j) u = refl
          value_waiting (Known c) u = refl

      by_values : (receiver : ℕ) → temp r hs ≡ Some receiver → (h : Operand) (xs : List Operand) → reverse (take (count + 1) hs) ≡ h ∷ xs
          → (to : ℕ) → temp r rest ≡ Some to → (s : Firm) (dd : Deciding State) (w : World History) → IsFair w → AreSame lay r ws hs s dd.state
          → count + 1 ≤ length s.values → (vs : List ℕ) → reverse (take (count + 1) s.values) ≡ vs → Valued (h ∷ xs) vs dd.state
          → Alike (Held lay r ws (only (Local to ∷ rest))) (Leaves lay r ws)
          (with_found (slice_get s.values count) (not_null next) (without_receiver count s) w) (linear' (parted_and_called to receiver h xs) dd w)
      by_values receiver has_r h xs eh to has s dd w i same le [] ev valued = absurd valued
      by_values receiver has_r h xs eh to has s dd w i same le (v ∷ us) ev valued =
          subst (λ z. Alike (Held lay r ws (only (Local to ∷ rest))) (Leaves lay r ws) (with_found z (not_null next) (without_receiver count s) w)
          (linear' (parted_and_called to receiver h xs) dd w)) (sym (split_below count s.values v us le ev).0)
          (null_then k f m call handle p go lay r ws wide flash h v next (linear' (Both (part receiver h) (passing_found (ByCode h) to (Local receiver ∷ xs))))
          (without_receiver count s) dd w i valued.0 valued.1
          (λ pos. by_found receiver has_r h xs eh to has s (record dd { truth = None }) w i same v us ev le valued.0 valued.1 (k.at_code (code_in v)) refl))

      by_room : (receiver : ℕ) → temp r hs ≡ Some receiver → count + 1 ≤ length hs → (h : Operand) (xs : List Operand)
          → reverse (take (count + 1) hs) ≡ h ∷ xs → (o : Option ℕ) → temp r rest ≡ o
          → Right' (only hs) (by_temp o (λ to. Makes (parted_and_called to receiver h xs) (only (Local to ∷ rest)))) (step' (CallValue count))
      by_room receiver has_r le h xs eh None has = tt
      by_room receiver has_r le h xs eh (Some to) has = (
        placed_temp r rest to has placed_rest,
        λ s dd w i same. by_values receiver has_r h xs eh to has s dd w i same
            (let l = valued_long hs s.values dd.state (valued_homes hs s.values dd.state same.waits) in omega (arith, l, le))
            (reverse (take (count + 1) s.values)) refl
            (subst (λ z. Valued z (reverse (take (count + 1) s.values)) dd.state) eh (args_valued (count + 1) hs s.values dd.state same.waits)),
      )

      by_args : (receiver : ℕ) → temp r hs ≡ Some receiver → count + 1 ≤ length hs → (xs : List Operand) → reverse (take (count + 1) hs) ≡ xs
          → Right' (only hs) (called_by r receiver xs rest) (step' (CallValue count))
      by_args receiver has_r le [] eh = tt
      by_args receiver has_r le (h ∷ xs) eh = by_room receiver has_r le h xs eh (temp r rest) refl

      by_receiver : (o : Option ℕ) → temp r hs ≡ o
          → Right' (only hs) (by_temp o (λ receiver. with_taken (taken (count + 1) hs) (called_by r receiver))) (step' (CallValue count))
      by_receiver None has_r = tt
      by_receiver (Some receiver) has_r =
          right_taken (count + 1) hs (called_by r receiver) (step' (CallValue count)) (λ le. by_args receiver has_r le (reverse (take (count + 1) hs)) refl)

  -- ---- delegates

  both_of : (a b : Bool) → (a && b) ≡ true → (a ≡ true) × (b ≡ true)
  both_of true true e = (refl, refl)
  both_of true false e = absurd (grind arith)
  both_of false b e = absurd (grind arith)

  lt_of : (a b : ℕ) → nat_lt a b ≡ true → a < b
  lt_of a b e = grind arith

  pub right_bound : (q : ℕ) (hs : List Operand) → ArePlaced r.locals hs → Right' (only hs) (bound r q hs) (step' (Bind q))
  right_bound q hs placed = by_room (temp r hs) refl
    where
      by_range : (to : ℕ) → temp r hs ≡ Some to → (s : Firm) (d : Deciding State) (w : World History) → IsFair w → AreSame lay r ws hs s d.state
          → (b : Bool) → (nat_lt q (length f.procedures) && fits 2 0) ≡ b
          → Alike (Held lay r ws (only (Local to ∷ hs))) (Leaves lay r ws) (checked b (put (delegate k q 0)) s w) (linear' (One (CodeOf q to)) d w)
      by_range to has s d w i same false e = wrong
      by_range to has s d w i same true e =
          let lt = lt_of q (length f.procedures) (both_of _ _ e).0 in
          subst (λ z. Alike (Held lay r ws (only (Local to ∷ hs))) (Leaves lay r ws) (put z s w) (linear' (One (CodeOf q to)) d w)) (alone (k.code q))
          (into_temp k f m call handle p go lay r ws wide hs to (k.code q) (CodeOf q to) s d w i placed has (code_small q lt) same
          (ap (λ z. Goes (sets to (z.code q) d.state) w.outside) codes))
        where
          alone : (a : ℕ) → a ≡ a + 65536 * 0
          alone a = omega arith

      by_room : (o : Option ℕ) → temp r hs ≡ o → Right' (only hs) (by_temp o (λ to. Makes (One (CodeOf q to)) (only (Local to ∷ hs)))) (step' (Bind q))
      by_room None has = tt
      by_room (Some to) has = (
        placed_temp r hs to has placed,
        λ s d w i same. by_range to has s d w i same (nat_lt q (length f.procedures) && fits 2 0) refl,
      )

  pub right_bound_for : (d : ℕ) (hs : List Operand) → ArePlaced r.locals hs → Right' (only hs) (bound_for r d hs) (step' (BindFor d))
  right_bound_for d [] placed = tt
  right_bound_for d (h ∷ hs) placed = by_room (temp r hs) refl
    where
      next : ℕ → Piece Firm History
      next = λ n. with_found (dispatched f.dispatches d n) (λ q. put_delegate k f q n)

      shift : ℕ → Block
      shift above = One (Compute (record { operator = LeftShift; width = 4; to = above; left = h; right = Known 16 }))

      sum : ℕ → ℕ → Block
      sum to above = One (Compute (record { operator = Sum; width = 4; to = to; left = Local to; right = Local above }))

      inside : ℕ → ℕ → Block
      inside to above = Both (shift above) (Both (One (Find d to h)) (sum to above))

      does : (to above : ℕ) → temp r hs ≡ Some to → temp r (h ∷ hs) ≡ Some above → (s : Firm) (dd : Deciding State) (w : World History) → IsFair w
          → (n : ℕ) (vs : List ℕ) → AreSame lay r ws (h ∷ hs) (record s { values = n ∷ vs }) dd.state → (q : ℕ) → dispatched f.dispatches d n ≡ Some q
          → q < length f.procedures → n < 65536
          → Alike (Held lay r ws (only (Local to ∷ hs))) (Leaves lay r ws) (put (delegate k q n) (record s { values = vs }) w) (linear' (inside to above) dd w)
      does to above has has_a s dd w i n vs same q eq lt few =
          subst (λ z. Alike (Held lay r ws (only (Local to ∷ hs))) (Leaves lay r ws) (put (delegate k q n) (record s { values = vs }) w)
          (and_then z (linear' (Both (One (Find d to h)) (sum to above)))))
          (sym (plain_goes k f m call handle p go lay r ws wide
          (Compute (record { operator = LeftShift; width = 4; to = above; left = h; right = Known 16 })) dd w t1
          (computes_to k f m call handle p go lay r ws wide LeftShift 4 above h (Known 16) n 16 (n * 65536) dd.state w.outside
          (value_of_home h n dd.state same.waits.0.0) refl (ap Some (low_same (n * 65536) (wide_few n few))))))
          (subst (λ z. Alike (Held lay r ws (only (Local to ∷ hs))) (Leaves lay r ws) (put (delegate k q n) (record s { values = vs }) w)
          (and_then z (linear' (sum to above))))
          (sym (plain_goes k f m call handle p go lay r ws wide (Find d to h) (record dd { state = t1 }) w t2
          (found d to n q h t1 w.outside (value_of_home h n t1 there1.waits.1.0.0) eq)))
          (into_temp k f m call handle p go lay r ws wide hs to (delegate k q n)
          (Compute (record { operator = Sum; width = 4; to = to; left = Local to; right = Local above })) (record s { values = vs })
          (record dd { state = t2 }) w i placed.1 has (whole_few (k.code q) n (codes_are.two_bytes q lt) few)
          (record { waits = there2.waits.1; kept = there2.kept; none = there2.none; ram = there2.ram })
          (computes_to k f m call handle p go lay r ws wide Sum 4 to (Local to) (Local above) (k.code q) (n * 65536) (delegate k q n) t2 w.outside
          there2.waits.0.0 above_at (ap Some (summed (k.code q) n (codes_are.two_bytes q lt) few)))))
        where
          wide_few : (a : ℕ) → a < 65536 → a * 65536 < 2 ^ 32
          wide_few a l = omega (arith, l)

          whole_few : (c a : ℕ) → c < 65536 → a < 65536 → c + 65536 * a < 2 ^ 32
          whole_few c a l1 l2 = omega (arith, l1, l2)

          summed : (c a : ℕ) → c < 65536 → a < 65536 → low 4 (c + a * 65536) ≡ c + 65536 * a
          summed c a l1 l2 = omega (arith, l1, l2)

          t1 : State
          t1 = sets above (n * 65536) dd.state

          there1 : AreSame lay r ws (Local above ∷ h ∷ hs) (record s { values = n * 65536 ∷ n ∷ vs }) t1
          there1 = put_temp lay r m.widths ws (h ∷ hs) (record s { values = n ∷ vs }) dd.state above (n * 65536) wide placed has_a (wide_few n few) same

          t2 : State
          t2 = sets to (k.code q) t1

          there2 : AreSame lay r ws (Local to ∷ hs) (record s { values = k.code q ∷ vs }) t2
          there2 =
              put_temp lay r m.widths ws hs (record s { values = vs }) t1 to (k.code q) wide placed.1 has (code_small q lt)
              (record { waits = there1.waits.1.1; kept = there1.kept; none = there1.none; ram = there1.ram })

          above_at : value (Local above) t2 ≡ Some (n * 65536)
          above_at = value_stays r hs (Local above) h (n * 65536) t1 to (k.code q) has (placed_temp r (h ∷ hs) above has_a placed) there1.waits.0.0

      by_range : (to above : ℕ) → temp r hs ≡ Some to → temp r (h ∷ hs) ≡ Some above → (s : Firm) (dd : Deciding State) (w : World History) → IsFair w
          → (n : ℕ) (vs : List ℕ) → AreSame lay r ws (h ∷ hs) (record s { values = n ∷ vs }) dd.state → (q : ℕ) → dispatched f.dispatches d n ≡ Some q
          → (b : Bool) → (nat_lt q (length f.procedures) && fits 2 n) ≡ b
          → Alike (Held lay r ws (only (Local to ∷ hs))) (Leaves lay r ws) (checked b (put (delegate k q n)) (record s { values = vs }) w)
          (linear' (inside to above) dd w)
      by_range to above has has_a s dd w i n vs same q eq false e = wrong
      by_range to above has has_a s dd w i n vs same q eq true e =
          does to above has has_a s dd w i n vs same q eq (lt_of q (length f.procedures) (both_of _ _ e).0) (lt_of n (256 ^ 2) (both_of _ _ e).1)

      by_found : (to above : ℕ) → temp r hs ≡ Some to → temp r (h ∷ hs) ≡ Some above → (s : Firm) (dd : Deciding State) (w : World History) → IsFair w
          → (n : ℕ) (vs : List ℕ) → AreSame lay r ws (h ∷ hs) (record s { values = n ∷ vs }) dd.state → (o : Option ℕ) → dispatched f.dispatches d n ≡ o
          → Alike (Held lay r ws (only (Local to ∷ hs))) (Leaves lay r ws) (with_found o (λ q. put_delegate k f q n) (record s { values = vs }) w)
          (linear' (inside to above) dd w)
      by_found to above has has_a s dd w i n vs same None eq = wrong
      by_found to above has has_a s dd w i n vs same (Some q) eq =
          by_range to above has has_a s dd w i n vs same q eq (nat_lt q (length f.procedures) && fits 2 n) refl

      by_values : (to above : ℕ) → temp r hs ≡ Some to → temp r (h ∷ hs) ≡ Some above → (s : Firm) (dd : Deciding State) (w : World History) → IsFair w
          → AreSame lay r ws (h ∷ hs) s dd.state → (vs : List ℕ) → s.values ≡ vs → AreAt (h ∷ hs) vs dd.state.locals
          → Alike (Held lay r ws (only (Local to ∷ hs))) (Leaves lay r ws) (take_from vs (not_null next) s w) (linear' (found_and_bound r d to above h) dd w)
      by_values to above has has_a s dd w i same [] ev at = absurd at
      by_values to above has has_a s dd w i same (n ∷ vs) ev at =
          checks_before k f m call handle p go lay r ws wide h n next (linear' (inside to above)) (record s { values = vs }) dd w i
          (value_of_home h n dd.state at.0.0) at.0.1 same.kept
          (λ c pos. by_found to above has has_a s (record dd { truth = c }) w i n vs
          (record { waits = at; kept = same.kept; none = same.none; ram = same.ram }) (dispatched f.dispatches d n) refl)

      by_above : (to : ℕ) → temp r hs ≡ Some to → (o : Option ℕ) → temp r (h ∷ hs) ≡ o
          → Right' (only (h ∷ hs)) (by_temp o (λ above. Makes (found_and_bound r d to above h) (only (Local to ∷ hs)))) (step' (BindFor d))
      by_above to has None has_a = tt
      by_above to has (Some above) has_a = (
        placed_temp r hs to has placed.1,
        λ s dd w i same. by_values to above has has_a s dd w i same s.values refl same.waits,
      )

      by_room : (o : Option ℕ) → temp r hs ≡ o
          → Right' (only (h ∷ hs)) (by_temp o (λ to. by_temp (temp r (h ∷ hs)) (λ above. Makes (found_and_bound r d to above h) (only (Local to ∷ hs)))))
          (step' (BindFor d))
      by_room None has = tt
      by_room (Some to) has = by_above to has (temp r (h ∷ hs)) refl
