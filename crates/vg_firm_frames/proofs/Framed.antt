-- That a step leaves alone what waits below: none looks below what it takes, and a call gets just its arguments.
use Rattle.std.specs.Prelude.{ℕ, zero, suc, ◌+◌, ◌-◌, ◌%◌, ◌≤◌, ◌<◌, Bool, true, false, ◌==◌, ◌&&◌, nat_lt, nat_le, List, [], ◌∷◌, ◌++◌, length, take, drop}
use Rattle.std.specs.Prelude.{reverse, replicate, Option, Some, None, slice_get}
use Rattle.std.proofs.Common.{◌≡◌, refl, sym, ap, ◌∙◌, subst, arith}
use Rattle.std.proofs.lemmas.List.{append_assoc, length-append}
use Rattle.vg_meaning.specs.History.{Active, Calling, History, full}
use Rattle.vg_meaning.specs.Outside.{with_event}
use Rattle.vg_meaning.specs.declared.event.Event.TheVariants.{Enter}
use Rattle.vg_meaning.specs.World.{World, Phase, Starting, Running}
use Rattle.vg_meaning.specs.Answer.{OutOfClock, OutOfDepth, Breaks, Continues, Returns, Over, Answer, Gives, Ends, Piece, go_on, over as over_for, and_then, unless, passes}
use Rattle.vg_meaning.specs.Clock.{tick_at}
use Rattle.vg_meaning.specs.Calls.{closed, closing, unless_deep, note_call, opened, returned}
use Rattle.vg_meaning.specs.Code.{performed}
use Rattle.vg_meaning.specs.Devices.{read_from, read_device, write_in, write_device}
use Rattle.vg_meaning.specs.Interrupts.{interrupt_from, take_interrupt}
use Rattle.vg_codes.specs.Codes.{Codes, code_in, receiver_in}
use Rattle.vg_codes.specs.Dispatch.{is_within, dispatched}
use Rattle.vg_firm.specs.declared.step.Home.{Home}
use Rattle.vg_firm.specs.declared.step.Home.TheVariants.{Ram, Flash}
use Rattle.vg_firm.specs.declared.step.Elements.{Elements}
use Rattle.vg_firm.specs.declared.step.Step.{Step}
use Rattle.vg_firm.specs.declared.step.Step.TheVariants.{Number, This, Local, SetLocal, Forget, Operate, Apply, ReadDevice, WriteDevice, Load, Store}
use Rattle.vg_firm.specs.declared.step.Step.TheVariants.{LoadAt, StoreAt, LoadNothing, StoreNothing, LoadItem, StoreItem, Length, IsWithin}
use Rattle.vg_firm.specs.declared.step.Step.TheVariants.{StopUnlessWithin, Bind, BindFor, Call, CallFor, CallValue, Idle}
use Rattle.vg_firm.specs.Operators.{as_number, computed, has_strings, applied, has_string}
use Rattle.vg_firm.specs.Program.{Procedure, Program}
use Rattle.vg_firm.specs.Meaning.{State, Caller, put, with_found, take_from, taking, from_below, stop_unless, not_null, checked, fits, of_width, put_computed, set_local}
use Rattle.vg_firm.specs.Meaning.{entry, columns_in, load, set_found, store, at_object, array_at, stands_in, item_index, at_item, put_length, stop_unless_within}
use Rattle.vg_firm.specs.Meaning.{call_delegate, put_delegate, step, truth}
use Rattle.vg_firm.specs.Session.{all_fit, arguments, entered, back_in, is_among, guarded, run_procedure, may_receive, may_be_on, may_enter, handled, entering, called}
use Rattle.vg_firm_typed.specs.Steps.{takes}
use Rattle.vg_firm_frames.specs.Frames.{over, Above, gives, ends, AboveOne, gives_one, ends_one}

-- ---- lists

pub take_in : {A : Type 0} (n : ℕ) (xs ys : List A) → n ≤ length xs → take n (xs ++ ys) ≡ take n xs
take_in zero xs ys le = refl
take_in (suc n) [] ys le = absurd (omega (arith, le))
take_in (suc n) (x ∷ xs) ys le = ap (λ z. x ∷ z) (take_in n xs ys (omega (arith, le)))

pub drop_in : {A : Type 0} (n : ℕ) (xs ys : List A) → n ≤ length xs → drop n (xs ++ ys) ≡ drop n xs ++ ys
drop_in zero xs ys le = refl
drop_in (suc n) [] ys le = absurd (omega (arith, le))
drop_in (suc n) (x ∷ xs) ys le = drop_in n xs ys (omega (arith, le))

get_in : {A : Type 0} (n : ℕ) (xs ys : List A) → n < length xs → slice_get (xs ++ ys) n ≡ slice_get xs n
get_in n [] ys lt = absurd (omega (arith, lt))
get_in zero (x ∷ xs) ys lt = refl
get_in (suc n) (x ∷ xs) ys lt = get_in n xs ys (omega (arith, lt))

without_long : {A : Type 0} (n : ℕ) (xs : List A) → suc n ≤ length xs → n ≤ length (take n xs ++ drop (suc n) xs)
without_long zero xs le = omega arith
without_long (suc n) [] le = absurd (omega (arith, le))
without_long (suc n) (x ∷ xs) le = let h = without_long n xs (omega (arith, le)) in omega (arith, h)

-- ---- pieces

module _ (under : List ℕ) where
  -- the piece leaves alone what waits below so many values
  abbrev pub Frames : ℕ → Piece State History → Type 0
  Frames n g = (s : State) (w : World History) → n ≤ length s.values → Above under (g s w) (g (over under s) w)

  put_frames : (v : ℕ) → Frames 0 (put v)
  put_frames v s w le = gives

  found_frames : {A : Type 0} (n : ℕ) (o : Option A) (go : A → Piece State History) → ((a : A) → Frames n (go a)) → Frames n (with_found o go)
  found_frames n (Some a) go h s w le = h a s w le
  found_frames n None go h s w le = ends

  checked_frames : (n : ℕ) (b : Bool) (go : Piece State History) → Frames n go → Frames n (checked b go)
  checked_frames n true go h s w le = h s w le
  checked_frames n false go h s w le = ends

  unless_frames : (n : ℕ) (b : Bool) (code : ℕ) (go : Piece State History) → Frames n go → Frames n (stop_unless b code go)
  unless_frames n true code go h s w le = h s w le
  unless_frames n false code go h s w le = ends

  null_frames : (n : ℕ) (go : ℕ → Piece State History) → ((v : ℕ) → Frames n (go v)) → (v : ℕ) → Frames n (not_null go v)
  null_frames n go h zero s w le = ends
  null_frames n go h (suc v) s w le = h (suc v) s w le

  taking_frames : (n : ℕ) (go : ℕ → Piece State History) → ((v : ℕ) → Frames n (go v)) → Frames (suc n) (taking go)
  taking_frames n go h s w le = by_values s.values le
    where
      by_values : (vs : List ℕ) → suc n ≤ length vs → Above under (take_from vs go s w) (take_from (vs ++ under) go (over under s) w)
      by_values [] l = absurd (omega (arith, l))
      by_values (v ∷ vs) l = h v (record s { values = vs }) w (omega (arith, l))

  below_frames : (n : ℕ) (go : ℕ → Piece State History) → ((v : ℕ) → Frames n (go v)) → Frames (suc n) (from_below n go)
  below_frames n go h s w le =
      subst (λ z. Above under (with_found (slice_get s.values n) go (record s { values = take n s.values ++ drop (n + 1) s.values }) w)
      (with_found (slice_get (s.values ++ under) n) go (record s { values = z }) w)) (sym values_are)
      (subst (λ z. Above under (with_found (slice_get s.values n) go (record s { values = take n s.values ++ drop (n + 1) s.values }) w)
      (with_found z go (record s { values = (take n s.values ++ drop (n + 1) s.values) ++ under }) w)) (sym (get_in n s.values under le'))
      (found_frames n (slice_get s.values n) go h (record s { values = take n s.values ++ drop (n + 1) s.values }) w long))
    where
      le' : n < length s.values
      le' = omega (arith, le)

      one : n + 1 ≡ suc n
      one = omega arith

      long : n ≤ length (take n s.values ++ drop (n + 1) s.values)
      long = subst (λ z. n ≤ length (take n s.values ++ drop z s.values)) (sym one) (without_long n s.values le)

      values_are : take n (s.values ++ under) ++ drop (n + 1) (s.values ++ under) ≡ (take n s.values ++ drop (n + 1) s.values) ++ under
      values_are =
          ap (λ z. z ++ drop (n + 1) (s.values ++ under)) (take_in n s.values under (omega (arith, le)))
          ∙ ap (λ z. take n s.values ++ z) (drop_in (n + 1) s.values under (omega (arith, le)))
          ∙ sym (append_assoc (take n s.values) (drop (n + 1) s.values) under)

  width_frames : (n width : ℕ) (go : ℕ → Piece State History) → ((v : ℕ) → Frames n (go v)) → (v : ℕ) → Frames n (of_width width go v)
  width_frames n width go h v = checked_frames n (fits width v) (go v) (h v)

  computed_frames : (o : Option ℕ) → Frames 0 (put_computed o)
  computed_frames (Some v) s w le = gives
  computed_frames None s w le = ends

  load_frames : (f : Program) (home : Home) (c i : ℕ) → Frames 0 (load f home c i)
  load_frames f Ram c i s w le = found_frames 0 (entry s.columns c i) put put_frames s w le
  load_frames f Flash c i s w le = found_frames 0 (entry f.flash c i) put put_frames s w le

  store_frames : (c i v : ℕ) → Frames 0 (store c i v)
  store_frames c i v s w le = by_old (entry s.columns c i)
    where
      by_old : (o : Option ℕ) → Above under (set_found c i v o s w) (set_found c i v o (over under s) w)
      by_old (Some old) = gives
      by_old None = ends

  object_frames : (first : ℕ) (go : ℕ → Piece State History) → ((v : ℕ) → Frames 0 (go v)) → (n : ℕ) → Frames 0 (at_object first go n)
  object_frames first go h n =
      null_frames 0 (λ v. checked (nat_le first v) (go (v - first))) (λ v. checked_frames 0 (nat_le first v) (go (v - first)) (h (v - first))) n

  item_frames : (f : Program) (e : Elements) (go : ℕ → Piece State History) → ((v : ℕ) → Frames 0 (go v)) → (i n : ℕ) → Frames 0 (at_item f e go i n)
  item_frames f e go h i n =
      null_frames 0 _ (λ v. found_frames 0 (array_at f e.table v) _ (λ a. unless_frames 0 (nat_lt i a.length) 2 _
      (checked_frames 0 (stands_in e a.address) _ (h (item_index e a.address i))))) n

  within_frames : (first count n : ℕ) → Frames 0 (stop_unless_within first count n)
  within_frames first count zero s w le = gives
  within_frames first count (suc n) s w le = unless_frames 0 (is_within first count (suc n)) 4 (put (suc n)) (put_frames (suc n)) s w le

  delegate_frames : (k : Codes) (f : Program) (q n : ℕ) → Frames 0 (put_delegate k f q n)
  delegate_frames k f q n = checked_frames 0 _ _ (put_frames _)

  read_frames : (address : ℕ) → Frames 0 (read_device address put)
  read_frames address s w le = by_world w.phase w.outside.reads
    where
      by_world : (phase : Phase) (vs : List ℕ) → Above under (read_from phase vs address put s w) (read_from phase vs address put (over under s) w)
      by_world Starting vs = ends
      by_world Running [] = ends
      by_world Running (v ∷ vs) = gives

  write_frames : (address v : ℕ) → Frames 0 (write_device address v)
  write_frames address v s w le = by_world w.phase
    where
      by_world : (phase : Phase) → Above under (write_in phase address v s w) (write_in phase address v (over under s) w)
      by_world Starting = ends
      by_world Running = gives

  interrupt_frames : (handle : ℕ → Piece State History) → ((v : ℕ) → Frames 0 (handle v)) → Frames 0 (take_interrupt handle)
  interrupt_frames handle h s w le = by_list w.outside.interrupts
    where
      by_list : (vs : List ℕ) → Above under (interrupt_from vs handle s w) (interrupt_from vs handle (over under s) w)
      by_list [] = ends
      by_list (v ∷ vs) = h v s (record w { outside = with_event (record w.outside { interrupts = vs }) (Enter v) }) le

  -- ---- steps

  module _ (k : Codes) (f : Program) (m : Procedure) (call : Caller History) (handle : ℕ → Piece State History)
      (calls : (q count : ℕ) (self : Option ℕ) → Frames count (call q count self)) (handles : (v : ℕ) → Frames 0 (handle v)) where
    step_frames : (p : Step) → Frames (takes p) (step k f m call handle p)
    step_frames (Number n) = put_frames n
    step_frames This = λ s w le. found_frames 0 s.self put put_frames s w le
    step_frames (Local i) = λ s w le. found_frames 0 (slice_get s.locals i) put put_frames s w le
    step_frames (SetLocal i) =
        taking_frames 0 _ (λ v. found_frames 0 (slice_get m.widths i) _ (λ width. width_frames 0 width (set_local i) (λ x s w le. gives) v))
    step_frames Forget = taking_frames 0 _ (λ v s w le. gives)
    step_frames (Operate op) =
        taking_frames 1 _ (λ y. taking_frames 0 _ (λ x. checked_frames 0 (has_strings op x y) _ (computed_frames (computed op x y))))
    step_frames (Apply op) = taking_frames 0 _ (λ x. checked_frames 0 (has_string op x) _ (put_frames (applied op x)))
    step_frames (ReadDevice address) = read_frames address
    step_frames (WriteDevice address) = taking_frames 0 _ (λ v. width_frames 0 1 (write_device address) (write_frames address) v)
    step_frames (Load home c) = load_frames f home c 0
    step_frames (Store c width) = taking_frames 0 _ (λ v. width_frames 0 width (store c 0) (store_frames c 0) v)
    step_frames (LoadAt home c first) = taking_frames 0 _ (λ n. object_frames first (load f home c) (load_frames f home c) n)
    step_frames (StoreAt c first width) =
        taking_frames 1 _ (λ v. width_frames 1 width _ (λ x. taking_frames 0 _ (λ n. object_frames first _ (λ i. store_frames c i x) n)) v)
    step_frames LoadNothing = taking_frames 0 _ (λ n. null_frames 0 _ (λ v. put_frames 0) n)
    step_frames StoreNothing = taking_frames 1 _ (λ v. taking_frames 0 _ (λ n. null_frames 0 (λ x. go_on) (λ x s w le. gives {s = s} {w = w}) n))
    step_frames (LoadItem e) = taking_frames 1 _ (λ i. taking_frames 0 _ (λ n. item_frames f e _ (load_frames f e.home e.column) i n))
    step_frames (StoreItem e) =
        taking_frames 2 _ (λ v. width_frames 2 e.width _ (λ x. taking_frames 1 _ (λ i. taking_frames 0 _ (λ n.
        item_frames f e _ (λ j. store_frames e.column j x) i n))) v)
    step_frames (Length table) =
        taking_frames 0 _ (λ n. null_frames 0 _ (λ v. found_frames 0 (array_at f table v) put_length (λ a. put_frames a.length)) n)
    step_frames (IsWithin first count) = taking_frames 0 _ (λ n. put_frames _)
    step_frames (StopUnlessWithin first count) = taking_frames 0 _ (within_frames first count)
    step_frames (Bind q) = delegate_frames k f q 0
    step_frames (BindFor d) =
        taking_frames 0 _ (λ n. null_frames 0 _ (λ v. found_frames 0 (dispatched f.dispatches d v) _ (λ q. delegate_frames k f q v)) n)
    step_frames (Call q count) = calls q count None
    step_frames (CallFor d count) =
        below_frames count _ (λ n. null_frames count _ (λ v. found_frames count (dispatched f.dispatches d v) _ (λ q. calls q count (Some v))) n)
    step_frames (CallValue count) =
        below_frames count _ (λ n. null_frames count _ (λ v. found_frames count (k.at_code (code_in v)) _ (λ q. calls q count (Some (receiver_in v)))) n)
    step_frames Idle = interrupt_frames handle handles

  -- ---- calls

  one_above : {a b : Answer State History} → AboveOne under a b → Above under a b
  one_above (gives_one e) = gives
  one_above ends_one = ends

  arguments_same : (count : ℕ) (s : State) → count ≤ length s.values → arguments count (over under s) ≡ arguments count s
  arguments_same count s le = ap reverse (take_in count s.values under le)

  enters_same : (m : Procedure) (count : ℕ) (self : Option ℕ) (s : State) → count ≤ length s.values
      → may_enter m count self (over under s) ≡ may_enter m count self s
  enters_same m count self s le =
      ap (λ xs. (count == m.params) && (length xs == count) && all_fit m.widths xs && (may_receive m self && may_be_on m self)) (arguments_same count s le)

  entered_same : (m : Procedure) (count : ℕ) (self : Option ℕ) (s : State) → count ≤ length s.values
      → entered m count self (over under s) ≡ entered m count self s
  entered_same m count self s le =
      ap (λ xs. record { values = []; locals = xs ++ replicate (length m.widths - count) 0; self = self; columns = s.columns }) (arguments_same count s le)

  -- what waits behind a call, below its result
  behind_one : (m : Procedure) (count : ℕ) (s : State) (le : count ≤ length s.values) (a : Answer State History)
      → AboveOne under (and_then (returned a (put 0)) (taking (of_width m.result (back_in count s))))
      (and_then (returned a (put 0)) (taking (of_width m.result (back_in count (over under s)))))
  behind_one m count s le a = by_answer a
    where
      by_width : (b : Bool) (v : ℕ) (s1 : State) (w : World History)
          → AboveOne under (checked b (back_in count s v) s1 w) (checked b (back_in count (over under s) v) s1 w)
      by_width true v s1 w =
          subst (λ z. AboveOne under (back_in count s v s1 w) (Gives (record { values = v ∷ z; locals = s.locals; self = s.self; columns = s1.columns }) w))
          (sym (drop_in count s.values under le)) (gives_one refl)
      by_width false v s1 w = ends_one

      by_values : (vs : List ℕ) (s1 : State) (w : World History)
          → AboveOne under (take_from vs (of_width m.result (back_in count s)) s1 w) (take_from vs (of_width m.result (back_in count (over under s))) s1 w)
      by_values [] s1 w = ends_one
      by_values (v ∷ vs) s1 w = by_width (fits m.result v) v (record s1 { values = vs }) w

      by_answer : (a : Answer State History)
          → AboveOne under (and_then (returned a (put 0)) (taking (of_width m.result (back_in count s))))
          (and_then (returned a (put 0)) (taking (of_width m.result (back_in count (over under s)))))
      by_answer (Gives s1 w) = by_values (0 ∷ s1.values) (record s1 { values = 0 ∷ s1.values }) w
      by_answer (Ends Returns s1 w) = by_values s1.values s1 w
      by_answer (Ends (Over why) s1 w) = ends_one
      by_answer (Ends Breaks s1 w) = ends_one
      by_answer (Ends Continues s1 w) = ends_one

  opened_one : (call : Active) (g h : Piece State History) (s t : State) → ((w : World History) → AboveOne under (g s w) (h t w)) → (w : World History)
      → AboveOne under (opened full call g s w) (opened full call h t w)
  opened_one call g h s t one w = by_clock w.clock
    where
      closes : (a b : Answer State History) → AboveOne under a b → AboveOne under (and_then a (closed full)) (and_then b (closed full))
      closes _ _ (gives_one e) = gives_one e
      closes _ _ ends_one = ends_one

      by_depth : (b : Bool) (w1 : World History) → AboveOne under (unless b OutOfDepth (closing full g) s w1) (unless b OutOfDepth (closing full h) t w1)
      by_depth true w1 = ends_one
      by_depth false w1 = closes (g s w1) (h t w1) (one w1)

      by_clock : (n : ℕ) → AboveOne under (tick_at (note_call full call) n (unless_deep full (closing full g)) s w) (tick_at (note_call full call) n (unless_deep full (closing full h)) t w)
      by_clock zero = ends_one
      by_clock (suc n) =
          by_depth (passes w.deepest (full.depth (note_call full call w.history))) (record w { clock = n; history = note_call full call w.history })

  abbrev CallsOne : Caller History → Type 0
  CallsOne call = (q count : ℕ) (self : Option ℕ) (s : State) (w : World History) → count ≤ length s.values
      → AboveOne under (call q count self s w) (call q count self (over under s) w)

  entering_one : (f : Program) (q count : ℕ) (self : Option ℕ) (go : Procedure → Piece State History) (s : State) (w : World History) → count ≤ length s.values
      → ((m : Procedure) (w1 : World History) → AboveOne under (go m s w1) (go m (over under s) w1))
      → AboveOne under (entering f q count self go s w) (entering f q count self go (over under s) w)
  entering_one f q count self go s w le h = by_found (slice_get f.procedures q)
    where
      by_check : (m : Procedure) (b : Bool) → AboveOne under (checked b (go m) s w) (checked b (go m) (over under s) w)
      by_check m true = h m w
      by_check m false = ends_one

      by_found : (o : Option Procedure)
          → AboveOne under (with_found o (λ m. checked (may_enter m count self s) (go m)) s w)
          (with_found o (λ m. checked (may_enter m count self (over under s)) (go m)) (over under s) w)
      by_found None = ends_one
      by_found (Some m) =
          subst (λ b. AboveOne under (checked (may_enter m count self s) (go m) s w) (checked b (go m) (over under s) w)) (sym (enters_same m count self s le))
          (by_check m (may_enter m count self s))

  called_one : (k : Codes) (f : Program) (n : ℕ) → CallsOne (called full k f n)
  called_one k f zero q count self s w le = entering_one f q count self (λ m. over_for OutOfClock) s w le (λ m w1. ends_one)
  called_one k f (suc n) q count self s w le =
      entering_one f q count self (λ m. opened full (Calling m.method)
      (run_procedure full k f (called full k f n) (λ vector. handled (called full k f n) (f.handler vector)) m count self)) s w le (λ m w1.
      opened_one (Calling m.method) (run m) (run m) s (over under s) (λ w2.
      subst (λ z. AboveOne under (run m s w2)
      (and_then (returned (performed full (step k f m (guarded m.calls (called full k f n)) (λ vector. handled (called full k f n) (f.handler vector))) truth m.body z w2) (put 0))
      (taking (of_width m.result (back_in count (over under s)))))) (sym (entered_same m count self s le))
      (behind_one m count s le
      (performed full (step k f m (guarded m.calls (called full k f n)) (λ vector. handled (called full k f n) (f.handler vector))) truth m.body (entered m count self s) w2))) w1)
    where
      run : Procedure → Piece State History
      run m = run_procedure full k f (called full k f n) (λ vector. handled (called full k f n) (f.handler vector)) m count self

  guarded_frames : (names : List ℕ) (call : Caller History) → CallsOne call → (q count : ℕ) (self : Option ℕ) → Frames count (guarded names call q count self)
  guarded_frames names call h q count self = checked_frames count (is_among names q) (call q count self) (λ s w le. one_above (h q count self s w le))

  handled_frames : (call : Caller History) → CallsOne call → (o : Option ℕ) → Frames 0 (handled call o)
  handled_frames call h None s w le = gives
  handled_frames call h (Some q) s w le = by_one (call q 0 None s w) (call q 0 None (over under s) w) (h q 0 None s w (omega arith))
    where
      taken : (vs : List ℕ) (v : ℕ) (more : List ℕ) (s1 : State) (w1 : World History) → vs ≡ v ∷ more
          → Above under (take_from vs (λ v. go_on) s1 w1) (take_from (vs ++ under) (λ v. go_on) (over under s1) w1)
      taken [] v more s1 w1 e = absurd (grind arith)
      taken (x ∷ vs) v more s1 w1 e = gives

      by_one : (a b : Answer State History) → AboveOne under a b → Above under (and_then a (taking (λ v. go_on))) (and_then b (taking (λ v. go_on)))
      by_one _ _ (gives_one {s = s1} {v = v} {vs = vs} {w = w1} e) = taken s1.values v vs s1 w1 e
      by_one _ _ ends_one = ends

pub step_stays : (under : List ℕ) (k : Codes) (f : Program) (m : Procedure) (n : ℕ) (p : Step) (s : State) (w : World History) → takes p ≤ length s.values
    → Above under (step k f m (guarded m.calls (called full k f n)) (λ vector. handled (called full k f n) (f.handler vector)) p s w)
    (step k f m (guarded m.calls (called full k f n)) (λ vector. handled (called full k f n) (f.handler vector)) p (over under s) w)
step_stays under k f m n p s w le =
    step_frames under k f m (guarded m.calls (called full k f n)) (λ vector. handled (called full k f n) (f.handler vector))
    (guarded_frames under m.calls (called full k f n) (called_one under k f n))
    (λ vector. handled_frames under (called full k f n) (called_one under k f n) (f.handler vector)) p s w le
