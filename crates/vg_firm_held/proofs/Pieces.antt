-- What holds of the history all along the runs of packed programs: an instance of the law of what holds of all answers, with predicates on the history.
use Rattle.std.specs.Prelude.{ℕ, zero, suc, ◌+◌, ◌-◌, Bool, true, false, List, [], ◌∷◌, ◌++◌, take, drop, Option, Some, None, slice_get, nat_lt, nat_le}
use Rattle.std.proofs.Common.{◌≡◌, refl}
use Rattle.vg_meaning.specs.History.{History}
use Rattle.vg_meaning.specs.Answer.{End, Wrong, Piece, go_on, over, stops}
use Rattle.vg_meaning.specs.Devices.{write_device}
use Rattle.vg_meaning.specs.Safe.{Safe, gives, overs, SafePiece, NoWay, SafeTest}
use Rattle.vg_meaning_laws.proofs.Safe.{safe_then, safe_read, safe_write, safe_interrupt, safe_stops}
use Rattle.vg_codes.specs.Codes.{Codes, code_in, receiver_in}
use Rattle.vg_codes.specs.Dispatch.{is_within, dispatched}
use Rattle.vg_firm.specs.declared.step.Home.{Home}
use Rattle.vg_firm.specs.declared.step.Elements.{Elements}
use Rattle.vg_firm.specs.declared.step.Step.{Step}
use Rattle.vg_firm.specs.declared.step.Step.TheVariants.{Number, This, Local, SetLocal, Forget, Operate, Apply, ReadDevice, WriteDevice, Load, Store}
use Rattle.vg_firm.specs.declared.step.Step.TheVariants.{LoadAt, StoreAt, LoadNothing, StoreNothing, LoadItem, StoreItem, Length, IsWithin}
use Rattle.vg_firm.specs.declared.step.Step.TheVariants.{StopUnlessWithin, Bind, BindFor, Call, CallFor, CallValue, Idle}
use Rattle.vg_firm.specs.Operators.{computed, has_strings, has_string}
use Rattle.vg_firm.specs.Program.{Procedure, Program}
use Rattle.vg_firm.specs.Meaning.{State, Caller, put, with_found, take_from, taking, from_below, stop_unless, not_null, checked, fits, of_width, put_computed, set_local}
use Rattle.vg_firm.specs.Meaning.{entry, columns_in, load, set_found, store, at_object, array_at, stands_in, item_index, at_item, put_length, stop_unless_within}
use Rattle.vg_firm.specs.Meaning.{put_delegate, step, truth_in, truth}
use Rattle.vg_firm.specs.Session.{back_in, handled}

module _ (In AtLast : History → Type 0) (last : (h : History) → In h → AtLast h) where
  abbrev pub Held : State → History → Type 0
  Held s h = In h

  abbrev pub Ended : End → History → Type 0
  Ended why h = AtLast h

  abbrev pub On : Piece State History → Type 0
  On p = SafePiece Held Held NoWay Ended p

  pub ends : (s : State) (h : History) → Held s h → AtLast h
  ends s h x = last h x

  -- ---- pieces

  pub on_wrong : On (over Wrong)
  on_wrong s w x = overs (last w.history x)

  pub on_stops : (code at : ℕ) → On (stops code at)
  on_stops code at = safe_stops Held Held NoWay Ended code at (λ at' s h x. ends s h x)

  pub on_put : (v : ℕ) → On (put v)
  on_put v s w x = gives x

  pub on_found : {A : Type 0} (o : Option A) (go : A → Piece State History) → ((a : A) → On (go a)) → On (with_found o go)
  on_found (Some a) go k s w x = k a s w x
  on_found None go k s w x = on_wrong s w x

  pub on_take_from : (vs : List ℕ) (go : ℕ → Piece State History) → ((v : ℕ) → On (go v)) → On (take_from vs go)
  on_take_from [] go k s w x = on_wrong s w x
  on_take_from (v ∷ vs) go k s w x = k v (record s { values = vs }) w x

  pub on_taking : (go : ℕ → Piece State History) → ((v : ℕ) → On (go v)) → On (taking go)
  on_taking go k s w x = on_take_from s.values go k s w x

  pub on_below : (count : ℕ) (go : ℕ → Piece State History) → ((v : ℕ) → On (go v)) → On (from_below count go)
  on_below count go k s w x =
      on_found (slice_get s.values count) go k (record s { values = take count s.values ++ drop (count + 1) s.values }) w x

  pub on_unless : (b : Bool) (code : ℕ) (go : Piece State History) → On go → On (stop_unless b code go)
  on_unless true code go k s w x = k s w x
  on_unless false code go k s w x = on_stops code 0 s w x

  pub on_not_null : (go : ℕ → Piece State History) → ((v : ℕ) → On (go v)) → (v : ℕ) → On (not_null go v)
  on_not_null go k zero s w x = on_stops 1 0 s w x
  on_not_null go k (suc n) s w x = k (suc n) s w x

  pub on_checked : (b : Bool) (go : Piece State History) → On go → On (checked b go)
  on_checked true go k s w x = k s w x
  on_checked false go k s w x = on_wrong s w x

  pub on_width : (width : ℕ) (go : ℕ → Piece State History) → ((v : ℕ) → On (go v)) → (v : ℕ) → On (of_width width go v)
  on_width width go k v = on_checked (fits width v) (go v) (k v)

  pub on_computed : (o : Option ℕ) → On (put_computed o)
  on_computed (Some n) s w x = gives x
  on_computed None s w x = on_stops 3 0 s w x

  pub on_load : (f : Program) (home : Home) (c i : ℕ) → On (load f home c i)
  on_load f home c i s w x = on_found (entry (columns_in f home s) c i) put on_put s w x

  pub on_store : (c i v : ℕ) → On (store c i v)
  on_store c i v s w x = by_old (entry s.columns c i)
    where
      by_old : (o : Option ℕ) → Safe Held NoWay Ended (set_found c i v o s w)
      by_old (Some old) = gives x
      by_old None = overs (last w.history x)

  pub on_object : (first : ℕ) (go : ℕ → Piece State History) → ((v : ℕ) → On (go v)) → (n : ℕ) → On (at_object first go n)
  on_object first go k n =
      on_not_null (λ v. checked (nat_le first v) (go (v - first))) (λ v. on_checked (nat_le first v) (go (v - first)) (k (v - first))) n

  pub on_item : (f : Program) (e : Elements) (go : ℕ → Piece State History) → ((v : ℕ) → On (go v)) → (i n : ℕ) → On (at_item f e go i n)
  on_item f e go k i n =
      on_not_null _ (λ v. on_found (array_at f e.table v) _ (λ a. on_unless (nat_lt i a.length) 2 _
      (on_checked (stands_in e a.address) _ (k (item_index e a.address i))))) n

  pub on_within : (first count n : ℕ) → On (stop_unless_within first count n)
  on_within first count zero s w x = gives x
  on_within first count (suc n) s w x = on_unless (is_within first count (suc n)) 4 (put (suc n)) (on_put (suc n)) s w x

  pub on_delegate : (k : Codes) (f : Program) (q n : ℕ) → On (put_delegate k f q n)
  on_delegate k f q n = on_checked _ _ (on_put _)

  -- ---- steps

  module _ (Allowed : Step → Type 0) (k : Codes) (f : Program) (m : Procedure) (call : Caller History) (handle : ℕ → Piece State History)
      (calls : (q count : ℕ) (self : Option ℕ) → On (call q count self)) (handles : Allowed Idle → (v : ℕ) → On (handle v)) where
    pub on_step : (p : Step) → Allowed p → On (step k f m call handle p)
    on_step (Number n) ok = on_put n
    on_step This ok = λ s w x. on_found s.self put on_put s w x
    on_step (Local i) ok = λ s w x. on_found (slice_get s.locals i) put on_put s w x
    on_step (SetLocal i) ok =
        on_taking _ (λ v. on_found (slice_get m.widths i) _ (λ width. on_width width (set_local i) (λ y s w x. gives x) v))
    on_step Forget ok = on_taking _ (λ v s w x. gives x)
    on_step (Operate op) ok = on_taking _ (λ y. on_taking _ (λ x. on_checked (has_strings op x y) _ (on_computed (computed op x y))))
    on_step (Apply op) ok = on_taking _ (λ x. on_checked (has_string op x) _ (on_put _))
    on_step (ReadDevice address) ok = safe_read Held Held NoWay Ended address put ends ends on_put
    on_step (WriteDevice address) ok = on_taking _ (λ v. on_width 1 (write_device address) (λ y. safe_write Held NoWay Ended address y ends) v)
    on_step (Load home c) ok = on_load f home c 0
    on_step (Store c width) ok = on_taking _ (λ v. on_width width (store c 0) (on_store c 0) v)
    on_step (LoadAt home c first) ok = on_taking _ (λ n. on_object first (load f home c) (on_load f home c) n)
    on_step (StoreAt c first width) ok =
        on_taking _ (λ v. on_width width _ (λ y. on_taking _ (λ n. on_object first _ (λ i. on_store c i y) n)) v)
    on_step LoadNothing ok = on_taking _ (λ n. on_not_null _ (λ v. on_put 0) n)
    on_step StoreNothing ok = on_taking _ (λ v. on_taking _ (λ n. on_not_null (λ y. go_on) (λ y s w x. gives x) n))
    on_step (LoadItem e) ok = on_taking _ (λ i. on_taking _ (λ n. on_item f e _ (on_load f e.home e.column) i n))
    on_step (StoreItem e) ok =
        on_taking _ (λ v. on_width e.width _ (λ y. on_taking _ (λ i. on_taking _ (λ n. on_item f e _ (λ j. on_store e.column j y) i n))) v)
    on_step (Length table) ok = on_taking _ (λ n. on_not_null _ (λ v. on_found (array_at f table v) put_length (λ a. on_put a.length)) n)
    on_step (IsWithin first count) ok = on_taking _ (λ n. on_put _)
    on_step (StopUnlessWithin first count) ok = on_taking _ (on_within first count)
    on_step (Bind q) ok = on_delegate k f q 0
    on_step (BindFor d) ok = on_taking _ (λ n. on_not_null _ (λ v. on_found (dispatched f.dispatches d v) _ (λ q. on_delegate k f q v)) n)
    on_step (Call q count) ok = calls q count None
    on_step (CallFor d count) ok =
        on_below count _ (λ n. on_not_null _ (λ v. on_found (dispatched f.dispatches d v) _ (λ q. calls q count (Some v))) n)
    on_step (CallValue count) ok =
        on_below count _ (λ n. on_not_null _ (λ v. on_found (k.at_code (code_in v)) _ (λ q. calls q count (Some (receiver_in v)))) n)
    on_step Idle ok = safe_interrupt Held Held NoWay Ended handle ends (handles ok)

  pub on_truth : (s : State) (h : History) → Held s h → SafeTest Held Ended h (truth s)
  on_truth s h x = by_values s.values
    where
      by_values : (vs : List ℕ) → SafeTest Held Ended h (truth_in vs s)
      by_values [] = last h x
      by_values (zero ∷ vs) = x
      by_values (suc n ∷ vs) = x

  -- ---- behind calls

  -- what is found is known to be there
  pub on_found_as : {A : Type 0} (o : Option A) (go : A → Piece State History) → ((a : A) → o ≡ Some a → On (go a)) → On (with_found o go)
  on_found_as (Some a) go k s w x = k a refl s w x
  on_found_as None go k s w x = on_wrong s w x

  -- and what is checked holds
  pub on_checked_as : (b : Bool) (go : Piece State History) → (b ≡ true → On go) → On (checked b go)
  on_checked_as true go k s w x = k refl s w x
  on_checked_as false go k s w x = on_wrong s w x

  pub on_back : (count : ℕ) (s : State) (v : ℕ) → On (back_in count s v)
  on_back count s v body w x = gives x

  pub on_handled : (call : Caller History) (o : Option ℕ) → ((q : ℕ) → o ≡ Some q → On (call q 0 None)) → On (handled call o)
  on_handled call (Some q) calls s w x = safe_then _ (calls q refl s w x) (on_taking _ (λ v s1 w1 y. gives y))
  on_handled call None calls s w x = gives x
