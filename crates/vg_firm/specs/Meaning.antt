-- What the steps of a packed program do. They know no names and no types: where a number is not what a program made of a legal text
-- has there, the run is Wrong.
use Rattle.std.specs.Prelude.{ℕ, zero, suc, ◌+◌, ◌-◌, ◌/◌, ◌%◌, ◌^◌, Bool, true, false, ◌==◌, ◌&&◌, nat_lt, nat_le, List, [], ◌∷◌, ◌++◌, length, take, drop}
use Rattle.std.specs.Prelude.{Option, Some, None, slice_get, slice_set}
use Rattle.vg_meaning.specs.Answer.{Wrong, Gives, Piece, go_on, over, stops}
use Rattle.vg_meaning.specs.Interrupts.{take_interrupt}
use Rattle.vg_meaning.specs.Devices.{read_device, write_device}
use Rattle.vg_meaning.specs.Loops.{Test, Tested, Untested}
use Rattle.vg_codes.specs.Dispatch.{is_within, dispatched}
use Rattle.vg_codes.specs.Codes.{Codes, delegate, code_in, receiver_in}
use Rattle.vg_firm.specs.declared.step.Home.{Home}
use Rattle.vg_firm.specs.declared.step.Home.TheVariants.{Ram, Flash}
use Rattle.vg_firm.specs.declared.step.Elements.{Elements}
use Rattle.vg_firm.specs.declared.step.ArrayPlace.{ArrayPlace}
use Rattle.vg_firm.specs.declared.step.Step.{Step}
use Rattle.vg_firm.specs.declared.step.Step.TheVariants.{Number, This, Local, SetLocal, Forget, Operate, Apply, ReadDevice, WriteDevice, Load, Store}
use Rattle.vg_firm.specs.declared.step.Step.TheVariants.{LoadAt, StoreAt, LoadNothing, StoreNothing, LoadItem, StoreItem, Length, IsWithin}
use Rattle.vg_firm.specs.declared.step.Step.TheVariants.{StopUnlessWithin, Bind, BindFor, Call, CallFor, CallValue, Idle}
use Rattle.vg_firm.specs.Operators.{as_number, computed, has_strings, applied, has_string}
use Rattle.vg_firm.specs.Program.{Procedure, Program}

pub record State : Type 0 where
  pub values : List ℕ  -- the values that wait, the newest first
  pub locals : List ℕ
  pub self : Option ℕ  -- the receiver's number, where the call had a receiver; of a delegate of a component's method it is 0
  pub columns : List (List ℕ)  -- those in RAM

-- ---- values that wait

abbrev pub put : {H : Type 0} → ℕ → Piece State H
put v s w = Gives (record s { values = v ∷ s.values }) w

abbrev pub with_found : {H A : Type 0} → Option A → (A → Piece State H) → Piece State H
with_found (Some a) go s w = go a s w
with_found None go s w = over Wrong s w

abbrev pub take_from : {H : Type 0} → List ℕ → (ℕ → Piece State H) → Piece State H
take_from [] go s w = over Wrong s w
take_from (v ∷ vs) go s w = go v (record s { values = vs }) w

-- The newest value is taken.
abbrev pub taking : {H : Type 0} → (ℕ → Piece State H) → Piece State H
taking go s w = take_from s.values go s w

-- The value below so many others is taken.
abbrev pub from_below : {H : Type 0} → ℕ → (ℕ → Piece State H) → Piece State H
from_below count go s w = with_found (slice_get s.values count) go (record s { values = take count s.values ++ drop (count + 1) s.values }) w

abbrev pub stop_unless : {H : Type 0} → Bool → (code : ℕ) → Piece State H → Piece State H
stop_unless true code go s w = go s w
stop_unless false code go s w = stops code 0 s w

-- A number behind its null check.
abbrev pub not_null : {H : Type 0} → (ℕ → Piece State H) → ℕ → Piece State H
not_null go zero s w = stops 1 0 s w
not_null go (suc n) s w = go (suc n) s w

-- What holds in each packed program that was made of a legal one.
abbrev pub checked : {H : Type 0} → Bool → Piece State H → Piece State H
checked true go s w = go s w
checked false go s w = over Wrong s w

-- So many bytes hold a number.
abbrev pub fits : (width v : ℕ) → Bool
fits width v = nat_lt v (256 ^ width)

-- What is done with a value that so many bytes hold.
abbrev pub of_width : {H : Type 0} → ℕ → (ℕ → Piece State H) → ℕ → Piece State H
of_width width go v = checked (fits width v) (go v)

-- ---- operators

-- What a division by zero is.
abbrev pub put_computed : {H : Type 0} → Option ℕ → Piece State H
put_computed (Some n) s w = put n s w
put_computed None s w = stops 3 0 s w

-- ---- locals

abbrev pub set_local : {H : Type 0} → ℕ → ℕ → Piece State H
set_local i v s w = Gives (record s { locals = slice_set s.locals i v }) w

-- ---- columns

abbrev pub column_of : Option (List ℕ) → List ℕ
column_of (Some vs) = vs
column_of None = []

-- An entry of one of these columns.
abbrev pub entry : List (List ℕ) → (column i : ℕ) → Option ℕ
entry cols c i = slice_get (column_of (slice_get cols c)) i

-- The columns of a home: those in RAM are the state's, those in flash the program's.
abbrev pub columns_in : Program → Home → State → List (List ℕ)
columns_in f Ram s = s.columns
columns_in f Flash s = f.flash

abbrev pub load : {H : Type 0} → Program → Home → (column i : ℕ) → Piece State H
load f home c i s w = with_found (entry (columns_in f home s) c i) put s w

-- The columns with another value in one entry.
abbrev pub set_entry : List (List ℕ) → (column i v : ℕ) → List (List ℕ)
set_entry cols c i v = slice_set cols c (slice_set (column_of (slice_get cols c)) i v)

abbrev pub set_found : {H : Type 0} → (column i v : ℕ) → Option ℕ → Piece State H
set_found c i v (Some old) s w = Gives (record s { columns = set_entry s.columns c i v }) w
set_found c i v None s w = over Wrong s w

abbrev pub store : {H : Type 0} → (column i v : ℕ) → Piece State H
store c i v s w = set_found c i v (entry s.columns c i) s w

-- What is done with the index of an object in a column that begins with another, behind the null check. The object stands in it.
abbrev pub at_object : {H : Type 0} → (first : ℕ) → (ℕ → Piece State H) → ℕ → Piece State H
at_object first go = not_null (λ n. checked (nat_le first n) (go (n - first)))

-- ---- arrays

abbrev pub arrays_of : Option (List ArrayPlace) → List ArrayPlace
arrays_of (Some places) = places
arrays_of None = []

-- Where the array with this number stands.
abbrev pub array_at : Program → (table n : ℕ) → Option ArrayPlace
array_at f table n = slice_get (arrays_of (slice_get f.tables table)) (n - 1)

-- The array stands in the column of its type: a whole number of elements behind its address.
abbrev pub stands_in : Elements → (address : ℕ) → Bool
stands_in e address = nat_le e.address address && ((address - e.address) % e.width == 0)

-- The index of an element in that column.
abbrev pub item_index : Elements → (address i : ℕ) → ℕ
item_index e address i = (address - e.address) / e.width + i

-- What is done with it, behind the null check and the bounds check.
abbrev pub at_item : {H : Type 0} → Program → Elements → (ℕ → Piece State H) → (i n : ℕ) → Piece State H
at_item f e go i =
    not_null (λ n. with_found (array_at f e.table n) (λ a.
    stop_unless (nat_lt i a.length) 2 (checked (stands_in e a.address) (go (item_index e a.address i)))))

abbrev pub put_length : {H : Type 0} → ArrayPlace → Piece State H
put_length a = put a.length

-- ---- casts

abbrev pub stop_unless_within : {H : Type 0} → (first count n : ℕ) → Piece State H
stop_unless_within first count zero s w = put 0 s w
stop_unless_within first count (suc n) s w = stop_unless (is_within first count (suc n)) 4 (put (suc n)) s w

-- ---- calls and delegates

-- A call of a procedure with so many arguments, and perhaps on a receiver.
abbrev pub Caller : Type 0 → Type 0
Caller H = (procedure count : ℕ) → (receiver : Option ℕ) → Piece State H

abbrev pub call_delegate : {H : Type 0} → Codes → Caller H → (count : ℕ) → ℕ → Piece State H
call_delegate k call count = not_null (λ v. with_found (k.at_code (code_in v)) (λ q. call q count (Some (receiver_in v))))

-- A delegate of one of the procedures; a receiver's number has two bytes.
abbrev pub put_delegate : {H : Type 0} → Codes → Program → (procedure receiver : ℕ) → Piece State H
put_delegate k f q n = checked (nat_lt q (length f.procedures) && fits 2 n) (put (delegate k q n))

-- ---- steps

-- What a step of procedure m does, where `handle` is what is done for an interrupt.
abbrev pub step : {H : Type 0} → Codes → Program → Procedure → Caller H → (handle : ℕ → Piece State H) → Step → Piece State H
step k f m call handle (Number n) = put n
step k f m call handle This = λ s. with_found s.self put s
step k f m call handle (Local i) = λ s. with_found (slice_get s.locals i) put s
step k f m call handle (SetLocal i) = taking (λ v. with_found (slice_get m.widths i) (λ width. of_width width (set_local i) v))
step k f m call handle Forget = taking (λ v. go_on)
step k f m call handle (Operate op) = taking (λ y. taking (λ x. checked (has_strings op x y) (put_computed (computed op x y))))
step k f m call handle (Apply op) = taking (λ x. checked (has_string op x) (put (applied op x)))
step k f m call handle (ReadDevice address) = read_device address put
step k f m call handle (WriteDevice address) = taking (of_width 1 (write_device address))
step k f m call handle (Load home c) = load f home c 0
step k f m call handle (Store c width) = taking (of_width width (store c 0))
step k f m call handle (LoadAt home c first) = taking (at_object first (load f home c))
step k f m call handle (StoreAt c first width) = taking (of_width width (λ v. taking (at_object first (λ i. store c i v))))
step k f m call handle LoadNothing = taking (not_null (λ n. put 0))
step k f m call handle StoreNothing = taking (λ v. taking (not_null (λ n. go_on)))
step k f m call handle (LoadItem e) = taking (λ i. taking (at_item f e (load f e.home e.column) i))
step k f m call handle (StoreItem e) = taking (of_width e.width (λ v. taking (λ i. taking (at_item f e (λ j. store e.column j v) i))))
step k f m call handle (Length table) = taking (not_null (λ n. with_found (array_at f table n) put_length))
step k f m call handle (IsWithin first count) = taking (λ n. put (as_number (is_within first count n)))
step k f m call handle (StopUnlessWithin first count) = taking (stop_unless_within first count)
step k f m call handle (Bind q) = put_delegate k f q 0
step k f m call handle (BindFor d) = taking (not_null (λ n. with_found (dispatched f.dispatches d n) (λ q. put_delegate k f q n)))
step k f m call handle (Call q count) = call q count None
step k f m call handle (CallFor d count) = from_below count (not_null (λ n. with_found (dispatched f.dispatches d n) (λ q. call q count (Some n))))
step k f m call handle (CallValue count) = from_below count (call_delegate k call count)
step k f m call handle Idle = take_interrupt handle

-- A truth value is a number other than 0.
abbrev pub truth_in : List ℕ → State → Test State
truth_in (zero ∷ vs) s = Tested false (record s { values = vs })
truth_in (suc n ∷ vs) s = Tested true (record s { values = vs })
truth_in [] s = Untested

abbrev pub truth : State → Test State
truth s = truth_in s.values s
