-- Calls and runs of packed programs.
use Rattle.std.specs.Prelude.{if◌then◌else◌, ℕ, zero, suc, ◌-◌, Bool, true, false, ◌==◌, ◌&&◌, nat_lt, List, [], ◌∷◌, ◌++◌, length, take, drop, reverse}
use Rattle.std.specs.Prelude.{replicate, Option, Some, None, slice_get}
use Rattle.vg_meaning.specs.History.{Calling, Recorder}
use Rattle.vg_meaning.specs.Answer.{OutOfClock, Gives, Piece, go_on, over, and_then}
use Rattle.vg_meaning.specs.Calls.{opened, returned}
use Rattle.vg_meaning.specs.Interrupts.{idles}
use Rattle.vg_meaning.specs.Code.{performed}
use Rattle.vg_codes.specs.Codes.{Codes}
use Rattle.vg_firm.specs.Program.{Procedure, Program}
use Rattle.vg_firm.specs.Meaning.{State, Caller, with_found, taking, checked, fits, of_width, put, step, truth}

-- ---- calls

-- The widths hold these numbers, one by one.
abbrev pub all_fit : (widths values : List ℕ) → Bool
all_fit ws [] = true
all_fit [] (v ∷ vs) = false
all_fit (w ∷ ws) (v ∷ vs) = fits w v && all_fit ws vs

-- The arguments of a call, in their order.
abbrev pub arguments : (count : ℕ) → State → List ℕ
arguments count s = reverse (take count s.values)

-- A body begins: its locals are the arguments, and 0 for each other.
abbrev pub entered : Procedure → (count : ℕ) → (self : Option ℕ) → State → State
entered m count self s =
    record {
      values = [];
      locals = arguments count s ++ replicate (length m.widths - count) 0;
      self = self;
      columns = s.columns;
    }

-- Behind a call the caller has what it had, but for the arguments, and the result waits.
abbrev pub back_in : {H : Type 0} → (count : ℕ) → State → (result : ℕ) → Piece State H
back_in count s v body w =
    Gives (record { values = v ∷ drop count s.values; locals = s.locals; self = s.self; columns = body.columns }) w

abbrev pub is_among : List ℕ → ℕ → Bool
is_among [] q = false
is_among (p ∷ ps) q = if p == q then true else is_among ps q

-- A procedure calls no other than those that it names.
abbrev pub guarded : {H : Type 0} → (calls : List ℕ) → Caller H → Caller H
guarded calls call q count self = checked (is_among calls q) (call q count self)

-- The end of a body without a return gives 0, which stands for the default of each type.
abbrev pub run_procedure : {H : Type 0} → Recorder H → Codes → Program → Caller H → (ℕ → Piece State H) → Procedure → (count : ℕ) → (self : Option ℕ) → Piece State H
run_procedure r k f call handle m count self s w =
    and_then (returned (performed r (step k f m (guarded m.calls call) handle) truth m.body (entered m count self s) w) (put 0))
    (taking (of_width m.result (back_in count s)))

-- A call on a receiver is of a procedure that gets one, and the receiver's number has two bytes.
abbrev pub may_receive : Procedure → Option ℕ → Bool
may_receive m (Some n) = m.receives && fits 2 n
may_receive m None = true

-- A receiver that is an object: its number is not 0.
abbrev pub is_object : Option ℕ → Bool
is_object (Some n) = nat_lt 0 n
is_object None = false

-- A method of a class is called on objects alone.
abbrev pub may_be_on : Procedure → Option ℕ → Bool
may_be_on m self = if m.on_objects then is_object self else true

-- A call with the right number of arguments, each of the width of its parameter.
abbrev pub may_enter : Procedure → (count : ℕ) → (self : Option ℕ) → State → Bool
may_enter m count self s = (count == m.params) && (length (arguments count s) == count) && all_fit m.widths (arguments count s) && (may_receive m self && may_be_on m self)

-- The handler of an interrupt, where there is one: it gets no argument, and its result is dropped.
abbrev pub handled : {H : Type 0} → Caller H → Option ℕ → Piece State H
handled call (Some q) s w = and_then (call q 0 None s w) (taking (λ v. go_on))
handled call None s w = Gives s w

-- A call enters one of the procedures.
abbrev pub entering : {H : Type 0} → Program → (procedure count : ℕ) → (self : Option ℕ) → (Procedure → Piece State H) → Piece State H
entering f q count self go s = with_found (slice_get f.procedures q) (λ m. checked (may_enter m count self s) (go m)) s

-- Calls are at most n deep, where n is at least the ticks that are left.
abbrev pub called : {H : Type 0} → Recorder H → Codes → Program → ℕ → Caller H
called r k f zero q count self = entering f q count self (λ m. over OutOfClock)
called r k f (suc n) q count self =
    entering f q count self (λ m. opened r (Calling m.method)
    (run_procedure r k f (called r k f n) (λ vector. handled (called r k f n) (f.handler vector)) m count self))

-- ---- runs

-- Before main is called.
abbrev pub first_state : Program → State
first_state f = record { values = []; locals = []; self = None; columns = f.ram }

-- Main is called, and then the interrupts are taken, where n is at least their number.
abbrev pub running : {H : Type 0} → Recorder H → Codes → Program → (interrupts : ℕ) → Piece State H
running r k f n s w =
    and_then (handled (called r k f w.clock) (Some f.main) s w)
    (idles n (λ vector s1 w1. handled (called r k f w1.clock) (f.handler vector) s1 w1))
