-- What a program of linear code does.
use Rattle.std.specs.Prelude.{ℕ, Bool, true, false, ◌==◌, ◌&&◌, List, [], ◌∷◌, ◌++◌, length, take, drop, reverse, Option}
use Rattle.std.specs.Prelude.{Some, None, slice_get, if◌then◌else◌}
use Rattle.vg_meaning.specs.Outside.{Outside, before}
use Rattle.vg_meaning.specs.History.{Active, Calling}
use Rattle.vg_codes.specs.Codes.{code_in}
use Rattle.vg_lin.specs.declared.instr.Operand.{Operand}
use Rattle.vg_lin.specs.declared.instr.Callee.{Callee}
use Rattle.vg_lin.specs.declared.instr.Callee.TheVariants.{Procedure as ByNumber, Code as ByCode}
use Rattle.vg_lin.specs.declared.instr.Passed.{Passed}
use Rattle.vg_lin.specs.declared.instr.Target.{Target}
use Rattle.vg_lin.specs.declared.instr.Registers.{Registers}
use Rattle.vg_lin.specs.declared.instr.Registers.TheVariants.{Empty, One, Two, Three, Four}
use Rattle.vg_lin.specs.declared.instr.Call.{Call}
use Rattle.vg_lin.specs.declared.instr.Instr.{Instr}
use Rattle.vg_lin.specs.Values.{low}
use Rattle.vg_lin.specs.Program.{Procedure, Program}
use Rattle.vg_lin.specs.State.{LocalState, Waiting, State, value, sets, plain, holds}
use Rattle.vg_lin.specs.Steps.{Awaits, Result, Interrupt, Entry, Language, Config, steps}
use Rattle.vg_lin.specs.Turns.{counted}

-- ---- calls

-- The arguments that go in registers.
abbrev pub operands : Registers → List Passed
operands Empty = []
operands (One a) = a ∷ []
operands (Two a b) = a ∷ b ∷ []
operands (Three a b c) = a ∷ b ∷ c ∷ []
operands (Four a b c d) = a ∷ b ∷ c ∷ d ∷ []

-- So many low bytes of a value, before other values.
abbrev pub with_value : (width : ℕ) → Option ℕ → Option (List Waiting) → Option (List Waiting)
with_value w (Some x) (Some xs) = Some (record { width = w; value = low w x } ∷ xs)
with_value w _ _ = None

abbrev pub values : List Passed → State → Option (List Waiting)
values [] s = Some []
values (a ∷ more) s = with_value a.width (value a.value s) (values more s)

-- The locals of a procedure that begins: the first ones get the arguments, the others have no value.
abbrev pub begun : (widths arguments : List ℕ) → List LocalState
begun [] xs = []
begun (w ∷ ws) [] = record { width = w; value = None } ∷ begun ws []
begun (w ∷ ws) (x ∷ xs) = record { width = w; value = Some (low w x) } ∷ begun ws xs

-- What is passed in a call has the widths of the parameters that it becomes.
abbrev pub same_widths : (widths : List ℕ) → List Waiting → Bool
same_widths ws [] = true
same_widths [] (x ∷ xs) = false
same_widths (w ∷ ws) (x ∷ xs) = (w == x.width) && same_widths ws xs

abbrev pub values_of : List Waiting → List ℕ
values_of [] = []
values_of (x ∷ xs) = x.value ∷ values_of xs

abbrev pub with_code : Program → Option ℕ → Option ℕ
with_code p (Some v) = p.codes.at_code (code_in v)
with_code p None = None

abbrev pub called : Program → Callee → State → Option ℕ
called p (ByNumber q) s = Some q
called p (ByCode a) s = with_code p (value a s)

-- A result that is not dropped is taken in the width in which it is given back.
abbrev pub gives_to : (result : ℕ) → Option Target → Bool
gives_to w (Some to) = to.width == w
gives_to w None = true

-- The entry of procedure m with the number q. The arguments are as many as its parameters.
abbrev pub entry_by : (q : ℕ) → Procedure → Option Target → (kept : State) → List Waiting → Option (Entry State)
entry_by q m to kept xs =
    if (length xs == m.params) && same_widths m.widths xs && gives_to m.result to
    then Some (record { proc = q; state = record { locals = begun m.widths (values_of xs); waiting = []; ram = kept.ram }; kept = kept })
    else None

-- The same: `pushed` are the arguments that wait, in the order in which they were pushed, and `others` are those in registers.
abbrev pub entry_with : (q : ℕ) → Procedure → Option Target → (pushed : List Waiting) → (kept : State) → Option (List Waiting) → Option (Entry State)
entry_with q m to pushed kept (Some others) = entry_by q m to kept (pushed ++ others)
entry_with q m to pushed kept None = None

abbrev pub entry_of : (q : ℕ) → Option Procedure → Call → State → Option (Entry State)
entry_of q (Some m) c s =
    if length (take c.pushed s.waiting) == c.pushed
    then entry_with q m c.to (reverse (take c.pushed s.waiting)) (record s { waiting = drop c.pushed s.waiting }) (values (operands c.registers) s)
    else None
entry_of q None c s = None

abbrev pub entry_at : Program → Option ℕ → Call → State → Option (Entry State)
entry_at p (Some q) c s = entry_of q (slice_get p.procedures q) c s
entry_at p None c s = None

abbrev pub enter : Program → Call → State → Option (Entry State)
enter p c s = entry_at p (called p c.callee s) c s

-- Behind a call the caller has its locals and what waits, and the columns as they are now; a result goes to a local.
abbrev pub with_result : Option Target → ℕ → State → State
with_result (Some to) v s = sets to.local v s
with_result None v s = s

abbrev pub resume : Awaits → (kept returned : State) → ℕ → State
resume (Result c) kept returned v = with_result c.to v (record kept { ram = returned.ram })
resume Interrupt kept returned v = record kept { ram = returned.ram }

abbrev pub cut_to : (width : ℕ) → Option ℕ → Option ℕ
cut_to w (Some x) = Some (low w x)
cut_to w None = None

-- So many low bytes of a value are the result of a procedure. Nothing waits where it returns.
abbrev pub result_of : (width : ℕ) → Operand → State → List Waiting → Option ℕ
result_of w a s [] = cut_to w (value a s)
result_of w a s (x ∷ xs) = None

abbrev pub result : (width : ℕ) → Operand → State → Option ℕ
result w a s = result_of w a s s.waiting

-- ---- interrupts and names

abbrev pub widths_of : Option Procedure → List ℕ
widths_of (Some m) = m.widths
widths_of None = []

abbrev pub wake : Program → ℕ → State → State
wake p q s = record { locals = begun (widths_of (slice_get p.procedures q)) []; waiting = []; ram = s.ram }

abbrev pub call_of : Option ℕ → Option Active
call_of (Some method) = Some (Calling method)
call_of None = None

abbrev pub name_of : Option Procedure → Option Active
name_of (Some m) = call_of m.method
name_of None = None

-- ---- programs

abbrev pub language : Program → Language State
language p =
    record {
      plain = plain p;
      holds = holds;
      value = result;
      enter = enter p;
      resume = resume;
      handler = p.handler;
      wake = wake p;
      named = λ q. name_of (slice_get p.procedures q);
    }

abbrev pub codes_in : List Procedure → List (List Instr)
codes_in [] = []
codes_in (m ∷ ms) = m.code ∷ codes_in ms

-- The state in which a run begins.
abbrev pub first_state : Program → State
first_state p = record { locals = begun (widths_of (slice_get p.procedures p.start)) []; waiting = []; ram = p.ram }

-- Before the first step.
abbrev pub at_start : Program → Outside → Config State
at_start p o =
    record {
      proc = p.start;
      pc = 0;
      state = first_state p;
      frames = [];
      woken = None;
      outside = o;
      openings = [];
      ending = None;
    }

-- A run of so many steps, with these device reads and interrupts to come.
abbrev pub run : Program → (steps' : ℕ) → (reads interrupts : List ℕ) → Config State
run p n reads interrupts = steps (language p) (codes_in p.procedures) n (at_start p (before reads interrupts))

-- How many of these steps count.
abbrev pub counted_steps : Program → (steps' : ℕ) → (reads interrupts : List ℕ) → ℕ
counted_steps p n reads interrupts = counted (language p) (codes_in p.procedures) n (at_start p (before reads interrupts))
