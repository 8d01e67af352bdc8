-- A packed program with a loop, a dispatch, a column in RAM, an array in flash, a handler and a delegate; and its runs by computation.
use Rattle.std.specs.Prelude.{◌≡◌, refl, Bool, true, false, ℕ, ◌+◌, ◌-◌, ◌==◌, ◌&&◌, nat_lt, nat_le, if◌then◌else◌, List, [], ◌∷◌, length, Option, Some, None}
use Rattle.vg_meaning.specs.declared.event.Event.TheVariants.{Read, Write, Enter}
use Rattle.vg_meaning.specs.Outside.{before}
use Rattle.vg_meaning.specs.History.{Calling, History, no_history, full}
use Rattle.vg_meaning.specs.World.{World, Running}
use Rattle.vg_meaning.specs.Answer.{Stops, Wants, Done, OutOfClock, Wrong, Answer}
use Rattle.vg_meaning.specs.Code.{Code, Nothing, Then, Do, Loop}
use Rattle.vg_codes.specs.Codes.{Codes}
use Rattle.vg_firm.specs.declared.step.Home.TheVariants.{Ram, Flash}
use Rattle.vg_firm.specs.declared.step.Operator.TheVariants.{Plus, Minus, Divide}
use Rattle.vg_firm.specs.declared.step.Prefix.TheVariants.{Cut}
use Rattle.vg_firm.specs.declared.step.Elements.{Elements}
use Rattle.vg_firm.specs.declared.step.Step.{Step}
use Rattle.vg_firm.specs.declared.step.Step.TheVariants.{Number, Local, SetLocal, Forget, Operate, Apply, ReadDevice, WriteDevice, Load, Store, LoadAt}
use Rattle.vg_firm.specs.declared.step.Step.TheVariants.{StoreNothing, LoadItem, This, Bind, BindFor, Call, CallFor, CallValue}
use Rattle.vg_firm.specs.Program.{Procedure, Program}
use Rattle.vg_firm.specs.Meaning.{State}
use Rattle.vg_firm.specs.Session.{first_state, running}
use Rattle.vg_lin_rows.specs.Shown.{Shown, shown}

-- One step behind another.
abbrev pub steps : List Step → Code Step
steps [] = Nothing
steps (p ∷ ps) = Then (Do p) (steps ps)

-- Procedures have the code numbers from 256 on.
abbrev pub place_of : ℕ → Option ℕ
place_of v = if nat_le 256 v && nat_lt v 260 then Some (v - 256) else None

abbrev pub codes : Codes
codes = record { code = λ q. 256 + q; at_code = place_of }

-- the chars of an array type stand in a column at 0x90; its one array has three
abbrev pub letters : Elements
letters = record { home = Flash; column = 0; address = 0x90; table = 0; width = 1 }

-- main of method 0: x = read 0x36; while (x != 0) { (object 2).count(x); x = x - 1; }
abbrev pub main : Procedure
main =
    record {
      method = 0;
      params = 0;
      receives = false;
      on_objects = false;
      widths = 4 ∷ [];
      result = 0;
      calls = 1 ∷ 2 ∷ [];
      body =
          Then (steps (ReadDevice 0x36 ∷ SetLocal 0 ∷ []))
          (Loop (steps (Local 0 ∷ [])) (steps (Number 2 ∷ Local 0 ∷ CallFor 0 1 ∷ Forget ∷ Local 0 ∷ Number 1 ∷ Operate Minus ∷ SetLocal 0 ∷ [])) Nothing);
    }

-- method 4, of object 1: nothing
abbrev pub nothing_done : Procedure
nothing_done = record { method = 4; params = 1; receives = true; on_objects = true; widths = 4 ∷ []; result = 0; calls = []; body = Nothing }

-- method 7, of object 2: sum = sum + n; write the low byte of sum to 0x38
abbrev pub count : Procedure
count =
    record {
      method = 7;
      params = 1;
      receives = true;
      on_objects = true;
      widths = 4 ∷ [];
      result = 0;
      calls = [];
      body = steps (Load Ram 0 ∷ Local 0 ∷ Operate Plus ∷ Store 0 4 ∷ Load Ram 0 ∷ Apply (Cut 8) ∷ WriteDevice 0x38 ∷ []);
    }

-- the handler, method 9: write letters[1] to 0x37, and then an element that is not there
abbrev pub handler : (index : ℕ) → Procedure
handler index =
    record {
      method = 9;
      params = 0;
      receives = false;
      on_objects = false;
      widths = [];
      result = 0;
      calls = [];
      body = steps (Number 1 ∷ Number index ∷ LoadItem letters ∷ WriteDevice 0x37 ∷ []);
    }

abbrev pub vector_three : ℕ → Option ℕ
vector_three v = if v == 3 then Some 3 else None

abbrev pub packed : (index : ℕ) → Program
packed index =
    record {
      flash = (65 ∷ 66 ∷ 67 ∷ []) ∷ [];
      tables = (record { address = 0x90; length = 3 } ∷ []) ∷ [];
      ram = (0 ∷ []) ∷ [];
      procedures = main ∷ nothing_done ∷ count ∷ handler index ∷ [];
      dispatches = (record { first = 1; count = 1; procedure = 1 } ∷ record { first = 2; count = 1; procedure = 2 } ∷ []) ∷ [];
      main = 0;
      handler = vector_three;
    }

abbrev pub world : (clock : ℕ) → (reads interrupts : List ℕ) → World History
world clock reads interrupts =
    record { phase = Running; deepest = None; largest = None; clock = clock; outside = before reads interrupts; history = no_history }

abbrev pub packed_run : Program → (clock : ℕ) → (reads interrupts : List ℕ) → Answer State History
packed_run f clock reads interrupts = running full codes f (length interrupts) (first_state f) (world clock reads interrupts)

-- Six ticks: main, two turns, two calls, the handler.
whole_run : shown (packed_run (packed 1) 6 (2 ∷ []) (3 ∷ 5 ∷ []))
    ≡ record {
      trace = Read 0x36 2 ∷ Write 0x38 2 ∷ Write 0x38 3 ∷ Enter 3 ∷ Write 0x37 66 ∷ Enter 5 ∷ [];
      openings = (Calling 9 ∷ []) ∷ (Calling 7 ∷ Calling 0 ∷ []) ∷ (Calling 7 ∷ Calling 0 ∷ []) ∷ (Calling 0 ∷ []) ∷ [];
      ending = Some Done;
    }
whole_run = refl

-- With five the interrupt is taken, and its handler is not called.
short_run : shown (packed_run (packed 1) 5 (2 ∷ []) (3 ∷ 5 ∷ []))
    ≡ record {
      trace = Read 0x36 2 ∷ Write 0x38 2 ∷ Write 0x38 3 ∷ Enter 3 ∷ [];
      openings = (Calling 7 ∷ Calling 0 ∷ []) ∷ (Calling 7 ∷ Calling 0 ∷ []) ∷ (Calling 0 ∷ []) ∷ [];
      ending = Some OutOfClock;
    }
short_run = refl

-- No read is left.
wanting_run : (shown (packed_run (packed 1) 6 [] [])).ending ≡ Some (Wants 0x36)
wanting_run = refl

-- An index that is not below the length stops with 2.
index_passed : (shown (packed_run (packed 3) 6 (0 ∷ []) (3 ∷ []))).ending ≡ Some (Stops 2 None)
index_passed = refl

-- A program of one procedure, which names no procedure that it calls.
abbrev pub alone : List Step → Program
alone body =
    record {
      flash = [];
      tables = [];
      ram = (0 ∷ []) ∷ [];
      procedures = record { method = 0; params = 0; receives = true; on_objects = false; widths = 1 ∷ []; result = 0; calls = []; body = steps body } ∷ [];
      dispatches = [];
      main = 0;
      handler = λ v. None;
    }

abbrev pub alone_ends : List Step → Shown
alone_ends body = shown (packed_run (alone body) 5 [] [])

-- A null check comes first where the field is not kept, and behind the value.
null_store : (alone_ends (Number 0 ∷ Number 7 ∷ StoreNothing ∷ [])).ending ≡ Some (Stops 1 None)
null_store = refl

-- A division by zero stops with 3.
by_zero : (alone_ends (Number 7 ∷ Number 0 ∷ Operate Divide ∷ Forget ∷ [])).ending ≡ Some (Stops 3 None)
by_zero = refl

-- -7 / 2 is -3: toward zero.
toward_zero : (alone_ends (Number 0xFFFFFFF9 ∷ Number 2 ∷ Operate Divide ∷ Apply (Cut 8) ∷ WriteDevice 0x38 ∷ [])).trace ≡ Write 0x38 0xFD ∷ []
toward_zero = refl

-- A value that its width does not hold is Wrong, and so is a call that the procedure does not name.
too_wide : (alone_ends (Number 256 ∷ SetLocal 0 ∷ [])).ending ≡ Some Wrong
too_wide = refl

not_named : (alone_ends (Bind 0 ∷ CallValue 0 ∷ [])).ending ≡ Some Wrong
not_named = refl

-- The entry of an object in a column that begins with object 2; object 1 does not stand in it.
object_two : (alone_ends (Number 2 ∷ LoadAt Ram 0 2 ∷ WriteDevice 0x38 ∷ [])).trace ≡ Write 0x38 0 ∷ []
object_two = refl

object_one : (alone_ends (Number 1 ∷ LoadAt Ram 0 2 ∷ Forget ∷ [])).ending ≡ Some Wrong
object_one = refl

-- A delegate is called on its receiver, and a procedure that gets none is called on none.
abbrev pub delegated : (receives on : Bool) → List Step → Program
delegated receives on body =
    record {
      flash = [];
      tables = [];
      ram = [];
      procedures = record { method = 0; params = 0; receives = false; on_objects = false; widths = []; result = 0; calls = 1 ∷ []; body = steps body }
          ∷ record { method = 1; params = 0; receives = receives; on_objects = on; widths = []; result = 0; calls = []; body = steps (This ∷ WriteDevice 0x38 ∷ []) } ∷ [];
      dispatches = (record { first = 2; count = 3; procedure = 1 } ∷ []) ∷ [];
      main = 0;
      handler = λ v. None;
    }

abbrev pub delegate_shows : (receives : Bool) → List Step → Shown
delegate_shows receives body = shown (packed_run (delegated receives false body) 5 [] [])

-- the object 4 has the method
bound_object : (delegate_shows true (Number 4 ∷ BindFor 0 ∷ CallValue 0 ∷ Forget ∷ [])).trace ≡ Write 0x38 4 ∷ []
bound_object = refl

dispatched_object : (delegate_shows true (Number 4 ∷ CallFor 0 0 ∷ Forget ∷ [])).trace ≡ Write 0x38 4 ∷ []
dispatched_object = refl

bound_component : (delegate_shows true (Bind 1 ∷ CallValue 0 ∷ Forget ∷ [])).trace ≡ Write 0x38 0 ∷ []
bound_component = refl

-- null is no object, and no delegate
null_object : (delegate_shows true (Number 0 ∷ BindFor 0 ∷ Forget ∷ [])).ending ≡ Some (Stops 1 None)
null_object = refl

null_delegate : (delegate_shows true (Number 0 ∷ CallValue 0 ∷ Forget ∷ [])).ending ≡ Some (Stops 1 None)
null_delegate = refl

gets_none : (delegate_shows false (Bind 1 ∷ CallValue 0 ∷ Forget ∷ [])).ending ≡ Some Wrong
gets_none = refl

-- A method of a class is called on objects alone.
abbrev pub method_shows : List Step → Shown
method_shows body = shown (packed_run (delegated true true body) 5 [] [])

on_object : (method_shows (Number 4 ∷ CallFor 0 0 ∷ Forget ∷ [])).trace ≡ Write 0x38 4 ∷ []
on_object = refl

on_null : (method_shows (Bind 1 ∷ CallValue 0 ∷ Forget ∷ [])).ending ≡ Some Wrong
on_null = refl

on_nothing : (method_shows (Call 1 0 ∷ Forget ∷ [])).ending ≡ Some Wrong
on_nothing = refl
