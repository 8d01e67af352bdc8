-- Runs of small bodies, flattened, by what linear code means. What they show was worked by hand.
use Rattle.std.specs.Prelude.{◌≡◌, refl, ℕ, ◌+◌, ◌-◌, ◌*◌, nat_le, if◌then◌else◌, List, [], ◌∷◌, ◌++◌, replicate, Option, Some, None}
use Rattle.vg_meaning.specs.declared.event.Event.{Event}
use Rattle.vg_meaning.specs.declared.event.Event.TheVariants.{Write}
use Rattle.vg_meaning.specs.Answer.{End, Stops, Done}
use Rattle.vg_meaning.specs.Code.{Code, Nothing, Then, Do, If, Loop, Return as Returning}
use Rattle.vg_codes.specs.Codes.{Codes}
use Rattle.vg_firm.specs.declared.step.Order.TheVariants.{Signed}
use Rattle.vg_firm.specs.declared.step.Operator.TheVariants.{Plus, Less, Unequal}
use Rattle.vg_firm.specs.declared.step.Prefix.TheVariants.{Cut}
use Rattle.vg_firm.specs.declared.step.Step.{Step}
use Rattle.vg_firm.specs.declared.step.Step.TheVariants.{Number, Local as Get, SetLocal, Forget, Operate, Apply, WriteDevice, LoadItem, StoreItem}
use Rattle.vg_firm.specs.declared.step.Step.TheVariants.{Length, Call as CallOf, CallValue}
use Rattle.vg_lin.specs.declared.instr.Operand.TheVariants.{Local, Known}
use Rattle.vg_lin.specs.declared.instr.Plain.TheVariants.{WriteDevice as Writes}
use Rattle.vg_lin.specs.declared.instr.Callee.TheVariants.{Procedure as ByNumber}
use Rattle.vg_lin.specs.declared.instr.Registers.{Registers}
use Rattle.vg_lin.specs.declared.instr.Registers.TheVariants.{Empty, One, Two, Three}
use Rattle.vg_lin.specs.declared.instr.Instr.{Instr}
use Rattle.vg_lin.specs.declared.instr.Instr.TheVariants.{Plain, Jump, Call, Return, Idle}
use Rattle.vg_lin.specs.Program.{Procedure, Program}
use Rattle.vg_lin.specs.Meaning.{run}
use Rattle.vg_flatten_rows.specs.Bodies.{steps, procedure, flattened_in, layout, two, four, four_to, bytes, sum}

-- Procedures have the code numbers from 256 on.
abbrev pub codes : Codes
codes = record { code = λ q. 256 + q; at_code = λ v. if nat_le 256 v then Some (v - 256) else None }

abbrev pub code_in : Option (List Instr) → List Instr
code_in (Some code) = code
code_in None = []

-- A body with so many parameters and locals of these widths, flattened with eight temporaries.
abbrev pub body_of : (params : ℕ) → (widths : List ℕ) → Code Step → Procedure
body_of params widths body =
    record {
      method = Some 0;
      params = params;
      result = 4;
      widths = widths ++ replicate 8 4;
      code = code_in (flattened_in layout 8 (procedure params widths body));
    }

-- The body is called with these arguments, and what it gives back is written to 0x37.
abbrev pub start : Registers → Procedure
start args =
    record {
      method = None;
      params = 0;
      result = 0;
      widths = 4 ∷ [];
      code =
          Call (record { callee = ByNumber 0; pushed = 0; registers = args; to = four_to 0 }) ∷ Plain (Writes 0x37 (Local 0)) ∷ Idle ∷ Jump 2 ∷ [];
    }

-- Procedures that are called: one more than its parameter; and its two parameters are written.
abbrev pub one_more : Procedure
one_more = record { method = Some 2; params = 1; result = 4; widths = 4 ∷ 4 ∷ []; code = sum 4 1 (Local 0) (Known 1) ∷ Return 4 (Local 1) ∷ [] }

abbrev pub written : Procedure
written =
    record {
      method = Some 3;
      params = 2;
      result = 4;
      widths = 4 ∷ 4 ∷ [];
      code = Plain (Writes 0x38 (Local 0)) ∷ Plain (Writes 0x38 (Local 1)) ∷ Return 4 (Known 0) ∷ [];
    }

-- A method of which delegates are made: its receiver, of two bytes, is written.
abbrev pub called : Procedure
called = record { method = Some 1; params = 1; result = 4; widths = 2 ∷ []; code = Plain (Writes 0x38 (Local 0)) ∷ Return 4 (Known 0) ∷ [] }

-- Two arrays of three bytes stand in RAM, at 256 and at 259, by a table at 180: an address and a length each.
abbrev pub program : Procedure → Registers → Program
program body args =
    record {
      procedures = body ∷ called ∷ one_more ∷ written ∷ start args ∷ [];
      dispatches = [];
      codes = codes;
      tables = replicate 40 0 ++ (0 ∷ 1 ∷ 3 ∷ 0 ∷ 3 ∷ 1 ∷ 3 ∷ 0 ∷ []);
      ram = 7 ∷ 8 ∷ 9 ∷ 17 ∷ 18 ∷ 19 ∷ [];
      handler = λ v. None;
      start = 4;
    }

pub record Seen : Type 0 where
  pub trace : List Event
  pub ending : Option End

-- What a run of so many steps shows.
abbrev pub seen : (steps' : ℕ) → Procedure → Registers → Seen
seen n body args =
    record { trace = (run (program body args) n [] []).outside.trace; ending = (run (program body args) n [] []).ending }

abbrev pub done : List Event → Seen
done trace = record { trace = trace; ending = Some Done }

-- x = 5;
constant_run : seen 40 (body_of 0 (4 ∷ []) (steps (Number 5 ∷ SetLocal 0 ∷ Get 0 ∷ WriteDevice 0x38 ∷ []) Nothing)) Empty
    ≡ done (Write 0x38 5 ∷ Write 0x37 0 ∷ [])
constant_run = refl

-- return x + 1; of an int, of which the low byte is written; and of a raw.8
increment_run : seen 40 (body_of 1 (4 ∷ []) (steps (Get 0 ∷ Number 1 ∷ Operate Plus ∷ []) Returning)) (One (four (Known 41))) ≡ done (Write 0x37 42 ∷ [])
increment_run = refl

narrow_run : seen 40 (body_of 1 (1 ∷ []) (steps (Get 0 ∷ Number 1 ∷ Operate Plus ∷ Apply (Cut 8) ∷ []) Returning)) (One (record { width = 1; value = Known 255 }))
    ≡ done (Write 0x37 0 ∷ [])
narrow_run = refl

-- if (a < b && c != 0) return 1; return 2;
abbrev pub conjunction : Code Step
conjunction =
    Then (Then (steps (Get 0 ∷ Get 1 ∷ Operate (Less Signed) ∷ []) (If (steps (Get 2 ∷ Number 0 ∷ Operate Unequal ∷ []) Nothing) (Do (Number 0))))
    (If (steps (Number 1 ∷ []) Returning) Nothing)) (steps (Number 2 ∷ []) Returning)

both_hold : seen 40 (body_of 3 (4 ∷ 4 ∷ 4 ∷ []) conjunction) (Three (four (Known 0xFFFFFFFF)) (four (Known 0)) (four (Known 3))) ≡ done (Write 0x37 1 ∷ [])
both_hold = refl

second_fails : seen 40 (body_of 3 (4 ∷ 4 ∷ 4 ∷ []) conjunction) (Three (four (Known 1)) (four (Known 2)) (four (Known 0))) ≡ done (Write 0x37 2 ∷ [])
second_fails = refl

first_fails : seen 40 (body_of 3 (4 ∷ 4 ∷ 4 ∷ []) conjunction) (Three (four (Known 2)) (four (Known 1)) (four (Known 3))) ≡ done (Write 0x37 2 ∷ [])
first_fails = refl

-- for (i = 0; i < a.length; i = i + 1) M.PORTB = a[i]; of the first array, and of null, which stops
abbrev pub over_array : Code Step
over_array =
    steps (Number 0 ∷ SetLocal 1 ∷ []) (Loop (steps (Get 1 ∷ Get 0 ∷ Length 0 ∷ Operate (Less Signed) ∷ []) Nothing)
    (steps (Get 0 ∷ Get 1 ∷ LoadItem bytes ∷ WriteDevice 0x38 ∷ []) Nothing) (steps (Get 1 ∷ Number 1 ∷ Operate Plus ∷ SetLocal 1 ∷ []) Nothing))

array_run : seen 120 (body_of 1 (2 ∷ 4 ∷ []) over_array) (One (two (Known 1))) ≡ done (Write 0x38 7 ∷ Write 0x38 8 ∷ Write 0x38 9 ∷ Write 0x37 0 ∷ [])
array_run = refl

null_run : seen 120 (body_of 1 (2 ∷ 4 ∷ []) over_array) (One (two (Known 0))) ≡ record { trace = []; ending = Some (Stops 1 None) }
null_run = refl

-- f(g(x), 2); g gives one more, f writes both
chain_run : seen 40 (body_of 1 (4 ∷ []) (steps (Get 0 ∷ CallOf 2 1 ∷ Number 2 ∷ CallOf 3 2 ∷ Forget ∷ []) Nothing)) (One (four (Known 5)))
    ≡ done (Write 0x38 6 ∷ Write 0x38 2 ∷ Write 0x37 0 ∷ [])
chain_run = refl

-- d(); of a delegate of the procedure 1 with the receiver 9
delegate_run : seen 40 (body_of 1 (4 ∷ []) (steps (Get 0 ∷ CallValue 0 ∷ Forget ∷ []) Nothing)) (One (four (Known (257 + 9 * 65536))))
    ≡ done (Write 0x38 9 ∷ Write 0x37 0 ∷ [])
delegate_run = refl

-- return f(x) + f(y);
sum_run : seen 40 (body_of 2 (4 ∷ 4 ∷ []) (steps (Get 0 ∷ CallOf 2 1 ∷ Get 1 ∷ CallOf 2 1 ∷ Operate Plus ∷ []) Returning)) (Two (four (Known 30)) (four (Known 10)))
    ≡ done (Write 0x37 42 ∷ [])
sum_run = refl

-- return (x + y) :: raw.8;
cast_run : seen 40 (body_of 2 (4 ∷ 4 ∷ []) (steps (Get 0 ∷ Get 1 ∷ Operate Plus ∷ Apply (Cut 8) ∷ []) Returning)) (Two (four (Known 200)) (four (Known 100)))
    ≡ done (Write 0x37 44 ∷ [])
cast_run = refl

-- while (true) {} goes on.
endless_run : seen 120 (body_of 0 [] (Loop (Do (Number 1)) Nothing Nothing)) Empty ≡ record { trace = []; ending = None }
endless_run = refl

-- a[i] = b[i]; return a[i]; of the two arrays, at the index 2; and at the index 3, which stops
abbrev pub copied : Code Step
copied =
    steps (Get 0 ∷ Get 2 ∷ Get 1 ∷ Get 2 ∷ LoadItem bytes ∷ StoreItem bytes ∷ Get 0 ∷ Get 2 ∷ LoadItem bytes ∷ []) Returning

copied_run : seen 80 (body_of 3 (2 ∷ 2 ∷ 4 ∷ []) copied) (Three (two (Known 1)) (two (Known 2)) (four (Known 2))) ≡ done (Write 0x37 19 ∷ [])
copied_run = refl

index_run : seen 80 (body_of 3 (2 ∷ 2 ∷ 4 ∷ []) copied) (Three (two (Known 1)) (two (Known 2)) (four (Known 3))) ≡ record { trace = []; ending = Some (Stops 2 None) }
index_run = refl
