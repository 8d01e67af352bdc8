-- The packed program of Packed as linear code, written by hand, and its runs by computation.
use Rattle.std.specs.Prelude.{◌≡◌, refl, ℕ, List, [], ◌∷◌, Some, None}
use Rattle.vg_meaning.specs.declared.event.Event.TheVariants.{Read, Write, Enter}
use Rattle.vg_meaning.specs.History.{Calling as OpenCall}
use Rattle.vg_meaning.specs.Answer.{Stops, Wants, Done, Wrong}
use Rattle.vg_lin.specs.declared.instr.Operand.TheVariants.{Local, Known}
use Rattle.vg_lin.specs.declared.instr.Operator.TheVariants.{Plus, Minus}
use Rattle.vg_lin.specs.declared.instr.Comparison.TheVariants.{Below, Same}
use Rattle.vg_lin.specs.declared.instr.Test.{Test}
use Rattle.vg_lin.specs.declared.instr.Memory.TheVariants.{Ram, Flash}
use Rattle.vg_lin.specs.declared.instr.Plain.TheVariants.{Copy, Compute, Load, Store, ReadDevice, WriteDevice, Push, Pop, Find, Stop}
use Rattle.vg_lin.specs.declared.instr.Callee.TheVariants.{Procedure as ByNumber, Code as ByCode}
use Rattle.vg_lin.specs.declared.instr.Registers.TheVariants.{Empty, One}
use Rattle.vg_lin.specs.declared.instr.Call.{Call as Calling}
use Rattle.vg_lin.specs.declared.instr.Instr.{Instr}
use Rattle.vg_lin.specs.declared.instr.Instr.TheVariants.{Plain, When, Unless, Jump, Call, Return, Idle}
use Rattle.vg_lin.specs.Program.{Procedure, Program}
use Rattle.vg_lin.specs.Meaning.{run, counted_steps}
use Rattle.vg_lin_rows.specs.Shown.{Shown, seen}
use Rattle.vg_lin_rows.specs.Packed.{codes, vector_three}

abbrev pub start_call : Calling
start_call = record { callee = ByNumber 0; pushed = 0; registers = Empty; to = None }

-- the call of `count` on object 2: the receiver goes in a register, and x is pushed
abbrev pub count_call : Calling
count_call = record { callee = ByCode (Local 1); pushed = 1; registers = One (record { width = 2; value = Known 2 }); to = None }

abbrev pub is_zero : Test
is_zero = record { comparison = Same; width = 4; left = Local 0; right = Known 0 }

-- locals: x of four bytes, the code number of two
abbrev pub main : Procedure
main =
    record {
      method = Some 0;
      params = 0;
      result = 0;
      widths = 4 ∷ 2 ∷ [];
      code =
          Plain (ReadDevice 0 0x36) ∷ When is_zero 7 ∷ Plain (Find 0 1 (Known 2)) ∷ Plain (Push 4 (Local 0)) ∷ Call count_call
          ∷ Plain (Compute (record { operator = Minus; width = 4; to = 0; left = Local 0; right = Known 1 })) ∷ Jump 1 ∷ Return 0 (Known 0) ∷ [];
    }

abbrev pub nothing_done : Procedure
nothing_done = record { method = Some 4; params = 2; result = 0; widths = 4 ∷ 2 ∷ []; code = Return 0 (Known 0) ∷ [] }

-- locals: n, the receiver, the sum
abbrev pub count : Procedure
count =
    record {
      method = Some 7;
      params = 2;
      result = 0;
      widths = 4 ∷ 2 ∷ 4 ∷ [];
      code =
          Plain (Load Ram 4 2 (record { base = 0x100; index = Known 0 }))
          ∷ Plain (Compute (record { operator = Plus; width = 4; to = 2; left = Local 2; right = Local 0 }))
          ∷ Plain (Store 4 (record { base = 0x100; index = Known 0 }) (Local 2)) ∷ Plain (WriteDevice 0x38 (Local 2)) ∷ Return 0 (Known 0) ∷ [];
    }

-- the bounds check of a known index against the length in the table, and the element at the place in the table
abbrev pub handler : (index : ℕ) → Procedure
handler index =
    record {
      method = Some 9;
      params = 0;
      result = 0;
      widths = 2 ∷ 1 ∷ [];
      code =
          Plain (Load Flash 2 0 (record { base = 0x91; index = Known 0 }))
          ∷ Unless (record { comparison = Below; width = 2; left = Known index; right = Local 0 }) 6
          ∷ Plain (Load Flash 2 0 (record { base = 0x8F; index = Known 0 })) ∷ Plain (Load Flash 1 1 (record { base = index; index = Local 0 }))
          ∷ Plain (WriteDevice 0x37 (Local 1)) ∷ Return 0 (Known 0) ∷ Plain (Stop 2) ∷ [];
    }

abbrev pub start : Procedure
start = record { method = None; params = 0; result = 0; widths = []; code = Call start_call ∷ Idle ∷ Jump 1 ∷ [] }

-- In flash stand the letters from 0x8C on, and then the table: the place 0x8C and the length 3, two bytes each.
abbrev pub linear : (index : ℕ) → Program
linear index =
    record {
      procedures = main ∷ nothing_done ∷ count ∷ handler index ∷ start ∷ [];
      dispatches = (record { first = 1; count = 1; procedure = 1 } ∷ record { first = 2; count = 1; procedure = 2 } ∷ []) ∷ [];
      codes = codes;
      tables = 65 ∷ 66 ∷ 67 ∷ 0x8C ∷ 0 ∷ 3 ∷ 0 ∷ [];
      ram = 0 ∷ 0 ∷ 0 ∷ 0 ∷ [];
      handler = vector_three;
      start = 4;
    }

-- The run shows what the packed one does; from the step on that ends it, it stays as it is.
whole_run : seen (run (linear 1) 60 (2 ∷ []) (3 ∷ 5 ∷ []))
    ≡ record {
      trace = Read 0x36 2 ∷ Write 0x38 2 ∷ Write 0x38 3 ∷ Enter 3 ∷ Write 0x37 66 ∷ Enter 5 ∷ [];
      openings =
          (OpenCall 9 ∷ []) ∷ (OpenCall 7 ∷ OpenCall 0 ∷ []) ∷ (OpenCall 7 ∷ OpenCall 0 ∷ []) ∷ (OpenCall 0 ∷ []) ∷ [];
      ending = Some Done;
    }
whole_run = refl

-- Of its steps count the three calls, the three tests of the loop, the three times that it idles, and what is done with each of the two
-- interrupts; the test of the bounds check does not.
eleven_count : counted_steps (linear 1) 60 (2 ∷ []) (3 ∷ 5 ∷ []) ≡ 11
eleven_count = refl

wanting_run : (seen (run (linear 1) 60 [] [])).ending ≡ Some (Wants 0x36)
wanting_run = refl

index_passed : (seen (run (linear 3) 60 (0 ∷ []) (3 ∷ []))).ending ≡ Some (Stops 2 None)
index_passed = refl

-- An interrupt is taken in one step, and its handler is called in the next: main is done in 4 steps, and the sixth takes it.
taken_alone : seen (run (linear 1) 5 (0 ∷ []) (3 ∷ []))
    ≡ record { trace = Read 0x36 0 ∷ Enter 3 ∷ []; openings = (OpenCall 0 ∷ []) ∷ []; ending = None }
taken_alone = refl

then_called : (seen (run (linear 1) 6 (0 ∷ []) (3 ∷ []))).openings ≡ (OpenCall 9 ∷ []) ∷ (OpenCall 0 ∷ []) ∷ []
then_called = refl

-- A program of one procedure.
abbrev pub alone : (widths : List ℕ) → List Instr → Program
alone widths code =
    record {
      procedures = record { method = None; params = 0; result = 0; widths = widths; code = code } ∷ [];
      dispatches = [];
      codes = codes;
      tables = [];
      ram = 1 ∷ 2 ∷ 3 ∷ [];
      handler = λ v. None;
      start = 0;
    }

abbrev pub alone_shows : (widths : List ℕ) → List Instr → Shown
alone_shows widths code = seen (run (alone widths code) 20 [] [])

-- A local has no value until it gets one, and a value is cut to the width of its local.
no_value : (alone_shows (1 ∷ []) (Plain (WriteDevice 0x38 (Local 0)) ∷ Idle ∷ [])).ending ≡ Some Wrong
no_value = refl

cut : (alone_shows (1 ∷ []) (Plain (Copy 0 (Known 0x1FF)) ∷ Plain (WriteDevice 0x38 (Local 0)) ∷ Idle ∷ [])).trace ≡ Write 0x38 0xFF ∷ []
cut = refl

-- A number stands low bytes first, and a load of bytes that are not all there is Wrong.
two_bytes : (alone_shows (2 ∷ []) (Plain (Load Ram 2 0 (record { base = 0x100; index = Known 1 })) ∷ When
    (record { comparison = Same; width = 2; left = Local 0; right = Known 0x302 }) 3 ∷ Idle ∷ Plain (Stop 9) ∷ [])).ending ≡ Some (Stops 9 None)
two_bytes = refl

not_there : (alone_shows (2 ∷ []) (Plain (Load Ram 2 0 (record { base = 0x100; index = Known 2 })) ∷ Idle ∷ [])).ending ≡ Some Wrong
not_there = refl

-- What was pushed is taken back, cut to its width, and in no other width.
taken_back : (alone_shows (2 ∷ []) (Plain (Push 1 (Known 0x1FF)) ∷ Plain (Pop 1 0) ∷ Plain (WriteDevice 0x38 (Local 0)) ∷ Idle ∷ [])).trace
    ≡ Write 0x38 0xFF ∷ []
taken_back = refl

taken_wider : (alone_shows (2 ∷ []) (Plain (Push 1 (Known 1)) ∷ Plain (Pop 2 0) ∷ Idle ∷ [])).ending ≡ Some Wrong
taken_wider = refl

nothing_taken : (alone_shows (2 ∷ []) (Plain (Pop 1 0) ∷ Idle ∷ [])).ending ≡ Some Wrong
nothing_taken = refl

-- A procedure of one parameter of two bytes, which gives back its low byte.
abbrev pub low_byte : Procedure
low_byte = record { method = None; params = 1; result = 1; widths = 2 ∷ []; code = Return 1 (Local 0) ∷ [] }

-- It is called with so many bytes of a number, and so many are taken of its result.
abbrev pub calls_low_byte : (passed taken : ℕ) → Procedure
calls_low_byte passed taken =
    record {
      method = None;
      params = 0;
      result = 0;
      widths = 4 ∷ [];
      code =
          Call (record {
            callee = ByNumber 1;
            pushed = 0;
            registers = One (record { width = passed; value = Known 0x10205 });
            to = Some (record { width = taken; local = 0 });
          }) ∷ Plain (WriteDevice 0x38 (Local 0)) ∷ Idle ∷ [];
    }

abbrev pub low_byte_shows : (passed taken : ℕ) → Shown
low_byte_shows passed taken = seen (run (record (alone [] []) { procedures = calls_low_byte passed taken ∷ low_byte ∷ [] }) 20 [] [])

in_its_widths : (low_byte_shows 2 1).trace ≡ Write 0x38 5 ∷ []
in_its_widths = refl

passed_narrow : (low_byte_shows 1 1).ending ≡ Some Wrong
passed_narrow = refl

result_wide : (low_byte_shows 2 4).ending ≡ Some Wrong
result_wide = refl
