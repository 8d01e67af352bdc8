-- The code of an instruction of linear code, as it is made: by what is known of where the instruction leads, of what waits before it, and of the
-- code numbers of procedures.
use Rattle.std.specs.Prelude.{ℕ, true, false, List, [], ◌∷◌, ◌++◌, None}
use Rattle.vg_codes.specs.declared.case.Case.{Case}
use Rattle.avr_instr.specs.declared.instr.Instr.{Instr as Avr}
use Rattle.avr_instr.specs.declared.instr.Instr.TheVariants.{Call as CallAt}
use Rattle.vg_lin.specs.declared.instr.Instr.{Instr}
use Rattle.vg_lin.specs.declared.instr.Instr.TheVariants.{Plain, When, Unless, Jump, Call, Return, Idle}
use Rattle.vg_lin.specs.Program.{Program}
use Rattle.vg_templates.specs.Layouts.{Layout}
use Rattle.vg_templates.specs.Branches.{tests, told_by}
use Rattle.vg_templates.specs.Calls.{Way, call_code}
use Rattle.vg_templates.specs.Returns.{returns_value}
use Rattle.vg_templates.specs.Flow.{Hop, jump_code, Turn, branch_code, way_of}
use Rattle.vg_templates.specs.Plains.{plain_template}
use Rattle.vg_templates.specs.Whole.{call_front, call_back}

-- The code of a plain instruction asks of a program for the code numbers of its procedures, and for its dispatches, alone.
abbrev pub with_codes : (codes : ℕ → ℕ) → List (List Case) → Program
with_codes codes dispatches =
    record {
      procedures = [];
      dispatches = dispatches;
      codes = record { code = codes; at_code = λ c. None };
      tables = [];
      ram = [];
      handler = λ v. None;
      start = 0;
    }

-- Where an instruction leads: its jump, its branch or its call, whichever it has; and the piece in which the program waits for interrupts.
pub record Leading : Type 0 where
  pub jump : Hop
  pub branch : Turn
  pub call : Way
  pub idle : ℕ

abbrev pub selected : Layout → Program → (waits : List ℕ) → Leading → Instr → List Avr
selected l p ws to (Plain q) = plain_template l p q
selected l p ws to (When t at) = tests l t ++ branch_code (told_by t.comparison) true to.branch
selected l p ws to (Unless t at) = tests l t ++ branch_code (told_by t.comparison) false to.branch
selected l p ws to (Jump at) = jump_code to.jump
selected l p ws to (Call c) = call_front l c ++ call_code (way_of c.callee to.call) ∷ call_back l ws c
selected l p ws to (Return w a) = returns_value l a w
selected l p ws to Idle = CallAt to.idle ∷ []
