-- The code for each instruction of linear code, once it is known where all code stands.
use Rattle.std.specs.Prelude.{ℕ, ◌+◌, true, false, List, [], ◌∷◌, ◌++◌, take, drop}
use Rattle.avr_instr.specs.declared.instr.Instr.{Instr as Avr}
use Rattle.avr_instr.specs.declared.instr.Instr.TheVariants.{Call as CallAt}
use Rattle.vg_lin.specs.declared.instr.Call.{Call as Calling}
use Rattle.vg_lin.specs.declared.instr.Instr.{Instr}
use Rattle.vg_lin.specs.declared.instr.Instr.TheVariants.{Plain, When, Unless, Jump, Call, Return, Idle}
use Rattle.vg_lin.specs.Meaning.{operands}
use Rattle.vg_lin.specs.Program.{Program}
use Rattle.vg_templates.specs.Layouts.{Layout}
use Rattle.vg_templates.specs.Frames.{Places}
use Rattle.vg_templates.specs.Branches.{tests, told_by}
use Rattle.vg_templates.specs.Calls.{Way, call_code, sum_of}
use Rattle.vg_templates.specs.Returns.{returns_value, behind_call}
use Rattle.vg_templates.specs.Flow.{Hop, jump_code, Turn, branch_code, goes_by_registers, passes_by, pushed_by_call, aims, way_of, drops_at_once}
use Rattle.vg_templates.specs.Plains.{plain_template}

-- Where the code of a program stands, and how its instructions lead to one another. Places are word addresses.
pub record Links : Type 0 where
  pub places : Places
  pub entry : (proc : ℕ) → ℕ  -- where the prologue of a procedure stands
  pub place : (proc pc : ℕ) → ℕ  -- where the code of an instruction stands
  pub waits : (proc pc : ℕ) → List ℕ  -- the widths of what waits there, the newest first
  pub jump : (proc pc : ℕ) → Hop
  pub branch : (proc pc : ℕ) → Turn
  pub call : (proc pc : ℕ) → Way
  pub idle : ℕ  -- where the piece stands in which the program waits for interrupts

-- a call up to the instruction that calls; how many bytes of its arguments are pushed, where values of these widths wait; and what follows it
abbrev pub call_front : Layout → Calling → List Avr
call_front l c = passes_by (goes_by_registers c) l (operands c.registers) ++ aims l c.callee

abbrev pub call_bytes : (waits : List ℕ) → Calling → ℕ
call_bytes ws c = sum_of (take c.pushed ws) + pushed_by_call (goes_by_registers c) (operands c.registers)

abbrev pub call_back : Layout → (waits : List ℕ) → Calling → List Avr
call_back l ws c = behind_call l (drops_at_once l (drop c.pushed ws) (call_bytes ws c)) (call_bytes ws c) c.to

-- the code of the instruction that stands at a place of a procedure
abbrev pub template : Links → Program → (proc pc : ℕ) → Instr → List Avr
template x p m pc (Plain q) = plain_template (x.places.layouts m) p q
template x p m pc (When t to) = tests (x.places.layouts m) t ++ branch_code (told_by t.comparison) true (x.branch m pc)
template x p m pc (Unless t to) = tests (x.places.layouts m) t ++ branch_code (told_by t.comparison) false (x.branch m pc)
template x p m pc (Jump to) = jump_code (x.jump m pc)
template x p m pc (Call c) =
    call_front (x.places.layouts m) c
    ++ call_code (way_of c.callee (x.call m pc)) ∷ call_back (x.places.layouts m) (x.waits m pc) c
template x p m pc (Return w a) = returns_value (x.places.layouts m) a w
template x p m pc Idle = CallAt x.idle ∷ []
