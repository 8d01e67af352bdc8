-- How many words of flash the code of one instruction of linear code takes at most, wherever its locals lie and however far it leads.
use Rattle.std.specs.Prelude.{ℕ, ◌+◌, ◌-◌, ◌*◌, ◌/◌, ◌%◌, ◌<◌, ◌≤◌, Bool, true, false, if◌then◌else◌, List, [], ◌∷◌, length, Option, Some, None}
use Rattle.vg_lin.specs.declared.instr.Operand.{Operand}
use Rattle.vg_lin.specs.declared.instr.Operand.TheVariants.{Local, Known}
use Rattle.vg_lin.specs.declared.instr.Operator.{Operator}
use Rattle.vg_lin.specs.declared.instr.Operator.TheVariants.{Plus, Minus, ShiftLeft, ShiftRight}
use Rattle.vg_lin.specs.declared.instr.Computation.{Computation}
use Rattle.vg_lin.specs.declared.instr.Test.{Test}
use Rattle.vg_lin.specs.declared.instr.Memory.TheVariants.{Ram, Flash}
use Rattle.vg_lin.specs.declared.instr.Plain.{Plain as PlainInstr}
use Rattle.vg_lin.specs.declared.instr.Plain.TheVariants.{Copy, Compute, Product, DivideSteps, Load, Store, ReadDevice, WriteDevice, Push, Pop}
use Rattle.vg_lin.specs.declared.instr.Plain.TheVariants.{Find, CodeOf, Stop}
use Rattle.vg_lin.specs.declared.instr.Passed.{Passed}
use Rattle.vg_lin.specs.declared.instr.Target.{Target}
use Rattle.vg_lin.specs.declared.instr.Callee.{Callee}
use Rattle.vg_lin.specs.declared.instr.Callee.TheVariants.{Procedure as ByNumber, Code as ByCode}
use Rattle.vg_lin.specs.declared.instr.Call.{Call as Calling}
use Rattle.vg_lin.specs.declared.instr.Instr.{Instr}
use Rattle.vg_lin.specs.declared.instr.Instr.TheVariants.{Plain, When, Unless, Jump, Call, Return, Idle}
use Rattle.vg_lin.specs.Meaning.{operands}
use Rattle.vg_templates.specs.Layouts.{Layout, width_of}
use Rattle.vg_templates.specs.Plain.{bytes_in}
use Rattle.vg_templates.specs.Accesses.{is_near}
use Rattle.vg_templates.specs.Flow.{goes_by_registers}

-- a layout whose locals have at most four bytes each, and in which at most eight registers are saved
pub record IsNarrow (l : Layout) : Type 0 where
  pub widths : (k : ℕ) → k < length l.widths → width_of l k ≤ 4
  pub saved : length l.saved ≤ 8

-- ---- operands

-- what it takes to reach the bytes of an operand, where these lie far in a frame
abbrev pub reach_words : Operand → ℕ
reach_words (Local k) = 3
reach_words (Known x) = 0

-- so many low bytes of an operand come into registers; or they are found, where the zeros of a known number take no code
abbrev pub brought_words : Operand → (count : ℕ) → ℕ
brought_words a n = reach_words a + n

abbrev pub found_words : Operand → (count : ℕ) → ℕ
found_words (Local k) n = 3 + n
found_words (Known x) n = bytes_in n x

-- ---- computations; seven words at their end are those by which a local gets what is in registers

-- whether a known right operand stands in the instructions that compute with it
abbrev pub is_inside : Operator → (right : Operand) → Bool
is_inside Plus (Known y) = true
is_inside Minus (Known y) = true
is_inside o a = false

abbrev pub work_words : Operator → (right : Operand) → (count : ℕ) → ℕ
work_words o a n = if is_inside o a then n else found_words a n + n

abbrev pub shift_left_words : (width : ℕ) → Operand → (amount : ℕ) → ℕ
shift_left_words w a n = brought_words a w + n % 8 * (w - n / 8) + 7

abbrev pub shift_right_words : (width : ℕ) → Operand → (amount : ℕ) → ℕ
shift_right_words w a n = brought_words a (w - n / 8) + n % 8 * (w - n / 8) + 7

-- a shift by the amount in a local
abbrev pub shift_by_words : (width : ℕ) → Operand → ℕ
shift_by_words w a = brought_words a w + w + 21

abbrev pub computed_words : Computation → Operator → (right : Operand) → ℕ
computed_words c ShiftLeft (Known n) = shift_left_words c.width c.left n
computed_words c ShiftRight (Known n) = shift_right_words c.width c.left n
computed_words c ShiftLeft (Local k) = shift_by_words c.width c.left
computed_words c ShiftRight (Local k) = shift_by_words c.width c.left
computed_words c o a = brought_words c.left c.width + work_words o a c.width + 7

-- ---- plain instructions

-- a pointer to a place in RAM, or one word more for each of one or two bytes at a known address; and a pointer to a place in flash
abbrev pub pointer_words : (index : Operand) → ℕ
pointer_words (Known x) = 2
pointer_words (Local k) = 7

abbrev pub column_words : (index : Operand) → (width : ℕ) → ℕ
column_words a w = if is_near w a then w else pointer_words a

abbrev pub table_words : (index : Operand) → ℕ
table_words (Known x) = 2
table_words (Local k) = 8

abbrev pub copy_words : Operand → ℕ
copy_words (Local k) = 14
copy_words (Known v) = bytes_in 4 v + 7

-- dispatches have so many cases
abbrev pub plain_words : (cases : ℕ → ℕ) → PlainInstr → ℕ
plain_words cases (Copy to a) = copy_words a
plain_words cases (Compute c) = computed_words c c.operator c.right
plain_words cases (Product to a b) = found_words a 1 + found_words b 1 + 10
plain_words cases (DivideSteps r d a) = reach_words a + 69
plain_words cases (Load Ram w to a) = column_words a.index w + w + 7
plain_words cases (Load Flash w to a) = table_words a.index + w + 7
plain_words cases (Store w a from) = column_words a.index w + found_words from w + w
plain_words cases (ReadDevice to address) = 9
plain_words cases (WriteDevice address a) = found_words a 1 + 2
plain_words cases (Push w a) = found_words a w + w
plain_words cases (Pop w to) = w + 7
plain_words cases (Find d to a) = brought_words a 2 + 8 * cases d + 9
plain_words cases (CodeOf q to) = 11
plain_words cases (Stop code) = 2

-- ---- tests and calls

abbrev pub test_words : Test → ℕ
test_words t = found_words t.left t.width + found_words t.right t.width + t.width

-- arguments that come into registers; and those that are pushed, and dropped again behind the call
abbrev pub carried_words : List Passed → ℕ
carried_words [] = 0
carried_words (a ∷ as') = brought_words a.value a.width + carried_words as'

abbrev pub dropped_words : List Passed → ℕ
dropped_words [] = 0
dropped_words (a ∷ as') = found_words a.value a.width + 2 * a.width + dropped_words as'

abbrev pub passed_words : (by_registers : Bool) → List Passed → ℕ
passed_words true as' = carried_words as'
passed_words false as' = dropped_words as'

-- the call itself, with the code number that comes into Z
abbrev pub callee_words : Callee → ℕ
callee_words (ByNumber q) = 2
callee_words (ByCode (Local k)) = 7
callee_words (ByCode (Known x)) = 4

abbrev pub result_words : Option Target → ℕ
result_words None = 0
result_words (Some to) = 7

-- of what waited before, each value has at most four bytes to be dropped
abbrev pub call_words : Calling → ℕ
call_words c = passed_words (goes_by_registers c) (operands c.registers) + callee_words c.callee + 4 * c.pushed + result_words c.to

-- ---- all instructions

abbrev pub instr_words : (cases : ℕ → ℕ) → Instr → ℕ
instr_words cases (Plain q) = plain_words cases q
instr_words cases (When t to) = test_words t + 3
instr_words cases (Unless t to) = test_words t + 3
instr_words cases (Jump to) = 2
instr_words cases (Call c) = call_words c
instr_words cases (Return w a) = brought_words a w + 13
instr_words cases Idle = 2
