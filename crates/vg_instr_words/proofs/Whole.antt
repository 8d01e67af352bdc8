-- The code of each instruction takes few words.
use Rattle.std.specs.Prelude.{ℕ, ◌+◌, ◌≤◌, Bool, true, false, ◌++◌, length, slice_get}
use Rattle.std.specs.List.{AllByRecursion}
use Rattle.std.proofs.Common.{arith}
use Rattle.avr_isa.specs.Standing.{widths}
use Rattle.avr_isa.proofs.Standing.{widths-append}
use Rattle.vg_codes.specs.Dispatch.{cases_of}
use Rattle.vg_lin.specs.declared.instr.Operand.{Operand}
use Rattle.vg_lin.specs.declared.instr.Operand.TheVariants.{Local, Known}
use Rattle.vg_lin.specs.declared.instr.Operator.{Operator}
use Rattle.vg_lin.specs.declared.instr.Operator.TheVariants.{Plus, Minus, Times, Divide, Remainder, And, Or, Xor, ShiftLeft, ShiftRight}
use Rattle.vg_lin.specs.declared.instr.Computation.{Computation}
use Rattle.vg_lin.specs.declared.instr.Test.{Test}
use Rattle.vg_lin.specs.declared.instr.Memory.TheVariants.{Ram, Flash}
use Rattle.vg_lin.specs.declared.instr.Plain.{Plain as PlainInstr}
use Rattle.vg_lin.specs.declared.instr.Plain.TheVariants.{Copy, Compute, Product, DivideSteps, Load, Store, ReadDevice, WriteDevice, Push, Pop}
use Rattle.vg_lin.specs.declared.instr.Plain.TheVariants.{Find, CodeOf, Stop}
use Rattle.vg_lin.specs.declared.instr.Instr.{Instr}
use Rattle.vg_lin.specs.declared.instr.Instr.TheVariants.{Plain, When, Unless, Jump, Call, Return, Idle}
use Rattle.vg_lin.specs.Program.{Program}
use Rattle.vg_templates.specs.Layouts.{Layout}
use Rattle.vg_templates.specs.Branches.{tests, told_by}
use Rattle.vg_templates.specs.Flow.{Turn, branch_code}
use Rattle.vg_templates.specs.Plain.{computes}
use Rattle.vg_templates.specs.Plains.{computation_code, plain_template}
use Rattle.vg_templates.specs.Whole.{Links, template}
use Rattle.vg_instr_words.specs.Words.{IsNarrow, brought_words, work_words, computed_words, plain_words, test_words, instr_words}
use Rattle.vg_instr_words.proofs.Operands.{pushes_value_words}
use Rattle.vg_instr_words.proofs.Computing.{copies_words, copies_whole_words, computes_words}
use Rattle.vg_instr_words.proofs.Shifting.{shifts_left_words, shifts_right_words, shifts_left_by_words, shifts_right_by_words}
use Rattle.vg_instr_words.proofs.Dividing.{multiplies_words, divides_words}
use Rattle.vg_instr_words.proofs.Accessing.{stores_words, writes_device_words, loads_words, table_loads_words, reads_device_words, pops_value_words}
use Rattle.vg_instr_words.proofs.Accessing.{finds_procedure_words}
use Rattle.vg_instr_words.proofs.Calling.{jump_words, branch_words, tests_words, calls_words, returns_words}

module _ (l : Layout) (ok : IsNarrow l) where
  -- where the operator of the computation is not a shift
  computation_words : (c : Computation) (o : Operator) (a : Operand) → widths (computes l c) ≤ brought_words c.left c.width + work_words o a c.width + 7
      → widths (computation_code l c o a) ≤ computed_words c o a
  computation_words c ShiftLeft (Known n) h = shifts_left_words l ok c.width c.to c.left n
  computation_words c ShiftRight (Known n) h = shifts_right_words l ok c.width c.to c.left n
  computation_words c ShiftLeft (Local k) h = shifts_left_by_words l ok c.width c.to c.left k
  computation_words c ShiftRight (Local k) h = shifts_right_by_words l ok c.width c.to c.left k
  computation_words c Plus a h = h
  computation_words c Minus a h = h
  computation_words c Times a h = h
  computation_words c Divide a h = h
  computation_words c Remainder a h = h
  computation_words c And a h = h
  computation_words c Or a h = h
  computation_words c Xor a h = h

  plains_words : (p : Program) (q : PlainInstr) → widths (plain_template l p q) ≤ plain_words (λ d. length (cases_of (slice_get p.dispatches d))) q
  plains_words p (Copy to a) = copies_words l ok to a
  plains_words p (Compute c) = computation_words c c.operator c.right (computes_words l ok c)
  plains_words p (Product to a b) = multiplies_words l ok to a b
  plains_words p (DivideSteps r d a) = divides_words l ok r d a
  plains_words p (Load Ram w to a) = loads_words l ok w to a.base a.index
  plains_words p (Load Flash w to a) = table_loads_words l ok w to a.base a.index
  plains_words p (Store w a from) = stores_words l w a.base a.index from
  plains_words p (ReadDevice to address) = reads_device_words l ok to address
  plains_words p (WriteDevice address a) = writes_device_words l address a
  plains_words p (Push w a) = pushes_value_words l w a
  plains_words p (Pop w to) = pops_value_words l ok w to
  plains_words p (Find d to a) = finds_procedure_words l ok p.codes.code (cases_of (slice_get p.dispatches d)) to a
  plains_words p (CodeOf q to) = copies_whole_words l ok to (p.codes.code q)
  plains_words p (Stop code) = omega arith

  turns_words : (t : Test) (bit : ℕ) (wanted : Bool) (u : Turn) → widths (tests l t ++ branch_code bit wanted u) ≤ test_words t + 3
  turns_words t bit wanted u =
      let test = tests_words l t in
      let branch = branch_words bit wanted u in
      let all = widths-append (tests l t) (branch_code bit wanted u) in omega (arith, test, branch, all)

pub template_words : (x : Links) (p : Program) (m pc : ℕ) (i : Instr) → IsNarrow (x.places.layouts m)
    → AllByRecursion (λ (w : ℕ). w ≤ 4) (x.waits m pc) → widths (template x p m pc i) ≤ instr_words (λ d. length (cases_of (slice_get p.dispatches d))) i
template_words x p m pc (Plain q) ok few = plains_words (x.places.layouts m) ok p q
template_words x p m pc (When t to) ok few = turns_words (x.places.layouts m) ok t (told_by t.comparison) true (x.branch m pc)
template_words x p m pc (Unless t to) ok few = turns_words (x.places.layouts m) ok t (told_by t.comparison) false (x.branch m pc)
template_words x p m pc (Jump to) ok few = jump_words (x.jump m pc)
template_words x p m pc (Call c) ok few = calls_words (x.places.layouts m) ok (x.waits m pc) c (x.call m pc) few
template_words x p m pc (Return w a) ok few = returns_words (x.places.layouts m) ok a w
template_words x p m pc Idle ok few = omega arith
