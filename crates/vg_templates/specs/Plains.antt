-- The code for each plain instruction of linear code.
use Rattle.std.specs.Prelude.{ℕ, zero, suc, List, [], ◌∷◌, ◌++◌, slice_get}
use Rattle.avr_instr.specs.declared.instr.Instr.{Instr}
use Rattle.avr_instr.specs.declared.instr.Instr.TheVariants.{Pop as PopTo}
use Rattle.vg_codes.specs.Dispatch.{cases_of}
use Rattle.vg_lin.specs.declared.instr.Memory.TheVariants.{Flash}
use Rattle.vg_lin.specs.declared.instr.Operand.{Operand}
use Rattle.vg_lin.specs.declared.instr.Operand.TheVariants.{Local, Known}
use Rattle.vg_lin.specs.declared.instr.Operator.{Operator}
use Rattle.vg_lin.specs.declared.instr.Operator.TheVariants.{ShiftLeft, ShiftRight}
use Rattle.vg_lin.specs.declared.instr.Computation.{Computation}
use Rattle.vg_lin.specs.declared.instr.Plain.{Plain}
use Rattle.vg_lin.specs.declared.instr.Plain.TheVariants.{Compute, Product, DivideSteps, Load, Pop, Find, Stop}
use Rattle.vg_lin.specs.Program.{Program}
use Rattle.vg_templates.specs.Layouts.{Layout}
use Rattle.vg_templates.specs.Held.{gives}
use Rattle.vg_templates.specs.Plain.{computes}
use Rattle.vg_templates.specs.Straight.{plain_code, stops}
use Rattle.vg_templates.specs.Shifts.{shifts_left, shifts_right}
use Rattle.vg_templates.specs.Amounts.{shifts_left_by, shifts_right_by}
use Rattle.vg_templates.specs.Products.{multiplies}
use Rattle.vg_templates.specs.Divisions.{divides_steps}
use Rattle.vg_templates.specs.Lookups.{loads_table, finds_procedure}

-- a computation: products, quotients and remainders are the routines' work
abbrev pub computation_code : Layout → Computation → Operator → (right : Operand) → List Instr
computation_code l c ShiftLeft (Known n) = shifts_left l c.width c.to c.left n
computation_code l c ShiftRight (Known n) = shifts_right l c.width c.to c.left n
computation_code l c ShiftLeft (Local k) = shifts_left_by l c.width c.to c.left k
computation_code l c ShiftRight (Local k) = shifts_right_by l c.width c.to c.left k
computation_code l c o a = computes l c

-- the newest value that waits, of so many bytes, goes to a local
abbrev pub pops_from : (d count : ℕ) → List Instr
pops_from d zero = []
pops_from d (suc n) = PopTo d ∷ pops_from (suc d) n

abbrev pub pops_value : Layout → (width to : ℕ) → List Instr
pops_value l w to = pops_from 22 w ++ gives l to 22 w

abbrev pub plain_template : Layout → Program → Plain → List Instr
plain_template l p (Compute c) = computation_code l c c.operator c.right
plain_template l p (Product to a b) = multiplies l to a b
plain_template l p (DivideSteps r d a) = divides_steps l r d a
plain_template l p (Load Flash w to a) = loads_table l w to a.base a.index
plain_template l p (Find place to a) = finds_procedure l p.codes.code (cases_of (slice_get p.dispatches place)) to a
plain_template l p (Pop w to) = pops_value l w to
plain_template l p (Stop code) = stops code
plain_template l p q = plain_code l p.codes.code q
