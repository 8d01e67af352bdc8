-- The operands that instructions name.
use Rattle.std.specs.Prelude.{List, [], ◌∷◌, Option, Some, None}
use Rattle.vg_firm.specs.declared.step.Step.{Step}
use Rattle.vg_firm.specs.declared.step.Step.TheVariants.{This}
use Rattle.vg_lin.specs.declared.instr.Operand.{Operand}
use Rattle.vg_lin.specs.declared.instr.Operand.TheVariants.{Local}
use Rattle.vg_lin.specs.declared.instr.Test.{Test}
use Rattle.vg_lin.specs.declared.instr.Passed.{Passed}
use Rattle.vg_lin.specs.declared.instr.Target.{Target}
use Rattle.vg_lin.specs.declared.instr.Callee.{Callee}
use Rattle.vg_lin.specs.declared.instr.Callee.TheVariants.{Procedure as ByNumber, Code as ByCode}
use Rattle.vg_lin.specs.declared.instr.Call.{Call as Calling}
use Rattle.vg_lin.specs.declared.instr.Plain.{Plain as PlainInstr}
use Rattle.vg_lin.specs.declared.instr.Plain.TheVariants.{Copy, Compute, Product, DivideSteps, Load, Store, ReadDevice, WriteDevice, Push}
use Rattle.vg_lin.specs.declared.instr.Plain.TheVariants.{Pop, Find, CodeOf, Stop}
use Rattle.vg_lin.specs.declared.instr.Instr.{Instr}
use Rattle.vg_lin.specs.declared.instr.Instr.TheVariants.{Plain, When, Unless, Jump, Call, Return, Idle}
use Rattle.vg_lin.specs.Meaning.{operands}

-- Something holds of each operand of a plain instruction, and of each local that it sets.
abbrev pub PlainNames : (Operand → Type 0) → PlainInstr → Type 0
PlainNames Ok (Copy to a) = Ok (Local to) × Ok a
PlainNames Ok (Compute c) = Ok (Local c.to) × Ok c.left × Ok c.right
PlainNames Ok (Product to a b) = Ok (Local to) × Ok a × Ok b
PlainNames Ok (DivideSteps rest digit a) = Ok (Local rest) × Ok (Local digit) × Ok a
PlainNames Ok (Load memory width to a) = Ok (Local to) × Ok a.index
PlainNames Ok (Store width a from) = Ok a.index × Ok from
PlainNames Ok (ReadDevice to address) = Ok (Local to)
PlainNames Ok (WriteDevice address a) = Ok a
PlainNames Ok (Push width a) = Ok a
PlainNames Ok (Pop width to) = Ok (Local to)
PlainNames Ok (Find place to a) = Ok (Local to) × Ok a
PlainNames Ok (CodeOf q to) = Ok (Local to)
PlainNames Ok (Stop code) = Unit {0}

-- It holds of both sides of a test.
abbrev pub TestNames : (Operand → Type 0) → Test → Type 0
TestNames Ok t = Ok t.left × Ok t.right

-- It holds of each value that is passed.
abbrev pub PassedNames : (Operand → Type 0) → List Passed → Type 0
PassedNames Ok [] = Unit {0}
PassedNames Ok (a ∷ more) = Ok a.value × PassedNames Ok more

-- It holds of the code number by which a procedure is called.
abbrev pub CalleeNames : (Operand → Type 0) → Callee → Type 0
CalleeNames Ok (ByNumber q) = Unit {0}
CalleeNames Ok (ByCode a) = Ok a

-- It holds of the local that a result goes to.
abbrev pub TargetNames : (Operand → Type 0) → Option Target → Type 0
TargetNames Ok (Some to) = Ok (Local to.local)
TargetNames Ok None = Unit {0}

-- It holds of all that a call names.
abbrev pub CallNames : (Operand → Type 0) → Calling → Type 0
CallNames Ok c = CalleeNames Ok c.callee × PassedNames Ok (operands c.registers) × TargetNames Ok c.to

-- It holds of each operand of an instruction, and of each local that it sets.
abbrev pub Names : (Operand → Type 0) → Instr → Type 0
Names Ok (Plain p) = PlainNames Ok p
Names Ok (When t to) = TestNames Ok t
Names Ok (Unless t to) = TestNames Ok t
Names Ok (Jump to) = Unit {0}
Names Ok (Call c) = CallNames Ok c
Names Ok (Return width a) = Ok a
Names Ok Idle = Unit {0}

-- A step does not name the receiver.
abbrev pub NoReceiver : Step → Type 0
NoReceiver This = ⊥
NoReceiver p = Unit {0}
