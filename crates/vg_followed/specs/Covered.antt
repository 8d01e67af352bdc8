-- What each instruction of linear code asks of the layout of its procedure, where these locals are live, and those behind it.
use Rattle.std.specs.Prelude.{ℕ, ◌≡◌, ◌≢◌, ◌<◌, ◌≤◌, ◌^◌, Bool, true, suc, Option, Some, None, slice_get}
use Rattle.std.specs.List.{AllByRecursion}
use Rattle.vg_codes.specs.Dispatch.{cases_of}
use Rattle.vg_lin.specs.declared.instr.Memory.TheVariants.{Flash}
use Rattle.vg_lin.specs.declared.instr.Operand.{Operand}
use Rattle.vg_lin.specs.declared.instr.Operand.TheVariants.{Local, Known}
use Rattle.vg_lin.specs.declared.instr.Operator.{Operator}
use Rattle.vg_lin.specs.declared.instr.Operator.TheVariants.{ShiftLeft, ShiftRight}
use Rattle.vg_lin.specs.declared.instr.Computation.{Computation}
use Rattle.vg_lin.specs.declared.instr.Passed.{Passed}
use Rattle.vg_lin.specs.declared.instr.Target.{Target}
use Rattle.vg_lin.specs.declared.instr.Callee.{Callee}
use Rattle.vg_lin.specs.declared.instr.Callee.TheVariants.{Procedure as ByNumber, Code as ByCode}
use Rattle.vg_lin.specs.declared.instr.Call.{Call as Calling}
use Rattle.vg_lin.specs.declared.instr.Test.{Test}
use Rattle.vg_lin.specs.declared.instr.Plain.{Plain as PlainInstr}
use Rattle.vg_lin.specs.declared.instr.Plain.TheVariants.{Compute, Product, DivideSteps, Load, Pop, Find, Stop}
use Rattle.vg_lin.specs.declared.instr.Instr.{Instr}
use Rattle.vg_lin.specs.declared.instr.Instr.TheVariants.{Plain, When, Unless, Jump, Call, Return, Idle}
use Rattle.vg_lin.specs.Meaning.{operands}
use Rattle.vg_lin.specs.Program.{Program}
use Rattle.vg_lin.specs.Sound.{IsWidth}
use Rattle.vg_lin.specs.Steps.{Result, Interrupt}
use Rattle.vg_templates.specs.Frames.{wanted, AllOutlive}
use Rattle.vg_templates.specs.Layouts.{Layout}
use Rattle.vg_templates.specs.Held.{IsReady, IsSet}
use Rattle.vg_templates.specs.Outcomes.{IsKept}
use Rattle.vg_templates.specs.Straight.{IsCovered}
use Rattle.vg_templates.specs.Returns.{IsTarget}
use Rattle.vg_templates.specs.Flow.{IsDivided}
use Rattle.vg_followed.specs.Tables.{AreCases}

-- ---- plain instructions

-- the amount of a shift is known, or stands in a local
abbrev pub CanCompute : Layout → (live behind : ℕ → Bool) → Computation → Operator → (right : Operand) → Type 0
CanCompute l live behind c ShiftLeft (Known n) = IsWidth c.width × (IsReady l live c.left × IsSet l live behind c.to)
CanCompute l live behind c ShiftRight (Known n) = IsWidth c.width × (IsReady l live c.left × IsSet l live behind c.to)
CanCompute l live behind c ShiftLeft (Local k) = IsWidth c.width × ((IsReady l live c.left × IsReady l live (Local k)) × IsSet l live behind c.to)
CanCompute l live behind c ShiftRight (Local k) = IsWidth c.width × ((IsReady l live c.left × IsReady l live (Local k)) × IsSet l live behind c.to)
CanCompute l live behind c o a = IsCovered l live behind (Compute c)

-- a known value of four bytes
abbrev pub IsFourBytes : Operand → Type 0
IsFourBytes (Local k) = Unit {0}
IsFourBytes (Known x) = x < 256 ^ 4

-- what is live before the steps is live in each of them
pub record CanDivide (l : Layout) (live behind : ℕ → Bool) (remainder dividend : ℕ) (divisor : Operand) : Type 0 where
  pub apart : remainder ≢ dividend
  pub ready_remainder : IsReady l live (Local remainder)
  pub ready_dividend : IsReady l live (Local dividend)
  pub ready_divisor : IsReady l live divisor
  pub narrow : IsFourBytes divisor
  pub first : IsSet l live live remainder
  pub second : IsSet l live live dividend
  pub kept : IsKept live behind

abbrev pub CanBeCoded : Layout → Program → (live behind : ℕ → Bool) → PlainInstr → Type 0
CanBeCoded l p live behind (Compute c) = CanCompute l live behind c c.operator c.right
CanBeCoded l p live behind (Product to a b) = (IsReady l live a × IsReady l live b) × IsSet l live behind to
CanBeCoded l p live behind (DivideSteps r d a) = CanDivide l live behind r d a
CanBeCoded l p live behind (Load Flash w to a) = IsWidth w × (IsReady l live a.index × IsSet l live behind to)
CanBeCoded l p live behind (Pop w to) = IsWidth w × IsSet l live behind to
CanBeCoded l p live behind (Find place to a) =
    AreCases p.codes.code (cases_of (slice_get p.dispatches place)) × (IsReady l live a × IsSet l live behind to)
CanBeCoded l p live behind (Stop code) = Unit {0}
CanBeCoded l p live behind q = IsCovered l live behind q

-- ---- all instructions

abbrev pub CanTest : Layout → (live : ℕ → Bool) → Test → Type 0
CanTest l live t = IsWidth t.width × (IsReady l live t.left × IsReady l live t.right)

abbrev pub CanAim : Layout → (live : ℕ → Bool) → Callee → Type 0
CanAim l live (ByNumber q) = Unit {0}
CanAim l live (ByCode a) = IsReady l live a

abbrev pub CanPass : Layout → (live : ℕ → Bool) → Passed → Type 0
CanPass l live a = (a.width ≤ 4) × IsReady l live a.value

abbrev pub CanTake : Layout → (behind : ℕ → Bool) → Option Target → Type 0
CanTake l behind None = Unit {0}
CanTake l behind (Some to) = IsTarget l behind to.width to

pub record CanCall (l : Layout) (live : (place local : ℕ) → Bool) (pc : ℕ) (c : Calling) : Type 0 where
  pub arguments : AllByRecursion (CanPass l (live pc)) (operands c.registers)
  pub callee : CanAim l (live pc) c.callee
  pub kept : (k : ℕ) → wanted live (Result c) pc k ≡ true → live pc k ≡ true
  pub outlive : AllOutlive l live (Result c) pc
  pub takes : CanTake l (live (suc pc)) c.to
  pub divided : IsDivided c

-- the instruction that stands at a place of a procedure whose results have so many bytes
abbrev pub Covers : Layout → (live : (place local : ℕ) → Bool) → Program → (result pc : ℕ) → Instr → Type 0
Covers l live p result pc (Plain q) = CanBeCoded l p (live pc) (live (suc pc)) q
Covers l live p result pc (When t to) = CanTest l (live pc) t × (IsKept (live pc) (live to) × IsKept (live pc) (live (suc pc)))
Covers l live p result pc (Unless t to) = CanTest l (live pc) t × (IsKept (live pc) (live to) × IsKept (live pc) (live (suc pc)))
Covers l live p result pc (Jump to) = IsKept (live pc) (live to)
Covers l live p result pc (Call c) = CanCall l live pc c
Covers l live p result pc (Return w a) = (w ≡ result) × IsReady l (live pc) a
Covers l live p result pc Idle = IsKept (live pc) (live (suc pc)) × AllOutlive l live Interrupt pc
