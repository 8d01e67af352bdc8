-- What every procedure of linear code keeps: few locals, operands in range, results of one width, the widths of what waits at each place,
-- and no jump to itself.
use Rattle.std.specs.Prelude.{◌≡◌, ◌≢◌, ℕ, zero, suc, ◌≤◌, ◌<◌, List, [], ◌∷◌, length, drop, Option, Some, None, slice_get}
use Rattle.std.specs.List.{AllByRecursion}
use Rattle.vg_lin.specs.declared.instr.Operand.{Operand}
use Rattle.vg_lin.specs.declared.instr.Operand.TheVariants.{Local, Known}
use Rattle.vg_lin.specs.declared.instr.Test.{Test}
use Rattle.vg_lin.specs.declared.instr.Plain.{Plain as PlainInstr}
use Rattle.vg_lin.specs.declared.instr.Plain.TheVariants.{Copy, Compute, Product, DivideSteps, Load, Store, ReadDevice, WriteDevice, Push, Pop, Find, CodeOf, Stop}
use Rattle.vg_lin.specs.declared.instr.Passed.{Passed}
use Rattle.vg_lin.specs.declared.instr.Target.{Target}
use Rattle.vg_lin.specs.declared.instr.Callee.{Callee}
use Rattle.vg_lin.specs.declared.instr.Callee.TheVariants.{Procedure as ByNumber, Code as ByCode}
use Rattle.vg_lin.specs.declared.instr.Instr.{Instr}
use Rattle.vg_lin.specs.declared.instr.Instr.TheVariants.{Plain, When, Unless, Jump, Call, Return, Idle}
use Rattle.vg_lin.specs.Program.{Procedure}
use Rattle.vg_lin.specs.Meaning.{operands}

-- A width of one to four bytes.
abbrev pub IsWidth : ℕ → Type 0
IsWidth w = (1 ≤ w) × (w ≤ 4)

-- ---- operands

abbrev pub IsLocal : Procedure → ℕ → Type 0
IsLocal p i = i < length p.widths

abbrev pub IsOperand : Procedure → Operand → Type 0
IsOperand p (Local i) = IsLocal p i
IsOperand p (Known v) = Unit {0}

abbrev pub IsPassed : Procedure → Passed → Type 0
IsPassed p a = IsWidth a.width × IsOperand p a.value

abbrev pub IsTo : Procedure → Option Target → Type 0
IsTo p (Some to) = (to.width ≤ 4) × IsLocal p to.local
IsTo p None = Unit {0}

abbrev pub IsTest : Procedure → Test → Type 0
IsTest p t = IsWidth t.width × IsOperand p t.left × IsOperand p t.right

abbrev pub IsCallee : Procedure → Callee → Type 0
IsCallee p (ByNumber q) = Unit {0}
IsCallee p (ByCode a) = IsOperand p a

abbrev pub IsPlain : Procedure → PlainInstr → Type 0
IsPlain p (Copy to a) = IsLocal p to × IsOperand p a
IsPlain p (Compute c) = IsWidth c.width × IsLocal p c.to × IsOperand p c.left × IsOperand p c.right
IsPlain p (Product to a b) = IsLocal p to × IsOperand p a × IsOperand p b
IsPlain p (DivideSteps r d a) = IsLocal p r × IsLocal p d × (r ≢ d) × IsOperand p a
IsPlain p (Load m w to a) = IsWidth w × IsLocal p to × IsOperand p a.index
IsPlain p (Store w a from) = IsWidth w × IsOperand p a.index × IsOperand p from
IsPlain p (ReadDevice to address) = IsLocal p to
IsPlain p (WriteDevice address a) = IsOperand p a
IsPlain p (Push w a) = IsWidth w × IsOperand p a
IsPlain p (Pop w to) = IsWidth w × IsLocal p to
IsPlain p (Find dispatch to a) = IsLocal p to × IsOperand p a
IsPlain p (CodeOf q to) = IsLocal p to
IsPlain p (Stop code) = Unit {0}

abbrev pub AreOperands : Procedure → Instr → Type 0
AreOperands p (Plain i) = IsPlain p i
AreOperands p (When t to) = IsTest p t
AreOperands p (Unless t to) = IsTest p t
AreOperands p (Jump to) = Unit {0}
AreOperands p (Call c) = IsCallee p c.callee × AllByRecursion (IsPassed p) (operands c.registers) × IsTo p c.to
AreOperands p (Return w a) = (w ≡ p.result) × IsOperand p a
AreOperands p Idle = Unit {0}

-- ---- what waits

-- The widths of what waits behind an instruction, the newest first, where these wait before it.
abbrev pub behind_plain : PlainInstr → List ℕ → List ℕ
behind_plain (Push w a) held = w ∷ held
behind_plain (Pop w to) held = drop 1 held
behind_plain i held = held

abbrev pub behind : Instr → List ℕ → List ℕ
behind (Plain i) held = behind_plain i held
behind (Call c) held = drop c.pushed held
behind i held = held

-- The widths of what waits at a place of code, where these wait at its first: what waits behind the instruction before it.
abbrev pub waits_in : (held : List ℕ) → List Instr → (at : ℕ) → List ℕ
waits_in held is zero = held
waits_in held [] (suc j) = []
waits_in held (i ∷ is) (suc j) = waits_in (behind i held) is j

abbrev pub waits_of : Procedure → (at : ℕ) → List ℕ
waits_of p = waits_in [] p.code

-- The procedure has this place, and values of these widths wait there.
abbrev pub GoesOn : Procedure → (waits : ℕ → List ℕ) → (to : ℕ) → List ℕ → Type 0
GoesOn p waits to widths = (to < length p.code) × (waits to ≡ widths)

-- The same behind a jump, which does not lead to itself.
abbrev pub Jumps : Procedure → (waits : ℕ → List ℕ) → (at to : ℕ) → List ℕ → Type 0
Jumps p waits at to widths = (to ≢ at) × GoesOn p waits to widths

abbrev pub PlainWaits : Procedure → (waits : ℕ → List ℕ) → (at : ℕ) → PlainInstr → Type 0
PlainWaits p waits at (Push w a) = GoesOn p waits (suc at) (w ∷ waits at)
PlainWaits p waits at (Pop w to) = (rest : List ℕ) × (waits at ≡ w ∷ rest) × GoesOn p waits (suc at) rest
PlainWaits p waits at (Stop code) = Unit {0}
PlainWaits p waits at i = GoesOn p waits (suc at) (waits at)

-- What waits behind the instruction at a place, wherever it leads.
abbrev pub Waits : Procedure → (waits : ℕ → List ℕ) → (at : ℕ) → Instr → Type 0
Waits p waits at (Plain i) = PlainWaits p waits at i
Waits p waits at (When t to) = Jumps p waits at to (waits at) × GoesOn p waits (suc at) (waits at)
Waits p waits at (Unless t to) = Jumps p waits at to (waits at) × GoesOn p waits (suc at) (waits at)
Waits p waits at (Jump to) = Jumps p waits at to (waits at)
Waits p waits at (Call c) = (c.pushed ≤ length (waits at)) × GoesOn p waits (suc at) (drop c.pushed (waits at))
Waits p waits at (Return w a) = waits at ≡ []
Waits p waits at Idle = GoesOn p waits (suc at) (waits at)

pub record IsSound (p : Procedure) : Type 0 where
  pub few : length p.widths ≤ 252
  pub params : p.params ≤ length p.widths
  pub result : p.result ≤ 4
  pub widths : AllByRecursion IsWidth p.widths
  pub operands : (at : ℕ) (i : Instr) → slice_get p.code at ≡ Some i → AreOperands p i
  pub begins : GoesOn p (waits_of p) 0 []
  pub goes_on : (at : ℕ) (i : Instr) → slice_get p.code at ≡ Some i → Waits p (waits_of p) at i
