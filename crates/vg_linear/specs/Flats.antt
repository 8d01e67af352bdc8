-- All procedures of a packed program, flattened.
use Rattle.std.specs.Prelude.{◌≡◌, ℕ, List, Result, Ok, Err, Some, slice_get}
use Rattle.std.specs.List.{AllByRecursion, AllZip}
use Rattle.vg_base.specs.declared.refusal.Refusal.{Refusal}
use Rattle.vg_base.specs.declared.refusal.Refusal.TheVariants.{Fault as Faulty, NoMemory as Memory}
use Rattle.vg_firm.specs.Program.{Procedure as FirmProcedure}
use Rattle.vg_firm_typed.specs.Typed.{IsTyped}
use Rattle.vg_lin.specs.Program.{Procedure}
use Rattle.vg_flatten_shapes.specs.declared.fault.Fault.{Fault}
use Rattle.vg_flatten_shapes.specs.declared.fault.Fault.TheVariants.{TooLong}
use Rattle.vg_flatten_shapes.specs.declared.layout.Layout.{Layout}
use Rattle.vg_flatten.specs.Flattened.{IsFlat}
use Rattle.vg_flatten.specs.Refusals.{IsCause, made_of}
use Rattle.vg_flatten.specs.Taking.{IsMadeTooLong}

-- One for one.
abbrev pub AreAllFlat : Layout → List FirmProcedure → List Procedure → Type 0
AreAllFlat lay = AllZip (IsFlat lay)

-- ---- refusals

-- One of them is refused for this cause.
pub record IsOneRefused (why : Fault) (lay : Layout) (ms : List FirmProcedure) : Type 0 where
  pub number : ℕ
  pub procedure : FirmProcedure
  pub there : slice_get ms number ≡ Some procedure
  pub cause : IsCause (Faulty why) lay procedure

abbrev pub IsRefusedFor : Result (List Procedure) (Refusal Fault) → Layout → List FirmProcedure → Type 0
IsRefusedFor (Ok ps) lay ms = Unit {0}
IsRefusedFor (Err Memory) lay ms = Unit {0}
IsRefusedFor (Err (Faulty why)) lay ms = IsOneRefused why lay ms

-- ---- typed procedures

abbrev pub AreTyped : Layout → List FirmProcedure → Type 0
AreTyped lay = AllByRecursion (IsTyped lay)

-- One of them is taken, and its instructions are more than 65,519.
pub record IsOneMadeTooLong (lay : Layout) (ms : List FirmProcedure) : Type 0 where
  pub number : ℕ
  pub procedure : FirmProcedure
  pub there : slice_get ms number ≡ Some procedure
  pub long : IsMadeTooLong procedure (made_of lay procedure)

-- What may be left of the causes of a refusal where all are typed.
abbrev pub AreTaken : Result (List Procedure) (Refusal Fault) → Layout → List FirmProcedure → Type 0
AreTaken (Ok ps) lay ms = Unit {0}
AreTaken (Err Memory) lay ms = Unit {0}
AreTaken (Err (Faulty why)) lay ms = (why ≡ TooLong) × IsOneMadeTooLong lay ms
