-- All procedures of a linear program, expanded.
use Rattle.std.specs.Prelude.{◌≡◌, ℕ, ◌*◌, ◌<◌, true, List, length, Result, Ok, Err, Some, slice_get}
use Rattle.std.specs.List.{AllZip}
use Rattle.vg_base.specs.declared.refusal.Refusal.{Refusal}
use Rattle.vg_base.specs.declared.refusal.Refusal.TheVariants.{Fault as Faulty, NoMemory as Memory}
use Rattle.vg_lin.specs.Program.{Procedure}
use Rattle.vg_lin.specs.Sound.{IsSound}
use Rattle.vg_arith.specs.Simple.{are_simple}
use Rattle.vg_expand.specs.Code.{expanded}
use Rattle.vg_expand.specs.declared.too_long.TooLong.{TooLong}
use Rattle.vg_expand.specs.Expansion.{Expands}

-- A procedure is expanded: both are sound, and of the second one no product, division, remainder or shift by an amount that is not known is left.
pub record IsExpandedTo (first : ℕ) (old new : Procedure) : Type 0 where
  pub sound : IsSound old
  pub expands : Expands first old new
  pub exactly : new ≡ expanded first old
  pub simple : are_simple new.code ≡ true
  pub sound_too : IsSound new

-- One for one.
abbrev pub AreAllExpanded : (first : ℕ) → List Procedure → List Procedure → Type 0
AreAllExpanded first = AllZip (IsExpandedTo first)

-- ---- refusals

-- One of them has more than 32,767 instructions.
pub record IsOneTooLong (ms : List Procedure) : Type 0 where
  pub number : ℕ
  pub procedure : Procedure
  pub there : slice_get ms number ≡ Some procedure
  pub long : 65535 < 2 * length procedure.code

abbrev pub IsTooLongFor : Result (List Procedure) (Refusal TooLong) → List Procedure → Type 0
IsTooLongFor (Ok ps) ms = Unit {0}
IsTooLongFor (Err Memory) ms = Unit {0}
IsTooLongFor (Err (Faulty why)) ms = IsOneTooLong ms
