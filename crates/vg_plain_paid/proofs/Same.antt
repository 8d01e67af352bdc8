-- The routines and the procedure with which a run begins look up nothing, so finders leave them as they are.
use Rattle.std.specs.Prelude.{ℕ, Bool, true, false, ◌==◌, List, Option, if◌then◌else◌}
use Rattle.std.proofs.Common.{◌≡◌, refl}
use Rattle.vg_arith.specs.Division.{divide}
use Rattle.vg_arith.specs.Product.{mul}
use Rattle.vg_arith.specs.Shifts.{shl, shr}
use Rattle.vg_expand.specs.Code.{expanded}
use Rattle.vg_finding.specs.Finders.{with_finders}
use Rattle.vg_flatten.specs.Flattened.{start_of}
use Rattle.vg_lin.specs.Program.{Procedure}
use Rattle.vg_linear.specs.Routines.{routine_or_empty, standing}

module _ (numbers : List (Option ℕ)) where
  abbrev StaysSame : Procedure → Type 0
  StaysSame p = with_finders numbers p ≡ p

  by_numbers : (a b c : Bool) → StaysSame (if a then mul else if b then divide else if c then shl else shr)
  by_numbers true b c = refl
  by_numbers false true c = refl
  by_numbers false false true = refl
  by_numbers false false false = refl

  by_call : (called : Bool) (which : ℕ) → StaysSame (routine_or_empty called which)
  by_call true which = by_numbers (which == 0) (which == 1) (which == 2)
  by_call false which = refl

  pub standing_same : (first : ℕ) (ps : List Procedure) (which : ℕ) → with_finders numbers (standing first ps which) ≡ standing first ps which
  standing_same first ps which = by_call _ which

  pub start_same : (first main : ℕ) (receives : Bool)
      → with_finders numbers (expanded first (start_of main receives)) ≡ expanded first (start_of main receives)
  start_same first main receives = refl
