-- Programs of linear code whose frames fit, where they stand.
use Rattle.std.specs.Prelude.{ℕ, ◌≡◌, List, Some, slice_get}
use Rattle.vg_lin.specs.Program.{Procedure, Program}
use Rattle.vg_lin.specs.Sound.{IsSound}
use Rattle.vg_templates.specs.Framed.{framed}
use Rattle.vg_templates.specs.Whole.{Links}
use Rattle.vg_frame_costs.specs.Fitting.{FramesFit}
use Rattle.vg_open_costs.specs.Taken.{LeadBefore}

-- The procedures of a program are sound, each has its locals where its layout says, frames fit by these costs of methods and so many bytes beside them, and
-- handlers and what code numbers lead to stand before the procedure with which a run begins.
pub record HasFitFrames (x : Links) (p : Program) (extra : ℕ) (costs : List ℕ) : Type 0 where
  pub sound : (m : ℕ) (procedure : Procedure) → slice_get p.procedures m ≡ Some procedure → IsSound procedure
  pub layouts : (m : ℕ) (procedure : Procedure) → slice_get p.procedures m ≡ Some procedure
      → x.places.layouts m ≡ framed procedure
  pub fit : FramesFit p.procedures p.start extra costs
  pub before : LeadBefore p
