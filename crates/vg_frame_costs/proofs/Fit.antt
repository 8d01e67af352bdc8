-- Frames fit by themselves.
use Rattle.std.specs.Prelude.{ℕ, ◌+◌, List, [], ◌∷◌}
use Rattle.std.proofs.Common.{sym, subst, arith}
use Rattle.vg_lin.specs.Program.{Procedure}
use Rattle.vg_frame_costs.specs.declared.frames.Frames.{Frames}
use Rattle.vg_frame_costs.specs.Fitting.{ArePaid, FramesFit, FramesWithin}
use Rattle.vg_frame_costs.specs.Noted.{HoldsAll}

paid_alone : (b : ℕ) (fs : List ℕ) → ArePaid b b fs fs
paid_alone b [] = tt
paid_alone b (f ∷ fs) = (omega arith, omega arith, paid_alone b fs)

-- where procedures are within frames, they fit by these frames, and all that lies beside them
pub fit_alone : (ps : List Procedure) (start : ℕ) (frames : List ℕ) (below above : ℕ) → FramesWithin ps start frames below above
    → FramesFit ps start (below + above) frames
fit_alone ps start frames below above within = record {
  frames = frames;
  below = below;
  above = above;
  within = within;
  paid = paid_alone (below + above) frames;
  begins = omega arith;
}

-- by frames that are answered, and by costs that pay for them
pub fit_frames : (ps : List Procedure) (start : ℕ) (f : Frames) → HoldsAll ps start f → FramesFit ps start f.beside f.by_method
fit_frames ps start f h =
    subst (λ z. FramesFit ps start z f.by_method) (sym h.beside) (fit_alone ps start f.by_method h.below h.above h.within)

pub fit_costs : (ps : List Procedure) (start : ℕ) (f : Frames) (costs : List ℕ) → HoldsAll ps start f → ArePaid f.beside 4 f.by_method costs
    → FramesFit ps start 4 costs
fit_costs ps start f costs h paid = record {
  frames = f.by_method;
  below = h.below;
  above = h.above;
  within = h.within;
  paid = subst (λ z. ArePaid z 4 f.by_method costs) h.beside paid;
  begins = let few = h.few in omega (arith, few);
}
