-- Frames as they are noted.
use Rattle.std.specs.Prelude.{ℕ, ◌≡◌, ◌+◌, ◌^◌, ◌<◌, ◌≤◌, List, length}
use Rattle.vg_lin.specs.Program.{Procedure}
use Rattle.vg_source.specs.Peak.{cost_of}
use Rattle.vg_frame_costs.specs.declared.frames.Frames.{Frames}
use Rattle.vg_frame_costs.specs.Fitting.{ArePaid, FramesWithin}

-- each frame is as large as before, or larger
abbrev pub AreAtLeast : (old new : List ℕ) → Type 0
AreAtLeast old new = (method : ℕ) → cost_of old method ≤ cost_of new method

-- A method that takes so many bytes has a cost, which pays these, with all that lies beside them.
abbrev pub IsPaidBy : (above : ℕ) (costs : List ℕ) (method bytes : ℕ) → Type 0
IsPaidBy above costs m bytes = (m < length costs) × (bytes ≤ cost_of costs m) × (bytes + (6 + above) ≤ 4 + cost_of costs m)

-- There is a small cost for each frame, which pays it as it is noted so far, with all that lies beside it.
pub record Pays (above : ℕ) (costs frames : List ℕ) : Type 0 where
  pub each : length costs ≡ length frames
  pub small : (m : ℕ) → cost_of costs m < 2 ^ 31
  pub paid : ArePaid (6 + above) 4 frames costs

-- All procedures are within these frames and the bytes beside them, of which at most six lie below.
pub record HoldsAll (ps : List Procedure) (start : ℕ) (f : Frames) : Type 0 where
  pub below : ℕ
  pub above : ℕ
  pub within : FramesWithin ps start f.by_method below above
  pub beside : f.beside ≡ below + above
  pub few : below ≤ 6
