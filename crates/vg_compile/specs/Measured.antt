-- What is known of a linear program that is to be linked, beside that it is one.
use Rattle.std.specs.Prelude.{ℕ, ◌≡◌, ◌<◌, List, map, Option, Some, None}
use Rattle.vg_base.specs.declared.refusal.Refusal.{Refusal}
use Rattle.vg_base.specs.declared.refusal.Refusal.TheVariants.{Fault as Faulty}
use Rattle.vg_calls_packed.specs.Ways.{cost_at}
use Rattle.vg_call_need.specs.Within.{IsNeedWithin}
use Rattle.vg_call_need.specs.declared.need.Need.{Need}
use Rattle.vg_frame_costs.specs.declared.frames.Frames.{Frames}
use Rattle.vg_frame_costs.specs.Fitting.{ArePaid}
use Rattle.vg_linear.specs.declared.whole.Linear.{Linear}
use Rattle.vg_linear.specs.Whole.{IsLinear}
use Rattle.vg_link.specs.declared.unlinked.Unlinked.{Unlinked}
use Rattle.vg_link.specs.Linking.{words_laid}
use Rattle.vg_packed.specs.declared.program.FirmProgram.{FirmProgram}
use Rattle.vg_placement.specs.declared.column.Column.{Column}
use Rattle.vg_compile.specs.Bounds.{AreFramesOf, ArePaidFor}
use Rattle.vg_compile.specs.Compile.{IsUnhandled, IsUnpaid, handler_of}
use Rattle.vg_compile.specs.Handlers.{AllCanHandle}
use Rattle.vg_compile.specs.declared.measuring.Measured.{Measured}
use Rattle.vg_compile.specs.declared.no_image.NoImage.{NoImage}
use Rattle.vg_compile.specs.declared.no_image.NoImage.TheVariants.{Received, Costly, Full}

-- The linear program is one of the packed program, its frames are known and what calls need by them, for which methods pay, and its handlers receive nothing.
pub record IsMeasured (cs : List Column) (f : FirmProgram) (costs : List ℕ) (m : Measured) : Type 0 where
  pub is_linear : IsLinear cs f m.linear
  pub are_frames : AreFramesOf m.linear m.frames
  pub is_need : IsNeedWithin m.frames.beside f m.frames.by_method costs m.need
  pub are_paid : ArePaidFor m.frames costs m.need
  pub handled : AllCanHandle m.linear.procedures (map handler_of f.handlers)

-- ---- the answers of functions of this crate (mirrors)

-- It is a linear program of the packed one, with some columns.
abbrev pub IsLinearOf : FirmProgram → Linear → Type 0
IsLinearOf f l = (cs : List Column) × IsLinear cs f l

-- Where this is one, so is what was measured of it.
abbrev pub IsMeasuredOf : FirmProgram → (costs : List ℕ) → Linear → Measured → Type 0
IsMeasuredOf f costs l m = (cs : List Column) → IsLinear cs f l → IsMeasured cs f costs m

-- Main has a frame.
abbrev pub IsMainFramed : FirmProgram → Frames → Type 0
IsMainFramed f frames = 0 < cost_at f.procedures frames.by_method f.main

-- All frames are paid, with what lies beside them, but for the four bytes that each run may take beyond what its calls cost.
abbrev pub AreAllPaid : Frames → (costs : List ℕ) → Type 0
AreAllPaid frames costs = ArePaid frames.beside 4 frames.by_method costs

-- Where there is no need that is paid, not all frames are.
abbrev pub AreUnpaidAt : Frames → (costs : List ℕ) → Option Need → Type 0
AreUnpaidAt frames costs (Some need) = Unit {0}
AreUnpaidAt frames costs None = AreAllPaid frames costs → ⊥

-- Where the cause is that frames are more than their methods cost, not all frames are paid.
abbrev pub AreUnpaidFor : Frames → (costs : List ℕ) → Refusal NoImage → Type 0
AreUnpaidFor frames costs (Faulty Costly) = AreAllPaid frames costs → ⊥
AreUnpaidFor frames costs why = Unit {0}

-- Where that is the cause, costs cannot pay this linear program.
abbrev pub IsUnpaidFor : Linear → (costs : List ℕ) → Refusal NoImage → Type 0
IsUnpaidFor l costs (Faulty Costly) = IsUnpaid l costs
IsUnpaidFor l costs why = Unit {0}

-- Where the cause is that the procedure of a handler receives something, it does in this linear program.
abbrev pub IsUnhandledFor : Linear → FirmProgram → Refusal NoImage → Type 0
IsUnhandledFor l f (Faulty Received) = IsUnhandled l f
IsUnhandledFor l f why = Unit {0}

-- Where the cause is that the flash is full, the words are those of what was to be linked.
abbrev pub IsFullBy : Unlinked → Refusal NoImage → Type 0
IsFullBy u (Faulty (Full full)) = full.words ≡ words_laid u
IsFullBy u why = Unit {0}
