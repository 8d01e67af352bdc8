-- The machine does in the image of a packed program what the program does, and how much stack is enough for it.
use Rattle.std.specs.Prelude.{ℕ, ◌+◌, ◌≤◌, List}
use Rattle.std.proofs.Common.{◌≡◌, sym, subst, arith}
use Rattle.vg_core.specs.declared.heap.Heap.{Heap}
use Rattle.vg_core.specs.Program.{Program}
use Rattle.vg_live.specs.declared.live_set.LiveSet.{LiveSet}
use Rattle.vg_number.specs.declared.numbers.Numbers.{Numbers}
use Rattle.vg_place.specs.declared.placing.Columns.{Columns}
use Rattle.vg_packed.specs.declared.program.FirmProgram.{FirmProgram}
use Rattle.vg_packed.specs.Given.{IsGiven}
use Rattle.vg_packed.specs.Packed.{IsPackedFrom}
use Rattle.vg_packed.specs.Ready.{IsReady}
use Rattle.vg_pack.specs.Rows.{RowsFitIn}
use Rattle.vg_compile.specs.Packed.{IsPackedRows}
use Rattle.vg_frame_costs.specs.Fitting.{FramesFit}
use Rattle.vg_frame_costs.proofs.Fit.{fit_costs, fit_frames}
use Rattle.vg_call_need.specs.declared.need.Need.{Need}
use Rattle.vg_call_need.specs.declared.need.Need.TheVariants as need
use Rattle.vg_compile.proofs.Following.{follows, peaks_hold}
use Rattle.vg_call_need.specs.Bounds.{BoundsCalls, IsBoundOf}
use Rattle.vg_call_need.proofs.Calls.{bounds_bytes, bounds_calls}
use Rattle.vg_call_need.specs.Within.{IsNeedWithin}
use Rattle.vg_compile.specs.Bounds.{ArePaidFor, DoesFor, HoldsBound}
use Rattle.vg_compile.specs.Compile.{CallsNeedAsSaid, IsImageOf, NeedsAsSaid}
use Rattle.vg_compile.specs.Compile.{LacksFrames, LacksFramesOf, LacksHandlers, LacksHandlersOf, LacksLinear, LacksLinearOf, LacksRoom, LacksRoomOf, Linked}
use Rattle.vg_packed_suits.specs.Bodies.{AreTypedWhereCounted}
use Rattle.vg_compile.specs.declared.no_image.NoImage.TheVariants.{NotLinear, Received, Costly, Deep, Full}
use Rattle.vg_compile.specs.declared.no_image.NoImage.{NoImage}
use Rattle.vg_base.specs.declared.refusal.Refusal.{Refusal}
use Rattle.vg_base.specs.declared.refusal.Refusal.TheVariants.{Fault as Faulty, NoMemory}
use Rattle.vg_compile.specs.Runs.{DoesInImage}
use Rattle.vg_layout.specs.declared.stack_bound.StackBound.{StackBound}
use Rattle.vg_layout.specs.declared.stack_bound.StackBound.TheVariants.{Bytes, Cycle}

lower : (floor extra bytes enough : ℕ) → bytes ≡ extra + enough → floor + bytes ≤ 0x1100 → floor + (extra + enough) ≤ 0x1100
lower floor extra bytes enough h k = omega (arith, h, k)

module _ (p : Program) (h : Heap) (s : LiveSet) (n : Numbers) (c : Columns) (f : FirmProgram) (costs : List ℕ) (linked : Linked) (bound : StackBound)
    (given : IsGiven p h s n c) (from : IsPackedFrom p h s n c f) (rows : RowsFitIn p h c f) (image : IsImageOf c f costs linked bound)
    (ready : IsReady p h) where
  packed : IsPackedRows p h s n c f
  packed = record { from = from; rows = rows }

  does_by : (extra : ℕ) (frames : List ℕ) → FramesFit image.linear.procedures image.linear.start extra frames
      → DoesInImage linked c extra frames p h
  does_by extra frames fit e flash static floor slept woken =
      follows p h s n c f image.linear image.unlinked linked given ready packed image.is_linear image.is_unlinked image.can_be_linked image.is_linked
      extra frames fit e flash static floor slept woken

  does_for : (need : Need) (bound : StackBound) → IsBoundOf f need bound → ArePaidFor image.frames costs need → DoesFor linked c costs p h bound
  does_for (need.Bytes bytes) (Bytes same) e paid = tt
  does_for (need.Bytes bytes) (Cycle methods) e paid = absurd e
  does_for (need.Cycle procedures) (Bytes bytes) e paid = tt
  does_for (need.Cycle procedures) (Cycle methods) e paid =
      does_by 4 costs (fit_costs image.linear.procedures image.linear.start image.frames costs image.are_frames paid)

  pub does : DoesFor linked c costs p h bound
  does = does_for image.need bound image.is_bound image.are_paid

  abbrev frames : List ℕ
  frames = image.frames.by_method

  abbrev extra : ℕ
  extra = image.frames.beside

  bound_by : (need : Need) (bound : StackBound) → IsBoundOf f need bound → IsNeedWithin extra f frames costs need → HoldsBound linked c p h bound
  bound_by (need.Bytes bytes) (Bytes same) e has =
      let (none, (enough, exact, is_enough, spent)) = has.is_need in
      subst (λ z. HoldsBound linked c p h (Bytes z)) (sym e) (
        extra,
        (
          frames,
          does_by extra frames (fit_frames image.linear.procedures image.linear.start image.frames image.are_frames),
          λ floor fits.
              peaks_hold p h s n c f image.linear image.unlinked linked given ready packed image.is_linear image.is_unlinked image.can_be_linked
              image.is_linked frames enough is_enough floor extra (lower floor extra bytes enough exact fits),
        ),
      )
  bound_by (need.Bytes bytes) (Cycle methods) e has = tt
  bound_by (need.Cycle procedures) (Bytes bytes) e has = absurd e
  bound_by (need.Cycle procedures) (Cycle methods) e has = tt

  pub bound_holds : HoldsBound linked c p h bound
  bound_holds = bound_by image.need bound image.is_bound image.is_need

  pub calls_bounded : BoundsCalls costs p h bound
  calls_bounded = bounds_calls p h s n c f given ready from extra frames costs image.need bound image.is_need image.is_bound

-- what the calls of a packed program need that is refused is what those of its typed program need
pub refused_calls : (p : Program) (h : Heap) (s : LiveSet) (n : Numbers) (c : Columns) (f : FirmProgram) (costs : List ℕ) → IsGiven p h s n c
    → IsPackedFrom p h s n c f → (why : Refusal NoImage) → NeedsAsSaid f costs why → IsReady p h → CallsNeedAsSaid costs p h why
refused_calls p h s n c f costs given from (Faulty (Deep need)) (four, (extra, frames, total, most, is)) ready =
    bounds_bytes p h s n c f given ready from extra frames costs need total four most is
refused_calls p h s n c f costs given from (Faulty (NotLinear fault)) is ready = tt
refused_calls p h s n c f costs given from (Faulty Received) is ready = tt
refused_calls p h s n c f costs given from (Faulty Costly) is ready = tt
refused_calls p h s n c f costs given from (Faulty (Full full)) is ready = tt
refused_calls p h s n c f costs given from NoMemory is ready = tt

-- what was packed lacks linear code for the cause that is said
pub refused_linear : (p : Program) (h : Heap) (s : LiveSet) (n : Numbers) (c : Columns) (f : FirmProgram) → IsPackedFrom p h s n c f
    → AreTypedWhereCounted p h c f → (why : Refusal NoImage) → LacksLinear c.list f why → LacksLinearOf p h s n c why
refused_linear p h s n c f from typed (Faulty (NotLinear fault)) is = record { firm = f; packed = from; typed = typed; cause = is }
refused_linear p h s n c f from typed (Faulty (Deep need)) is = tt
refused_linear p h s n c f from typed (Faulty Received) is = tt
refused_linear p h s n c f from typed (Faulty Costly) is = tt
refused_linear p h s n c f from typed (Faulty (Full full)) is = tt
refused_linear p h s n c f from typed NoMemory is = tt

-- and frames that the costs pay
pub refused_frames : (p : Program) (h : Heap) (s : LiveSet) (n : Numbers) (c : Columns) (f : FirmProgram) (costs : List ℕ) → IsPackedFrom p h s n c f
    → AreTypedWhereCounted p h c f → (why : Refusal NoImage) → LacksFrames c.list f costs why → LacksFramesOf p h s n c costs why
refused_frames p h s n c f costs from typed (Faulty Costly) (l, plain, unpaid) =
    record { firm = f; packed = from; typed = typed; linear = l; plain = plain; unpaid = unpaid }
refused_frames p h s n c f costs from typed (Faulty (NotLinear fault)) is = tt
refused_frames p h s n c f costs from typed (Faulty (Deep need)) is = tt
refused_frames p h s n c f costs from typed (Faulty Received) is = tt
refused_frames p h s n c f costs from typed (Faulty (Full full)) is = tt
refused_frames p h s n c f costs from typed NoMemory is = tt

-- and handlers that receive nothing
pub refused_handlers : (p : Program) (h : Heap) (s : LiveSet) (n : Numbers) (c : Columns) (f : FirmProgram) → IsPackedFrom p h s n c f
    → AreTypedWhereCounted p h c f → (why : Refusal NoImage) → LacksHandlers c.list f why → LacksHandlersOf p h s n c why
refused_handlers p h s n c f from typed (Faulty Received) (l, plain, unhandled) =
    record { firm = f; packed = from; typed = typed; linear = l; plain = plain; unhandled = unhandled }
refused_handlers p h s n c f from typed (Faulty (NotLinear fault)) is = tt
refused_handlers p h s n c f from typed (Faulty (Deep need)) is = tt
refused_handlers p h s n c f from typed (Faulty Costly) is = tt
refused_handlers p h s n c f from typed (Faulty (Full full)) is = tt
refused_handlers p h s n c f from typed NoMemory is = tt

-- and room
pub refused_room : (p : Program) (h : Heap) (s : LiveSet) (n : Numbers) (c : Columns) (f : FirmProgram) → IsPackedFrom p h s n c f
    → AreTypedWhereCounted p h c f → (why : Refusal NoImage) → LacksRoom c f why → LacksRoomOf p h s n c why
refused_room p h s n c f from typed (Faulty (Full full)) takes = record { firm = f; packed = from; typed = typed; takes = takes }
refused_room p h s n c f from typed (Faulty (NotLinear fault)) is = tt
refused_room p h s n c f from typed (Faulty Received) is = tt
refused_room p h s n c f from typed (Faulty Costly) is = tt
refused_room p h s n c f from typed (Faulty (Deep need)) is = tt
refused_room p h s n c f from typed NoMemory is = tt
