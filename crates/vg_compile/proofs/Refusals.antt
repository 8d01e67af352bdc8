-- What a packed program lacks for which there is no image.
use Rattle.std.specs.Prelude.{ℕ, List}
use Rattle.std.proofs.Common.{arith}
use Rattle.vg_base.specs.declared.refusal.Refusal.{Refusal}
use Rattle.vg_base.specs.declared.refusal.Refusal.TheVariants.{Fault as Faulty, NoMemory}
use Rattle.vg_frame_costs.specs.declared.frames.Frames.{Frames}
use Rattle.vg_frame_costs.specs.Payable.{CanBePaid}
use Rattle.vg_linear.specs.declared.whole.Linear.{Linear}
use Rattle.vg_linear.specs.Whole.{IsPlain}
use Rattle.vg_link.specs.declared.unlinked.Unlinked.{Unlinked}
use Rattle.vg_packed.specs.declared.program.FirmProgram.{FirmProgram}
use Rattle.vg_place.specs.declared.placing.Columns.{Columns}
use Rattle.vg_placement.specs.declared.column.Column.{Column}
use Rattle.vg_compile.specs.Compile.{LacksFrames, LacksHandlers, LacksRoom}
use Rattle.vg_compile.specs.Measured.{AreAllPaid, AreUnpaidFor, IsFullBy, IsUnhandledFor, IsUnpaidFor}
use Rattle.vg_compile.specs.Unlinked.{IsUnlinked}
use Rattle.vg_compile.specs.declared.no_image.NoImage.{NoImage}
use Rattle.vg_compile.specs.declared.no_image.NoImage.TheVariants.{NotLinear, Received, Costly, Deep, Full}

-- costs cannot pay a linear program whose frames they do not pay
pub unpaid_for : (l : Linear) (frames : Frames) (costs : List ℕ) (why : Refusal NoImage)
    → (CanBePaid l.procedures l.start costs → AreAllPaid frames costs) → AreUnpaidFor frames costs why → IsUnpaidFor l costs why
unpaid_for l frames costs (Faulty Costly) pays not_paid = λ can. not_paid (pays can)
unpaid_for l frames costs (Faulty (NotLinear fault)) pays not_paid = tt
unpaid_for l frames costs (Faulty Received) pays not_paid = tt
unpaid_for l frames costs (Faulty (Deep need)) pays not_paid = tt
unpaid_for l frames costs (Faulty (Full full)) pays not_paid = tt
unpaid_for l frames costs NoMemory pays not_paid = tt

-- what a plain program lacks the packed one does
pub lacks_frames : (cs : List Column) (f : FirmProgram) (l : Linear) (costs : List ℕ) → IsPlain cs f l → (why : Refusal NoImage) → IsUnpaidFor l costs why
    → LacksFrames cs f costs why
lacks_frames cs f l costs plain (Faulty Costly) is = (l, plain, is)
lacks_frames cs f l costs plain (Faulty (NotLinear fault)) is = tt
lacks_frames cs f l costs plain (Faulty Received) is = tt
lacks_frames cs f l costs plain (Faulty (Deep need)) is = tt
lacks_frames cs f l costs plain (Faulty (Full full)) is = tt
lacks_frames cs f l costs plain NoMemory is = tt

pub lacks_handlers : (cs : List Column) (f : FirmProgram) (l : Linear) → IsPlain cs f l → (why : Refusal NoImage) → IsUnhandledFor l f why
    → LacksHandlers cs f why
lacks_handlers cs f l plain (Faulty Received) is = (l, plain, is)
lacks_handlers cs f l plain (Faulty (NotLinear fault)) is = tt
lacks_handlers cs f l plain (Faulty Costly) is = tt
lacks_handlers cs f l plain (Faulty (Deep need)) is = tt
lacks_handlers cs f l plain (Faulty (Full full)) is = tt
lacks_handlers cs f l plain NoMemory is = tt

pub lacks_room : (c : Columns) (f : FirmProgram) (l : Linear) (u : Unlinked) → IsPlain c.list f l → IsUnlinked c f l u → (why : Refusal NoImage)
    → IsFullBy u why → LacksRoom c f why
lacks_room c f l u plain made (Faulty (Full full)) is =
    record { linear = l; plain = plain; unlinked = u; is_unlinked = made; taken = omega (arith, is) }
lacks_room c f l u plain made (Faulty (NotLinear fault)) is = tt
lacks_room c f l u plain made (Faulty Received) is = tt
lacks_room c f l u plain made (Faulty Costly) is = tt
lacks_room c f l u plain made (Faulty (Deep need)) is = tt
lacks_room c f l u plain made NoMemory is = tt
