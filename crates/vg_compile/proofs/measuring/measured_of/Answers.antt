use Rattle.std.proofs.Common.{subst, sym}
use Rattle.vg_linear.specs.Whole.{IsPlain}
use Rattle.vg_compile.proofs.Refusals.{lacks_frames, lacks_handlers}
use Rattle.vg_compile.proofs.measuring.measured_of.Goals as goal

pub measure-requires-clause-linear : goal.measure-requires-clause-linear
measure-requires-clause-linear c = (c.args.columns.now.list, c.in-Ok.ensures.linear)

pub returns-in-Ok-measure-clause-measured : goal.returns-in-Ok-measure-clause-measured
returns-in-Ok-measure-clause-measured c = c.in-Ok-measure.ensures.measured c.args.columns.now.list c.in-Ok.ensures.linear

pub returns-in-Ok-measure-clause-plain : goal.returns-in-Ok-measure-clause-plain
returns-in-Ok-measure-clause-plain c = λ is.
    subst (IsPlain c.args.columns.now.list c.args.firm.now) (sym c.in-Ok-measure.ensures.same) (c.in-Ok.ensures.plain is)

pub returns-in-Err-measure-clause-linear : goal.returns-in-Err-measure-clause-linear
returns-in-Err-measure-clause-linear c = c.in-Err-measure.ensures.linear c.args.columns.now.list c.args.firm.now

pub returns-in-Err-measure-clause-frames : goal.returns-in-Err-measure-clause-frames
returns-in-Err-measure-clause-frames c = λ is.
    lacks_frames c.args.columns.now.list c.args.firm.now c.in-Ok.linear c.args.costs.now (c.in-Ok.ensures.plain is) c.in-Err-measure.why
    c.in-Err-measure.ensures.frames

pub returns-in-Err-measure-clause-handlers : goal.returns-in-Err-measure-clause-handlers
returns-in-Err-measure-clause-handlers c = λ is.
    lacks_handlers c.args.columns.now.list c.args.firm.now c.in-Ok.linear (c.in-Ok.ensures.plain is) c.in-Err-measure.why c.in-Err-measure.ensures.handlers

pub returns-in-Err-measure-clause-room : goal.returns-in-Err-measure-clause-room
returns-in-Err-measure-clause-room c = c.in-Err-measure.ensures.room c.args.columns.now c.args.firm.now
