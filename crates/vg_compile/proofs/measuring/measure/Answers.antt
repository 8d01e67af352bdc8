use Rattle.vg_compile.proofs.Measured.{four_beside, main_framed}
use Rattle.vg_compile.proofs.Refusals.{unpaid_for}
use Rattle.vg_compile.proofs.measuring.measure.Goals as goal

pub need_of-requires-clause-framed : goal.need_of-requires-clause-framed
need_of-requires-clause-framed c =
    main_framed c.requires.linear.0 c.args.firm.now c.args.linear c.requires.linear.1 c.in-Ok.frames c.in-Ok.ensures.frames c.requires.main

pub need_of-requires-clause-beside : goal.need_of-requires-clause-beside
need_of-requires-clause-beside c = four_beside c.args.linear c.in-Ok.frames c.in-Ok.ensures.frames

pub returns-in-Err-need_of-clause-frames : goal.returns-in-Err-need_of-clause-frames
returns-in-Err-need_of-clause-frames c =
    unpaid_for c.args.linear c.in-Ok.frames c.args.costs.now c.in-Err-need_of.why c.in-Ok.ensures.paid c.in-Err-need_of.ensures.unpaid

pub returns-in-Err-need_of-clause-handlers : goal.returns-in-Err-need_of-clause-handlers
returns-in-Err-need_of-clause-handlers c = c.in-Err-need_of.ensures.handlers c.args.linear c.args.firm.now
