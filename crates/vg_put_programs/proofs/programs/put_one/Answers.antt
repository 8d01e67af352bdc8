use Rattle.std.proofs.Common.{ap}
use Rattle.vg_put_procedures.specs.Emitted.{leading_in}
use Rattle.vg_put_programs.specs.Programs.{sites}
use Rattle.vg_put_programs.proofs.Putting.{one_placed, one_piece}
use Rattle.vg_put_programs.proofs.programs.put_one.Goals as goal

pub returns-clause-placed : goal.returns-clause-placed
returns-clause-placed c =
    one_placed c.args.entry (sites c.args.entries.now c.args.guessed.now c.args.codes.now c.args.places.now c.args.idle) c.args.dispatches.now
    c.args.procedure.now _ _ _ _ _ _ _ c.code-instrs.ensures
    c.in_ok-locations.ensures.layout (ap leading_in c.in_ok-leadings.ensures) c.as_slice.ensures c.new-begins.ensures c.in_ok-end.ensures.places
    c.in_ok-end.ensures.end

pub returns-clause-code : goal.returns-clause-code
returns-clause-code c =
    one_piece c.args.entry (sites c.args.entries.now c.args.guessed.now c.args.codes.now c.args.places.now c.args.idle) c.args.dispatches.now
    c.args.procedure.now _ _ _ _ _ _ c.code-instrs.ensures c.in_ok-locations.ensures.layout (ap leading_in c.in_ok-leadings.ensures) c.as_slice.ensures
    c.in_ok-end.ensures.code
