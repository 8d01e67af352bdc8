use Rattle.std.proofs.Common.{reverse}
use Rattle.std.specs.Prelude.{slice_get}
use Rattle.std.proofs.lemmas.Option.{slice_get_past}
use Rattle.vg_alloc.specs.Locations.{layout}
use Rattle.vg_put_operations.specs.Coded.{code_from}
use Rattle.vg_select.specs.Selected.{with_codes}
use Rattle.vg_put_procedures.specs.Emitted.{leading_in}
use Rattle.vg_put_procedures.proofs.Turning.{none_put, none_behind}
use Rattle.vg_put_procedures.proofs.bodies.put_at.Goals as goal

pub returns-in-None-clause-code : goal.returns-in-None-clause-code
returns-in-None-clause-code c =
    none_put (layout c.args.locations.now) (with_codes (code_from c.args.codes.now) c.args.dispatches.now) (reverse c.args.waits.now.items)
    (leading_in c.args.leadings.now c.args.pc) (slice_get c.args.instrs.now c.args.pc) c.args.code.now
    (slice_get_past c.args.instrs.now c.args.pc c.in-None.ensures.lookup.3)

pub returns-in-None-clause-waits : goal.returns-in-None-clause-waits
returns-in-None-clause-waits c =
    none_behind (slice_get c.args.instrs.now c.args.pc) (reverse c.args.waits.now.items)
    (slice_get_past c.args.instrs.now c.args.pc c.in-None.ensures.lookup.3)
