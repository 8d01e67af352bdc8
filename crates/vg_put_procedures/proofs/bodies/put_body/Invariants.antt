use Rattle.std.proofs.Common.{reverse}
use Rattle.vg_alloc.specs.Locations.{layout}
use Rattle.vg_put_operations.specs.Coded.{code_from}
use Rattle.vg_select.specs.Selected.{with_codes}
use Rattle.vg_put_procedures.specs.Emitted.{leading_in}
use Rattle.vg_put_procedures.proofs.Turning.{Done}
use Rattle.vg_put_procedures.proofs.bodies.put_body.Given as goal

abbrev pub invariant-loop-pc : goal.invariant-loop-pc
invariant-loop-pc l =
    Done (layout l.locations) (with_codes (code_from l.codes) l.dispatches) (leading_in l.leadings) l.instrs l.start l.fn.code l.fn.places l.pc l.code
    l.places (reverse l.waits.items) l.at
