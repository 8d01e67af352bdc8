use Rattle.std.proofs.Common.{◌∙◌, sym}
use Rattle.vg_core.specs.Heap.{OfObject}
use Rattle.vg_core.specs.HeldProgram.{program_at}
use Rattle.vg_reach_holding.proofs.Places.{on_ok, place_holds}
use Rattle.vg_reach_holding.proofs.holding.hold_object.Goals as goal

pub returns-in-Some : goal.returns-in-Some
returns-in-Some c =
    on_ok c.hold.result (λ d q f k. place_holds (program_at c.args.program.now) c.args.heap.now c.args.marks.now c.hold.new.marks (OfObject c.args.cell c.args.field)
    c.in-Some.value (sym c.field.ensures ∙ c.in-Some.is) d q f k) c.hold.ensures
