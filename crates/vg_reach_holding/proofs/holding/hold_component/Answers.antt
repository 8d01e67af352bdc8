use Rattle.std.proofs.Common.{◌∙◌, sym}
use Rattle.vg_core.specs.Heap.{OfComponent}
use Rattle.vg_core.specs.HeldProgram.{program_at}
use Rattle.vg_reach_holding.proofs.Places.{on_ok, place_holds}
use Rattle.vg_reach_holding.proofs.holding.hold_component.Goals as goal

pub returns-in-Some : goal.returns-in-Some
returns-in-Some c =
    on_ok c.hold.result (λ d q f. place_holds (program_at c.args.program.now) c.args.heap.now c.args.marks.now c.hold.new.marks (OfComponent c.args.field) c.in-Some.value
    (sym c.component_field.ensures ∙ c.in-Some.is) d q f tt) c.hold.ensures
