use Rattle.std.proofs.Common.{subst, length}
use Rattle.vg_core.specs.HeldProgram.{program_at}
use Rattle.vg_place.specs.Placing.{Places}
use Rattle.vg_place.proofs.Glue.{are_few, are_small, few_rows, flash_rows, whole}
use Rattle.vg_place.proofs.placing.place.Goals as goal

pub arrays_of-requires-clause-few : goal.arrays_of-requires-clause-few
arrays_of-requires-clause-few c = are_few c.args.heap.now c.cells.result.now c.cells.ensures c.requires.few

pub arrays_of-requires-clause-small : goal.arrays_of-requires-clause-small
arrays_of-requires-clause-small c = are_small c.args.heap.now c.cells.result.now c.cells.ensures c.requires.few

pub fitted-requires-clause-few : goal.fitted-requires-clause-few
fitted-requires-clause-few c =
    few_rows c.args.heap.now c.cells.result.now c.in_ok-values.values c.as_slice-4.result.now c.in_ok-rows.rows c.as_slice-5.result.now c.counts.result.now
    c.in_ok-arrays.arrays.order c.order.result.now (length c.args.program.now.tables.fields) c.cells.ensures c.requires.few c.requires.fields
    c.in_ok-values.ensures.length c.in_ok-arrays.ensures.few c.order.ensures c.in_ok-rows.ensures c.as_slice-4.ensures c.as_slice-5.ensures

pub fitted-requires-clause-flash : goal.fitted-requires-clause-flash
fitted-requires-clause-flash c =
    flash_rows c.in_ok-rows.rows c.as_slice-5.result.now c.counts.result.now c.order.result.now c.in_ok-rows.ensures c.as_slice-5.ensures

pub returns : goal.returns
returns c =
    subst (λ z. Places z c.fitted.result)
    (whole (program_at c.args.program.now) c.args.heap.now c.args.live.now c.args.numbers.now c.in_ok-arrays.arrays c.cells.result.now c.as_slice.result.now
    c.as_slice-2.result.now c.as_slice-3.result.now c.in_ok-values.values c.as_slice-4.result.now c.in_ok-rows.rows c.as_slice-5.result.now
    c.counts.result.now c.order.result.now c.cells.ensures c.as_slice.ensures c.as_slice-2.ensures c.as_slice-3.ensures c.requires.owners c.requires.listed
    c.requires.numbers c.in_ok-arrays.ensures c.counts.ensures c.order.ensures c.in_ok-values.ensures.columns c.in_ok-rows.ensures
    c.as_slice-4.ensures c.as_slice-5.ensures)
    c.fitted.ensures
