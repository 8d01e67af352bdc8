use Rattle.vg_number.proofs.Sums.{numbering}
use Rattle.vg_number.proofs.numbers.number.Goals as goal

pub returns : goal.returns
returns c =
    numbering c.args.program.now.tables c.args.heap.now.cells c.cells-cells.result.now c.args.live.now.cells c.as_slice-kept.result.now c.in_ok-spans.spans
    c.in_ok-of_cell.of_cell c.cells-cells.ensures c.as_slice-kept.ensures c.in_ok-spans.ensures c.in_ok-of_cell.ensures
