use Rattle.std.proofs.Common.{◌≡◌, drop}
use Rattle.vg_codes.specs.Codes.{Codes}
use Rattle.vg_number.specs.Numbering.{kinds_of}
use Rattle.vg_pack_code.specs.Plans.{layout_by}
use Rattle.vg_pack_values.specs.Columns.{numbers_in}
use Rattle.vg_pack_values.specs.Places.{with_places, cells_from}
use Rattle.vg_pack_values.proofs.filling.put_cells.Given as goal

abbrev pub invariant-loop-number : goal.invariant-loop-number
invariant-loop-number l =
    (k : Codes) → with_places l.tables l.heap (layout_by (kinds_of l.heap) l.numbers l.plan) k (cells_from l.tables l.numbers l.number (drop l.number l.heap.cells)) (numbers_in k l.rows.items)
    ≡ with_places l.tables l.heap (layout_by (kinds_of l.heap) l.numbers l.plan) k (cells_from l.tables l.numbers 0 l.heap.cells) (numbers_in k l.fn.rows.items)
