use Rattle.std.proofs.Common.{◌≡◌, drop}
use Rattle.vg_codes.specs.Codes.{Codes}
use Rattle.vg_number.specs.Numbering.{kinds_of}
use Rattle.vg_pack_code.specs.Plans.{layout_by}
use Rattle.vg_pack_values.specs.Columns.{numbers_in}
use Rattle.vg_pack_values.specs.Places.{with_places, items_from}
use Rattle.vg_pack_values.proofs.filling.put_items.Given as goal

abbrev pub invariant-loop-index : goal.invariant-loop-index
invariant-loop-index l =
    (k : Codes) → with_places l.tables l.heap (layout_by (kinds_of l.heap) l.numbers l.plan) k (items_from l.cell l.index (drop l.index l.values)) (numbers_in k l.rows.items)
    ≡ with_places l.tables l.heap (layout_by (kinds_of l.heap) l.numbers l.plan) k (items_from l.cell 0 l.values) (numbers_in k l.fn.rows.items)
