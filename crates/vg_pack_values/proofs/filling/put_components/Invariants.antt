use Rattle.std.proofs.Common.{◌≡◌, drop}
use Rattle.vg_codes.specs.Codes.{Codes}
use Rattle.vg_number.specs.Numbering.{kinds_of}
use Rattle.vg_pack_code.specs.Plans.{layout_by}
use Rattle.vg_pack_values.specs.Columns.{numbers_in}
use Rattle.vg_pack_values.specs.Places.{with_places, components_from}
use Rattle.vg_pack_values.proofs.filling.put_components.Given as goal

abbrev pub invariant-loop-field : goal.invariant-loop-field
invariant-loop-field l =
    (k : Codes) → with_places l.tables l.heap (layout_by (kinds_of l.heap) l.numbers l.plan) k (components_from l.field (drop l.field l.tables.fields)) (numbers_in k l.rows.items)
    ≡ with_places l.tables l.heap (layout_by (kinds_of l.heap) l.numbers l.plan) k (components_from 0 l.tables.fields) (numbers_in k l.fn.rows.items)
