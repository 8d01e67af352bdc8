use Rattle.std.proofs.Common.{◌∙◌, refl, length, map}
use Rattle.vg_core.specs.Heap.{kind_of}
use Rattle.vg_number.specs.Numbering.{has_reason}
use Rattle.vg_number.proofs.Walking.{kind_at}
use Rattle.vg_plan_columns.proofs.Rowed.{rows_first, fits_place, rows_more}
use Rattle.vg_plan_columns.proofs.arrays.rows_of.Goals as goal

pub loop-index-init : goal.loop-index-init
loop-index-init c =
    rows_first (map kind_of c.args.cells.now) (has_reason c.args.live.now) c.args.items.now (length c.args.items.now) c.in_ok-rows.rows.items refl
    c.in_ok-rows.ensures

pub note-requires : goal.note-requires
note-requires c =
    fits_place (map kind_of c.args.cells.now) (has_reason c.args.live.now) c.args.items.now c.loop-index.index (kind_of c.index-cells-index.result)
    c.is_kept.result c.start_in.result c.requires.fit
    (kind_at c.args.cells.now c.loop-index.index c.index-cells-index.result c.loop-index-test.true c.index-cells-index.is) c.is_kept.ensures
    (λ t size e. c.start_in.ensures ∙ c.requires.starts.each c.loop-index.index t size c.loop-index-test.true e)

pub loop-index-preserved : goal.loop-index-preserved
loop-index-preserved c =
    rows_more (map kind_of c.args.cells.now) (has_reason c.args.live.now) c.args.items.now c.loop-index.index c.loop-index.rows.items c.note.new.rows.items
    c.loop-index.invariant (kind_of c.index-cells-index.result) c.is_kept.result c.start_in.result
    (kind_at c.args.cells.now c.loop-index.index c.index-cells-index.result c.loop-index-test.true c.index-cells-index.is) c.is_kept.ensures
    (λ t size e. c.start_in.ensures ∙ c.requires.starts.each c.loop-index.index t size c.loop-index-test.true e) c.in_ok-note.ensures
