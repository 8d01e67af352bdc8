use Rattle.std.proofs.Common.{length, map}
use Rattle.vg_core.specs.Heap.{kind_of}
use Rattle.vg_number.specs.Numbering.{has_reason}
use Rattle.vg_number.proofs.Walking.{kind_at}
use Rattle.vg_place.proofs.Noting.{noted_first, has_place, noting}
use Rattle.vg_place.proofs.arrays.arrays_of.Goals as goal

pub loop-index-init : goal.loop-index-init
loop-index-init c =
    noted_first (length c.args.tables.now.types) c.len.result (map kind_of c.args.cells.now) (has_reason c.args.live.now) c.in_ok-arrays.arrays
    c.len.ensures c.in_ok-arrays.ensures

pub note-requires : goal.note-requires
note-requires c =
    has_place c.args.tables.now (map kind_of c.args.cells.now) (has_reason c.args.live.now) c.loop-index.index c.loop-index.arrays
    (kind_of c.index-cells-index.result) c.is_kept.result c.requires.listed c.requires.few c.requires.small
    (kind_at c.args.cells.now c.loop-index.index c.index-cells-index.result c.loop-index-test.true c.index-cells-index.is)
    c.is_kept.ensures c.loop-index.invariant

pub loop-index-preserved : goal.loop-index-preserved
loop-index-preserved c =
    noting c.args.tables.now (map kind_of c.args.cells.now) (has_reason c.args.live.now) c.loop-index.index c.loop-index.arrays c.note.new.self
    (kind_of c.index-cells-index.result) c.is_kept.result c.requires.listed c.requires.few c.requires.small
    (kind_at c.args.cells.now c.loop-index.index c.index-cells-index.result c.loop-index-test.true c.index-cells-index.is)
    c.is_kept.ensures c.loop-index.invariant c.in_ok-note.ensures
