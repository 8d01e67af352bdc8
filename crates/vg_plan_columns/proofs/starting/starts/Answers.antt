use Rattle.std.proofs.Common.{◌≡◌, length, map, replicate, rules}
use Rattle.vg_core.specs.Heap.{kind_of}
use Rattle.vg_number.specs.Numbering.{has_reason}
use Rattle.vg_number.proofs.Walking.{kind_at}
use Rattle.vg_plan_columns.proofs.Counted.{sizes_first, starts_first, has_size, sizes_more, starts_more}
use Rattle.vg_plan_columns.proofs.starting.starts.Goals as goal

pub loop-index-init : goal.loop-index-init
loop-index-init c =
    let items : c.in_ok-sizes.sizes.items ≡ replicate c.len.result 0 = search rules in (
      starts_first (map kind_of c.args.cells.now) (has_reason c.args.live.now) c.new-starts.result c.new-starts.ensures,
      sizes_first (length c.args.tables.now.types) c.len.result (map kind_of c.args.cells.now) (has_reason c.args.live.now) c.in_ok-sizes.sizes.items
          c.len.ensures items,
    )

pub note-requires : goal.note-requires
note-requires c =
    has_size c.args.tables.now (map kind_of c.args.cells.now) (has_reason c.args.live.now) c.loop-index.index c.loop-index.sizes.items
    (kind_of c.index-cells-index-in-loop-index.result) c.is_kept.result c.requires.listed c.requires.small
    (kind_at c.args.cells.now c.loop-index.index c.index-cells-index-in-loop-index.result c.loop-index-test.true c.index-cells-index-in-loop-index.is)
    c.is_kept.ensures (c.loop-index.invariant.1)

pub loop-index-preserved : goal.loop-index-preserved
loop-index-preserved c =
    let kind = kind_at c.args.cells.now c.loop-index.index c.index-cells-index-in-loop-index.result c.loop-index-test.true
    c.index-cells-index-in-loop-index.is in
    let first = kind_at c.args.cells.now c.loop-index.index c.index-cells-index.result c.loop-index-test.true c.index-cells-index.is in (
      starts_more c.args.tables.now (map kind_of c.args.cells.now) (has_reason c.args.live.now) c.loop-index.index c.loop-index.starts c.push.new.self
          c.loop-index.sizes.items (kind_of c.index-cells-index.result) c.start_of-start.result c.requires.listed first (c.loop-index.invariant.1)
          (c.loop-index.invariant.0) c.start_of-start.ensures c.in_ok-push.ensures.ok,
      sizes_more c.args.tables.now (map kind_of c.args.cells.now) (has_reason c.args.live.now) c.loop-index.index c.loop-index.sizes.items
          c.note.new.sizes.items (kind_of c.index-cells-index-in-loop-index.result) c.is_kept.result c.requires.listed kind c.is_kept.ensures
          (c.loop-index.invariant.1) c.note.ensures,
    )
