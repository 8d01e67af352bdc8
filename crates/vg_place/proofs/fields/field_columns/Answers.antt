use Rattle.vg_placement.specs.Columns.{field_columns}
use Rattle.vg_place.specs.Counting.{needs_by}
use Rattle.vg_place.proofs.Rows.{more_field}
use Rattle.vg_place.proofs.fields.field_columns.Goals as goal

pub loop-index-preserved : goal.loop-index-preserved
loop-index-preserved c =
    more_field (needs_by c.args.live.now c.args.spans.now) c.args.fields.now c.loop-index.index c.index-fields-index.result c.loop-index-test.true
    c.index-fields-index.is c.loop-index.rows c.push_if_live.new.rows (field_columns (needs_by c.args.live.now c.args.spans.now) 0 c.args.fields.now)
    c.is_kept.result c.is_kept.ensures c.loop-index.invariant c.in_ok-push_if_live.ensures
