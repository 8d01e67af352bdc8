use Rattle.vg_hex.proofs.Records.{next_record}
use Rattle.vg_hex.proofs.writer.put_records.Goals as goal

pub loop-k-preserved : goal.loop-k-preserved
loop-k-preserved c =
    next_record _ _ _ _ _ _ _ _ c.loop-k-test.true c.in_ok-put_base.ensures c.in_ok-put_data.ensures c.piece_at.ensures.value c.loop-k.invariant
