use Rattle.std.proofs.Common.{◌++◌}
use Rattle.vg_tables.specs.Bytes.{low_bytes}
use Rattle.vg_tables.proofs.Holding.{one_more}
use Rattle.vg_tables.proofs.bytes.put_number.Goals as goal

pub loop-place-preserved : goal.loop-place-preserved
loop-place-preserved c =
    one_more c.args.width c.loop-place._place c.loop-place.rest c.loop-place.bytes c.push.new.self (c.args.bytes.now ++ low_bytes c.args.width c.args.number)
    c.loop-place-test.true c.loop-place.invariant c.in_ok-push.ensures.ok
