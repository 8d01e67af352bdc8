use Rattle.std.proofs.Common.{arith, ap, length}
use Rattle.vg_script.proofs.Items.{emptied}
use Rattle.vg_script.proofs.Texts.{goes_on, read_vectors}
use Rattle.vg_script.proofs.reader.read_script.Goals as goal

pub loop-rest-preserved : goal.loop-rest-preserved
loop-rest-preserved c =
    let more = goes_on c.args.text.now c.loop-rest.rest.now c.first_line-line.result.bytes.now c.first_line-line.result.behind.now c.loop-rest.number
    c.loop-rest.reads.items c.take_line.new.reads.items c.loop-rest.interrupts.items c.take_line.new.interrupts.items c.in_ok-take_line.field-0
    c.first_line-line.ensures.lines c.in_ok-take_line.ensures c.in-Good.is c.loop-rest.invariant.1 c.loop-rest.invariant.2 c.loop-rest.invariant.3 in
    (omega arith, more.0, more.1, more.2)

pub from_lists-requires : goal.from_lists-requires
from_lists-requires c = read_vectors c.args.text.now c.loop-rest.rest.now c.loop-rest.interrupts.items
    (ap length (emptied c.loop-rest.rest.now _ c.is_empty.ensures c.loop-rest-test.false)) c.loop-rest.invariant.3
