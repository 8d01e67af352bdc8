use Rattle.std.proofs.Common.{arith, rules}
use Rattle.vg_hex.proofs.Placing.{line_goes, line_stops, end_stops, end_image, no_end}
use Rattle.vg_hex.proofs.reader.read.Goals as goal

pub returns-in_err-next-clause-fault : goal.returns-in_err-next-clause-fault
returns-in_err-next-clause-fault c f e =
    line_stops c.args.text.now c.loop-rest.rest.now c.first_line-line.result.bytes.now c.first_line-line.result.behind.now c.loop-rest.number
    c.loop-rest.base c.loop-rest.slots f
    c.first_line-line.ensures.lines (c.in_err-next.ensures.fault f (search rules)) (c.loop-rest.invariant.1, c.loop-rest.invariant.2)

pub returns-in_err-only_blanks-in-Ends-clause-fault :
    goal.returns-in_err-only_blanks-in-Ends-clause-fault
returns-in_err-only_blanks-in-Ends-clause-fault c f e =
    end_stops c.args.text.now c.loop-rest.rest.now c.first_line-line.result.bytes.now c.first_line-line.result.behind.now c.loop-rest.number
    c.loop-rest.base c.loop-rest.slots c.put_line.new.slots c.in_ok-next.field-0 f
    c.first_line-line.ensures.lines c.in_ok-next.ensures.leaves c.in-Ends.is (c.in_err-only_blanks-in-Ends.ensures.fault f (search rules))
    (c.loop-rest.invariant.1, c.loop-rest.invariant.2)

pub returns-in-Ends-clause-image : goal.returns-in-Ends-clause-image
returns-in-Ends-clause-image c =
    end_image c.args.text.now c.loop-rest.rest.now c.first_line-line.result.bytes.now c.first_line-line.result.behind.now c.in_ok-image-in-Ends.field-0
    c.loop-rest.number c.loop-rest.base c.loop-rest.slots c.put_line.new.slots c.in_ok-next.field-0
    c.first_line-line.ensures.lines c.in_ok-next.ensures.leaves c.in-Ends.is c.in_ok-only_blanks-in-Ends.ensures.blank
    (c.loop-rest.invariant.1, c.loop-rest.invariant.2) c.in_ok-image-in-Ends.ensures

pub loop-rest-preserved : goal.loop-rest-preserved
loop-rest-preserved c =
    let left = line_goes c.args.text.now c.loop-rest.rest.now c.first_line-line.result.bytes.now c.first_line-line.result.behind.now c.loop-rest.number
    c.loop-rest.base c.in-Goes.next c.loop-rest.slots c.put_line.new.slots c.in_ok-next.field-0
    c.first_line-line.ensures.lines c.in_ok-next.ensures.leaves c.in-Goes.is (c.loop-rest.invariant.1, c.loop-rest.invariant.2) in
    (omega arith, left.0, left.1)

pub returns-clause-fault : goal.returns-clause-fault
returns-clause-fault c f e =
    no_end c.args.text.now c.loop-rest.rest.now c.loop-rest.number c.loop-rest.base c.loop-rest.slots f (search rules) (cc)
    (c.loop-rest.invariant.1, c.loop-rest.invariant.2)
