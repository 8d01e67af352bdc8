use Rattle.std.proofs.Common.{ap, ◌∙◌, arith}
use Rattle.avr_isa.specs.Standing.{width}
use Rattle.avr_code.proofs.Counting.{widths_more, widths_all}
use Rattle.avr_code.proofs.words.count_words.Goals as goal

pub loop-instr-preserved : goal.loop-instr-preserved
loop-instr-preserved c =
    let more = widths_more c.args.code.now c.loop-instr.instr-index c.instr-item.result c.loop-instr-test.true in
    let same = ap width c.instr-item.is in
    let before = c.loop-instr.invariant in
    let now = c.width-words.ensures in
    (omega (arith, more, same, before.0, now.width), omega (arith, before.1, now.few))

pub returns : goal.returns
returns c = let before = c.loop-instr.invariant in before.0 ∙ widths_all c.args.code.now c.loop-instr.instr-index c.loop-instr-test.false
