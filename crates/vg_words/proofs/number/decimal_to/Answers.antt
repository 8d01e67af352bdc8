use Rattle.vg_words.proofs.Digits.{too_large}
use Rattle.vg_words.proofs.number.decimal_to.Goals as goal

pub returns-then-longer-most-clause-value : goal.returns-then-longer-most-clause-value
returns-then-longer-most-clause-value c =
    too_large c.args.most c.loop-digit.value c.loop-digit.digit-index c.args.text.now c.loop-digit-test.true c.loop-digit.invariant.1 c.if-longer-most.true
