use Rattle.vg_first_text.proofs.Hexadecimal.{too_large}
use Rattle.vg_first_text.proofs.first_text.fits.byte_of.Goals as goal

pub returns-then-longer-gt255-clause-none : goal.returns-then-longer-gt255-clause-none
returns-then-longer-gt255-clause-none c =
    too_large c.loop-digit.value c.args.digits.now c.loop-digit.digit-index _ c.digit_value.result c.loop-digit-test.true c.loop-digit.invariant
    c.digit_value.ensures c.if-longer-gt255.true
