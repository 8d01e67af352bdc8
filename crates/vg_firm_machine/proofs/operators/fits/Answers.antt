use Rattle.vg_firm_machine.proofs.Powers.{holds}
use Rattle.vg_firm_machine.proofs.operators.fits.Goals as goal

pub returns-then-width-ge4 : goal.returns-then-width-ge4
returns-then-width-ge4 c = holds _ _ c.if-width-ge4.true c.ranges.value.fits
