use Rattle.vg_firm_machine.proofs.Powers.{all_bits}
use Rattle.vg_firm_machine.proofs.operators.low_bits.Goals as goal

pub returns-then-bits-ge32 : goal.returns-then-bits-ge32
returns-then-bits-ge32 c = all_bits _ _ c.if-bits-ge32.true c.ranges.value.fits
