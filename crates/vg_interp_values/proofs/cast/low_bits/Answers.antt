use Rattle.std.proofs.Common.{sym}
use Rattle.vg_interp_values.proofs.Widths.{whole}
use Rattle.vg_interp_values.proofs.cast.low_bits.Goals as goal

pub returns-then-width-ge32 : goal.returns-then-width-ge32
returns-then-width-ge32 c = sym (whole _ _ c.if-width-ge32.true c.ranges.bits.fits)
