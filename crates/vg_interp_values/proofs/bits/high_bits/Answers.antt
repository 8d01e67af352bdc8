use Rattle.std.proofs.Common.{sym}
use Rattle.vg_interp_values.proofs.Widths.{none_left}
use Rattle.vg_interp_values.proofs.bits.high_bits.Goals as goal

pub returns-then-place-ge32 : goal.returns-then-place-ge32
returns-then-place-ge32 c = sym (none_left _ _ c.if-place-ge32.true c.ranges.bits.fits)
