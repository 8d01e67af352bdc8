use Rattle.std.proofs.Common.{◌≡◌, drop}
use Rattle.vg_syntax.specs.Hexadecimal.{more_digits}
use Rattle.vg_first_text.proofs.first_text.fits.byte_of.Given as goal

abbrev pub invariant-loop-digit : goal.invariant-loop-digit
invariant-loop-digit l = more_digits l.value (drop l.digit-index l.digits) ≡ more_digits 0 l.digits
