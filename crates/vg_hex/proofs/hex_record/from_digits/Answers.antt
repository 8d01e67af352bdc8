use Rattle.vg_hex.proofs.Spelling.{too_many}
use Rattle.vg_hex.proofs.hex_record.from_digits.Goals as goal

pub returns-then-digits-gt-MOST_DIGITS : goal.returns-then-digits-gt-MOST_DIGITS
returns-then-digits-gt-MOST_DIGITS c = too_many _ c.if-digits-gt-MOST_DIGITS.true
