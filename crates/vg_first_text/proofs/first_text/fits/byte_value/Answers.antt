use Rattle.std.proofs.Common.{sym, ◌∙◌}
use Rattle.vg_first_text.proofs.Hexadecimal.{no_byte}
use Rattle.vg_first_text.proofs.first_text.fits.byte_value.Goals as goal

pub returns-clause-none : goal.returns-clause-none
returns-clause-none c =
    no_byte c.byte_of.result c.args.number.now c.split_at.result.1.now c.byte_of.ensures.none c.split_at.ensures.back
    (sym c.is_hexadecimal.ensures.value ∙ c.if-not-is_hexadecimal.false) c.if-number-ne4.false
