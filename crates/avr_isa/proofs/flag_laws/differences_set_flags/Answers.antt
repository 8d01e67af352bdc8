use Rattle.avr_isa.proofs.FlagLaws.{difference_overflows, difference_stays}
use Rattle.avr_isa.proofs.flag_laws.differences_set_flags.Goals as goal

pub returns-clause-overflow : goal.returns-clause-overflow
returns-clause-overflow c = difference_overflows

pub returns-clause-no_overflow : goal.returns-clause-no_overflow
returns-clause-no_overflow c = difference_stays
