use Rattle.avr_isa.proofs.FlagLaws.{sum_overflows, sum_stays}
use Rattle.avr_isa.proofs.flag_laws.sums_set_flags.Goals as goal

pub returns-clause-overflow : goal.returns-clause-overflow
returns-clause-overflow c = sum_overflows

pub returns-clause-no_overflow : goal.returns-clause-no_overflow
returns-clause-no_overflow c = sum_stays
