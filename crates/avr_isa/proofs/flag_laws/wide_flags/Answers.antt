use Rattle.avr_isa.proofs.FlagLaws.{wide_sum_overflows, wide_sum_stays, wide_difference_overflows, wide_difference_stays}
use Rattle.avr_isa.proofs.flag_laws.wide_flags.Goals as goal

pub returns-clause-sum_overflow : goal.returns-clause-sum_overflow
returns-clause-sum_overflow c = wide_sum_overflows

pub returns-clause-no_sum_overflow : goal.returns-clause-no_sum_overflow
returns-clause-no_sum_overflow c = wide_sum_stays

pub returns-clause-difference_overflow : goal.returns-clause-difference_overflow
returns-clause-difference_overflow c = wide_difference_overflows

pub returns-clause-no_difference_overflow : goal.returns-clause-no_difference_overflow
returns-clause-no_difference_overflow c = wide_difference_stays
