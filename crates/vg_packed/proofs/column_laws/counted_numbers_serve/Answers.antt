use Rattle.vg_packed.proofs.Counted.{has_numbers, no_null, one_array, two_bytes}
use Rattle.vg_packed.proofs.column_laws.counted_numbers_serve.Goals as goal

pub returns-clause-numbers : goal.returns-clause-numbers
returns-clause-numbers c = λ p chains l kept is. has_numbers p chains l kept is

pub returns-clause-no_null : goal.returns-clause-no_null
returns-clause-no_null c = λ p chains l kept is cl. no_null p chains l kept is cl

pub returns-clause-one_array : goal.returns-clause-one_array
returns-clause-one_array c = λ p chains l kept is i j t n m ai aj same. one_array p chains l kept is i j t n m ai aj same

pub returns-clause-two_bytes : goal.returns-clause-two_bytes
returns-clause-two_bytes c = λ p chains l kept is few j. two_bytes p chains l kept is few j
