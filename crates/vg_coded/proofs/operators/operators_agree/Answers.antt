use Rattle.vg_coded.proofs.Computing.{scalars, prefixes, to_int, to_char, to_bits}
use Rattle.vg_coded.proofs.operators.operators_agree.Goals as goal

pub returns-clause-two : goal.returns-clause-two
returns-clause-two c = λ p cells op t u x y et eu hx hy. scalars p cells op t u x y et eu hx hy

pub returns-clause-one : goal.returns-clause-one
returns-clause-one c = λ p cells op t x et h. prefixes p cells op t x et h

pub returns-clause-to_int : goal.returns-clause-to_int
returns-clause-to_int c = λ p cells t x et h. to_int p cells t x et h

pub returns-clause-to_char : goal.returns-clause-to_char
returns-clause-to_char c = λ p cells t x et h. to_char p cells t x et h

pub returns-clause-to_bits : goal.returns-clause-to_bits
returns-clause-to_bits c = λ p cells t k x le et h. to_bits p cells t k x le et h
