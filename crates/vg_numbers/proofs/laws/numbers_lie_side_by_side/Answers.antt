use Rattle.vg_numbers.proofs.Numbers.{spans, no_null, one_object, one_array, few}
use Rattle.vg_numbers.proofs.laws.numbers_lie_side_by_side.Goals as goal

pub returns-clause-spans : goal.returns-clause-spans
returns-clause-spans c = λ p chains κ kept j d cl e ks one. spans p chains κ kept j d cl e ks one

pub returns-clause-no_null : goal.returns-clause-no_null
returns-clause-no_null c = λ p κ kept cl. no_null p κ kept cl

pub returns-clause-one_object : goal.returns-clause-one_object
returns-clause-one_object c = λ p κ kept i j d e ei ej ki kj one same. one_object p κ kept i j d e ei ej ki kj one same

pub returns-clause-one_array : goal.returns-clause-one_array
returns-clause-one_array c = λ p κ kept i j t n m ei ej ki kj same. one_array p κ kept i j t n m ei ej ki kj same

pub returns-clause-few : goal.returns-clause-few
returns-clause-few c = λ p κ kept j. few p κ kept j
