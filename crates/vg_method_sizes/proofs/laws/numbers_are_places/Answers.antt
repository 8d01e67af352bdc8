use Rattle.vg_method_sizes.proofs.Places.{at_places, params_sized}
use Rattle.vg_method_sizes.proofs.laws.numbers_are_places.Goals as goal

pub returns-clause-numbers : goal.returns-clause-numbers
returns-clause-numbers c = at_places

pub returns-clause-params : goal.returns-clause-params
returns-clause-params c = params_sized
