use Rattle.vg_calls_source.specs.Calls.{Calls, IsEntry}
use Rattle.vg_calls_source.specs.Bounds.{method_cost}
use Rattle.vg_calls_source.proofs.Paths.{one_path, spent_most}
use Rattle.vg_calls_source.proofs.laws.paths_are_one.Goals as goal

pub returns-clause-one : goal.returns-clause-one
returns-clause-one c = λ text h m n a b. one_path (IsEntry text) (Calls text h) (method_cost text) m n a b

pub returns-clause-most : goal.returns-clause-most
returns-clause-most c = λ text h m n a b. spent_most (IsEntry text) (Calls text h) (method_cost text) m n a b
