use Rattle.vg_call_need.proofs.Calls.{bounds_bytes, bounds_calls}
use Rattle.vg_call_need.proofs.laws.needs_bound_calls.Goals as goal

pub returns-clause-bound : goal.returns-clause-bound
returns-clause-bound c = λ p h s n cs f given ready from extra frames costs need bound is e.
    bounds_calls p h s n cs f given ready from extra frames costs need bound is e

pub returns-clause-bytes : goal.returns-clause-bytes
returns-clause-bytes c = λ p h s n cs f given ready from extra frames costs need total four most is.
    bounds_bytes p h s n cs f given ready from extra frames costs need total four most is
