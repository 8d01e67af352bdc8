use Rattle.vg_types_functions.proofs.Calls.{call_view}
use Rattle.vg_types_functions.proofs.call.call_view.Goals as goal

pub returns : goal.returns
returns c = λ texts d at count f ps r ts t formed e row g. call_view texts d formed at count f ps r ts t e row g
